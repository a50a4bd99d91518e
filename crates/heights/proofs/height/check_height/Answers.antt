-- `heights::height::check_height` meets its contract (rule 11).
use Rattle.std.proofs.Common.{sym, ◌∙◌}
use Rattle.laws.specs.Asked.{asked}
use Rattle.heights.specs.GoodHeight.{height-checked, height_bad}
use Rattle.heights.proofs.height.check_height.Goals as goal

pub returns-in_err-check_settings : goal.returns-in_err-check_settings
returns-in_err-check_settings c =
    asked _ c.from_residual.ensures.1
    ∙ sym (height_bad c.args.s c.args.table.now c.args.lines _ (sym c.check_settings.ensures ∙ c.in_err-check_settings.was))

pub returns : goal.returns
returns c =
    c.check_table.ensures
    ∙ sym (height-checked c.args.s c.args.table.now c.args.lines (sym c.check_settings.ensures ∙ c.in_ok-check_settings.was))
