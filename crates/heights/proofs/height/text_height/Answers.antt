-- `heights::height::text_height` meets its contract (rule 11).
use Rattle.std.proofs.Common.{sym, ap, ◌∙◌}
use Rattle.std.specs.Prelude.{Ok}
use Rattle.laws.specs.Asked.{asked}
use Rattle.heights.specs.GoodHeight.{height-answered, height-refused}
use Rattle.heights.proofs.height.text_height.Goals as goal

pub returns-in_err-check_height : goal.returns-in_err-check_height
returns-in_err-check_height c =
    asked _ c.from_residual.ensures.1
    ∙ height-refused c.args.s c.args.table.now c.args.lines _ (sym c.check_height.ensures ∙ c.in_err-check_height.was)

pub returns : goal.returns
returns c =
    ap Ok c.height_of.ensures ∙ height-answered c.args.s c.args.table.now c.args.lines (sym c.check_height.ensures ∙ c.in_ok-check_height.was)
