-- `files::settings::check_known` meets its contract (refusal 1, refusal 2, refusal 8, refusal 12).
use Rattle.std.proofs.Common.{sym, ap, ◌∙◌}
use Rattle.meaning.specs.Checks.{check_settings}
use Rattle.files.specs.Known.{known-refused, known-good}
use Rattle.laws.specs.Asked.{asked}
use Rattle.files.proofs.settings.check_known.Goals as goal

pub returns-in_err-check_settings : goal.returns-in_err-check_settings
returns-in_err-check_settings c =
    asked _ c.from_residual.ensures.1 ∙ known-refused c.args.s c.args.room _ (sym (c.check_settings.ensures ∙ ap check_settings c.unretire.ensures) ∙ c.in_err-check_settings.was)

pub returns : goal.returns
returns c =
    c.check_retired.ensures ∙ known-good c.args.s c.args.room (sym (c.check_settings.ensures ∙ ap check_settings c.unretire.ensures) ∙ c.in_ok-check_settings.was)
