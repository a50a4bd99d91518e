-- `checks::settings::check_settings` meets its contract (refusal 1, refusal 2).
use Rattle.std.proofs.Common.{true, ◌≡◌, sym, ◌∙◌}
use Rattle.meaning.specs.Settings.{in_range}
use Rattle.checks.proofs.SettingsLaws.{out_of_range, unknown_horizontal, unknown_vertical, all-good}
use Rattle.checks.proofs.settings.check_settings.Goals as goal

pub returns-then-not-in_range : goal.returns-then-not-in_range
returns-then-not-in_range c =
    out_of_range _ (sym c.in_range.ensures ∙ c.if-not-in_range.true)

pub returns-then-s-gt3 : goal.returns-then-s-gt3
returns-then-s-gt3 c =
    unknown_horizontal _ ((let good_here : in_range c.args.s ≡ true = sym c.in_range.ensures ∙ c.if-not-in_range.false in good_here)) c.if-s-gt3.true

pub returns-then-s-gt2 : goal.returns-then-s-gt2
returns-then-s-gt2 c =
    unknown_vertical _ ((let good_here : in_range c.args.s ≡ true = sym c.in_range.ensures ∙ c.if-not-in_range.false in good_here)) c.if-s-gt3.false c.if-s-gt2.true

pub returns : goal.returns
returns c =
    all-good _ ((let good_here : in_range c.args.s ≡ true = sym c.in_range.ensures ∙ c.if-not-in_range.false in good_here)) c.if-s-gt3.false c.if-s-gt2.false
