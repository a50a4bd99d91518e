-- `files::settings::numbers_of` meets its contract (refusal 1, refusal 2, refusal 8, refusal 12).
use Rattle.std.proofs.Common.{ap, ◌∙◌, rules, to_z-of_z, w32, SFits}
use Rattle.meaning.specs.LayoutFile.{bits_of, of_settings}
use Rattle.files.specs.Writing.{numbers-are}
use Rattle.files.proofs.settings.numbers_of.Goals as goal

pub returns : goal.returns
unfolding of_settings
returns c =
    let fits : SFits w32 c.args.s.top = search rules in
    numbers-are c.args.s _ (c.bits_of-top.ensures ∙ ap bits_of (to_z-of_z fits))
