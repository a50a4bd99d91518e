-- `files::settings::settings_in` meets its contract (refusal 1, refusal 2, refusal 8, refusal 12).
use Rattle.std.proofs.Common.{◌∙◌, to_z-of_z, w32, SFits}
use Rattle.meaning.specs.Settings.{settings_of}
use Rattle.files.specs.Known.{settings-are}
use Rattle.files.proofs.settings.settings_in.Goals as goal

pub returns : goal.returns
unfolding settings_of
returns c =
    let fits : SFits w32 c.signed_of-top.result = record { sfits = c.signed_of-top.type_inv } in
    settings-are c.args.numbers.now _ (to_z-of_z fits ∙ c.signed_of-top.ensures)
