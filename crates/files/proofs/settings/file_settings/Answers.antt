-- `files::settings::file_settings` meets its contract (refusal 1, refusal 2, refusal 8, refusal 12).
use Rattle.std.proofs.Common.{sym, ap, ◌∙◌, drop}
use Rattle.file_fields.specs.FileNumbers.{numbers-count}
use Rattle.meaning.specs.LayoutFile.{header_bytes, settings_numbers}
use Rattle.meaning.specs.ReadFile.{settings_in, file_settings}
use Rattle.file_fields.specs.Putting.{filled}
use Rattle.files.proofs.settings.file_settings.Goals as goal

pub returns : goal.returns
unfolding file_settings
returns c =
    c.settings_in.ensures ∙ ap settings_in (c.read_numbers.ensures ∙ filled _ _ (sym (numbers-count settings_numbers (drop header_bytes c.args.file.now))))
