-- `files::lines::entry_at` meets its contract (refusal 3, refusal 5).
use Rattle.std.proofs.Common.{sym, ap, ◌∙◌, drop}
use Rattle.file_fields.specs.FileNumbers.{numbers-count}
use Rattle.meaning.specs.Table.{entry_numbers, entry_in}
use Rattle.file_fields.specs.Putting.{filled}
use Rattle.files.proofs.lines.entry_at.Goals as goal

pub returns : goal.returns
returns c =
    c.read_entry.ensures ∙ ap entry_in (c.read_numbers.ensures ∙ filled _ _ (sym (numbers-count entry_numbers (drop c.args.at c.args.file.now))))
