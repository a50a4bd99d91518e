-- `files::writer::write_lines` meets its contract (refusal 1, refusal 2, refusal 5, refusal 8).
use Rattle.std.proofs.Common.{◌≡◌, length}
use Rattle.meaning.specs.LayoutFile.{lines_at, line_field}
use Rattle.meaning.specs.Table.{of_all, entries_in}
use Rattle.table.specs.Numbers.{put_numbers}
use Rattle.files.proofs.writer.write_lines.Given as goal

abbrev pub invariant-loop-k : goal.invariant-loop-k
invariant-loop-k l = (l.file ≡ put_numbers l.initial.file lines_at (of_all line_field (entries_in l.k l.table))) × (length l.file ≡ length l.initial.file)
