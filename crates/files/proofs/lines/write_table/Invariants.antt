-- `files::lines::write_table` meets its contract (refusal 3, refusal 5).
use Rattle.std.proofs.Common.{◌≡◌, length, drop}
use Rattle.meaning.specs.LayoutFile.{lines_at}
use Rattle.meaning.specs.ReadFile.{lines_in}
use Rattle.meaning.specs.Table.{of_entry, of_all}
use Rattle.table.specs.Numbers.{put_numbers}
use Rattle.files.proofs.lines.write_table.Given as goal

abbrev pub invariant-loop-k : goal.invariant-loop-k
invariant-loop-k l = (l.table ≡ put_numbers l.initial.table 0 (of_all of_entry (lines_in l.k (drop lines_at l.file)))) × (length l.table ≡ length l.initial.table)
