-- `files::numbers::write_numbers` meets its contract (the layout file).
use Rattle.std.proofs.Common.{◌≡◌, length, take, drop}
use Rattle.meaning.specs.LayoutFile.{bytes_of}
use Rattle.meaning.specs.Table.{of_all}
use Rattle.table.specs.Numbers.{put_numbers}
use Rattle.file_fields.proofs.numbers.write_numbers.Given as goal

abbrev pub invariant-loop-i : goal.invariant-loop-i
invariant-loop-i l = (l.file ≡ put_numbers l.initial.file l.at (of_all bytes_of (take l.i (drop l.place l.buffer)))) × (length l.file ≡ length l.initial.file)
