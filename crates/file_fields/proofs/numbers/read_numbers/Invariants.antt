-- `files::numbers::read_numbers` meets its contract (the layout file).
use Rattle.std.proofs.Common.{◌≡◌, length, drop}
use Rattle.meaning.specs.ReadFile.{numbers_in}
use Rattle.table.specs.Numbers.{put_numbers}
use Rattle.file_fields.proofs.numbers.read_numbers.Given as goal

abbrev pub invariant-loop-i : goal.invariant-loop-i
invariant-loop-i l = (l.buffer ≡ put_numbers l.initial.buffer l.place (numbers_in l.i (drop l.at l.file))) × (length l.buffer ≡ length l.initial.buffer)
