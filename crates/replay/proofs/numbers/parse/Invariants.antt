-- `replay::numbers::parse` meets its contract. The invariant: the numbers that are stored, and those of the words that are left, make the
-- line's.
use Rattle.std.proofs.Common.{◌≡◌, length}
use Rattle.replay.proofs.ReadLaws.{Reading}
use Rattle.replay.proofs.numbers.parse.Given as goal

abbrev pub invariant-loop-word : goal.invariant-loop-word
invariant-loop-word l = (l.count ≡ length l.yielded) × Reading l.line (length l.initial.numbers) l.numbers l.count
