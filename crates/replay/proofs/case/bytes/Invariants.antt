-- `replay::case::bytes` meets its contract. The invariant: so many numbers are copied.
use Rattle.std.proofs.Common.{◌≡◌, take}
use Rattle.replay.proofs.case.bytes.Given as goal

abbrev pub invariant-loop-i : goal.invariant-loop-i
invariant-loop-i l = take l.i l.text ≡ take l.i l.numbers
