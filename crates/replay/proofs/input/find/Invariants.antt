-- `replay::input::find` meets its contract. The invariant: the first line feed of all is that of what is left.
use Rattle.std.proofs.Common.{◌≡◌, take, drop}
use Rattle.replay.specs.Lines.{line_end}
use Rattle.replay.proofs.input.find.Given as goal

abbrev pub invariant-loop-i : goal.invariant-loop-i
invariant-loop-i l = line_end l.from (drop l.from (take l.end l.s)) ≡ line_end l.i (drop l.i (take l.end l.s))
