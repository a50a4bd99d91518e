-- `table::plain::all_break` meets its contract (refusal 5).
use Rattle.std.proofs.Common.{ℕ, ◌+◌, ◌*◌, ◌<◌}
use Rattle.meaning.specs.Table.{entry_numbers}
use Rattle.look.specs.Skipping.{PlainEnd}
use Rattle.look.proofs.plain.all_break.Given as goal

abbrev pub invariant-loop-i : goal.invariant-loop-i
invariant-loop-i l = (j : ℕ) → j < l.i → PlainEnd l.table (l.at + entry_numbers * j)
