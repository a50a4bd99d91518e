-- `table::in_step::all_in_step` meets its contract (refusal 5).
use Rattle.std.proofs.Common.{ℕ, ◌+◌, ◌*◌, ◌<◌, ◌≤◌}
use Rattle.meaning.specs.Table.{entry_numbers}
use Rattle.look.specs.Skipping.{pair_at, InStep}
use Rattle.look.proofs.in_step.all_in_step.Given as goal

abbrev pub invariant-loop-i : goal.invariant-loop-i
invariant-loop-i l = ((j : ℕ) → l.i ≤ j → j < 8 → InStep l.table (l.at + entry_numbers * j) l.lag l.most) × (pair_at l.table (l.at + entry_numbers * l.i) ≤ l.last)
