-- `table::plain::all_following` meets its contract (refusal 5).
use Rattle.std.proofs.Common.{ℕ, ◌+◌, ◌-◌, ◌*◌, ◌<◌}
use Rattle.meaning.specs.Table.{entry_numbers}
use Rattle.look.specs.Skipping.{Counted, Follows}
use Rattle.look.proofs.plain.all_following.Given as goal

abbrev pub invariant-loop-i : goal.invariant-loop-i
invariant-loop-i l = ((j : ℕ) → j < l.i → Follows l.table (l.at + entry_numbers * j) l.most) × Counted l.table (l.at + entry_numbers * l.i - entry_numbers)
