-- The lines of a text, counted one by one.
-- Assumes nothing.
use Rattle.std.specs.Prelude.{ℕ, ◌+◌, ◌≤◌, ◌≡◌, refl, Bool, true, false, eqb}
use Rattle.std.specs.Int.{from_bool}
use Rattle.std.proofs.Common.{arith}
use Rattle.basis.specs.Choice.{pick, pick_cases}
use Rattle.meaning.specs.declared.figures.Figures.{Figures}
use Rattle.month_figures.specs.declared.counted.Tally.{Tally}

abbrev pub no_lines : Tally
no_lines = record { lines = 0; broken = 0; dropped = 0 }

unfoldable pub with_line : Tally → (ending dropped : ℕ) → Tally
with_line y ending dropped =
    record { lines = y.lines + 1; broken = y.broken + pick (eqb ending 3) 1 0; dropped = y.dropped + dropped }

-- A test as a number, as std makes it.
pub one-where : (b : Bool) → from_bool b ≡ pick b 1 0
unfolding pick
one-where true = refl
one-where false = refl

pub one-most : (a b : ℕ) → pick (eqb a b) 1 0 ≤ 1
one-most a b = pick_cases (λ (n : ℕ). n ≤ 1) (eqb a b) (λ _. omega arith) (λ _. omega arith)

unfoldable pub tally_figures : Tally → Figures
tally_figures y =
    record { texts = 1; lines = y.lines; broken = y.broken; dropped = y.dropped; long = 0; invalid = 0; most = y.lines }
