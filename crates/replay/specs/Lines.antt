-- Lines of the input, and where a line stands in the buffer.
-- Assumes nothing.
use Rattle.std.specs.Prelude.{ℕ, ◌+◌, ◌≤◌, ◌<◌, List, [], ◌∷◌, eqb, Option, None, Some, Result, Ok, Err}
use Rattle.basis.specs.Choice.{pick}
use Rattle.replay.specs.declared.input.Part.{Part}

-- Where the first line feed stands, the first of these bytes standing at i.
unfoldable pub line_end : (i : ℕ) → List ℕ → Option ℕ
line_end i [] = None
line_end i (b ∷ s) = let more = line_end (i + 1) s in pick (eqb b 10) (Some i) more

-- A line that was found stands within so many bytes, its line feed too.
abbrev pub Within : {E : Type 0} → ℕ → Result (Option Part) E → Type 0
Within n (Ok (Some p)) = (p.start ≤ p.stop) × (p.stop < p.end) × (p.end ≤ n)
Within n (Ok None) = Unit {0}
Within n (Err e) = Unit {0}
