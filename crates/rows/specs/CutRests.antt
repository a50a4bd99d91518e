-- A rest that is cut in every line of a box: too wide for the box, not skipped, and of characters of one byte (rule 9).
-- Assumes nothing.
use Rattle.std.specs.Prelude.{ℕ, ◌+◌, ◌*◌, ◌≤◌, ◌<◌, ◌≡◌}
use Rattle.meaning.specs.declared.settings.Settings.{Settings}
use Rattle.steps.specs.declared.step.Resumed.{Resumed}

pub record CutAgain (s : Settings) (at : ℕ) (r : Resumed) : Type 0 where
  pub over : s.width.0 < r.count.0 * s.glyph.0
  pub leading : s.leading ≡ 1
  pub thin : r.end.0 ≡ at + r.chars.0

-- What the end of a pass that cuts it takes for granted: so many of its spaces fit, and so many characters are taken.
abbrev pub CutNumbers : (at : ℕ) → Resumed → (fitting taken : ℕ) → Type 0
CutNumbers at r fitting taken = (at ≤ 65535) × (fitting ≤ 4096) × (taken ≤ r.count.0) × (r.count.0 ≤ r.chars.0) × (taken ≤ 65535)
