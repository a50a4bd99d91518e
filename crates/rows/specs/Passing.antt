-- The line that its two passes make (rule 10).
-- Assumes nothing.
use Rattle.std.specs.Prelude.{ℕ, ◌≡◌, List}
use Rattle.meaning.specs.declared.settings.Settings.{Settings}
use Rattle.placing.specs.LineFrom.{LineAt, line_from}
use Rattle.placing.specs.Laying.{laid_at}
use Rattle.steps.specs.declared.step.Resumed.{Resumed}
use Rattle.rows.specs.declared.line.Passes.{Passes}

abbrev pub line_by : (at before : ℕ) → Resumed → Passes → LineAt
line_by at before r x = laid_at at before r x.placed x.width.0 x.looked.0 x.drawn x.chars.0

-- It is the line at an offset of a text, whatever stands before it.
abbrev pub LaidBy : Settings → List ℕ → (at : ℕ) → Resumed → Passes → Type 0
LaidBy s t at r x = (before : ℕ) → line_by at before r x ≡ line_from s t at before r
