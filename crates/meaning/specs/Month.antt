-- A month of clues in numbers: the clues in a stream of bytes, and the figures of texts that are laid with the same settings.
-- Rule 10, refusal 3, refusal 4.
-- Assumes nothing.
use Rattle.std.specs.Prelude.{ℕ, ◌+◌, max, List, [], ◌∷◌, map, eqb, length, take, Err, Ok}
use Rattle.meaning.specs.Refusals.{Checked}
use Rattle.basis.specs.Choice.{pick}
use Rattle.meaning.specs.Checks.{check_text}
use Rattle.meaning.specs.Refusals.{number_of}
use Rattle.meaning.specs.Columns.{with_width}
use Rattle.meaning.specs.Calls.{text_entries}
use Rattle.meaning.specs.declared.settings.Settings.{Settings}
use Rattle.meaning.specs.declared.line.Entry.{Entry}
use Rattle.meaning.specs.declared.figures.Figures.{Figures}

-- ---- the lines of a stream: each is ended by LF (10), and a last one with no LF counts too

unfoldable pub onto_first : (byte : ℕ) → List (List ℕ) → List (List ℕ)
onto_first b [] = (b ∷ []) ∷ []
onto_first b (x ∷ xs) = (b ∷ x) ∷ xs

unfoldable pub stream_lines : List ℕ → List (List ℕ)
stream_lines [] = []
stream_lines (b ∷ bs) =
    let more = stream_lines bs in
    pick (eqb b 10) ([] ∷ more) (onto_first b more)

-- Reading stops at so many clues.
abbrev pub most_clues : ℕ
most_clues = 4294967295

unfoldable pub clues_in : List ℕ → List (List ℕ)
clues_in bytes = take most_clues (stream_lines bytes)

-- ---- figures

-- How many of these lines end by LineBreak (3), and how many characters they dropped.
unfoldable pub broken_in : List Entry → ℕ
broken_in [] = 0
broken_in (e ∷ es) = pick (eqb e.ending 3) 1 0 + broken_in es

unfoldable pub dropped_in : List Entry → ℕ
dropped_in [] = 0
dropped_in (e ∷ es) = e.dropped.0 + dropped_in es

-- Of one text: of its lines, or that it was refused.
unfoldable pub figures_by : Checked → List Entry → Figures
figures_by (Ok tt) es =
    record {
      texts = 1;
      lines = length es;
      broken = broken_in es;
      dropped = dropped_in es;
      long = 0;
      invalid = 0;
      most = length es;
    }
figures_by (Err r) es =
    record {
      texts = 1;
      lines = 0;
      broken = 0;
      dropped = 0;
      long = pick (eqb (number_of r) 3) 1 0;
      invalid = pick (eqb (number_of r) 4) 1 0;
      most = 0;
    }

unfoldable pub figures_of : Settings → List ℕ → Figures
figures_of s t = figures_by (check_text t) (text_entries s t)

-- Of none, and of more: the sums, and the largest line count.
abbrev pub no_figures : Figures
no_figures = record { texts = 0; lines = 0; broken = 0; dropped = 0; long = 0; invalid = 0; most = 0 }

unfoldable pub together : Figures → Figures → Figures
together f g =
    record {
      texts = f.texts + g.texts;
      lines = f.lines + g.lines;
      broken = f.broken + g.broken;
      dropped = f.dropped + g.dropped;
      long = f.long + g.long;
      invalid = f.invalid + g.invalid;
      most = max f.most g.most;
    }

unfoldable pub figures_of_all : Settings → List (List ℕ) → Figures
figures_of_all s [] = no_figures
figures_of_all s (t ∷ ts) = together (figures_of s t) (figures_of_all s ts)

-- The month: for each width, the figures of all clues.
unfoldable pub month_of : Settings → (widths : List ℕ) → List (List ℕ) → List Figures
month_of s widths clues = map (λ w. figures_of_all (with_width s w) clues) widths
