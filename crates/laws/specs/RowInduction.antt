-- What holds of the line that ends a text, and of a line if it holds of those after it, holds of all lines of a text (rule 10).
-- Assumes nothing.
use Prim.Native.Nat.{ℕ, zero, suc, ◌+◌, ◌≤◌, ◌<◌}
use Rattle.std.specs.Prelude.{◌≡◌, refl, take}
use mathlib.Core.List.{List, [], ◌∷◌, map}
use Rattle.std.proofs.Common.{arith}
use Rattle.std.proofs.Math.ListN.{length, drop, length-drop}
use Rattle.utf8.specs.Encoding.{size}
use Rattle.meaning.specs.LineIter.{Held, nothing_held}
use Rattle.meaning.specs.Line.{lay_line, entry_at}
use Rattle.meaning.specs.Layout.{Row, row_at, unless_ended, rows_by, most_lines, rows, entry_of_row, layout}
use Rattle.meaning.specs.declared.settings.Settings.{Settings}
use Rattle.meaning.specs.declared.line.Entry.{Entry}
use Rattle.meaning.specs.declared.line.LineEnd.{LineEnd}
use Rattle.meaning.specs.declared.line.LineEnd.TheVariants.{NewLine, CarriageReturn, EndOfText, LineBreak}
use Rattle.laws.specs.LineBounds.{line-chars, line-held, line-rest, line-takes}

-- What follows a line: nothing after the text's end, and elsewhere the lines after it.
pub unless_cases {ℓ} : (P : List Row → Type ℓ) (e : LineEnd) (rs : List Row) → (e ≡ EndOfText → P []) → ((e ≡ EndOfText → ⊥) → P rs)
    → P (unless_ended e rs)
unfolding unless_ended
unless_cases P EndOfText rs f g = f refl
unless_cases P NewLine rs f g = g (λ e. let z : ◌≡◌ {A = ℕ} 0 1 = cc in omega arith)
unless_cases P CarriageReturn rs f g = g (λ e. let z : ◌≡◌ {A = ℕ} 0 1 = cc in omega arith)
unless_cases P LineBreak rs f g = g (λ e. let z : ◌≡◌ {A = ℕ} 0 1 = cc in omega arith)

-- What is held before a line fits its text.
abbrev pub FitsIn : List ℕ → Held → Type 0
FitsIn cs h = (h.chars ≤ length cs) × (h.count ≤ h.chars)

module _ {ℓ} (s : Settings) (P : (start before : ℕ) → Held → List ℕ → List Row → Type ℓ)
    (last : (start before : ℕ) (h : Held) (cs : List ℕ) → FitsIn cs h → (lay_line s h cs).ended ≡ EndOfText → P start before h cs (row_at start before h cs (lay_line s h cs) ∷ []))
    (more : (start before : ℕ) (h : Held) (cs : List ℕ) → FitsIn cs h → ((lay_line s h cs).ended ≡ EndOfText → ⊥) → (r : Row) (rs : List Row)
    → P (start + size (take (lay_line s h cs).chars cs)) (before + (lay_line s h cs).chars) (lay_line s h cs).held (drop (lay_line s h cs).chars cs) (r ∷ rs)
    → P start before h cs (row_at start before h cs (lay_line s h cs) ∷ r ∷ rs)) where
  pub each_row : (n start before : ℕ) (h : Held) (cs : List ℕ) → length cs < n → FitsIn cs h
      → P start before h cs (rows_by n s start before h cs)
  unfolding rows_by
  each_row zero start before h cs m f = absurd (omega arith)
  each_row (suc zero) start before h cs m f =
      let l = lay_line s h cs in
      unless_cases (λ qs. P start before h cs (row_at start before h cs l ∷ qs)) l.ended [] (last start before h cs f)
      (λ d. absurd (omega (arith, line-takes s h cs f.0 f.1 d, line-chars s h cs f.0 f.1)))
  each_row (suc (suc n)) start before h cs m f =
      let l = lay_line s h cs in
      let next = start + size (take l.chars cs) in
      let rest = drop l.chars cs in
      unless_cases (λ qs. P start before h cs (row_at start before h cs l ∷ qs)) l.ended (rows_by (suc n) s next (before + l.chars) l.held rest) (last start before h cs f)
      (λ d.
      let fewer : length rest < suc n = rw length-drop (omega (arith, line-takes s h cs f.0 f.1 d, line-chars s h cs f.0 f.1)) in
      more start before h cs f d _ _ (each_row (suc n) next (before + l.chars) l.held rest fewer (line-rest s h cs f.0 f.1, line-held s h cs f.0 f.1)))

-- ---- every line by itself

-- It holds of each of these lines, each with its events.
abbrev pub EachRow : (Row → Type 0) → List Row → Type 0
EachRow P [] = Unit {0}
EachRow P (r ∷ rs) = P r × EachRow P rs

-- It holds of each of these lines.
abbrev pub Each : (Entry → Type 0) → List Entry → Type 0
Each P [] = Unit {0}
Each P (e ∷ es) = P e × Each P es

module _ (s : Settings) (P : Row → Type 0) (holds : (start before : ℕ) (h : Held) (cs : List ℕ) → P (row_at start before h cs (lay_line s h cs))) where
  each-by : (n start before : ℕ) (h : Held) (cs : List ℕ) → EachRow P (rows_by n s start before h cs)
  unfolding rows_by
  each-by zero start before h cs = tt
  each-by (suc n) start before h cs =
      let l = lay_line s h cs in
      let next = start + size (take l.chars cs) in
      let more = rows_by n s next (before + l.chars) l.held (drop l.chars cs) in (
        holds start before h cs,
        unless_cases (EachRow P) l.ended more (λ _. tt) (λ _. each-by n next (before + l.chars) l.held (drop l.chars cs)),
      )

  -- What holds of every line, wherever it starts and whatever is held before it, holds of each line of a text.
  pub each_laid : (cs : List ℕ) → EachRow P (rows s cs)
  unfolding rows
  each_laid cs = each-by (most_lines cs) 0 0 nothing_held cs

each-entry : (P : Entry → Type 0) (rs : List Row) → EachRow (λ (r : Row). P r.entry) rs → Each P (map entry_of_row rs)
each-entry P [] h = tt
each-entry P (r ∷ rs) h = (h.0, each-entry P rs h.1)

-- And of each entry of a layout.
pub each_line : (s : Settings) (P : Entry → Type 0) → ((start before : ℕ) (h : Held) (cs : List ℕ) → P (entry_at start before h cs (lay_line s h cs)))
    → (cs : List ℕ) → Each P (layout s cs)
unfolding layout row_at
each_line s P holds cs = each-entry P (rows s cs) (each_laid s (λ (r : Row). P r.entry) holds cs)
