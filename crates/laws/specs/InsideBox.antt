-- No event of a line ends past the box's right edge, where its spaces are plain, as in every line that is not justified, or where
-- none of its characters glues. Rule 6, rule 8, rule 13.
-- Assumes nothing.
use Prim.Native.Nat.{ℕ, zero, suc, ◌+◌, ◌-◌, ◌/◌, ◌≤◌}
use Rattle.std.specs.Prelude.{◌≡◌, refl, ◌⊎◌, ◌||◌, length, take, drop}
use Rattle.std.proofs.Common.{inl, inr, arith, take-append-drop}
use mathlib.Core.List.{List, [], ◌∷◌, ◌++◌}
use borrow.Author.Tests.{eqb-false}
use Rattle.std.proofs.Math.Dec.{eqb}
use Rattle.basis.specs.Choice.{pick_cases}
use Rattle.utf8.specs.Encoding.{size}
use Rattle.meaning.specs.Alignment.{plain_spaces, ends_paragraph, place}
use Rattle.meaning.specs.Words.{Drawn, glues}
use Rattle.meaning.specs.LineIter.{Held, nothing_held}
use Rattle.meaning.specs.Line.{measured, unmeasured, line_tokens, start_place, measuring, placing, line_of, lay_line, events_at}
use Rattle.meaning.specs.Layout.{Row, row_at, unless_ended, rows_by, rows, all_events, layout_events}
use Rattle.meaning.specs.declared.settings.Settings.{Settings}
use Rattle.meaning.specs.declared.cursor.Spaces.{Spaces}
use Rattle.meaning.specs.declared.line.LineEnd.{LineEnd}
use Rattle.meaning.specs.declared.line.Placed.{Placed}
use Rattle.meaning.specs.declared.line.Event.{Event}
use Rattle.laws.specs.LineTokens.{line-tokens_cover}
use Rattle.laws.specs.Measuring.{glues_append}
use Rattle.laws.specs.RowInduction.{unless_cases}
use Rattle.laws.specs.Pens.{pen_after, pen-low, Even}
use Rattle.laws.specs.PenBounds.{pass-inside}
use Rattle.laws.specs.LineWidths.{plain-spaces, starts-within}

-- Each of these events ends at most so far from the box's left.
abbrev pub EndBy : ℕ → List Event → Type 0
EndBy n [] = Unit {0}
EndBy n (e ∷ es) = (e.x.0 + e.width.0 ≤ n) × EndBy n es

-- ---- what is drawn, as events

drawn-inside : (n start pen : ℕ) (ds : List Drawn) → pen_after pen ds ≤ n → EndBy n (events_at start pen ds)
unfolding events_at pen_after
drawn-inside n start pen [] h = tt
drawn-inside n start pen (d ∷ ds) h = (omega (arith, pen-low (pen + d.width) ds), drawn-inside n start (pen + d.width) ds h)

end_append : (n : ℕ) (xs ys : List Event) → EndBy n xs → EndBy n ys → EndBy n (xs ++ ys)
end_append n [] ys f g = g
end_append n (x ∷ xs) ys f g = (f.0, end_append n xs ys f.1 g)

-- ---- where a line is placed

module _ (s : Settings) (ended : LineEnd) (width n : ℕ) where
  pub left-inside : (place s ended width n).left.0 ≤ s.width.0
  unfolding place
  left-inside =
      let P : Placed → Type 0 = λ (p : Placed). p.left.0 ≤ s.width.0 in
      pick_cases P (eqb s.alignment 0) (λ _. omega arith) λ _.
      pick_cases P (eqb s.alignment 1) (λ _. omega arith) λ _.
      pick_cases P (eqb s.alignment 2) (λ _. omega arith) λ _.
      pick_cases P (ends_paragraph ended || eqb n 0) (λ _. omega arith) (λ _. omega arith)

  -- Left, centred or to the right, spaces are plain.
  pub unjustified : s.alignment ≤ 2 → (place s ended width n).spaces ≡ plain_spaces s
  unfolding place
  unjustified h =
      let P : Placed → Type 0 = λ (p : Placed). p.spaces ≡ plain_spaces s in
      pick_cases P (eqb s.alignment 0) (λ _. refl) λ a.
      pick_cases P (eqb s.alignment 1) (λ _. refl) λ b.
      pick_cases P (eqb s.alignment 2) (λ _. refl) λ c.
      absurd (omega (arith, eqb-false s.alignment 0 a, eqb-false s.alignment 1 b, eqb-false s.alignment 2 c))

-- ---- a line

module _ (s : Settings) where
  even-by : (sp : Spaces) (cs : List ℕ) → (sp ≡ plain_spaces s) ⊎ (glues cs ≡ 0) → Even s.glyph.0 sp cs
  even-by sp cs (inl e) = inl (rw e (plain-spaces s))
  even-by sp cs (inr e) = inr e

  -- A line with plain spaces, or in which nothing glues.
  pub line-inside : (start : ℕ) (h : Held) (cs : List ℕ)
      → ((lay_line s h cs).placed.spaces ≡ plain_spaces s) ⊎ (glues (take (lay_line s h cs).chars cs) ≡ 0)
      → EndBy s.width.0 (events_at start (lay_line s h cs).placed.left.0 (lay_line s h cs).drawn)
  unfolding lay_line line_of placing start_place
  line-inside start h cs e =
      let ts = line_tokens h cs in
      let p = placing s (measuring s ts) in
      let ended = (measuring s ts).ended in
      let m = measured unmeasured (measuring s ts).drawn in
      let left = left-inside s ended m.width.0 m.count.0 in
      drawn-inside s.width.0 start p.left.0 _
      (pass-inside s ts (start_place s p.left.0 p.spaces) 0 p.left.0 (starts-within s p.left.0 p.spaces left)
      (rw (line-tokens_cover h cs) (even-by p.spaces _ e)))

  -- A line that is left, centred or to the right.
  pub line-unjustified : (h : Held) (cs : List ℕ) → s.alignment ≤ 2 → (lay_line s h cs).placed.spaces ≡ plain_spaces s
  unfolding lay_line line_of placing
  line-unjustified h cs a =
      let r = measuring s (line_tokens h cs) in
      let m = measured unmeasured r.drawn in
      unjustified s r.ended m.width.0 m.count.0 a

  -- ---- a layout

  first-glues : (k : ℕ) (cs : List ℕ) → glues cs ≡ 0 → glues (take k cs) ≡ 0
  first-glues k cs e = omega (arith, rw take-append-drop at (glues_append (take k cs) (drop k cs)))

  rest-glues : (k : ℕ) (cs : List ℕ) → glues cs ≡ 0 → glues (drop k cs) ≡ 0
  rest-glues k cs e = omega (arith, rw take-append-drop at (glues_append (take k cs) (drop k cs)))

  abbrev Calm : List ℕ → Type 0
  Calm cs = (s.alignment ≤ 2) ⊎ (glues cs ≡ 0)

  calm_line : (h : Held) (cs : List ℕ) → Calm cs
      → ((lay_line s h cs).placed.spaces ≡ plain_spaces s) ⊎ (glues (take (lay_line s h cs).chars cs) ≡ 0)
  calm_line h cs (inl a) = inl (line-unjustified h cs a)
  calm_line h cs (inr e) = inr (first-glues (lay_line s h cs).chars cs e)

  calm_rest : (k : ℕ) (cs : List ℕ) → Calm cs → Calm (drop k cs)
  calm_rest k cs (inl a) = inl a
  calm_rest k cs (inr e) = inr (rest-glues k cs e)

  rows_inside : (n start before : ℕ) (h : Held) (cs : List ℕ) → Calm cs
      → EndBy s.width.0 (all_events (rows_by n s start before h cs))
  unfolding rows_by row_at all_events
  rows_inside zero start before h cs f = tt
  rows_inside (suc n) start before h cs f =
      let l = lay_line s h cs in
      let next = start + size (take l.chars cs) in
      let more = rows_by n s next (before + l.chars) l.held (drop l.chars cs) in
      let events = events_at start l.placed.left.0 l.drawn in
      end_append s.width.0 events (all_events (unless_ended l.ended more)) (line-inside start h cs (calm_line h cs f))
      (unless_cases (λ (rs : List Row). EndBy s.width.0 (all_events rs)) l.ended more (λ _. tt)
      (λ _. rows_inside n next (before + l.chars) l.held (drop l.chars cs) (calm_rest l.chars cs f)))

  -- Every event of a text that is not justified, or in which nothing glues.
  pub layout-inside : (cs : List ℕ) → (s.alignment ≤ 2) ⊎ (glues cs ≡ 0) → EndBy s.width.0 (layout_events s cs)
  unfolding layout_events rows
  layout-inside cs f = rows_inside (suc (length cs)) 0 0 nothing_held cs f
