-- Where a line of whole glyphs begins in two boxes that hold the same count of glyphs, left aligned, centred or right aligned: wherever it
-- is, as many glyphs have room behind it in the one as in the other (rule 6).
-- Assumes nothing.
use Rattle.std.specs.Prelude.{ℕ, ◌+◌, ◌-◌, ◌*◌, ◌/◌, ◌≤◌, min, ◌≡◌}
use Rattle.std.proofs.Common.{sym, ap, ◌∙◌, mul_comm, arith, eq-eqb, ne_eqb}
use Rattle.std.proofs.Math.Path.{subst}
use Rattle.std.proofs.Math.Nat.{add-mul-div_right, div-div-eq-div-mul}
use Rattle.std.proofs.Math.Dec.{eqb}
use Rattle.basis.specs.Choice.{pick, pick_true, pick_cases}
use Rattle.basis.specs.Order.{by_eq}
use Rattle.meaning.specs.Alignment.{plain_spaces, placed_left, place}
use Rattle.meaning.specs.declared.settings.Settings.{Settings}
use Rattle.meaning.specs.declared.line.LineEnd.{LineEnd}
use Rattle.widths.specs.TwinPasses.{both_picked}
use Rattle.widths.specs.Wholes.{Whole}

-- How far from the box's left a line is drawn that leaves so much room.
unfoldable pub left_of : (alignment room : ℕ) → ℕ
left_of alignment room = pick (eqb alignment 0) 0 (pick (eqb alignment 1) ((room + 1) / 2) room)

-- So rule 6 has it, with plain spaces, unless the line is justified.
pub placed-plain : (s : Settings) (ended : LineEnd) (width n : ℕ) → s.alignment ≤ 2
    → place s ended width n ≡ placed_left (left_of s.alignment (s.width.0 - width)) (plain_spaces s)
unfolding place left_of pick
placed-plain s ended width n h =
    let k = s.alignment in
    by_eq k 0 (λ e. rw (eq-eqb k 0 e)) λ d.
    by_eq k 1 (λ e. rw (ne_eqb k 0 d, eq-eqb k 1 e)) (λ c. rw (ne_eqb k 0 d, ne_eqb k 1 c, eq-eqb k 2 (omega arith)))

-- ---- boxes that glyphs do not tell apart

-- Up to n glyphs do not tell these widths apart.
abbrev pub SameGlyphs : (g w v n : ℕ) → Type 0
SameGlyphs g w v n = min (w / g) n ≡ min (v / g) n

pub fewer-same : (g w v m n : ℕ) → m ≤ n → SameGlyphs g w v n → SameGlyphs g w v m
fewer-same g w v m n h e = omega arith

-- Where n glyphs are not to tell the lines of two boxes apart, these must not tell the boxes apart: of a centred line's room half stands
-- before it.
unfoldable pub asked_glyphs : (alignment n : ℕ) → ℕ
asked_glyphs alignment n = pick (eqb alignment 1) (n + n) n

pub asked_least : (alignment n : ℕ) → n ≤ asked_glyphs alignment n
unfolding asked_glyphs
asked_least alignment n = pick_cases (λ k. n ≤ k) (eqb alignment 1) (λ _. omega arith) (λ _. omega arith)

pub asked-most : (alignment m n : ℕ) → m ≤ n → asked_glyphs alignment m ≤ asked_glyphs alignment n
unfolding asked_glyphs
asked-most alignment m n h = both_picked ◌≤◌ (eqb alignment 1) (eqb alignment 1) (λ i. eqb alignment 1) (λ _. omega arith) (λ _. omega arith)

-- ---- the room behind a line's left

-- Centred, a line of k glyphs has half of those that are left over behind it.
centred_room : (g w k : ℕ) → 1 ≤ g → k * g ≤ w → (w - (w - k * g + 1) / 2) / g ≡ (w / g + k) / 2
centred_room g w k some h =
    let d = w - k * g in
    let room : w - (d + 1) / 2 ≡ d / 2 + k * g = omega arith in
    let box : w ≡ d + k * g = omega arith in
    let halves : d / 2 / g ≡ d / g / 2 = div-div-eq-div-mul d 2 g ∙ ap (λ (n : ℕ). d / n) (mul_comm 2 g) ∙ sym (div-div-eq-div-mul d g 2) in
    let all : w / g ≡ d / g + k = ap (λ (n : ℕ). n / g) box ∙ add-mul-div_right d k some in
    ap (λ (n : ℕ). n / g) room ∙ add-mul-div_right (d / 2) k some ∙ (omega (arith, halves, all))

module _ (g w v n : ℕ) (some : 1 ≤ g) where
  -- What is behind two places.
  abbrev Behind : ℕ → ℕ → Type 0
  Behind i j = SameGlyphs g (w - i) (v - j) n

  pub left-alike : SameGlyphs g w v n → Behind 0 0
  left-alike e =
      let x : w - 0 ≡ w = omega arith in
      let y : v - 0 ≡ v = omega arith in
      rw (x, y) e

  centred_alike : (k : ℕ) → k * g ≤ w → k * g ≤ v → SameGlyphs g w v (n + n) → Behind ((w - k * g + 1) / 2) ((v - k * g + 1) / 2)
  centred_alike k a b e = omega (arith, centred_room g w k some a, centred_room g v k some b, e)

  right-alike : (m : ℕ) → m ≤ w → m ≤ v → Behind (w - m) (v - m)
  right-alike m a b =
      let x : w - (w - m) ≡ m = omega arith in
      let y : v - (v - m) ≡ m = omega arith in
      rw (x, y)

  pub rooms_alike : (alignment m : ℕ) → Whole g m → m ≤ w → m ≤ v → SameGlyphs g w v (asked_glyphs alignment n)
      → Behind (left_of alignment (w - m)) (left_of alignment (v - m))
  unfolding left_of asked_glyphs
  rooms_alike alignment m whole a b e =
      both_picked Behind (eqb alignment 0) (eqb alignment 0) (λ i. eqb alignment 0)
      (λ _. left-alike (fewer-same g w v n (asked_glyphs alignment n) (asked_least alignment n) e))
      (λ _.
      both_picked Behind (eqb alignment 1) (eqb alignment 1) (λ i. eqb alignment 1)
      (λ one.
      subst (λ (z : ℕ). Behind ((w - z + 1) / 2) ((v - z + 1) / 2)) (sym whole.is)
      (centred_alike whole.count (omega (arith, whole.is)) (omega (arith, whole.is))
      (subst (SameGlyphs g w v) (pick_true (eqb alignment 1) (n + n) n one) e)))
      (λ _. right-alike m a b))
