-- Where a line is placed, in each of its cases; and what is placed so is in range.
-- Assumes nothing.
use Rattle.std.specs.Prelude.{ℕ, ◌+◌, ◌-◌, ◌*◌, ◌/◌, ◌≤◌, ◌≡◌, refl, Bool, true, false, ◌||◌, eqb}
use Rattle.std.proofs.Common.{div-le_self, mod-lt, arith, sym, subst}
use Rattle.std.proofs.Math.Nat.{add-mul-div_left}
use Rattle.std.proofs.lemmas.Bool.{false≢true}
use borrow.Author.Tests.{ne_eqb, eqb-false}
use Rattle.basis.specs.Choice.{pick, by_test}
use Rattle.basis.specs.Order.{by_eq}
use Rattle.meaning.specs.Alignment.{plain_spaces, ends_paragraph, justified, placed_left, place}
use Rattle.meaning.specs.declared.settings.Settings.{Settings}
use Rattle.meaning.specs.declared.cursor.Spaces.{Spaces}
use Rattle.meaning.specs.declared.line.LineEnd.{LineEnd}
use Rattle.meaning.specs.declared.line.Placed.{Placed}
use Rattle.moves.specs.Fine.{FineSettings, FineSpaces}

module _ (s : Settings) (ended : LineEnd) (width n room : ℕ) (sp : Spaces) (left_over : room ≡ s.width.0 - width) (plain : sp ≡ plain_spaces s) where
  pub at_left : s.alignment ≡ 0 → placed_left 0 sp ≡ place s ended width n
  unfolding place pick
  at_left e = rw (plain, e)

  pub in_centre : s.alignment ≡ 1 → placed_left ((room + 1) / 2) sp ≡ place s ended width n
  unfolding place pick
  in_centre e = rw (plain, left_over, e)

  pub at_right : s.alignment ≡ 2 → placed_left room sp ≡ place s ended width n
  unfolding place pick
  at_right e = rw (plain, left_over, e)

  module _ (l : s.alignment ≡ 0 → ⊥) (m : s.alignment ≡ 1 → ⊥) (r : s.alignment ≡ 2 → ⊥) where
    pub last-plain : ends_paragraph ended || eqb n 0 ≡ true → placed_left 0 sp ≡ place s ended width n
    unfolding place pick
    last-plain e = rw (plain, ne_eqb _ _ l, ne_eqb _ _ m, ne_eqb _ _ r, e)

    pub in_block : (wide : Spaces) → ends_paragraph ended || eqb n 0 ≡ false → wide ≡ justified s room n → placed_left 0 wide ≡ place s ended width n
    unfolding place pick
    in_block wide e is = rw (is, left_over, ne_eqb _ _ l, ne_eqb _ _ m, ne_eqb _ _ r, e)

-- ---- in range

abbrev FinePlaced : Settings → Placed → Type 0
FinePlaced s p = FineSpaces p.spaces × (p.left.0 ≤ s.width.0)

plain_fine : (s : Settings) (left : ℕ) → FineSettings s → left ≤ s.width.0 → FinePlaced s (placed_left left (plain_spaces s))
unfolding plain_spaces
plain_fine s left f h = ((f.0, omega arith, omega arith), h)

justified_fine : (s : Settings) (room n : ℕ) → FineSettings s → room ≤ 4096 → 1 ≤ n → n ≤ 65535 → FinePlaced s (placed_left 0 (justified s room n))
unfolding justified
justified_fine s room n f r l h =
    let e = add-mul-div_left room s.glyph.0 {y = n} l in
    let d = div-le_self room n in
    let m = mod-lt (room + n * s.glyph.0) {m = n} l in
    ((omega arith, omega arith, omega arith), omega arith)

-- A line that is justified has a space.
pub counts : (b : Bool) (n : ℕ) → b || eqb n 0 ≡ false → 1 ≤ n
counts true n e = absurd (false≢true (sym e))
counts false n e = omega (arith, eqb-false n 0 e)

pub place_fine : (s : Settings) (e : LineEnd) (w n : ℕ) → FineSettings s → n ≤ 65535 → FineSpaces (place s e w n).spaces × ((place s e w n).left.0 ≤ s.width.0)
place_fine s e w n f h =
    let room = s.width.0 - w in
    let plain : (left : ℕ) → left ≤ s.width.0 → FinePlaced s (placed_left left (plain_spaces s)) = λ left b. plain_fine s left f b in
    by_eq s.alignment 0 (λ p. subst (FinePlaced s) (at_left s e w n room (plain_spaces s) refl refl p) (plain 0 (omega arith))) λ l.
    by_eq s.alignment 1 (λ p. subst (FinePlaced s) (in_centre s e w n room (plain_spaces s) refl refl p) (plain ((room + 1) / 2) (omega arith))) λ m.
    by_eq s.alignment 2 (λ p. subst (FinePlaced s) (at_right s e w n room (plain_spaces s) refl refl p) (plain room (omega arith))) λ r.
    by_test (ends_paragraph e || eqb n 0)
    (λ p. subst (FinePlaced s) (last-plain s e w n room (plain_spaces s) refl refl l m r p) (plain 0 (omega arith)))
    (λ p. subst (FinePlaced s) (in_block s e w n room (plain_spaces s) refl refl l m r (justified s room n) p refl)
    (justified_fine s room n f (omega arith) (counts (ends_paragraph e) n p) h))
