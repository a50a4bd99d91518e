-- A line that is placed by its measure has room for what was measured; and lines that end alike are laid alike.
-- Assumes nothing.
use Rattle.std.specs.Prelude.{ℕ, ◌+◌, ◌-◌, ◌*◌, ◌/◌, ◌%◌, ◌≤◌, max, ◌≡◌, refl, ◌||◌, eqb}
use Rattle.std.proofs.Math.Nat.{add-mul, mul-le-mul_left, div-add-mod, add-mul-div_left}
use native.Mathlib.Omega.{arith}
use Rattle.std.proofs.Math.Path.{ap}
use Rattle.std.proofs.Common.{subst, ◌∙◌}
use Rattle.basis.specs.Choice.{by_test}
use Rattle.basis.specs.Order.{by_eq}
use Rattle.meaning.specs.Alignment.{plain_spaces, ends_paragraph, justified, placed_left, place}
use Rattle.meaning.specs.declared.settings.Settings.{Settings}
use Rattle.meaning.specs.declared.line.LineEnd.{LineEnd}
use Rattle.meaning.specs.declared.line.Placed.{Placed}
use Rattle.moves.specs.Fine.{FineSettings}
use Rattle.placing.specs.PlaceLaws.{at_left, in_centre, at_right, last-plain, in_block, counts, place_fine}
use Rattle.placing.specs.Laying.{laid_at}
use Rattle.placing.specs.Quick.{Fair, SameEnd}
use Rattle.steps.specs.declared.step.Resumed.{Resumed}
use Rattle.steps.specs.declared.step.Ended.{Ended}

-- ---- placed by its measure

module _ (s : Settings) (letters gaps : ℕ) (f : FineSettings s) where
  abbrev Roomy : Placed → Type 0
  Roomy p = (s.glyph.0 ≤ p.spaces.width.0)
      × (p.left.0 + letters * s.glyph.0 + gaps * p.spaces.width.0 + p.spaces.extra.0 ≤ s.width.0)

  plain-roomy : (left : ℕ) → left + (letters + gaps) * s.glyph.0 ≤ s.width.0 → Roomy (placed_left left (plain_spaces s))
  unfolding plain_spaces
  plain-roomy left h = (omega arith, omega (arith, add-mul letters gaps s.glyph.0))

  -- What is shared out among more spaces than these leaves no less for each.
  justified-roomy : (room n : ℕ) → 1 ≤ n → gaps ≤ n → room + (letters + gaps) * s.glyph.0 ≤ s.width.0 → Roomy (placed_left 0 (justified s room n))
  unfolding justified
  justified-roomy room n l k h =
      let g = s.glyph.0 in
      let all = room + n * g in
      let w = all / n in
      let e : w ≡ room / n + g = add-mul-div_left room g {y = n} l in
      let d = div-add-mod all n in
      let parts : n ≡ gaps + (n - gaps) = omega arith in
      let wide : n * w ≡ gaps * w + (n - gaps) * w = ap (λ (j : ℕ). j * w) parts ∙ add-mul gaps (n - gaps) w in
      let thin : n * g ≡ gaps * g + (n - gaps) * g = ap (λ (j : ℕ). j * g) parts ∙ add-mul gaps (n - gaps) g in
      let less : g ≤ w = omega (arith, e) in
      let low : (n - gaps) * g ≤ (n - gaps) * w = mul-le-mul_left (n - gaps) less in
      (less, fits g (letters * g) (gaps * w) (gaps * g) ((n - gaps) * w) ((n - gaps) * g) (n * w) (n * g) room (all % n) wide thin low d (add-mul letters gaps g) h)
    where
      fits : (g a b c o p q r room x : ℕ) → q ≡ b + o → r ≡ c + p → p ≤ o → q + x ≡ room + r → (letters + gaps) * g ≡ a + c
          → room + (letters + gaps) * g ≤ s.width.0 → 0 + a + b + x ≤ s.width.0
      fits g a b c o p q r room x e1 e2 e3 e4 e5 e6 = omega arith

  pub place-fair : (e : LineEnd) (width n : ℕ) → n ≤ 65535 → gaps ≤ n → (letters + gaps) * s.glyph.0 ≤ width → width ≤ s.width.0
      → Fair s (place s e width n) letters gaps
  place-fair e width n few k low high =
      let room = s.width.0 - width in
      let sp = plain_spaces s in
      let roomy : Roomy (place s e width n)
      = by_eq s.alignment 0 (λ p. subst Roomy (at_left s e width n room sp refl refl p) (plain-roomy 0 (omega arith))) λ l.
      by_eq s.alignment 1 (λ p. subst Roomy (in_centre s e width n room sp refl refl p) (plain-roomy ((room + 1) / 2) (omega arith))) λ m.
      by_eq s.alignment 2 (λ p. subst Roomy (at_right s e width n room sp refl refl p) (plain-roomy room (omega arith))) λ r.
      by_test (ends_paragraph e || eqb n 0)
      (λ p. subst Roomy (last-plain s e width n room sp refl refl l m r p) (plain-roomy 0 (omega arith)))
      (λ p. subst Roomy (in_block s e width n room sp refl refl l m r (justified s room n) p refl)
      (justified-roomy room n (counts (ends_paragraph e) n p) k (omega arith))) in
      record { spaces = (place_fine s e width n f few).0; wide = roomy.0; within = roomy.1 }

-- Room for a word more is room for these.
pub fair-less : (s : Settings) (p : Placed) (letters gaps n : ℕ) → Fair s p (letters + n) (gaps + 1) → Fair s p letters gaps
fair-less s p letters gaps n f =
    record {
      spaces = f.spaces;
      wide = f.wide;
      within = omega (arith, f.within, add-mul letters n s.glyph.0, add-mul gaps 1 p.spaces.width.0);
    }

-- ---- laid alike

pub laid_same : (at before : ℕ) (r : Resumed) (p : Placed) (width : ℕ) (e d : Ended) (chars : ℕ) → SameEnd e d
    → laid_at at before r p width e.reach.0 e chars ≡ laid_at at before r p width e.reach.0 d chars
unfolding laid_at
laid_same at before r p width e d chars h =
    let far : max e.reach.0 d.reach.0 ≡ max e.reach.0 e.reach.0 = omega (arith, h.reach) in
    rw (far, h.ended, h.next, h.rest, h.dropped)
