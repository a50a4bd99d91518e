-- What it means that a text fits a box whole, and what the planned width is: the smallest in which it does, whichever those are. What a
-- search passes over, if it knows that none of those widths will do, is passed over by the definition too (rule 10).
-- Assumes nothing.
use Prim.Native.Nat.{ℕ, zero, suc, ◌+◌, ◌-◌, ◌≤◌, ◌<◌}
use Rattle.std.specs.Prelude.{◌≡◌, true, false, ◌↔◌, List, [], ◌∷◌, leb, eqb, length, Err, None, Ok, Option, Result, Some, ℕ}
use Rattle.std.proofs.Math.Path.{refl, ap}
use Rattle.std.proofs.Common.{sym, subst, ◌∙◌, leb-true, le-leb, eqb-true, eq-eqb}
use Rattle.std.proofs.lemmas.Bool.{false≢true}
use native.Mathlib.Omega.{arith}
use Rattle.basis.specs.Choice.{pick_cases, pick_true, pick-false, and_true, and_both}
use Rattle.basis.specs.Order.{by_le, by_eq}
use Rattle.meaning.specs.Layout.{layout}
use Rattle.meaning.specs.Pages.{within_lines}
use Rattle.meaning.specs.Columns.{all_kept, fits_whole, with_width, narrowest_from, widest_box, narrowest}
use Rattle.meaning.specs.declared.settings.Settings.{Settings}
use Rattle.meaning.specs.declared.line.Entry.{Entry}
use Rattle.meaning.specs.declared.refusals.Refusal.{Refusal}
use Rattle.laws.specs.NothingDropped.{DropNothing}

-- ---- a text that fits whole

kept-drop-nothing : (es : List Entry) → all_kept es ≡ true → DropNothing es
unfolding all_kept
kept-drop-nothing [] = λ _. tt
kept-drop-nothing (x ∷ es) =
    pick_cases (λ b. b ≡ true → DropNothing (x ∷ es)) (eqb x.dropped.0 0)
    (λ z e. (eqb-true x.dropped.0 0 z, kept-drop-nothing es e))
    (λ _ e. absurd (false≢true e))

drop-nothing-kept : (es : List Entry) → DropNothing es → all_kept es ≡ true
unfolding all_kept
drop-nothing-kept [] h = refl
drop-nothing-kept (x ∷ es) h = pick_true (eqb x.dropped.0 0) _ _ (eq-eqb x.dropped.0 0 h.0) ∙ drop-nothing-kept es h.1

-- It has at most h lines, and none of them dropped a character.
pub fits-says : (s : Settings) (h : ℕ) (cs : List ℕ) → (fits_whole s h cs ≡ true) ↔ ((length (layout s cs) ≤ h) × DropNothing (layout s cs))
unfolding fits_whole within_lines
fits-says s h cs =
    let few = leb (length (layout s cs)) h in
    let kept = all_kept (layout s cs) in (
      λ e. let both = and_true few kept e in (leb-true (length (layout s cs)) h both.0, kept-drop-nothing (layout s cs) both.1),
      λ f. and_both few kept (le-leb (length (layout s cs)) h f.0) (drop-nothing-kept (layout s cs) f.1),
    )

-- ---- the smallest width

module _ (s : Settings) (h : ℕ) (cs : List ℕ) where
  -- In no width from one to another, the second not included, does it fit.
  abbrev pub NoneFits : (from to : ℕ) → Type 0
  NoneFits from to = (v : ℕ) → from ≤ v → v < to → fits_whole (with_width s v) h cs ≡ false

  -- The first width of all is the answer if it fits in that, and is passed over if not.
  pub narrowest-here : (w n : ℕ) → fits_whole (with_width s w) h cs ≡ true → narrowest_from s h cs w (suc n) ≡ Some w
  unfolding narrowest_from
  narrowest-here w n e = pick_true (fits_whole (with_width s w) h cs) _ _ e

  pub narrowest-past : (w n : ℕ) → fits_whole (with_width s w) h cs ≡ false → narrowest_from s h cs w (suc n) ≡ narrowest_from s h cs (suc w) n
  unfolding narrowest_from
  narrowest-past w n e = pick-false (fits_whole (with_width s w) h cs) _ _ e

  -- So are the first k widths if it fits in none of those.
  pub narrowest-skip : (k n w : ℕ) → NoneFits w (w + k) → narrowest_from s h cs w (k + n) ≡ narrowest_from s h cs (w + k) n
  narrowest-skip zero n w f =
      let e : zero + n ≡ n = omega arith in
      let d : w + zero ≡ w = omega arith in
      rw (e, d)
  narrowest-skip (suc k) n w f =
      let e : suc k + n ≡ suc (k + n) = omega arith in
      let d : w + suc k ≡ suc w + k = omega arith in
      rw (e, d)
      (narrowest-past w (k + n) (f w (omega arith) (omega arith))
      ∙ narrowest-skip k n (suc w) (λ v a b. f v (omega arith) (omega arith)))

  -- Where it fits in none of all there is no answer.
  pub none-answered : (n w : ℕ) → NoneFits w (w + n) → narrowest_from s h cs w n ≡ None
  unfolding narrowest_from
  none-answered zero w f = refl
  none-answered (suc n) w f = narrowest-past w n (f w (omega arith) (omega arith)) ∙ none-answered n (suc w) (λ v b c. f v (omega arith) (omega arith))

  -- A search of the widths up to a bound goes on from any width before which it fits in none.
  pub narrowest-on : (w x bound : ℕ) → w ≤ x → NoneFits w x → narrowest_from s h cs w (bound - w) ≡ narrowest_from s h cs x (bound - x)
  narrowest-on w x bound below f =
      by_le x bound
      (λ b.
      let n : bound - w ≡ x - w + (bound - x) = omega arith in
      let d : w + (x - w) ≡ x = omega arith in
      ap (narrowest_from s h cs w) n
      ∙ narrowest-skip (x - w) (bound - x) w (λ v c e. f v c (omega arith))
      ∙ ap (λ (y : ℕ). narrowest_from s h cs y (bound - x)) d)
      (λ b.
      none-answered (bound - w) w (λ v c e. f v c (omega arith))
      ∙ sym (none-answered (bound - x) x (λ v c e. absurd (omega arith))))

  -- What is said of the n widths from w on.
  abbrev Says : (w n : ℕ) → Option ℕ → Type 0
  Says w n (Some x) = (w ≤ x) × (x < w + n) × (fits_whole (with_width s x) h cs ≡ true) × NoneFits w x
  Says w n None = NoneFits w (w + n)

  -- One more width below, which it does not fit.
  says-below : (w n : ℕ) (a : Option ℕ) → fits_whole (with_width s w) h cs ≡ false → Says (suc w) n a → Says w (suc n) a
  says-below w n (Some x) e f = (
    omega (arith, f.0),
    omega (arith, f.1),
    f.2,
    λ v b c. by_eq v w (λ d. subst (λ (u : ℕ). fits_whole (with_width s u) h cs ≡ false) (sym d) e) (λ d. f.3 v (omega arith) c),
  )
  says-below w n None e f =
      λ v b c. by_eq v w (λ d. subst (λ (u : ℕ). fits_whole (with_width s u) h cs ≡ false) (sym d) e) (λ d. f v (omega arith) (omega arith))

  from-says : (n w : ℕ) → Says w n (narrowest_from s h cs w n)
  unfolding narrowest_from
  from-says zero w = λ v b c. absurd (omega arith)
  from-says (suc n) w =
      pick_cases (Says w (suc n)) (fits_whole (with_width s w) h cs) (λ e. (omega arith, omega arith, e, λ v b c. absurd (omega arith)))
      (λ e. says-below w n (narrowest_from s h cs (suc w) n) e (from-says n (suc w)))

  says : Says 0 (suc widest_box) (narrowest s h cs)
  unfolding narrowest
  says = from-says (suc widest_box) 0

  -- A width that is answered is allowed, the text fits in it, and in no smaller one.
  pub width-says : (w : ℕ) → narrowest s h cs ≡ Some w → (w ≤ 4096) × (fits_whole (with_width s w) h cs ≡ true) × ((v : ℕ) → v < w → fits_whole (with_width s v) h cs ≡ false)
  width-says w e =
      let f : Says 0 (suc widest_box) (Some w) = subst (Says 0 (suc widest_box)) e says in
      (omega (arith, f.1), f.2, λ v c. f.3 v (omega arith) c)

  -- Where none is answered there is none.
  pub no_width-says : narrowest s h cs ≡ None → (v : ℕ) → v ≤ 4096 → fits_whole (with_width s v) h cs ≡ false
  no_width-says e v c =
      let f : Says 0 (suc widest_box) None = subst (Says 0 (suc widest_box)) e says in
      f v (omega arith) (omega arith)

  pub never-refused : (r : Refusal) → ◌≡◌ {A = Result (Option ℕ) Refusal} (Ok (narrowest s h cs)) (Err r) → ⊥
  never-refused r e = let z : ◌≡◌ {A = ℕ} 0 1 = cc in omega arith

  -- The other way: the smallest width is answered, and none if there is none.
  pub smallest-answered : (w : ℕ) → w ≤ 4096 → fits_whole (with_width s w) h cs ≡ true → ((v : ℕ) → v < w → fits_whole (with_width s v) h cs ≡ false)
      → narrowest s h cs ≡ Some w
  unfolding narrowest
  smallest-answered w small e f =
      let n : suc widest_box ≡ w + suc (4096 - w) = omega arith in
      let z : 0 + w ≡ w = omega arith in
      ap (narrowest_from s h cs 0) n
      ∙ narrowest-skip w (suc (4096 - w)) 0 (λ v b c. f v (omega arith))
      ∙ ap (λ (x : ℕ). narrowest_from s h cs x (suc (4096 - w))) z
      ∙ narrowest-here w (4096 - w) e

  pub no_width-answered : ((v : ℕ) → v ≤ 4096 → fits_whole (with_width s v) h cs ≡ false) → narrowest s h cs ≡ None
  unfolding narrowest
  no_width-answered f = none-answered (suc widest_box) 0 (λ v b c. f v (omega arith))
