-- The tab stops of a line: the next one behind a place, and how they stand further on (rule 4).
-- Assumes nothing.
use Rattle.std.specs.Prelude.{ℕ, ◌+◌, ◌*◌, ◌/◌, ◌≤◌, ◌≡◌, ◌⊎◌, eqb}
use Rattle.std.proofs.Common.{sym, ap, ◌∙◌, inl, inr, add-mul, mul_assoc, mul-le-mul_right, div-mul-le_self, le-div_iff_mul-le, arith, eq-eqb, ne_eqb}
use Rattle.std.proofs.Math.Nat.{lt-div-mul-add, add-mul-div_right}
use Rattle.basis.specs.Choice.{pick, pick_cases}
use Rattle.basis.specs.Order.{by_eq}
use Rattle.meaning.specs.Cursor.{tab_width}
use Rattle.meaning.specs.declared.cursor.LineCursor.{LineCursor}
use Rattle.widths.specs.Wholes.{Whole}

-- The first multiple of the tab width above a place, which stays where it is if that width is 0.
unfoldable pub next_stop : (tab at : ℕ) → ℕ
next_stop tab at = pick (eqb tab 0) at ((at / tab + 1) * tab)

pub stop-on : (t a : ℕ) → a ≤ next_stop t a
unfolding next_stop pick
stop-on t a =
    by_eq t 0 (λ e. rw (eq-eqb t 0 e) (omega arith))
    (λ d. rw (ne_eqb t 0 d) (omega (arith, add-mul (a / t) 1 t, lt-div-mul-add {a = a} {b = t} (omega arith))))

-- A stop further on for a place further on.
pub stop-more : (t a b : ℕ) → a ≤ b → next_stop t a ≤ next_stop t b
unfolding next_stop pick
stop-more t a b h =
    by_eq t 0 (λ e. rw (eq-eqb t 0 e) h)
    (λ d.
    let up : a / t ≤ b / t = (le-div_iff_mul-le {k = t} (omega arith)).1 (omega (arith, div-mul-le_self a t)) in
    rw (ne_eqb t 0 d) (mul-le-mul_right t (omega (arith, up))))

-- A tab goes there.
pub tab-to : (c : LineCursor) → next_stop c.tab.0 c.position.0 ≡ c.position.0 + tab_width c
unfolding next_stop tab_width pick
tab-to c =
    let t = c.tab.0 in
    let at = c.position.0 in
    by_eq t 0 (λ e. rw (eq-eqb t 0 e) (omega arith))
    (λ d. rw (ne_eqb t 0 d) (omega (arith, add-mul (at / t) 1 t, lt-div-mul-add {a = at} {b = t} (omega arith))))

-- It is whole glyphs on where the tab is whole glyphs wide and the place is.
pub whole-stop : (g t a : ℕ) → Whole g t → Whole g a → Whole g (next_stop t a)
unfolding next_stop
whole-stop g t a k m =
    pick_cases (Whole g) (eqb t 0) (λ _. m)
    (λ _. record { count = (a / t + 1) * k.count; is = ap (λ (n : ℕ). (a / t + 1) * n) k.is ∙ sym (mul_assoc (a / t + 1) k.count g) })

-- ---- further on

-- Behind a place that is so much further on tab stops stand as they do here: there are none, or it is by whole tabs.
abbrev pub SameStops : (tab d : ℕ) → Type 0
SameStops t d = (t ≡ 0) ⊎ Whole t d

pub stop-further : (t d a : ℕ) → SameStops t d → next_stop t (a + d) ≡ next_stop t a + d
unfolding next_stop pick
stop-further t d a (inl e) = rw (eq-eqb t 0 e)
stop-further t d a (inr k) =
    by_eq t 0 (λ e. rw (eq-eqb t 0 e))
    (λ n.
    let is = k.is in
    let more : (a + d) / t ≡ a / t + k.count = ap (λ (x : ℕ). (a + x) / t) is ∙ add-mul-div_right a k.count (omega arith) in
    let both = add-mul (a / t + 1) k.count t in
    let order : a / t + k.count + 1 ≡ a / t + 1 + k.count = omega arith in
    rw (ne_eqb t 0 n, more, order) (omega (arith, is, both)))
