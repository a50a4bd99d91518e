-- Lines filled with a text, character by character or byte by byte, from the left and with plain spaces. What is further on stays further on,
-- and a wider box is filled no sooner (rule 4, rule 8).
-- Assumes nothing.
use Prim.Native.Nat.{ℕ, ◌+◌, ◌≤◌, ◌<◌, min}
use Rattle.std.specs.Prelude.{◌≡◌, Bool, true, false, leb, eqb, Option, Some, None, is_some, unwrap_or}
use Rattle.std.specs.Bool.{then_some}
use Rattle.std.proofs.Math.Path.{refl}
use Rattle.std.proofs.Common.{sym, ◌∙◌, arith}
use Rattle.std.proofs.lemmas.Bool.{false≢true}
use mathlib.Core.List.{List, [], ◌∷◌, ◌++◌}
use borrow.Author.Tests.{leb-true, leb-false}
use Rattle.basis.specs.Choice.{pick, pick_cases}
use Rattle.basis.specs.Order.{by_lt, by_eq}
use Rattle.widths.specs.LineParts.{breaks}
use Rattle.widths.specs.TabStops.{next_stop, stop-more, stop-on}
use Rattle.columns.specs.declared.filling.Fill.{Fill}

-- ---- what a character does, told by a test of those that words are made of

-- Whether the word at hand moves along where it does not fit, and what is there of it.
abbrev pub moves : Fill → Bool
moves x = is_some x.part

abbrev pub along_of : Fill → ℕ
along_of x = unwrap_or x.part 0

-- What moves along of a word, with one character more.
abbrev pub grown : (glyph : ℕ) → Option ℕ → Option ℕ
grown g None = None
grown g (Some n) = Some (n + g)

-- Of the next word nothing is there yet; it moves along where the line has a word.
abbrev pub apart_if : (begun : Bool) → Option ℕ
apart_if b = then_some b 0

-- So many lines are full, and nothing is in the next one.
abbrev pub empty_line : ℕ → Fill
empty_line n = record { lines = n; at = 0; begun = false; part = None }

-- A character of a word goes into the line if it fits. If it does not, the line is full, and what is there of the word moves along, if the
-- word is not the line's first.
unfoldable pub fill_word : (glyph w : ℕ) → Fill → Fill
fill_word g w x =
    pick (leb (x.at + g) w) (record { lines = x.lines; at = x.at + g; begun = true; part = grown g x.part })
    (record { lines = x.lines + 1; at = min (along_of x + g) w; begun = true; part = None })

-- Further on, up to the edge: the next word is apart from what the line has.
abbrev pub fill_to : (w : ℕ) → Fill → (to : ℕ) → Fill
fill_to w x to = record { lines = x.lines; at = min to w; begun = x.begun; part = apart_if x.begun }

-- Any other character may be of the word or end it: what is there of it does not move.
abbrev pub fill_other : Fill → Fill
fill_other x = record { lines = x.lines; at = x.at; begun = x.begun; part = None }

-- A space or a tab: to the edge where it does not fit. No line ends by it.
unfoldable pub fill_blank : (glyph tab w : ℕ) → Fill → ℕ → Fill
fill_blank g t w x c =
    pick (eqb c 0x0020) (fill_to w x (x.at + g)) (pick (eqb c 0x0009) (fill_to w x (next_stop t x.at)) (fill_other x))

-- What stands before the first word of a line is not counted, since it may be skipped.
unfoldable pub fill_by : (in_word : ℕ → Bool) → (glyph tab w : ℕ) → Fill → ℕ → Fill
fill_by f g t w x c =
    pick (f c) (fill_word g w x) (pick (breaks c) (empty_line (x.lines + 1)) (pick x.begun (fill_blank g t w x c) (fill_other x)))

unfoldable pub fill_all : (in_word : ℕ → Bool) → (glyph tab w : ℕ) → Fill → List ℕ → Fill
fill_all f g t w x [] = x
fill_all f g t w x (c ∷ cs) = fill_all f g t w (fill_by f g t w x c) cs

pub fill_append : (f : ℕ → Bool) (g t w : ℕ) (x : Fill) (xs ys : List ℕ)
    → fill_all f g t w x (xs ++ ys) ≡ fill_all f g t w (fill_all f g t w x xs) ys
unfolding fill_all
fill_append f g t w x [] ys = refl
fill_append f g t w x (c ∷ xs) ys = fill_append f g t w (fill_by f g t w x c) xs ys

-- ---- one is no further than another

-- Fewer lines are full; or as many, and the line is filled no further, unless the other's is up to its edge w. What moves along is no more; and
-- if one line less is full, what moves along is no more than the other's line has.
pub record Under (w : ℕ) (x y : Fill) : Type 0 where
  pub lines : x.lines ≤ y.lines
  pub at : x.lines ≡ y.lines → y.at < w → x.at ≤ y.at
  pub begun : x.lines ≡ y.lines → x.begun ≡ true → y.begun ≡ true
  pub moved : x.lines ≡ y.lines → moves x ≡ true → moves y ≡ true
  pub part : x.lines ≡ y.lines → along_of x ≤ along_of y
  pub along : x.lines + 1 ≡ y.lines → y.at < w → along_of x ≤ y.at

pub grown_by : (g : ℕ) (p : Option ℕ) → unwrap_or (grown g p) 0 ≤ unwrap_or p 0 + g
grown_by g None = omega arith
grown_by g (Some n) = omega arith

pub grown_moves : (g : ℕ) (p : Option ℕ) → is_some (grown g p) ≡ is_some p
grown_moves g None = refl
grown_moves g (Some n) = refl

pub apart_none : (b : Bool) → unwrap_or (apart_if b) 0 ≡ 0
apart_none true = refl
apart_none false = refl

pub apart_moves : (b : Bool) → is_some (apart_if b) ≡ b
apart_moves true = refl
apart_moves false = refl

module _ (w : ℕ) where
  pub under_self : (x : Fill) → Under w x x
  under_self x =
      record {
        lines = omega arith;
        at = λ _ _. omega arith;
        begun = λ _ e. e;
        moved = λ _ e. e;
        part = λ _. omega arith;
        along = λ e _. absurd (omega arith);
      }

  pub under-then : (x y z : Fill) → Under w x y → Under w y z → Under w x z
  under-then x y z u v =
      let same : x.lines ≡ z.lines → y.lines ≡ z.lines = λ e. omega (arith, u.lines, v.lines) in
      let same' : x.lines ≡ z.lines → x.lines ≡ y.lines = λ e. omega (arith, u.lines, v.lines) in
      record {
        lines = omega (arith, u.lines, v.lines);
        at = λ e l. let b = v.at (same e) l in omega (arith, b, u.at (same' e) (omega (arith, b)));
        begun = λ e b. v.begun (same e) (u.begun (same' e) b);
        moved = λ e b. v.moved (same e) (u.moved (same' e) b);
        part = λ e. omega (arith, u.part (same' e), v.part (same e));
        along = λ e l.
            by_eq x.lines y.lines
            (λ d. omega (arith, u.part d, v.along (omega arith) l))
            (λ d.
            let at : y.lines ≡ z.lines = omega (arith, u.lines, v.lines, d) in
            let b = v.at at l in
            omega (arith, b, u.along (omega arith) (omega (arith, b))));
      }

  -- Fewer lines are full, and nothing moves along.
  pub under-fewer : (x y : Fill) → along_of x ≡ 0 → x.lines < y.lines → Under w x y
  under-fewer x y none l =
      record {
        lines = omega arith;
        at = λ e _. absurd (omega arith);
        begun = λ e _. absurd (omega arith);
        moved = λ e _. absurd (omega arith);
        part = λ e. absurd (omega arith);
        along = λ _ _. omega arith;
      }

  -- Nothing moves along: the line is no further.
  pub under-by : (x y : Fill) → along_of x ≡ 0 → x.lines ≤ y.lines → (x.lines ≡ y.lines → y.at < w → x.at ≤ y.at)
      → (x.lines ≡ y.lines → x.begun ≡ true → y.begun ≡ true) → (x.lines ≡ y.lines → moves x ≡ true → moves y ≡ true) → Under w x y
  under-by x y none l a b m =
      record { lines = l; at = a; begun = b; moved = m; part = λ _. omega arith; along = λ _ _. omega arith }

  pub under_other : (x : Fill) → Under w (fill_other x) x
  under_other x = under-by (fill_other x) x refl (omega arith) (λ _ _. omega arith) (λ _ e. e) (λ _ e. absurd (false≢true e))

  pub under-word : (g : ℕ) (x : Fill) → Under w (fill_other x) (fill_word g w x)
  unfolding fill_word
  under-word g x =
      pick_cases (Under w (fill_other x)) (leb (x.at + g) w)
      (λ _. under-by (fill_other x) _ refl (omega arith) (λ _ _. omega arith) (λ _ _. refl) (λ _ e. absurd (false≢true e)))
      (λ _. under-fewer (fill_other x) _ refl (omega arith))

-- ---- a character more

-- Two choices by the same test.
both_picked : (R : Fill → Fill → Type 0) (b : Bool) {x y x' y' : Fill} → R x x' → R y y' → R (pick b x y) (pick b x' y')
unfolding pick
both_picked R true p q = p
both_picked R false p q = q

module _ (g t : ℕ) (some : 1 ≤ g) (w v : ℕ) (wide : w ≤ v) where
  -- The one that is no further breaks the line no sooner.
  fewer_if : (x y : Fill) → Under w x y → y.at < w → y.at < x.at → x.lines < y.lines
  fewer_if x y u low further = by_lt x.lines y.lines (λ l. l) (λ l. absurd (omega (arith, u.at (omega (arith, u.lines)) low)))

  -- What moves along of two words, with one character more.
  grown-under : (p q : Option ℕ) → (is_some p ≡ true → is_some q ≡ true) → unwrap_or p 0 ≤ unwrap_or q 0
      → unwrap_or (grown g p) 0 ≤ unwrap_or (grown g q) 0
  grown-under None q f l = omega arith
  grown-under (Some n) None f l = absurd (false≢true (f refl))
  grown-under (Some n) (Some m) f l = omega arith

  word-under : (x y : Fill) → Under w x y → Under w (fill_word g v x) (fill_word g w y)
  unfolding fill_word
  word-under x y u =
      pick_cases (Under w (fill_word g v x)) (leb (y.at + g) w)
      (λ b.
      let inside = leb-true (y.at + g) w b in
      pick_cases (λ (z : Fill). Under w z (record { lines = y.lines; at = y.at + g; begun = true; part = grown g y.part }))
      (leb (x.at + g) v)
      (λ _.
      record {
        lines = u.lines;
        at = λ e l. omega (arith, u.at e (omega arith));
        begun = λ _ _. refl;
        moved = λ e m. grown_moves g y.part ∙ u.moved e (sym (grown_moves g x.part) ∙ m);
        part = λ e. grown-under x.part y.part (u.moved e) (u.part e);
        along = λ e l. omega (arith, grown_by g x.part, u.along e (omega arith));
      })
      (λ a.
      let less = fewer_if x y u (omega arith) (omega (arith, leb-false (x.at + g) v a)) in
      under-by w _ _ refl (omega (arith, less)) (λ e l. omega (arith, u.along (omega arith) (omega arith))) (λ _ _. refl) (λ _ e. absurd (false≢true e))))
      (λ b.
      pick_cases (λ (z : Fill). Under w z (record { lines = y.lines + 1; at = min (along_of y + g) w; begun = true; part = None }))
      (leb (x.at + g) v)
      (λ _.
      record {
        lines = omega (arith, u.lines);
        at = λ e _. absurd (omega (arith, u.lines));
        begun = λ _ _. refl;
        moved = λ e _. absurd (omega (arith, u.lines));
        part = λ e. absurd (omega (arith, u.lines));
        along = λ e l. omega (arith, grown_by g x.part, u.part (omega arith));
      })
      (λ _.
      under-by w _ _ refl (omega (arith, u.lines)) (λ e l. omega (arith, u.part (omega arith))) (λ _ _. refl) (λ _ e. absurd (false≢true e))))

  to-under : (x y : Fill) (a b : ℕ) → y.at ≤ b → (x.at ≤ y.at → a ≤ b) → Under w x y → Under w (fill_to v x a) (fill_to w y b)
  to-under x y a b h f u =
      under-by w _ _ (apart_none x.begun) u.lines (λ e l. omega (arith, f (u.at e (omega arith)))) u.begun
      (λ e m. apart_moves y.begun ∙ u.begun e (sym (apart_moves x.begun) ∙ m))

  other_under : (x y : Fill) → Under w x y → Under w (fill_other x) (fill_other y)
  other_under x y u = under-by w _ _ refl u.lines u.at u.begun (λ _ e. absurd (false≢true e))

  blank-under : (c : ℕ) (x y : Fill) → Under w x y → Under w (fill_blank g t v x c) (fill_blank g t w y c)
  unfolding fill_blank
  blank-under c x y u =
      both_picked (Under w) (eqb c 0x0020) (to-under x y (x.at + g) (y.at + g) (omega arith) (λ h. omega arith) u)
      (both_picked (Under w) (eqb c 0x0009)
      (to-under x y (next_stop t x.at) (next_stop t y.at) (stop-on t y.at) (stop-more t x.at y.at) u) (other_under x y u))

  -- Only the other's line has a word.
  other_blank : (c : ℕ) (x y : Fill) → Under w x y → Under w (fill_other x) (fill_blank g t w y c)
  unfolding fill_blank
  other_blank c x y u =
      let P : Fill → Type 0 = Under w (fill_other x) in
      let on : (to : ℕ) → y.at ≤ to → P (fill_to w y to) =
      λ to h. under-by w _ _ refl u.lines (λ e l. omega (arith, u.at e (omega arith))) u.begun (λ _ e. absurd (false≢true e)) in
      pick_cases P (eqb c 0x0020) (λ _. on (y.at + g) (omega arith)) λ _.
      pick_cases P (eqb c 0x0009) (λ _. on (next_stop t y.at) (stop-on t y.at)) (λ _. other_under x y u)

  blank-fewer : (c : ℕ) (x y : Fill) → x.lines < y.lines → Under w (fill_blank g t v x c) y
  unfolding fill_blank
  blank-fewer c x y l =
      let P : Fill → Type 0 = λ (z : Fill). Under w z y in
      pick_cases P (eqb c 0x0020) (λ _. under-fewer w _ y (apart_none x.begun) l) λ _.
      pick_cases P (eqb c 0x0009) (λ _. under-fewer w _ y (apart_none x.begun) l) (λ _. under-fewer w _ y refl l)

  begun-under : (c : ℕ) (x y : Fill) → Under w x y
      → Under w (pick x.begun (fill_blank g t v x c) (fill_other x)) (pick y.begun (fill_blank g t w y c) (fill_other y))
  begun-under c x y u =
      let rest = pick y.begun (fill_blank g t w y c) (fill_other y) in
      pick_cases (λ (z : Fill). Under w z rest) x.begun
      (λ a.
      pick_cases (Under w (fill_blank g t v x c)) y.begun (λ _. blank-under c x y u)
      (λ b.
      let less : x.lines < y.lines =
      by_lt x.lines y.lines (λ l. l) (λ l. absurd (false≢true (sym b ∙ u.begun (omega (arith, u.lines)) a))) in
      blank-fewer c x (fill_other y) less))
      (λ _. pick_cases (Under w (fill_other x)) y.begun (λ _. other_blank c x y u) (λ _. other_under x y u))

  pub step-under : (f : ℕ → Bool) (c : ℕ) (x y : Fill) → Under w x y → Under w (fill_by f g t v x c) (fill_by f g t w y c)
  unfolding fill_by
  step-under f c x y u =
      both_picked (Under w) (f c) (word-under x y u)
      (both_picked (Under w) (breaks c)
      (under-by w _ _ refl (omega (arith, u.lines)) (λ _ _. omega arith) (λ _ e. absurd (false≢true e)) (λ _ e. absurd (false≢true e)))
      (begun-under c x y u))

  pub fill_under : (f : ℕ → Bool) (cs : List ℕ) (x y : Fill) → Under w x y → Under w (fill_all f g t v x cs) (fill_all f g t w y cs)
  unfolding fill_all
  fill_under f [] x y u = u
  fill_under f (c ∷ cs) x y u = fill_under f cs (fill_by f g t v x c) (fill_by f g t w y c) (step-under f c x y u)
