-- One turn of the loop that fills lines with a text's bytes, and what keeps its numbers small.
-- Assumes nothing.
use Rattle.std.specs.Prelude.{ℕ, ◌+◌, ◌≤◌, ◌<◌, min, ◌≡◌, List, true, false, leb, eqb, length, get_or, drop, Option, None}
use Rattle.std.proofs.Math.Path.{refl, sym, ap}
use Rattle.std.proofs.Common.{◌∙◌, add-one, drop_of_length-le}
use native.Mathlib.Omega.{arith}
use borrow.Author.Tests.{leb-true, le-leb, lt-leb, eq-eqb, ne_eqb}
use Rattle.std.proofs.Math.Seq.{drop-cons}
use Rattle.basis.specs.Choice.{pick, pick_cases, pick_true, pick-false}
use Rattle.widths.specs.LineParts.{breaks}
use Rattle.widths.specs.TabStops.{next_stop}
use Rattle.columns.specs.Filling.{along_of, grown, grown_by, apart_none, empty_line, fill_word, fill_to, fill_other, fill_blank, fill_by, fill_all}
use Rattle.columns.specs.LeadBytes.{leads}
use Rattle.columns.specs.declared.filling.Fill.{Fill}

-- The line is filled up to the edge at most, what moves along is of it, and no more lines are full than bytes have been looked at.
abbrev pub SmallFill : (w i : ℕ) → Fill → Type 0
SmallFill w i x = (x.at ≤ w) × (along_of x ≤ x.at) × (x.lines ≤ i)

-- The lines that a text's bytes fill.
abbrev pub lines_filled : (glyph tab w : ℕ) → (bytes : List ℕ) → ℕ
lines_filled g t w bytes = (fill_all leads g t w (empty_line 0) bytes).lines

module _ (g t w : ℕ) where
  small_word : (i : ℕ) (x : Fill) → SmallFill w i x → SmallFill w (i + 1) (fill_word g w x)
  unfolding fill_word
  small_word i x h =
      pick_cases (SmallFill w (i + 1)) (leb (x.at + g) w) (λ e. (leb-true (x.at + g) w e, omega (arith, grown_by g x.part, h.1), omega (arith, h.2)))
      (λ _. (omega arith, omega arith, omega (arith, h.2)))

  small-blank : (i c : ℕ) (x : Fill) → SmallFill w i x → SmallFill w (i + 1) (fill_blank g t w x c)
  unfolding fill_blank
  small-blank i c x h =
      let P : Fill → Type 0 = SmallFill w (i + 1) in
      let few : x.lines ≤ i + 1 = omega (arith, h.2) in
      pick_cases P (eqb c 0x0020) (λ _. (omega arith, omega (arith, apart_none x.begun), few)) λ _.
      pick_cases P (eqb c 0x0009) (λ _. (omega arith, omega (arith, apart_none x.begun), few)) (λ _. (h.0, omega arith, few))

  small-more : (i c : ℕ) (x : Fill) → SmallFill w i x → SmallFill w (i + 1) (fill_by leads g t w x c)
  unfolding fill_by
  small-more i c x h =
      let P : Fill → Type 0 = SmallFill w (i + 1) in
      pick_cases P (leads c) (λ _. small_word i x h) λ _.
      pick_cases P (breaks c) (λ _. (omega arith, omega arith, omega (arith, h.2))) λ _.
      pick_cases P x.begun (λ _. small-blank i c x h) (λ _. (h.0, omega arith, omega (arith, h.2)))

  -- ---- the loop

  -- i bytes have been looked at: those that are left fill from here what all fill from the front.
  pub record FilledTo (bytes : List ℕ) (i : ℕ) (x : Fill) : Type 0 where
    pub same : fill_all leads g t w x (drop i bytes) ≡ fill_all leads g t w (empty_line 0) bytes
    pub small : SmallFill w i x

  module _ (bytes : List ℕ) where
    pub fill_start : FilledTo bytes 0 (empty_line 0)
    fill_start = record { same = refl; small = (omega arith, omega arith, omega arith) }

    pub fill_more : (i : ℕ) (x y : Fill) → FilledTo bytes i x → i < length bytes → y ≡ fill_by leads g t w x (get_or bytes i 0) → FilledTo bytes (i + 1) y
    unfolding fill_all
    fill_more i x y f h is =
        let here : fill_all leads g t w x (drop i bytes) ≡ fill_all leads g t w (fill_by leads g t w x (get_or bytes i 0)) (drop (i + 1) bytes) =
        rw (add-one, drop-cons bytes i 0 h) refl in
        rw is (record { same = sym here ∙ f.same; small = small-more i (get_or bytes i 0) x f.small })

    pub fill_done : (i : ℕ) (x : Fill) → FilledTo bytes i x → length bytes ≤ i → x.lines ≡ lines_filled g t w bytes
    unfolding fill_all
    fill_done i x f h =
        let none : fill_all leads g t w x (drop i bytes) ≡ x = rw (drop_of_length-le bytes h) refl in
        ap (λ (z : Fill). z.lines) (sym none ∙ f.same)

  -- ---- what one byte does, by the tests of the code

  module _ (x : Fill) where
    pub word-here : x.at + g ≤ w → (n : Option ℕ) → n ≡ grown g x.part
        → record { lines = x.lines; at = x.at + g; begun = true; part = n } ≡ fill_word g w x
    unfolding fill_word
    word-here e n is =
        ap (λ (m : Option ℕ). record { lines = x.lines; at = x.at + g; begun = true; part = m }) is
        ∙ sym (pick_true (leb (x.at + g) w) _ _ (le-leb (x.at + g) w e))

    pub word_next : w < x.at + g → (n : ℕ) → n ≡ min (along_of x + g) w
        → record { lines = x.lines + 1; at = n; begun = true; part = None } ≡ fill_word g w x
    unfolding fill_word
    word_next e n is =
        ap (λ (m : ℕ). record { lines = x.lines + 1; at = m; begun = true; part = None }) is
        ∙ sym (pick-false (leb (x.at + g) w) _ _ (lt-leb (x.at + g) w e))

    pub on-space : (c : ℕ) → c ≡ 0x0020 → fill_to w x (x.at + g) ≡ fill_blank g t w x c
    unfolding fill_blank pick
    on-space c e = rw (eq-eqb c 0x0020 e) refl

    pub on_tab_lem : (c : ℕ) → (c ≡ 0x0020 → ⊥) → c ≡ 0x0009 → (n : ℕ) → n ≡ next_stop t x.at → fill_to w x n ≡ fill_blank g t w x c
    unfolding fill_blank pick
    on_tab_lem c d e n is = rw (ne_eqb c 0x0020 d, eq-eqb c 0x0009 e, is) refl

    pub on_other : (c : ℕ) → (c ≡ 0x0020 → ⊥) → (c ≡ 0x0009 → ⊥) → (y : Fill) → y ≡ fill_other x → y ≡ fill_blank g t w x c
    unfolding fill_blank pick
    on_other c d e y is = is ∙ rw (ne_eqb c 0x0020 d, ne_eqb c 0x0009 e) refl

    module _ (c : ℕ) where
      pub by_word : leads c ≡ true → (y : Fill) → y ≡ fill_word g w x → y ≡ fill_by leads g t w x c
      unfolding fill_by
      by_word e y is = is ∙ sym (pick_true (leads c) _ _ e)

      module _ (none : leads c ≡ false) where
        pub by_break : breaks c ≡ true → empty_line (x.lines + 1) ≡ fill_by leads g t w x c
        unfolding fill_by
        by_break e = sym (pick-false (leads c) _ _ none ∙ pick_true (breaks c) _ _ e)

        module _ (within : breaks c ≡ false) where
          pub by-blank : x.begun ≡ true → (y : Fill) → y ≡ fill_blank g t w x c → y ≡ fill_by leads g t w x c
          unfolding fill_by
          by-blank e y is = is ∙ sym (pick-false (leads c) _ _ none ∙ pick-false (breaks c) _ _ within ∙ pick_true x.begun _ _ e)

          pub by-none : x.begun ≡ false → (y : Fill) → y ≡ fill_other x → y ≡ fill_by leads g t w x c
          unfolding fill_by
          by-none e y is = is ∙ sym (pick-false (leads c) _ _ none ∙ pick-false (breaks c) _ _ within ∙ pick-false x.begun _ _ e)
