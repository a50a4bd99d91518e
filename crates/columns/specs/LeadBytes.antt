-- Bytes that begin a character of a word, whatever follows: a text's bytes, told so, fill lines no further than its characters do. Told by
-- the first byte alone, so those are left out whose sequence may be white space, U+00AD or U+200B (rule 2, Table 3-6).
-- Assumes nothing.
use Prim.Native.Nat.{ℕ, ◌+◌, ◌/◌, ◌%◌, ◌≤◌, ◌<◌}
use Rattle.std.specs.Prelude.{◌≡◌, Bool, ◌&&◌, ltb, leb, Ok}
use Rattle.std.proofs.Math.Path.{refl, sym, ap, subst}
use Rattle.std.proofs.Common.{◌∙◌, mod-lt, arith}
use Rattle.std.proofs.Math.Bool.{true, false}
use Rattle.std.proofs.lemmas.Bool.{false≢true}
use mathlib.Core.List.{List, [], ◌∷◌}
use borrow.Author.Tests.{lt-ltb, le-ltb, ne_eqb, ltb-true, ltb-false, leb-true}
use Rattle.basis.specs.Choice.{pick, pick_cases, pick_same, by_test}
use Rattle.basis.specs.Order.{by_lt}
use Rattle.basis.specs.Tables.{agree-below}
use Rattle.utf8.specs.Encoding.{trail, encode, encode_all}
use Rattle.utf8.specs.Decoding.{decode_all}
use Rattle.utf8.specs.WhiteSpace.{is_white, member, white_spaces}
use Rattle.utf8.specs.Members.{above-all, between-spaces}
use Rattle.meaning.specs.Characters.{glue, class_of, in_word}
use Rattle.meaning.specs.Checks.{check_utf8}
use Rattle.laws.specs.PartChars.{encoded}
use Rattle.widths.specs.LineParts.{breaks, other_than, others_break}
use Rattle.columns.specs.Filling.{empty_line, fill_word, fill_other, fill_blank, fill_by, fill_all, fill_append, Under, under_self, under-then, under_other, under-word, step-under}
use Rattle.columns.specs.declared.filling.Fill.{Fill}

-- U+0021 to U+007F, the sequences of U+00C0 to U+0FFF, and those from U+4000 on.
unfoldable pub leads : ℕ → Bool
leads b = pick (ltb b 0x21) false (pick (ltb b 0x80) true (pick (ltb b 0xC3) false (pick (ltb b 0xE1) true (leb 0xE4 b))))

-- ---- one character

high-letter : (c : ℕ) → 0x00AD < c → (c ≡ 0x200B → ⊥) → is_white c ≡ false → in_word c ≡ true
unfolding in_word class_of pick
high-letter c high not-it white =
    rw (
      ne_eqb c 0x000A (λ e. omega arith),
      ne_eqb c 0x000D (λ e. omega arith),
      ne_eqb c 0x0009 (λ e. omega arith),
      ne_eqb c 0x00AD (λ e. omega arith),
      ne_eqb c 0x200B not-it,
      white,
    )

-- Below U+0080 the byte is the character, and is of a word if it begins one.
low-letter : (c : ℕ) → c < 0x80 → leads c ≡ leads c && in_word c
unfolding leads in_word class_of pick is_white member white_spaces glue
low-letter = agree-below leads (λ c. leads c && in_word c) 0x80 tt

no_leads : (c : ℕ) → c < 0x80 → in_word c ≡ false → leads c ≡ false
no_leads c h e =
    by_test (leads c)
    (λ d.
    let same = low-letter c h in
    let found = rw (d, e) at same in
    absurd (false≢true (sym found)))
    (λ d. d)

-- The bytes after the first begin none.
trail-leads : (x : ℕ) → leads (trail x) ≡ false
unfolding leads pick
trail-leads x =
    let small : x % 64 < 64 = mod-lt x (omega arith) in
    rw (le-ltb (0x80 + x % 64) 0x21 (omega arith), le-ltb (0x80 + x % 64) 0x80 (omega arith), lt-ltb (0x80 + x % 64) 0xC3 (omega arith))

-- What is known of one that does and is no character by itself.
leads-says : (b : ℕ) → 0x80 ≤ b → leads b ≡ true → (0xC3 ≤ b) × (0xE1 ≤ b → 0xE4 ≤ b)
unfolding leads
leads-says b high =
    let P : Bool → Type 0 = λ x. x ≡ true → (0xC3 ≤ b) × (0xE1 ≤ b → 0xE4 ≤ b) in
    pick_cases P (ltb b 0x21) (λ _ e. absurd (false≢true e)) λ _.
    pick_cases P (ltb b 0x80) (λ q e. absurd (omega (arith, ltb-true b 0x80 q))) λ _.
    pick_cases P (ltb b 0xC3) (λ _ e. absurd (false≢true e)) λ q.
    pick_cases P (ltb b 0xE1) (λ r e. (omega (arith, ltb-false b 0xC3 q), λ x. absurd (omega (arith, ltb-true b 0xE1 r))))
    (λ r e. (omega (arith, leb-true 0xE4 b e), λ _. leb-true 0xE4 b e))

-- ---- what it fills

module _ (g t w : ℕ) where
  -- A character of a word, or another that does nothing of its own.
  abbrev either : Bool → Fill → Fill
  either b x = pick b (fill_word g w x) (fill_other x)

  -- Any other does nothing unless it is of a word.
  others_fill : (f : ℕ → Bool) (x : Fill) (c : ℕ) → (breaks c ≡ false) → (c ≡ 0x0020 → ⊥) → (c ≡ 0x0009 → ⊥)
      → fill_by f g t w x c ≡ either (f c) x
  unfolding fill_by fill_blank pick
  others_fill f x c b d e = rw (b, ne_eqb c 0x0020 d, ne_eqb c 0x0009 e) (ap (λ (z : Fill). pick (f c) (fill_word g w x) z) (pick_same x.begun (fill_other x)))

  high_fill : (f : ℕ → Bool) (x : Fill) (c : ℕ) → 0x80 ≤ c → fill_by f g t w x c ≡ either (f c) x
  unfolding breaks pick
  high_fill f x c h =
      others_fill f x c (rw (ne_eqb c 0x000A (λ e. omega arith), ne_eqb c 0x000D (λ e. omega arith)) refl) (λ e. omega arith) (λ e. omega arith)

  -- Where a test tells of fewer characters, lines are filled no further.
  fewer_fill : (a b : Bool) (x : Fill) → (a ≡ true → b ≡ true) → Under w (either a x) (either b x)
  unfolding pick
  fewer_fill true b x f = subst (λ (z : Bool). Under w (fill_word g w x) (either z x)) (sym (f refl)) (under_self w _)
  fewer_fill false true x f = under-word w g x
  fewer_fill false false x f = under_self w _

  -- Two tests that tell the same of a character.
  same_fill : (c : ℕ) → leads c ≡ in_word c → (x : Fill) → fill_by leads g t w x c ≡ fill_by in_word g t w x c
  unfolding fill_by
  same_fill c e x =
      ap (λ (b : Bool). pick b (fill_word g w x) (pick (breaks c) (empty_line (x.lines + 1)) (pick x.begun (fill_blank g t w x c) (fill_other x)))) e

  -- What a sequence fills, and its character.
  abbrev Once : (bytes : List ℕ) → (c : ℕ) → Type 0
  Once bs c = (x : Fill) → Under w (fill_all leads g t w x bs) (fill_by in_word g t w x c)

  -- Below U+0080: as the byte, or no further.
  one_byte : (c : ℕ) → c < 0x80 → Once (c ∷ []) c
  unfolding fill_all fill_by in_word class_of is_white member white_spaces glue pick
  one_byte c h x =
      by_test (in_word c)
      (λ e.
      let free = others_break in_word refl refl c e in
      let space = other_than in_word c 0x0020 e refl in
      let tab = other_than in_word c 0x0009 e refl in
      subst (λ (z : Fill). Under w z (fill_by in_word g t w x c)) (sym (others_fill leads x c free space tab))
      (subst (Under w (either (leads c) x)) (sym (others_fill in_word x c free space tab)) (fewer_fill (leads c) (in_word c) x (λ _. e))))
      (λ e. subst (Under w (fill_by leads g t w x c)) (same_fill c (no_leads c h e ∙ sym e) x) (under_self w _))

  -- The bytes after the first fill nothing.
  trail_fill : (y : ℕ) (x : Fill) → fill_by leads g t w x (trail y) ≡ fill_other x
  unfolding pick
  trail_fill y x = high_fill leads x (trail y) (omega arith) ∙ rw (trail-leads y) refl

  abbrev Still : List ℕ → Type 0
  Still bs = (x : Fill) → Under w (fill_all leads g t w x bs) x

  no_more : Still []
  unfolding fill_all
  no_more x = under_self w x

  trail_more : (y : ℕ) (rest : List ℕ) → Still rest → Still (trail y ∷ rest)
  unfolding fill_all
  trail_more y rest still x =
      subst (λ (z : Fill). Under w (fill_all leads g t w z rest) x) (sym (trail_fill y x))
      (under-then w _ (fill_other x) x (still (fill_other x)) (under_other w x))

  -- A sequence fills by its first byte.
  once : (b : ℕ) (rest : List ℕ) (c : ℕ) → 0x80 ≤ b → 0x80 ≤ c → Still rest → (leads b ≡ true → in_word c ≡ true) → Once (b ∷ rest) c
  unfolding fill_all
  once b rest c high far still f x =
      under-then w _ (fill_by leads g t w x b) _ (still (fill_by leads g t w x b))
      (subst (λ (z : Fill). Under w z (fill_by in_word g t w x c)) (sym (high_fill leads x b high))
      (subst (Under w (either (leads b) x)) (sym (high_fill in_word x c far)) (fewer_fill (leads b) (in_word c) x f)))

  two_bytes : (c : ℕ) → 0x80 ≤ c → c < 0x800 → Once ((0xC0 + c / 64) ∷ trail c ∷ []) c
  two_bytes c from below =
      once (0xC0 + c / 64) _ c (omega arith) from (trail_more c [] no_more)
      (λ e.
      let f = leads-says (0xC0 + c / 64) (omega arith) e in
      high-letter c (omega (arith, f.0)) (λ is. omega arith) (between-spaces c (omega (arith, f.0)) (omega arith)))

  three-bytes : (c : ℕ) → 0x800 ≤ c → c < 0x10000 → Once ((0xE0 + c / 4096) ∷ trail (c / 64) ∷ trail c ∷ []) c
  three-bytes c from below =
      once (0xE0 + c / 4096) _ c (omega arith) (omega arith) (trail_more (c / 64) _ (trail_more c [] no_more))
      (λ e.
      let f = leads-says (0xE0 + c / 4096) (omega arith) e in
      by_lt c 0x1000 (λ low. high-letter c (omega arith) (λ is. omega arith) (between-spaces c (omega arith) (omega arith)))
      (λ high.
      let far : 0xE4 ≤ 0xE0 + c / 4096 = f.1 (omega arith) in
      high-letter c (omega arith) (λ is. omega arith) (above-all c (omega arith))))

  four_bytes : (c : ℕ) → 0x10000 ≤ c → Once ((0xF0 + c / 262144) ∷ trail (c / 4096) ∷ trail (c / 64) ∷ trail c ∷ []) c
  four_bytes c from =
      once (0xF0 + c / 262144) _ c (omega arith) (omega arith) (trail_more (c / 4096) _ (trail_more (c / 64) _ (trail_more c [] no_more)))
      (λ _. high-letter c (omega arith) (λ is. omega arith) (above-all c (omega arith)))

  char_fill : (c : ℕ) → Once (encode c) c
  unfolding encode
  char_fill c =
      let P : List ℕ → Type 0 = λ bs. Once bs c in
      pick_cases P (ltb c 0x80) (λ e. one_byte c (ltb-true c 0x80 e)) λ a.
      pick_cases P (ltb c 0x800) (λ e. two_bytes c (ltb-false c 0x80 a) (ltb-true c 0x800 e)) λ d.
      pick_cases P (ltb c 0x10000) (λ e. three-bytes c (ltb-false c 0x800 d) (ltb-true c 0x10000 e)) (λ e. four_bytes c (ltb-false c 0x10000 e))

  -- ---- a text

  module _ (some : 1 ≤ g) where
    encoded_fill : (cs : List ℕ) (x y : Fill) → Under w x y → Under w (fill_all leads g t w x (encode_all cs)) (fill_all in_word g t w y cs)
    unfolding encode_all fill_all
    encoded_fill [] x y u = u
    encoded_fill (c ∷ cs) x y u =
        subst (λ (z : Fill). Under w z (fill_all in_word g t w (fill_by in_word g t w y c) cs)) (sym (fill_append leads g t w x (encode c) (encode_all cs)))
        (encoded_fill cs _ _ (under-then w _ _ _ (char_fill c x) (step-under g t some w w (omega arith) in_word c x y u)))

    pub leads_fill : (bytes : List ℕ) → check_utf8 bytes ≡ Ok tt
        → (fill_all leads g t w (empty_line 0) bytes).lines ≤ (fill_all in_word g t w (empty_line 0) (decode_all bytes)).lines
    leads_fill bytes good =
        subst (λ (bs : List ℕ). (fill_all leads g t w (empty_line 0) bs).lines ≤ (fill_all in_word g t w (empty_line 0) (decode_all bytes)).lines) (encoded bytes good)
        (encoded_fill (decode_all bytes) (empty_line 0) (empty_line 0) (under_self w (empty_line 0))).lines
