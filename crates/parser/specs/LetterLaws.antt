-- The characters of a word, told by their bytes: ASCII, letters of two and three bytes, and what glues; and what ends it.
-- Assumes nothing.
use Rattle.std.specs.Prelude.{◌≡◌, Bool, true, false, ◌&&◌, ◌||◌, List, ℕ, ◌+◌, ◌-◌, ◌≤◌, ◌<◌, ltb, length}
use Rattle.std.proofs.Math.Path.{refl}
use Rattle.std.proofs.Common.{ap, subst, ◌∙◌}
use Rattle.std.proofs.Math.Logic.{inl}
use native.Mathlib.Omega.{arith}
use borrow.Author.Tests.{lt-ltb, ltb-true, ltb-false, eqb-true}
use Rattle.std.proofs.Math.Dec.{eqb}
use Rattle.std.proofs.Math.ListN.{get_or}
use Rattle.basis.specs.Choice.{pick, pick_cases, and_true, by-either}
use Rattle.utf8.specs.Decoding.{value2, value3, decode_at}
use Rattle.utf8.specs.Rows.{Three}
use Rattle.utf8.specs.Ascii.{decode_ascii}
use Rattle.utf8.specs.Long.{Long, decode_two, decode_three}
use Rattle.utf8.specs.declared.sequence.Decoded.TheVariants.{Char}
use Rattle.meaning.specs.Characters.{glue, in_word, in_run}
use Rattle.parser.specs.Lexing.{chars_from}
use Rattle.parser.specs.Scanning.{glue_of, space_of, scanned_at, scan_from}
use Rattle.parser.specs.Ascii.{plain, plain_at, space_at, is_ender, ender_at, plain_range, plain_byte, space-char}
use Rattle.parser.specs.Letters.{long_glue, Spells, Letter, Glues, GoesOn, Lettered, Ends}
use Rattle.parser.specs.GlueLaws.{glue-word, low-glue, black-glue, glue-some, glue-none, glue-one}
use Rattle.parser.specs.CharacterLaws.{word_no_run, ascii_word_lem, ascii_run_lem, high_word}
use Rattle.parser.specs.ScanLaws.{scan_more, scan_stop, scan_past, char-room}

-- ---- one character

module _ (t : List ℕ) (at : ℕ) where
  letter-byte : at < length t → plain (get_or t at 0) ≡ true → Letter t at 1
  unfolding pick
  letter-byte h e =
      let b = get_or t at 0 in
      let r = plain_range b e in
      record {
        char = b;
        is = decode_ascii t at h r.1;
        word = ascii_word_lem b r.1 ∙ rw (lt-ltb 0x20 b r.0);
        glue = glue-none b (low-glue b r.1);
      }

  pub letter-plain : plain_at t at ≡ true → Letter t at 1
  letter-plain e = let h = plain_byte t at e in letter-byte h.0 h.1

  pub letter-long : (n : ℕ) → Long t at n → Letter t at n
  letter-long n x =
      let c = x.char in
      let b = x.black in
      let h = b.high in
      let g = black-glue c b.solid in
      record { char = c; is = x.is; word = high_word c (omega arith) b.shown g b.hard ∙ rw b.solid; glue = glue-none c g }

  glues-char : (c n : ℕ) → decode_at t at ≡ Char c n → glue c ≡ true → Glues t at n
  glues-char c n d g = record { char = c; is = d; word = (glue-word c g).0; glue = glue-some c g }

  -- The bytes C2 A0, which are U+00A0.
  pub glues-here : at + 2 ≤ length t → get_or t at 0 ≡ 0xC2 → get_or t (at + 1) 0 ≡ 0xA0 → Glues t at 2
  unfolding glue
  glues-here h p q =
      glues-char 0x00A0 2 (decode_two t at h (record { lead = omega arith; second = omega arith }) ∙ (λ i. Char (value2 (p i) (q i)) 2)) refl

  -- Three bytes: E2 80 87, which are U+2007, and E2 80 AF, which are U+202F.
  module _ (h : at + 3 ≤ length t) where
    abbrev A : ℕ
    A = get_or t at 0

    abbrev B : ℕ
    B = get_or t (at + 1) 0

    abbrev C : ℕ
    C = get_or t (at + 2) 0

    glues-three : (c : ℕ) → Three A B C → value3 A B C ≡ c → glue c ≡ true → Glues t at 3
    glues-three c x v = glues-char c 3 (decode_three t at h x ∙ ap (λ (k : ℕ). Char k 3) v)

    pub glues-long : long_glue A B C ≡ true → Glues t at 3
    unfolding glue
    glues-long e =
        let f = and_true (eqb A 0xE2 && eqb B 0x80) (eqb C 0x87 || eqb C 0xAF) e in
        let g = and_true (eqb A 0xE2) (eqb B 0x80) f.0 in
        let a = eqb-true A 0xE2 g.0 in
        let b = eqb-true B 0x80 g.1 in
        by-either (eqb C 0x87) (eqb C 0xAF) f.1
        (λ p.
        let c = eqb-true C 0x87 p in
        glues-three 0x2007 (record { lead = omega arith; second = omega arith; third = omega arith; long = omega arith; scalar = inl (omega arith) }) (omega arith) refl)
        (λ p.
        let c = eqb-true C 0xAF p in
        glues-three 0x202F (record { lead = omega arith; second = omega arith; third = omega arith; long = omega arith; scalar = inl (omega arith) }) (omega arith) refl)

  pub spells-room : (n g : ℕ) → Spells t at n g → (1 ≤ n) × (n ≤ 4) × (at + n ≤ length t)
  spells-room n g x = char-room t at x.char n x.is

  -- It ends a space run.
  pub run-stops : (n g : ℕ) → Spells t at n g → (chars count : ℕ) → scan_from in_run space_of at chars count (chars_from t at) ≡ scanned_at at chars count n
  run-stops n g x chars count = scan_stop in_run space_of t at chars count x.char n x.is (word_no_run x.char x.word)

  -- A space goes on with one.
  pub space-goes : space_at t at ≡ true → (n w : ℕ) → scan_from in_run space_of at n w (chars_from t at) ≡ scan_from in_run space_of (at + 1) (n + 1) (w + 1) (chars_from t (at + 1))
  unfolding space_of pick
  space-goes e n w = scan_more in_run space_of t at n w 0x20 1 (space-char t at e) (ascii_run_lem 0x20 (omega arith))

-- ---- one after the other

module _ (t : List ℕ) (from : ℕ) where
  pub goes_none : from ≤ length t → GoesOn t from from 0 0
  goes_none h =
      record {
        forward = omega arith;
        inside = h;
        fewer = omega arith;
        scans = λ n w.
            let a : n ≡ n + 0 = omega arith in
            let b : w ≡ w + 0 = omega arith in
            λ i. scan_from in_word glue_of from (a i) (b i) (chars_from t from);
      }

  module _ (to chars glues : ℕ) (l : GoesOn t from to chars glues) where
    -- What goes on behind it.
    pub goes_on_lem : (next more glued : ℕ) → GoesOn t to next more glued → GoesOn t from next (chars + more) (glues + glued)
    goes_on_lem next more glued x =
        record {
          forward = omega (arith, l.forward, x.forward);
          inside = x.inside;
          fewer = omega (arith, l.fewer, x.fewer);
          scans = λ n w.
              let a : n + chars + more ≡ n + (chars + more) = omega arith in
              let b : w + glues + glued ≡ w + (glues + glued) = omega arith in
              l.scans n w ∙ x.scans (n + chars) (w + glues) ∙ (λ i. scan_from in_word glue_of next (a i) (b i) (chars_from t next));
        }

    -- One character more.
    pub goes-more : (n g : ℕ) → Spells t to n g → GoesOn t from (to + n) (chars + 1) (glues + g)
    goes-more n g x =
        let r = spells-room t to n g x in
        goes_on_lem (to + n) 1 g
        (record {
          forward = omega arith;
          inside = r.2;
          fewer = omega (arith, x.glue, glue-one x.char);
          scans = λ m w.
              scan_more in_word glue_of t to m w x.char n x.is x.word
              ∙ ap (λ (k : ℕ). scan_from in_word glue_of (to + n) (m + 1) (w + k) (chars_from t (to + n))) x.glue;
        })

    pub goes-letter : (n : ℕ) → Letter t to n → GoesOn t from (to + n) (chars + 1) glues
    goes-letter n x = let z : glues + 0 ≡ glues = omega arith in subst (GoesOn t from (to + n) (chars + 1)) z (goes-more n 0 x)

  -- Of one byte each.
  pub lettered_none : from ≤ length t → Lettered t from from
  lettered_none h = let z : 0 ≡ from - from = omega arith in subst (λ (k : ℕ). GoesOn t from from k 0) z (goes_none h)

  pub lettered_more : (to : ℕ) → Lettered t from to → to < length t → plain (get_or t to 0) ≡ true → Lettered t from (to + 1)
  lettered_more to l h e =
      let z : to - from + 1 ≡ to + 1 - from = omega (arith, l.forward) in
      subst (λ (k : ℕ). GoesOn t from (to + 1) k 0) z (goes-letter to (to - from) 0 l 1 (letter-byte t to h e))

-- ---- what ends a word

ender_ascii : (b : ℕ) → is_ender b ≡ true → (b < 0x80) × (in_word b ≡ false)
unfolding pick
ender_ascii b e =
    by-either (eqb b 0x20) (eqb b 0x0A) e
    (λ p. let q = eqb-true b 0x20 p in rw q (omega arith, ascii_word_lem 0x20 (omega arith)))
    (λ p. let q = eqb-true b 0x0A p in rw q (omega arith, ascii_word_lem 0x0A (omega arith)))

pub ends-ender : (t : List ℕ) (at : ℕ) → ender_at t at ≡ true → Ends t at 1
unfolding ender_at
ends-ender t at =
    pick_cases (λ (b : Bool). b ≡ true → Ends t at 1) (ltb at (length t))
    (λ h e.
    let b = get_or t at 0 in
    let f = ender_ascii b e in
    record { few = omega arith; scans = λ n w. scan_stop in_word glue_of t at n w b 1 (decode_ascii t at (ltb-true at (length t) h) f.0) f.1 })
    (λ h _. record { few = omega arith; scans = λ n w. scan_past in_word glue_of t at n w (ltb-false at (length t) h) })
