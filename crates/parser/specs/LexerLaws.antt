-- The token that a character starts, by what was tested of it and what was scanned after it.
-- Assumes nothing.
use Rattle.std.specs.Prelude.{◌≡◌, true, false, List, [], ◌∷◌, None, Some}
use Rattle.std.proofs.Math.Path.{refl, ap}
use Rattle.std.proofs.Common.{sym, ◌∙◌, ne_eqb}
use Rattle.std.proofs.lemmas.Bool.{false≢true}
use Prim.Native.Nat.{ℕ, suc, ◌+◌}
use native.Mathlib.Omega.{arith}
use Rattle.std.proofs.Math.ListN.{length}
use Rattle.basis.specs.Choice.{pick}
use Rattle.utf8.specs.Encoding.{bytes, size}
use Rattle.utf8.specs.Decoding.{decode_at}
use Rattle.utf8.specs.Walk.{is_char, decode_at-bytes}
use Rattle.utf8.specs.declared.sequence.Decoded.TheVariants.{Char}
use Rattle.meaning.specs.Characters.{Class, lf, cr, ht, shy, zwsp, blank, letter, class_of, word_class, in_word, in_run}
use Rattle.meaning.specs.Tokens.{Tok, newLine, carriageReturn, tab, softHyphen, space, run, after, ender, counted, first, tokens, chars_of, size_of, ender_of, need_of, kind_of, count_of}
use Rattle.meaning.specs.declared.tokens.TokenKind.TheVariants.{NewLine, CarriageReturn, Tab, Whitespace, Word, Break}
use Rattle.laws.specs.Classes.{Classed, classed}
use Rattle.laws.specs.TokenLaws.{tokens-step, tokens_none}
use Rattle.parser.specs.Lexing.{chars_from, glues_of, lexeme_at, lexed_at}
use Rattle.parser.specs.Scanning.{glue_of, space_of, scanned_at, scan_from, alone_at, word_of, blank_of}
use Rattle.parser.specs.declared.lexeme.Lexeme.{Lexeme}
use Rattle.parser.specs.Ascii.{space_at, feed_at, space-char, feed_char}
use Rattle.parser.specs.Letters.{Letter}
use Rattle.parser.specs.CharacterLaws.{letter_of, ascii_word_lem}
use Rattle.parser.specs.ScanLaws.{chars-more, chars-none}
use Rattle.parser.specs.RunLaws.{weights, weights-glues, weights-counted, scan_is}

-- ---- classes

-- None of the tests that come before a space run's holds of a character.
pub record Left (c : ℕ) : Type 0 where
  pub word : in_word c ≡ false
  pub lf : c ≡ 0x000A → ⊥
  pub cr : c ≡ 0x000D → ⊥
  pub ht : c ≡ 0x0009 → ⊥
  pub shy : c ≡ 0x00AD → ⊥
  pub zwsp : c ≡ 0x200B → ⊥

pub space-left : Left 0x20
unfolding pick
space-left =
    record {
      word = ascii_word_lem 0x20 (omega arith);
      lf = λ q. omega arith;
      cr = λ q. omega arith;
      ht = λ q. omega arith;
      shy = λ q. omega arith;
      zwsp = λ q. omega arith;
    }

blank_of_lem : (c : ℕ) → Left c → (k : Class) → word_class k ≡ false → Classed k c → k ≡ blank
blank_of_lem c l blank e h = refl
blank_of_lem c l letter e h = absurd (false≢true (sym e))
blank_of_lem c l lf e h = absurd (l.lf h)
blank_of_lem c l cr e h = absurd (l.cr h)
blank_of_lem c l ht e h = absurd (l.ht h)
blank_of_lem c l shy e h = absurd (l.shy h)
blank_of_lem c l zwsp e h = absurd (l.zwsp h)

-- ---- tokens of one character

-- A token of one character: nothing is counted, and nothing has to end it.
record Alone (t : Tok) : Type 0 where
  chars : chars_of t ≡ 1
  count : count_of t ≡ 0
  glues : glues_of t ≡ 0
  ender : ender_of t ≡ 0

alone_is : (at end : ℕ) (t : Tok) → Alone t → end ≡ at + size_of t → alone_at (kind_of t) end ≡ lexeme_at at t
unfolding alone_at lexeme_at need_of
alone_is at end t a e =
    let r : end ≡ at + (size_of t + ender_of t) = omega (arith, a.ender) in
    λ i. record {
      kind = kind_of t;
      end = record { 0 = e i };
      chars = record { 0 = sym a.chars i };
      count = record { 0 = sym a.count i };
      glues = record { 0 = sym a.glues i };
      reach = record { 0 = r i };
    }

module _ (at n c : ℕ) (cs : List ℕ) (b : n ≡ bytes c) where
  -- The character starts this token, and has as many bytes.
  one : (t : Tok) → Alone t → first (class_of c) c cs ≡ t → bytes c ≡ size_of t → alone_at (kind_of t) (at + n) ≡ lexeme_at at (first (class_of c) c cs)
  one t a f s = alone_is at (at + n) t a (omega (arith, b, s)) ∙ ap (lexeme_at at) (sym f)

  pub new_line : c ≡ 0x000A → alone_at NewLine (at + n) ≡ lexeme_at at (first (class_of c) c cs)
  unfolding first class_of bytes chars_of size_of ender_of pick
  new_line e = one newLine (record { chars = refl; count = refl; glues = refl; ender = refl }) (rw e) (rw e)

  pub carriage_return : c ≡ 0x000D → alone_at CarriageReturn (at + n) ≡ lexeme_at at (first (class_of c) c cs)
  unfolding first class_of bytes chars_of size_of ender_of pick
  carriage_return e = one carriageReturn (record { chars = refl; count = refl; glues = refl; ender = refl }) (rw e) (rw e)

  pub tabulator : c ≡ 0x0009 → alone_at Tab (at + n) ≡ lexeme_at at (first (class_of c) c cs)
  unfolding first class_of bytes chars_of size_of ender_of pick
  tabulator e = one tab (record { chars = refl; count = refl; glues = refl; ender = refl }) (rw e) (rw e)

  pub soft_hyphen : c ≡ 0x00AD → alone_at Break (at + n) ≡ lexeme_at at (first (class_of c) c cs)
  unfolding first class_of bytes chars_of size_of ender_of pick
  soft_hyphen e = one softHyphen (record { chars = refl; count = refl; glues = refl; ender = refl }) (rw e) (rw e)

  pub zero-width : c ≡ 0x200B → alone_at Whitespace (at + n) ≡ lexeme_at at (first (class_of c) c cs)
  unfolding first class_of bytes chars_of size_of ender_of size pick
  zero-width e = one (space (0x200B ∷ []) 0 0) (record { chars = refl; count = refl; glues = refl; ender = refl }) (rw e) (rw e)

  -- ---- words and space runs

  pub word-is : in_word c ≡ true → word_of (scan_from in_word glue_of (at + n) 1 (glue_of c) cs) ≡ lexeme_at at (first (class_of c) c cs)
  unfolding word_of scanned_at lexeme_at first in_word chars_of size_of ender_of need_of size weights
  word-is e =
      let ws = run in_word cs in
      let w = weights-glues (c ∷ ws) in
      let p : at + n + size ws ≡ at + (bytes c + size ws) = omega arith in
      let q : 1 + length ws ≡ suc (length ws) = omega arith in
      let r : at + n + size ws + ender (after in_word cs) ≡ at + (bytes c + size ws + ender (after in_word cs)) = omega arith in
      ap word_of (scan_is in_word glue_of (at + n) 1 (glue_of c) cs)
      ∙ (λ i. record {
        kind = Word;
        end = record { 0 = p i };
        chars = record { 0 = q i };
        count = record { 0 = 0 };
        glues = record { 0 = w i };
        reach = record { 0 = r i };
      })
      ∙ ap (λ (k : Class). lexeme_at at (first k c cs)) (sym (letter_of (class_of c) e))

  pub blank-is : Left c → blank_of (scan_from in_run space_of (at + n) 1 1 cs) ≡ lexeme_at at (first (class_of c) c cs)
  unfolding blank_of scanned_at lexeme_at first in_word chars_of size_of ender_of need_of size weights space_of pick
  blank-is l =
      let ws = run in_run cs in
      let w : 1 + weights space_of ws ≡ counted (c ∷ ws) = rw (ne_eqb c 0x200B l.zwsp) at (weights-counted (c ∷ ws)) in
      let p : at + n + size ws ≡ at + (bytes c + size ws) = omega arith in
      let q : 1 + length ws ≡ suc (length ws) = omega arith in
      let r : at + n + size ws + ender (after in_run cs) ≡ at + (bytes c + size ws + ender (after in_run cs)) = omega arith in
      ap blank_of (scan_is in_run space_of (at + n) 1 1 cs)
      ∙ (λ i. record {
        kind = Whitespace;
        end = record { 0 = p i };
        chars = record { 0 = q i };
        count = record { 0 = w i };
        glues = record { 0 = 0 };
        reach = record { 0 = r i };
      })
      ∙ ap (λ (k : Class). lexeme_at at (first k c cs)) (sym (blank_of_lem c l (class_of c) l.word (classed c)))

-- ---- at a position of a text

pub lexed-char : (t : List ℕ) (at c n : ℕ) → decode_at t at ≡ Char c n → (l : Lexeme) → l ≡ lexeme_at at (first (class_of c) c (chars_from t (at + n)))
    → Some l ≡ lexed_at at (tokens (chars_from t at))
unfolding lexed_at
lexed-char t at c n e l q = rw (chars-more t at c n e, tokens-step c (chars_from t (at + n))) (ap Some q)

pub lexed-none : (t : List ℕ) (at : ℕ) → is_char (decode_at t at) ≡ false → None ≡ lexed_at at (tokens (chars_from t at))
unfolding lexed_at
lexed-none t at e = rw (chars-none t at e, tokens_none)

-- The same where a letter is told, white space that counts as a space, and a line feed.
module _ (t : List ℕ) (at : ℕ) where
  pub letter-lexed : (n : ℕ) → Letter t at n
      → Some (word_of (scan_from in_word glue_of (at + n) 1 0 (chars_from t (at + n)))) ≡ lexed_at at (tokens (chars_from t at))
  letter-lexed n x =
      let c = x.char in
      let cs = chars_from t (at + n) in
      lexed-char t at c n x.is _
      (ap (λ (g : ℕ). word_of (scan_from in_word glue_of (at + n) 1 g cs)) (sym x.glue) ∙ word-is at n c cs (decode_at-bytes t at c n x.is) x.word)

  pub blank-lexed : (c n : ℕ) → decode_at t at ≡ Char c n → Left c
      → Some (blank_of (scan_from in_run space_of (at + n) 1 1 (chars_from t (at + n)))) ≡ lexed_at at (tokens (chars_from t at))
  blank-lexed c n d l = lexed-char t at c n d _ (blank-is at n c (chars_from t (at + n)) (decode_at-bytes t at c n d) l)

  pub space-lexed : space_at t at ≡ true → Some (blank_of (scan_from in_run space_of (at + 1) 1 1 (chars_from t (at + 1)))) ≡ lexed_at at (tokens (chars_from t at))
  space-lexed e = blank-lexed 0x20 1 (space-char t at e) space-left

  pub feed_lexed : feed_at t at ≡ true → Some (alone_at NewLine (at + 1)) ≡ lexed_at at (tokens (chars_from t at))
  feed_lexed e =
      let d = feed_char t at e in
      lexed-char t at 0x0A 1 d _ (new_line at 1 0x0A (chars_from t (at + 1)) (decode_at-bytes t at 0x0A 1 d) refl)
