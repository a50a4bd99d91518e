-- One space and the word behind it, from the space, the word's first letter and what is scanned after it.
-- Assumes nothing.
use Rattle.std.specs.Prelude.{◌≡◌, refl, true, ◌&&◌, List, ℕ, ◌+◌, ◌≤◌, eqb, length, get_or, Some}
use Rattle.std.proofs.Math.Path.{sym, ap}
use Rattle.std.proofs.Common.{◌∙◌, inl, arith, eqb-true}
use Rattle.basis.specs.Choice.{pick, and_true}
use Rattle.utf8.specs.Decoding.{value3, decode_at}
use Rattle.utf8.specs.Rows.{Three}
use Rattle.utf8.specs.Long.{decode_three}
use Rattle.utf8.specs.WhiteSpace.{white_spaces, member, is_white}
use Rattle.utf8.specs.declared.sequence.Decoded.TheVariants.{Char}
use Rattle.meaning.specs.Characters.{glue, class_of, in_word}
use Rattle.parser.specs.Lexing.{chars_from}
use Rattle.parser.specs.Scanning.{glue_of, scanned_at, scan_from, word_of, blank_of}
use Rattle.parser.specs.Ascii.{space_at, space-char}
use Rattle.parser.specs.Letters.{Letter}
use Rattle.pairs.specs.Pairs.{long_space, Blank, PairAt}
use Rattle.parser.specs.declared.scan.Scanned.{Scanned}
use Rattle.parser.specs.ScanLaws.{scan_stop, char-room}
use Rattle.parser.specs.LetterLaws.{run-stops}
use Rattle.parser.specs.RunLaws.{scan_is}
use Rattle.parser.specs.LexerLaws.{Left, space-left, letter-lexed, blank-lexed}

blank-char : (t : List ℕ) (at c n : ℕ) → decode_at t at ≡ Char c n → Left c → Blank t at n
blank-char t at c n d l =
    let r = char-room t at c n d in
    record {
      inside = r.2;
      ends = record { few = r.1; scans = λ k w. scan_stop in_word glue_of t at k w c n d l.word };
      lexed = sym (blank-lexed t at c n d l);
    }

pub blank-space : (t : List ℕ) (at : ℕ) → space_at t at ≡ true → Blank t at 1
blank-space t at e = blank-char t at 0x20 1 (space-char t at e) space-left

-- That of three bytes.
broad_left : Left 0x3000
unfolding in_word class_of glue is_white member white_spaces pick
broad_left =
    record { word = refl; lf = λ q. omega arith; cr = λ q. omega arith; ht = λ q. omega arith; shy = λ q. omega arith; zwsp = λ q. omega arith }

module _ (t : List ℕ) (at : ℕ) (h : at + 3 ≤ length t) where
  abbrev A : ℕ
  A = get_or t at 0

  abbrev B : ℕ
  B = get_or t (at + 1) 0

  abbrev C : ℕ
  C = get_or t (at + 2) 0

  pub blank-long : long_space A B C ≡ true → Blank t at 3
  blank-long e =
      let f = and_true (eqb A 0xE3 && eqb B 0x80) (eqb C 0x80) e in
      let g = and_true (eqb A 0xE3) (eqb B 0x80) f.0 in
      let a = eqb-true A 0xE3 g.0 in
      let b = eqb-true B 0x80 g.1 in
      let c = eqb-true C 0x80 f.1 in
      let x : Three A B C
      = record { lead = omega arith; second = omega arith; third = omega arith; long = omega arith; scalar = inl (omega arith) } in
      let v : value3 A B C ≡ 0x3000 = omega arith in
      blank-char t at 0x3000 3 (decode_three t at h x ∙ ap (λ (k : ℕ). Char k 3) v) broad_left

module _ (t : List ℕ) (at n k : ℕ) (b : Blank t at n) (l : Letter t (at + n) k) where
  abbrev next : ℕ
  next = at + n + k

  scanned_far : next ≤ (scan_from in_word glue_of next 1 0 (chars_from t next)).reach.0
  unfolding scanned_at
  scanned_far = rw (scan_is in_word glue_of next 1 0 (chars_from t next)) (omega arith)

  pub pair_is : (x : Scanned) → x ≡ scan_from in_word glue_of next 1 0 (chars_from t next) → PairAt t at (at + n) next (word_of x)
  unfolding word_of blank_of scanned_at
  pair_is x e =
      record {
        space = b.lexed ∙ ap (λ s. Some (blank_of s)) (run-stops t (at + n) k 0 l 1 1);
        word = sym (letter-lexed t (at + n) k l) ∙ ap (λ s. Some (word_of s)) (sym e);
        kind = refl;
        farther = rw e scanned_far;
      }
