-- Words of ASCII and a single space before one, as they are read.
-- Assumes nothing.
use Rattle.std.specs.Prelude.{◌≡◌, refl, true, List, ℕ, ◌+◌, ◌-◌, Some}
use Rattle.std.proofs.Math.Path.{sym, ap}
use Rattle.std.proofs.Common.{◌∙◌, arith}
use Rattle.meaning.specs.Tokens.{tokens}
use Rattle.meaning.specs.declared.tokens.TokenKind.TheVariants.{Word}
use Rattle.parser.specs.Lexing.{chars_from, lexed_at}
use Rattle.parser.specs.Scanning.{scanned_at, word_of, blank_of}
use Rattle.parser.specs.Ascii.{plain_at, space_at}
use Rattle.pairs.specs.Pairs.{one_space, PairAt}
use Rattle.pairs.specs.PlainWords.{PlainWord, Stride}
use Rattle.parser.specs.LetterLaws.{letter-plain, run-stops, ends-ender}
use Rattle.parser.specs.LexerLaws.{letter-lexed, space-lexed}
use Rattle.parser.specs.declared.lexeme.Lexeme.{Lexeme}

abbrev pub plain_word : (from end : ℕ) → Lexeme
plain_word from end =
    record {
      kind = Word;
      end = record { 0 = end };
      chars = record { 0 = end - from };
      count = record { 0 = 0 };
      glues = record { 0 = 0 };
      reach = record { 0 = end + 1 };
    }

module _ (t : List ℕ) (at : ℕ) where
  pub plain-read : (end : ℕ) → PlainWord t at end → lexed_at at (tokens (chars_from t at)) ≡ Some (plain_word at end)
  unfolding word_of scanned_at
  plain-read end w =
      let n : 1 + (end - (at + 1)) ≡ end - at = omega (arith, w.letters.forward) in
      sym (letter-lexed t at 1 (letter-plain t at w.first))
      ∙ ap (λ s. Some (word_of s)) (w.letters.scans 1 0 ∙ (ends-ender t end w.ends).scans (1 + (end - (at + 1))) 0)
      ∙ ap (λ (k : ℕ). Some (word_of (scanned_at end k 0 1))) n

  space-read : space_at t at ≡ true → plain_at t (at + 1) ≡ true → lexed_at at (tokens (chars_from t at)) ≡ Some (one_space (at + 1) (at + 1 + 1))
  unfolding blank_of scanned_at
  space-read e f =
      sym (space-lexed t at e) ∙ ap (λ s. Some (blank_of s)) (run-stops t (at + 1) 1 0 (letter-plain t (at + 1) f) 1 1)

pub plain-pair : (t : List ℕ) (at end : ℕ) → Stride t at end → PairAt t at (at + 1) (at + 1 + 1) (plain_word (at + 1) end)
plain-pair t at end w =
    record {
      space = space-read t at w.space w.word.first;
      word = plain-read t (at + 1) end w.word;
      kind = refl;
      farther = omega (arith, w.word.letters.forward);
    }
