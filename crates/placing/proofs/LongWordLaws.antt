-- A word that was scanned, or is known, and is wider than the box.
-- Assumes nothing.
use Prim.Native.Nat.{ℕ, ◌+◌, ◌≤◌, ◌<◌}
use Rattle.std.specs.Prelude.{Some}
use mathlib.Core.Path.{◌≡◌, refl, sym, ap, ◌∙◌}
use mathlib.Core.List.{List}
use Rattle.meaning.specs.Characters.{in_word}
use Rattle.meaning.specs.Tokens.{tokens}
use Rattle.meaning.specs.declared.tokens.TokenKind.TheVariants.{Word}
use Rattle.parser.specs.Letters.{Letter}
use Rattle.parser.specs.Lexing.{chars_from, lexed_at}
use Rattle.parser.specs.LexerLaws.{letter-lexed}
use Rattle.parser.specs.Scanning.{glue_of, kept_of, scan_from, word_of}
use Rattle.parser.specs.declared.lexeme.Lexeme.{Lexeme}
use Rattle.parser.specs.declared.scan.Scanned.{Scanned}
use Rattle.placing.specs.LeftWords.{LongWord}
use Rattle.placing.specs.LeftWordLaws.{left_word}

module _ (t : List ℕ) (at most : ℕ) (some : 1 ≤ most) where
  pub long-known : (x : Lexeme) → lexed_at at (tokens (chars_from t at)) ≡ Some x → x.kind ≡ Word → (w : Scanned) → w ≡ kept_of x → most < w.chars.0
      → LongWord t at most w
  long-known x read kind w e long = record { some = some; long = long; left = rw e (left_word t at x kind read) }

  pub long_scanned : (n : ℕ) → Letter t at n → (w : Scanned) → w ≡ scan_from in_word glue_of (at + n) 1 0 (chars_from t (at + n)) → most < w.chars.0
      → LongWord t at most w
  unfolding word_of
  long_scanned n l w e long =
      let read : lexed_at at (tokens (chars_from t at)) ≡ Some (word_of w) = sym (letter-lexed t at n l) ∙ ap (λ (s : Scanned). Some (word_of s)) (sym e) in
      record { some = some; long = long; left = left_word t at (word_of w) refl read }
