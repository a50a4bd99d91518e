-- One space and the word behind it, as they are read.
-- Assumes nothing.
use Rattle.std.specs.Prelude.{ℕ, ◌+◌, ◌≤◌, ◌≡◌, Bool, ◌&&◌, List, eqb, length, Some}
use Rattle.meaning.specs.Characters.{in_run}
use Rattle.meaning.specs.Tokens.{tokens}
use Rattle.meaning.specs.declared.tokens.TokenKind.TheVariants.{Whitespace, Word}
use Rattle.parser.specs.Lexing.{chars_from, lexed_at}
use Rattle.parser.specs.Scanning.{space_of, scan_from, blank_of}
use Rattle.parser.specs.Letters.{Ends}
use Rattle.parser.specs.declared.lexeme.Lexeme.{Lexeme}

-- One space by itself.
abbrev pub one_space : (end reach : ℕ) → Lexeme
one_space end reach =
    record {
      kind = Whitespace;
      end = record { 0 = end };
      chars = record { 0 = 1 };
      count = record { 0 = 1 };
      glues = record { 0 = 0 };
      reach = record { 0 = reach };
    }

-- The bytes of U+3000.
abbrev pub long_space : ℕ → ℕ → ℕ → Bool
long_space a b c = eqb a 0xE3 && eqb b 0x80 && eqb c 0x80

-- White space of so many bytes that counts as a space stands at a position: a word ends before it, and a space run starts with it.
pub record Blank (t : List ℕ) (at n : ℕ) : Type 0 where
  pub inside : at + n ≤ length t
  pub ends : Ends t at n
  pub lexed : lexed_at at (tokens (chars_from t at)) ≡ Some (blank_of (scan_from in_run space_of (at + n) 1 1 (chars_from t (at + n))))

-- One space stands at a position, which was looked at so far, and the word x behind it.
pub record PairAt (t : List ℕ) (at from looked : ℕ) (x : Lexeme) : Type 0 where
  pub space : lexed_at at (tokens (chars_from t at)) ≡ Some (one_space from looked)
  pub word : lexed_at from (tokens (chars_from t from)) ≡ Some x
  pub kind : x.kind ≡ Word
  pub farther : looked ≤ x.reach.0
