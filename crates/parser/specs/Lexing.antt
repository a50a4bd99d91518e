-- What the tokenizer answers at an offset of a text, from the tokens of the characters there.
-- Assumes nothing.
use Rattle.std.specs.Prelude.{ℕ, ◌+◌, List, [], ◌∷◌, take, drop, None, Option, Some}
use Rattle.utf8.specs.Encoding.{size}
use Rattle.utf8.specs.Decoding.{decode_all}
use Rattle.meaning.specs.Tokens.{Tok, newLine, carriageReturn, tab, softHyphen, space, word, chars_of, size_of, need_of, kind_of, count_of}
use Rattle.meaning.specs.Words.{glues}
use Rattle.parser.specs.declared.lexeme.Lexeme.{Lexeme}
use Rattle.parser.specs.declared.part.Part.{Part}

-- The characters of a text from an offset on.
unfoldable pub chars_from : List ℕ → ℕ → List ℕ
chars_from t at = decode_all (drop at t)

abbrev pub glues_of : Tok → ℕ
glues_of newLine = 0
glues_of carriageReturn = 0
glues_of tab = 0
glues_of softHyphen = 0
glues_of (space cs n e) = 0
glues_of (word cs e) = glues cs

unfoldable pub lexeme_at : ℕ → Tok → Lexeme
lexeme_at at t =
    record {
      kind = kind_of t;
      end = record { 0 = at + size_of t };
      chars = record { 0 = chars_of t };
      count = record { 0 = count_of t };
      glues = record { 0 = glues_of t };
      reach = record { 0 = at + need_of t };
    }

unfoldable pub lexed_at : ℕ → List Tok → Option Lexeme
lexed_at at [] = None
lexed_at at (t ∷ ts) = Some (lexeme_at at t)

-- The first k of some characters that stand at an offset.
unfoldable pub part_of : ℕ → ℕ → List ℕ → Part
part_of at k cs = record { end = record { 0 = at + size (take k cs) }; glues = record { 0 = glues (take k cs) } }
