-- What the parts of the tokenizer answer, the loops as functions of the characters that they have left.
-- Assumes nothing.
use Rattle.std.specs.Prelude.{ℕ, ◌+◌, Bool, List, [], ◌∷◌, eqb}
use Rattle.basis.specs.Choice.{pick}
use Rattle.utf8.specs.Encoding.{bytes}
use Rattle.meaning.specs.Characters.{glue}
use Rattle.meaning.specs.declared.tokens.TokenKind.{TokenKind}
use Rattle.meaning.specs.declared.tokens.TokenKind.TheVariants.{Whitespace, Word}
use Rattle.parser.specs.declared.lexeme.Lexeme.{Lexeme}
use Rattle.parser.specs.declared.part.Part.{Part}
use Rattle.parser.specs.declared.scan.Scanned.{Scanned}

-- How many of one character glue, and how many spaces one character of a space run counts.
unfoldable pub glue_of : ℕ → ℕ
glue_of c = pick (glue c) 1 0

unfoldable pub space_of : ℕ → ℕ
space_of c = pick (eqb c 0x200B) 0 1

-- Ended at an offset by a character of so many bytes.
unfoldable pub scanned_at : (at chars weight ender : ℕ) → Scanned
scanned_at at n w e =
    record { end = record { 0 = at }; chars = record { 0 = n }; weight = record { 0 = w }; reach = record { 0 = at + e } }

-- Characters are passed while the test holds of them, counted and weighed. The text's end ends a scan as one byte would.
unfoldable pub scan_from : (goes : ℕ → Bool) (weigh : ℕ → ℕ) (at chars weight : ℕ) → List ℕ → Scanned
scan_from goes weigh at n w [] = scanned_at at n w 1
scan_from goes weigh at n w (c ∷ cs) =
    let more = scan_from goes weigh (at + bytes c) (n + 1) (w + weigh c) cs in
    pick (goes c) more (scanned_at at n w (bytes c))

-- A word that is read, as a scan gives it.
abbrev pub kept_of : Lexeme → Scanned
kept_of x = record { end = x.end; chars = x.chars; weight = x.glues; reach = x.reach }

-- The token of one character that ends at an offset, and of what was scanned as a word and as a space run.
unfoldable pub alone_at : TokenKind → (end : ℕ) → Lexeme
alone_at kind end =
    record {
      kind = kind;
      end = record { 0 = end };
      chars = record { 0 = 1 };
      count = record { 0 = 0 };
      glues = record { 0 = 0 };
      reach = record { 0 = end };
    }

unfoldable pub word_of : Scanned → Lexeme
word_of s =
    record { kind = Word; end = s.end; chars = s.chars; count = record { 0 = 0 }; glues = s.weight; reach = s.reach }

unfoldable pub blank_of : Scanned → Lexeme
blank_of s =
    record { kind = Whitespace; end = s.end; chars = s.chars; count = s.weight; glues = record { 0 = 0 }; reach = s.reach }

-- A part that ends at an offset.
unfoldable pub part_at : (end glues : ℕ) → Part
part_at end g = record { end = record { 0 = end }; glues = record { 0 = g } }
