-- A tab, a soft hyphen and a zero width space, told by their bytes.
-- Assumes nothing.
use Rattle.std.specs.Prelude.{◌≡◌, Bool, ◌&&◌, List, ℕ, eqb}
use Rattle.basis.specs.Choice.{pick}
use Rattle.utf8.specs.Decoding.{decode_at}
use Rattle.utf8.specs.declared.sequence.Decoded.TheVariants.{Char}
use Rattle.meaning.specs.declared.tokens.TokenKind.{TokenKind}
use Rattle.meaning.specs.declared.tokens.TokenKind.TheVariants.{Tab, Whitespace, Break}
use Rattle.parser.specs.declared.marks.MarkChar.{MarkChar}
use Rattle.parser.specs.declared.marks.MarkChar.TheVariants.{Tab as Tabulator, SoftHyphen, ZeroWidth}

-- The bytes of U+200B.
abbrev pub zero_width : ℕ → ℕ → ℕ → Bool
zero_width a b c = eqb a 0xE2 && eqb b 0x80 && eqb c 0x8B

-- The character of so many bytes, and the kind of the token that it is.
abbrev pub mark_of : ℕ → ℕ
mark_of n = pick (eqb n 1) 0x0009 (pick (eqb n 2) 0x00AD 0x200B)

-- How many bytes each of the three has.
abbrev pub mark_len : MarkChar → ℕ
mark_len Tabulator = 1
mark_len SoftHyphen = 2
mark_len ZeroWidth = 3

unfoldable pub mark_kind : ℕ → TokenKind
mark_kind n = pick (eqb n 1) Tab (pick (eqb n 2) Break Whitespace)

-- It stands at a position.
abbrev pub Mark : List ℕ → (at n : ℕ) → Type 0
Mark t at n = decode_at t at ≡ Char (mark_of n) n
