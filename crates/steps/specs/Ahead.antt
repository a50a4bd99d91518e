-- What the parts of the lookaheads answer.
-- Assumes nothing.
use Rattle.std.specs.Prelude.{ℕ, Bool, None, Option, Some}
use Rattle.meaning.specs.declared.counts.Pixels.{Pixels}
use Rattle.meaning.specs.Cursor.{tab_width}
use Rattle.meaning.specs.SpaceConfig.{spaces_width}
use Rattle.meaning.specs.declared.tokens.TokenKind.{TokenKind}
use Rattle.meaning.specs.declared.tokens.TokenKind.TheVariants.{NewLine, CarriageReturn, Tab, Whitespace, Word, Break}
use Rattle.meaning.specs.declared.cursor.LineCursor.{LineCursor}
use Rattle.meaning.specs.declared.cursor.Spaces.{Spaces}
use Rattle.steps.specs.declared.foreseen.Look.{Look}

-- The pixels of a width so far.
abbrev pub known_of : Option Pixels → ℕ
known_of None = 0
known_of (Some v) = v.0

abbrev pub look_at : Bool → ℕ → Look
look_at fits reach = record { fits = fits; reach = record { 0 = reach } }

-- The width of white space that counts so many spaces.
unfoldable pub white_width : TokenKind → ℕ → LineCursor → Spaces → ℕ
white_width Tab n c sp = tab_width c
white_width NewLine n c sp = spaces_width sp n
white_width CarriageReturn n c sp = spaces_width sp n
white_width Whitespace n c sp = spaces_width sp n
white_width Word n c sp = spaces_width sp n
white_width Break n c sp = spaces_width sp n
