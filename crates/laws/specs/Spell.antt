-- The characters of tokens, and what holds of the tokens of every text (rule 3).
-- Assumes nothing.
use Rattle.std.specs.Prelude.{ℕ, ◌≤◌, List, [], ◌∷◌, ◌++◌, length}
use Rattle.meaning.specs.Tokens.{Tok, newLine, carriageReturn, tab, softHyphen, space, word, ender}

abbrev pub text_of : Tok → List ℕ
text_of newLine = 0x000A ∷ []
text_of carriageReturn = 0x000D ∷ []
text_of tab = 0x0009 ∷ []
text_of softHyphen = 0x00AD ∷ []
text_of (space cs n e) = cs
text_of (word cs e) = cs

unfoldable pub spell : List Tok → List ℕ
spell [] = []
spell (t ∷ ts) = text_of t ++ spell ts

-- A word or a space run has a character, counts no more spaces than it has characters, and says no more bytes of what ends it
-- than the text after it has there.
abbrev pub SoundTok : Tok → List ℕ → Type 0
SoundTok newLine cs = Unit {0}
SoundTok carriageReturn cs = Unit {0}
SoundTok tab cs = Unit {0}
SoundTok softHyphen cs = Unit {0}
SoundTok (space ws n e) cs = (1 ≤ length ws) × (n ≤ length ws) × (e ≤ ender cs)
SoundTok (word ws e) cs = (1 ≤ length ws) × (e ≤ ender cs)

abbrev pub Sound : List Tok → Type 0
Sound [] = Unit {0}
Sound (t ∷ ts) = SoundTok t (spell ts) × Sound ts
