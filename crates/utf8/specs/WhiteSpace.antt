-- White space, a property of code points in the Unicode Character Database (rule 1).
-- Assumes nothing.
use Rattle.std.specs.Prelude.{Bool, false, ◌||◌, List, [], ◌∷◌, ℕ, eqb}

-- The code points that have the property White_Space (PropList.txt), all 25.
unfoldable pub white_spaces : List ℕ
white_spaces =
    0x0009 ∷ 0x000A ∷ 0x000B ∷ 0x000C ∷ 0x000D ∷ 0x0020 ∷ 0x0085 ∷ 0x00A0 ∷ 0x1680 ∷ 0x2000 ∷ 0x2001 ∷ 0x2002 ∷ 0x2003
    ∷ 0x2004 ∷ 0x2005 ∷ 0x2006 ∷ 0x2007 ∷ 0x2008 ∷ 0x2009 ∷ 0x200A ∷ 0x2028 ∷ 0x2029 ∷ 0x202F ∷ 0x205F ∷ 0x3000 ∷ []

-- Is a number one of a list: the test behind White_Space.
unfoldable pub member : ℕ → List ℕ → Bool
member c [] = false
member c (x ∷ xs) = eqb x c || member c xs

-- Does a code point have the property White_Space.
unfoldable pub is_white : ℕ → Bool
is_white c = member c white_spaces
