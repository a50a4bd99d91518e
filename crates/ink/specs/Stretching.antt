-- A word drawn character by character: where its drawing stands, and what one more character does to it.
-- Assumes nothing.
use Rattle.std.specs.Prelude.{ℕ, ◌+◌, ◌≤◌, ◌≡◌, List, ◌∷◌, length}
use Rattle.meaning.specs.declared.cursor.Spaces.{Spaces}
use Rattle.moves.specs.Fine.{FineSpaces}
use Rattle.ink.specs.Sheet.{Sheet, sheet, drawn_on}
use Rattle.ink.specs.WordDrawn.{rest_drawn}
use Rattle.ink.specs.declared.pen.Pen.{Pen}
use Rattle.ink.specs.declared.words.Stretch.{Stretch}

-- The sheet when the characters that are left are drawn.
unfoldable pub rest_on : (glyph : ℕ) → List ℕ → Stretch → List ℕ → Sheet
rest_on g t w cs = drawn_on (sheet t w.pen) (rest_drawn g w.spaces w.from w.at w.wide cs)

-- No sum can wrap.
pub record FineStretch (w : Stretch) : Type 0 where
  pub spaces : FineSpaces w.spaces
  pub order : w.from ≤ w.at
  pub inside : w.at ≤ 65535
  pub few : w.pen.next ≤ 800000000
  pub narrow : w.pen.x.0 + w.wide ≤ 2000000000

-- From w to r by a character c of so many bytes: the buffer t becomes u.
pub record Passed (t u : List ℕ) (w r : Stretch) (c len glyph : ℕ) : Type 0 where
  pub draws : (cs : List ℕ) → rest_on glyph u r cs ≡ rest_on glyph t w (c ∷ cs)
  pub at : r.at ≡ w.at + len
  pub spaces : FineSpaces r.spaces
  pub order : r.from ≤ r.at
  pub few : r.pen.next ≤ w.pen.next + 2
  pub narrow : r.pen.x.0 + r.wide ≤ w.pen.x.0 + w.wide + 8192

-- What drawing a word takes for granted.
pub record WordRoom (t : List ℕ) (at n g : ℕ) (sp : Spaces) (pen : Pen) : Type 0 where
  pub short : length t ≤ 65535
  pub inside : at ≤ length t
  pub many : n ≤ 65535
  pub glyph : g ≤ 64
  pub spaces : FineSpaces sp
  pub few : pen.next ≤ 700000000
  pub narrow : pen.x.0 ≤ 700000000
