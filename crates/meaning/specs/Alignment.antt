-- Rule 6: where a measured line is placed, and how wide its spaces are drawn.
-- Assumes nothing.
use Rattle.std.specs.Prelude.{ℕ, ◌+◌, ◌-◌, ◌*◌, ◌/◌, ◌%◌, Bool, true, false, ◌||◌, eqb}
use Rattle.basis.specs.Choice.{pick}
use Rattle.meaning.specs.declared.settings.Settings.{Settings}
use Rattle.meaning.specs.declared.cursor.Spaces.{Spaces}
use Rattle.meaning.specs.declared.line.LineEnd.{LineEnd}
use Rattle.meaning.specs.declared.line.LineEnd.TheVariants.{NewLine, CarriageReturn, EndOfText, LineBreak}
use Rattle.meaning.specs.declared.line.Placed.{Placed}

abbrev pub spaces_of : ℕ → ℕ → Spaces
spaces_of width extra = record { width = record { 0 = width }; extra = record { 0 = extra } }

-- Spaces as wide as any character, none wider.
unfoldable pub plain_spaces : Settings → Spaces
plain_spaces s = spaces_of s.glyph.0 0

-- A line that ends a paragraph is not justified.
abbrev pub ends_paragraph : LineEnd → Bool
ends_paragraph NewLine = true
ends_paragraph EndOfText = true
ends_paragraph CarriageReturn = false
ends_paragraph LineBreak = false

-- The room that is left is shared out among the n counted spaces.
unfoldable pub justified : Settings → (room n : ℕ) → Spaces
justified s room n = spaces_of ((room + n * s.glyph.0) / n) ((room + n * s.glyph.0) % n)

abbrev pub placed_left : ℕ → Spaces → Placed
placed_left left spaces = record { left = record { 0 = left }; spaces = spaces }

-- A line of this measured width and n counted spaces, ended so.
unfoldable pub place : Settings → LineEnd → (width n : ℕ) → Placed
place s ended width n =
    let room = s.width.0 - width in
    pick (eqb s.alignment 0) (placed_left 0 (plain_spaces s))
    (pick (eqb s.alignment 1) (placed_left ((room + 1) / 2) (plain_spaces s))
    (pick (eqb s.alignment 2) (placed_left room (plain_spaces s))
    (pick (ends_paragraph ended || eqb n 0) (placed_left 0 (plain_spaces s))
    (placed_left 0 (justified s room n)))))
