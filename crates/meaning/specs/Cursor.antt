-- Rule 4: the cursor within a line. Its position stays in 0..box width.
-- Assumes nothing.
use Rattle.std.specs.Prelude.{ℕ, suc, ◌+◌, ◌-◌, ◌*◌, ◌/◌, Bool, not, leb, eqb, ℤ, pos, negsuc, neg_ℤ}
use Rattle.basis.specs.Choice.{pick}
use Rattle.meaning.specs.declared.cursor.LineCursor.{LineCursor}
use Rattle.meaning.specs.declared.cursor.Moved.{Moved}
use Rattle.meaning.specs.declared.cursor.Moved.TheVariants.{By, Room}

-- The same cursor at another position.
abbrev pub placed_at : LineCursor → ℕ → LineCursor
placed_at c n = record { width = c.width; position = record { 0 = n }; tab = c.tab; start = c.start }

-- What is left of the line.
unfoldable pub room_of : LineCursor → ℕ
room_of c = c.width.0 - c.position.0

-- Does something of a width still go into the line, and the cursor after it.
unfoldable pub fits_in : LineCursor → ℕ → Bool
fits_in c w = leb w (room_of c)

unfoldable pub advance : LineCursor → ℕ → LineCursor
advance c w = placed_at c (c.position.0 + w)

-- Has it left its starting place.
unfoldable pub has_moved : LineCursor → Bool
has_moved c = not (eqb c.position.0 c.start.0)

-- As far on as there is room: at the box's right edge.
abbrev pub at_edge : LineCursor → LineCursor
at_edge c = advance c (room_of c)

-- A move by any signed distance. One that is too long answers the room, which backward is minus the position. Forward the cursor is
-- then at the edge, backward it is left where it was.
unfoldable pub move_by : LineCursor → ℤ → Moved
move_by c (pos n) = pick (leb n (room_of c)) (By (pos n) (advance c n)) (Room (pos (room_of c)) (at_edge c))
move_by c (negsuc n) =
    pick (leb (suc n) c.position.0) (By (negsuc n) (placed_at c (c.position.0 - suc n))) (Room (neg_ℤ (pos c.position.0)) c)

-- The distance to the next multiple of the tab width above the position, 0 if that width is 0.
unfoldable pub tab_width : LineCursor → ℕ
tab_width c = pick (eqb c.tab.0 0) 0 ((c.position.0 / c.tab.0 + 1) * c.tab.0 - c.position.0)
