-- What a lent cursor holds after a move, from the answer of the move by value.
-- Assumes nothing.
use Rattle.std.specs.Prelude.{◌≡◌, refl, ℤ, pos, negsuc}
use Rattle.basis.specs.Choice.{pick_cases}
use Rattle.meaning.specs.Cursor.{advance, move_by}
use Rattle.meaning.specs.declared.counts.Pixels.{Pixels}
use Rattle.meaning.specs.declared.cursor.LineCursor.{LineCursor}
use Rattle.meaning.specs.declared.cursor.Moved.{Moved}
use Rattle.meaning.specs.declared.cursor.Moved.TheVariants.{By, Room}

-- The cursor that a move answers, whether or not it went all the way.
abbrev pub cursor_after : Moved → LineCursor
cursor_after (By d to) = to
cursor_after (Room d to) = to

abbrev pub position_after : Moved → Pixels
position_after m = (cursor_after m).position

-- The cursor with another position stored.
abbrev pub stored : LineCursor → Pixels → LineCursor
stored c p = record { width = c.width; position = p; tab = c.tab; start = c.start }

-- A move changes nothing but the position.
abbrev Alone : LineCursor → Moved → Type 0
Alone c m = stored c (position_after m) ≡ cursor_after m

pub moved_alone : (c : LineCursor) (by : ℤ) → stored c (position_after (move_by c by)) ≡ cursor_after (move_by c by)
unfolding move_by advance
moved_alone c (pos n) = pick_cases (Alone c) _ (λ _. refl) (λ _. refl)
moved_alone c (negsuc n) = pick_cases (Alone c) _ (λ _. refl) (λ _. refl)
