-- What a pass asks of the cursor and does with it is rule 4's move forward: what fits goes, by as much, and what does not is answered
-- by the room and the cursor at the edge.
-- Assumes nothing.
use Rattle.std.specs.Prelude.{ℕ, ◌≤◌, ◌<◌, ◌≡◌, Bool, true, false, leb, pos}
use Rattle.std.proofs.Common.{sym, ap, ◌∙◌, le-leb}
use Rattle.std.proofs.lemmas.Bool.{lt-leb}
use Rattle.basis.specs.Choice.{pick_true, pick-false, by_test}
use Rattle.meaning.specs.Cursor.{room_of, fits_in, advance, at_edge, move_by}
use Rattle.meaning.specs.declared.cursor.LineCursor.{LineCursor}
use Rattle.meaning.specs.declared.cursor.Moved.{Moved}
use Rattle.meaning.specs.declared.cursor.Moved.TheVariants.{By, Room}

-- Did a move go.
abbrev pub went : Moved → Bool
went (By d to) = true
went (Room d to) = false

module _ (c : LineCursor) (w : ℕ) where
  -- What fits goes, and the cursor then stands where a pass advances it to.
  pub move_fits : fits_in c w ≡ true → move_by c (pos w) ≡ By (pos w) (advance c w)
  unfolding move_by fits_in
  move_fits e = pick_true (leb w (room_of c)) _ _ e

  -- What does not goes to the edge, and the answer is the room.
  pub move_refused : fits_in c w ≡ false → move_by c (pos w) ≡ Room (pos (room_of c)) (at_edge c)
  unfolding move_by fits_in
  move_refused e = pick-false (leb w (room_of c)) _ _ e

  -- So a width fits exactly if a move by it goes.
  pub fits-went : fits_in c w ≡ went (move_by c (pos w))
  fits-went = by_test (fits_in c w) (λ e. e ∙ ap went (sym (move_fits e))) (λ e. e ∙ ap went (sym (move_refused e)))

  -- The same by the room.
  pub room-moves : w ≤ room_of c → move_by c (pos w) ≡ By (pos w) (advance c w)
  unfolding fits_in
  room-moves h = move_fits (le-leb w (room_of c) h)

  pub room_refuses : room_of c < w → move_by c (pos w) ≡ Room (pos (room_of c)) (at_edge c)
  unfolding fits_in
  room_refuses h = move_refused (lt-leb w (room_of c) h)
