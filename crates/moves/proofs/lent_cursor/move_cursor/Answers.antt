-- `moves::lent_cursor::move_cursor` meets its contract (rule 4): the cursor differs from the one before in its position alone.
use Rattle.std.proofs.Common.{◌≡◌, ap, ◌∙◌, to_z, of_z, to_z-of_z, w32}
use Rattle.meaning.specs.Cursor.{move_by}
use Rattle.moves.specs.Lent.{position_after, stored, moved_alone}
use Rattle.moves.proofs.lent_cursor.move_cursor.Goals as goal

pub returns : goal.returns
returns c =
    let by_is : to_z w32 (of_z w32 c.args.by) ≡ c.args.by = to_z-of_z c.ranges.by in
    let moved = c.move_by-moved.ensures ∙ ap (move_by c.args.cursor.now) by_is in
    (moved, ap (stored c.args.cursor.now) (c.position_after-cursor.ensures ∙ ap position_after moved) ∙ moved_alone c.args.cursor.now c.args.by)
