-- `moves::cursor::move_by` meets its contract (rule 4).
use Rattle.std.proofs.Common.{ℕ, suc, ◌≤◌, ◌≡◌, arith, ℤ, pos, SFits, to_z, w32, to_z-of_z}
use mir.Facts.{to_z_pos}
use Rattle.meaning.specs.Cursor.{room_of}
use Rattle.moves.proofs.MoveLaws.{Back, back_fits, back_in, back-moved, back-out, Ahead, ahead_in, ahead-moved, ahead-out}
use Rattle.moves.proofs.cursor.move_by.Goals as goal

-- A number that is no more than a width is an i32 as it is.
number_is : (n : ℕ) → n ≤ 4096 → to_z w32 n ≡ pos n
number_is n h = to_z_pos w32 (omega arith)

-- And so is a distance back, turned round.
turned_fits : {p : ℕ} {z : ℤ} (i : Back p z) → p ≤ 4096 → SFits w32 (pos (suc i.n))
turned_fits i h = let s = i.small in record { sfits = omega arith }

pub overflow_sub-back : goal.overflow_sub-back
overflow_sub-back c =
    rw (number_is c.args.c.position.0 (omega arith)) (back_fits c.args.c.position.0 (omega arith))

pub returns-then-by-back : goal.returns-then-by-back
returns-then-by-back c =
    rw (number_is c.args.c.position.0 (omega arith), to_z-of_z (back_fits c.args.c.position.0 (omega arith)))
    (back-out c.args.c c.args.by (rw (to_z-of_z c.ranges.by) at c.if-by-lt0.true) (rw (to_z-of_z c.ranges.by, number_is c.args.c.position.0 (omega arith), to_z-of_z (back_fits c.args.c.position.0 (omega arith))) at c.if-by-back.true))

pub overflow_sub-by : goal.overflow_sub-by
overflow_sub-by c =
    let i = back_in c.args.c.position.0 c.args.by (rw (to_z-of_z c.ranges.by) at c.if-by-lt0.true) (rw (to_z-of_z c.ranges.by, number_is c.args.c.position.0 (omega arith), to_z-of_z (back_fits c.args.c.position.0 (omega arith))) at c.if-by-back.false) in
    rw (to_z-of_z c.ranges.by, i.turned) (turned_fits i (omega arith))

pub overflow_sub-c : goal.overflow_sub-c
overflow_sub-c c =
    let i = back_in c.args.c.position.0 c.args.by (rw (to_z-of_z c.ranges.by) at c.if-by-lt0.true) (rw (to_z-of_z c.ranges.by, number_is c.args.c.position.0 (omega arith), to_z-of_z (back_fits c.args.c.position.0 (omega arith))) at c.if-by-back.false) in
    rw (to_z-of_z c.ranges.by, i.turned, to_z-of_z (turned_fits i (omega arith))) i.small

pub returns-then-by-lt0 : goal.returns-then-by-lt0
returns-then-by-lt0 c =
    let i = back_in c.args.c.position.0 c.args.by (rw (to_z-of_z c.ranges.by) at c.if-by-lt0.true) (rw (to_z-of_z c.ranges.by, number_is c.args.c.position.0 (omega arith), to_z-of_z (back_fits c.args.c.position.0 (omega arith))) at c.if-by-back.false) in
    rw (to_z-of_z c.ranges.by, c.placed_at.ensures)
    (rw (to_z-of_z c.ranges.by, i.turned, to_z-of_z (turned_fits i (omega arith))) (back-moved c.args.c c.args.by i.n i.is i.small))

pub overflow_cast-ahead : goal.overflow_cast-ahead
unfolding room_of
overflow_cast-ahead c =
    record { sfits = omega (arith, c.room-left.ensures) }

pub advanced-requires : goal.advanced-requires
unfolding room_of
advanced-requires c =
    omega (arith, c.room-left.ensures)

pub returns-then-ahead-by : goal.returns-then-ahead-by
unfolding room_of
returns-then-ahead-by c =
    rw (number_is c.room-left.result (omega (arith, c.room-left.ensures)), c.advanced.ensures)
    (ahead-out c.args.c c.room-left.result c.room-left.ensures c.args.by (rw (to_z-of_z c.ranges.by) at c.if-by-lt0.false) (rw (to_z-of_z c.ranges.by, number_is c.room-left.result (omega (arith, c.room-left.ensures))) at c.if-ahead-by.true))

pub overflow_cast-by-2 : goal.overflow_cast-by-2
unfolding room_of
overflow_cast-by-2 c =
    let i = ahead_in c.room-left.result c.args.by (rw (to_z-of_z c.ranges.by) at c.if-by-lt0.false) (rw (to_z-of_z c.ranges.by, number_is c.room-left.result (omega (arith, c.room-left.ensures))) at c.if-ahead-by.false) in
    rw (to_z-of_z c.ranges.by, i.is) (tt, record { fits = omega (arith, c.room-left.ensures) })

pub advanced-requires-2 : goal.advanced-requires-2
unfolding room_of
advanced-requires-2 c =
    let i = ahead_in c.room-left.result c.args.by (rw (to_z-of_z c.ranges.by) at c.if-by-lt0.false) (rw (to_z-of_z c.ranges.by, number_is c.room-left.result (omega (arith, c.room-left.ensures))) at c.if-ahead-by.false) in
    rw (to_z-of_z c.ranges.by) (omega (arith, c.room-left.ensures))

pub returns : goal.returns
unfolding room_of
returns c =
    let i = ahead_in c.room-left.result c.args.by (rw (to_z-of_z c.ranges.by) at c.if-by-lt0.false) (rw (to_z-of_z c.ranges.by, number_is c.room-left.result (omega (arith, c.room-left.ensures))) at c.if-ahead-by.false) in
    rw (to_z-of_z c.ranges.by, c.advanced-2.ensures)
    (rw (to_z-of_z c.ranges.by) (ahead-moved c.args.c c.room-left.result c.room-left.ensures c.args.by i.n i.is i.small))
