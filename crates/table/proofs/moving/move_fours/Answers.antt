use Rattle.std.proofs.Common.{◌+◌, arith}
use Rattle.table.proofs.MoveTurns.{forward-start, still-start, still_one, still-next}
use Rattle.table.proofs.moving.move_fours.Goals as goal

pub returns-then-count-lt4 : goal.returns-then-count-lt4
returns-then-count-lt4 c =
    forward-start _ _ _ _ _ c.requires

pub loop-i-init : goal.loop-i-init
loop-i-init c =
    forward-start _ _ _ _ _ c.requires

pub overflow_add-from : goal.overflow_add-from
overflow_add-from c =
    record { fits = omega (arith, c.loop-i.invariant.left.from-room) }

pub rests_nowhere-requires : goal.rests_nowhere-requires
rests_nowhere-requires c =
    omega (arith, c.loop-i.invariant.left.from-room)

pub shape_of-table-then-not-rests_nowhere : goal.shape_of-table-then-not-rests_nowhere
shape_of-table-then-not-rests_nowhere c =
    c.loop-i.invariant.size

pub returns-then-not-rests_nowhere : goal.returns-then-not-rests_nowhere
returns-then-not-rests_nowhere c =
    c.loop-i.invariant

pub move_plain-requires : goal.move_plain-requires
move_plain-requires c =
    let s0 = still-start _ _ _ _ _ _ 4 c.loop-i.invariant (c.rests_nowhere.ensures (c.if-not-rests_nowhere.false)) (omega (arith, c.loop-i-test.true)) in
    still_one _ _ _ _ _ c.loop-i.i 4 s0 (omega arith)

pub move_plain-requires-in-loop-i : goal.move_plain-requires-in-loop-i
move_plain-requires-in-loop-i c =
    let s0 = still-start _ _ _ _ _ _ 4 c.loop-i.invariant (c.rests_nowhere.ensures (c.if-not-rests_nowhere.false)) (omega (arith, c.loop-i-test.true)) in
    let s1 = still-next _ _ _ _ _ c.loop-i.i 4 s0 (omega arith) _ c.move_plain.ensures (c.loop-i.i + 1) 3 (omega arith) (omega arith) in
    still_one _ _ _ _ _ (c.loop-i.i + 1) 3 s1 (omega arith)

pub move_plain-requires-in-loop-i-2 : goal.move_plain-requires-in-loop-i-2
move_plain-requires-in-loop-i-2 c =
    let s0 = still-start _ _ _ _ _ _ 4 c.loop-i.invariant (c.rests_nowhere.ensures (c.if-not-rests_nowhere.false)) (omega (arith, c.loop-i-test.true)) in
    let s1 = still-next _ _ _ _ _ c.loop-i.i 4 s0 (omega arith) _ c.move_plain.ensures (c.loop-i.i + 1) 3 (omega arith) (omega arith) in
    let s2 = still-next _ _ _ _ _ (c.loop-i.i + 1) 3 s1 (omega arith) _ c.move_plain-in-loop-i.ensures (c.loop-i.i + 2) 2 (omega arith) (omega arith) in
    still_one _ _ _ _ _ (c.loop-i.i + 2) 2 s2 (omega arith)

pub move_plain-requires-in-loop-i-3 : goal.move_plain-requires-in-loop-i-3
move_plain-requires-in-loop-i-3 c =
    let s0 = still-start _ _ _ _ _ _ 4 c.loop-i.invariant (c.rests_nowhere.ensures (c.if-not-rests_nowhere.false)) (omega (arith, c.loop-i-test.true)) in
    let s1 = still-next _ _ _ _ _ c.loop-i.i 4 s0 (omega arith) _ c.move_plain.ensures (c.loop-i.i + 1) 3 (omega arith) (omega arith) in
    let s2 = still-next _ _ _ _ _ (c.loop-i.i + 1) 3 s1 (omega arith) _ c.move_plain-in-loop-i.ensures (c.loop-i.i + 2) 2 (omega arith) (omega arith) in
    let s3 = still-next _ _ _ _ _ (c.loop-i.i + 2) 2 s2 (omega arith) _ c.move_plain-in-loop-i-2.ensures (c.loop-i.i + 3) 1 (omega arith) (omega arith) in
    still_one _ _ _ _ _ (c.loop-i.i + 3) 1 s3 (omega arith)

pub loop-i-preserved : goal.loop-i-preserved
loop-i-preserved c =
    let s0 = still-start _ _ _ _ _ _ 4 c.loop-i.invariant (c.rests_nowhere.ensures (c.if-not-rests_nowhere.false)) (omega (arith, c.loop-i-test.true)) in
    let s1 = still-next _ _ _ _ _ c.loop-i.i 4 s0 (omega arith) _ c.move_plain.ensures (c.loop-i.i + 1) 3 (omega arith) (omega arith) in
    let s2 = still-next _ _ _ _ _ (c.loop-i.i + 1) 3 s1 (omega arith) _ c.move_plain-in-loop-i.ensures (c.loop-i.i + 2) 2 (omega arith) (omega arith) in
    let s3 = still-next _ _ _ _ _ (c.loop-i.i + 2) 2 s2 (omega arith) _ c.move_plain-in-loop-i-2.ensures (c.loop-i.i + 3) 1 (omega arith) (omega arith) in
    let s4 = still-next _ _ _ _ _ (c.loop-i.i + 3) 1 s3 (omega arith) _ c.move_plain-in-loop-i-3.ensures (c.loop-i.i + 4) 0 (omega arith) (omega arith) in
    s4.moved

pub shape_of-table : goal.shape_of-table
shape_of-table c =
    c.loop-i.invariant.size

pub returns : goal.returns
returns c =
    c.loop-i.invariant
