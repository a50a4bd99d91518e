use Rattle.std.proofs.Common.{List, ℕ, ◌+◌, ◌≤◌, arith, length}
use Rattle.utf8.specs.Ascii.{pass-none, pass-char}
use Rattle.utf8.specs.Long.{Long}
use Rattle.utf8.specs.Walk.{decode_at-within}
use Rattle.utf8.proofs.text.skip_wide.Goals as goal

room : (t : List ℕ) (at : ℕ) → Long t at 3 → at + 3 ≤ length t
room t at w = (decode_at-within t at w.char 3 w.is).1

pub loop-at-init : goal.loop-at-init
loop-at-init c =
    (pass-none _ _ (omega arith), omega arith)

pub overflow_add-at : goal.overflow_add-at
overflow_add-at c =
    omega (arith, room c.args.text.now c.loop-at.at (c.wide_at.ensures c.loop-at-test.true))

pub loop-at-smaller : goal.loop-at-smaller
loop-at-smaller c =
    omega (arith, room c.args.text.now c.loop-at.at (c.wide_at.ensures c.loop-at-test.true))

pub loop-at-preserved : goal.loop-at-preserved
loop-at-preserved c =
    let w = c.wide_at.ensures c.loop-at-test.true in (pass-char _ _ _ w.char 3 w.is (room c.args.text.now c.loop-at.at (c.wide_at.ensures c.loop-at-test.true)) c.loop-at.invariant.0, room c.args.text.now c.loop-at.at (c.wide_at.ensures c.loop-at-test.true))

pub returns : goal.returns
returns c =
    c.loop-at.invariant.0
