use Rattle.std.proofs.Common.{ℕ, ◌+◌, ◌≤◌, List, length, arith}
use Rattle.utf8.specs.Ascii.{pass-none, pass-char, pass_on_lem}
use Rattle.utf8.specs.Long.{Long}
use Rattle.utf8.specs.Walk.{decode_at-within}
use Rattle.utf8.proofs.text.skip_long.Goals as goal

room : (t : List ℕ) (at n : ℕ) → Long t at n → (1 ≤ n) × (at + n ≤ length t)
room t at n w = decode_at-within t at w.char n w.is

pub loop-len-init : goal.loop-len-init
loop-len-init c =
    (pass-none _ _ (omega arith), omega arith)

pub overflow_add-at : goal.overflow_add-at
overflow_add-at c =
    omega (arith, room _ _ _ c.in-Some.ensures)

pub skip_wide-at-requires : goal.skip_wide-at-requires
skip_wide-at-requires c =
    (room _ _ _ c.in-Some.ensures).1

pub loop-len-smaller : goal.loop-len-smaller
loop-len-smaller c =
    omega (arith, room _ _ _ c.in-Some.ensures, c.skip_wide-at.ensures.forward, c.skip_wide-at.ensures.inside)

pub loop-len-preserved : goal.loop-len-preserved
loop-len-preserved c =
    let w = c.in-Some.ensures in
    let p = pass_on_lem _ _ _ _ (pass-char _ _ _ w.char _ w.is (room _ _ _ w).1 c.loop-len.invariant.0) c.skip_wide-at.ensures in
    (p, p.inside)
