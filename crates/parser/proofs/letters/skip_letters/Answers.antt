use Rattle.std.proofs.Common.{◌≡◌, subst, List, ℕ, ◌+◌, ◌-◌, ◌≤◌, arith, length}
use Rattle.utf8.specs.Walk.{decode_at-within}
use Rattle.utf8.specs.Long.{Long}
use Rattle.parser.specs.Letters.{GoesOn, Lettered}
use Rattle.parser.specs.LetterLaws.{letter-long, goes_on_lem, goes-letter}
use Rattle.parser.proofs.letters.skip_letters.Goals as goal

module _ (t : List ℕ) (from at skipped end : ℕ) (so_far : GoesOn t from at skipped 0) (plain : Lettered t at end) where
  -- The letters of one byte are passed.
  passed : GoesOn t from end (skipped + (end - at)) 0
  passed = goes_on_lem t from at skipped 0 so_far end (end - at) 0 plain

  sizes : (at ≤ end) × (end ≤ length t) × (skipped + (end - at) ≤ end)
  sizes = omega (arith, passed.forward, passed.inside, plain.forward)

  -- A longer one stands behind them.
  module _ (n : ℕ) (told : Long t end n) where
    room : (1 ≤ n) × (end + n ≤ length t)
    room = decode_at-within t end told.char n told.is

    longer : GoesOn t from (end + n) (skipped + (end - at) + 1) 0
    longer = goes-letter t from end (skipped + (end - at)) 0 passed n (letter-long t end n told)

    two : n ≡ 2 → GoesOn t from (end + 2) (skipped + (end - at) + 1) 0
    two e = subst (λ (k : ℕ). GoesOn t from (end + k) (skipped + (end - at) + 1) 0) e longer

    further : (next more : ℕ) → GoesOn t (end + n) next more 0 → GoesOn t from next (skipped + (end - at) + 1 + more) 0
    further next more wide = goes_on_lem t from (end + n) (skipped + (end - at) + 1) 0 longer next more 0 wide

pub loop-len-smaller-then-len-eq2 : goal.loop-len-smaller-then-len-eq2
loop-len-smaller-then-len-eq2 c =
    omega (arith, sizes _ _ _ _ _ c.loop-len.invariant.0 c.skip_plain-end.ensures.0, room _ _ _ _ _ c.loop-len.invariant.0 c.skip_plain-end.ensures.0 _ c.in-Some.ensures)

-- Two bytes.
pub loop-len-preserved-then-len-eq2 : goal.loop-len-preserved-then-len-eq2
loop-len-preserved-then-len-eq2 c =
    let s = two _ _ _ _ _ c.loop-len.invariant.0 c.skip_plain-end.ensures.0 _ c.in-Some.ensures c.if-len-eq2.true in
    (s, s.inside)

pub overflow_add-end : goal.overflow_add-end
overflow_add-end c =
    omega (arith, room _ _ _ _ _ c.loop-len.invariant.0 c.skip_plain-end.ensures.0 _ c.in-Some.ensures)

pub skip_wide-wide-requires : goal.skip_wide-wide-requires
skip_wide-wide-requires c =
    (c.requires.0, (room _ _ _ _ _ c.loop-len.invariant.0 c.skip_plain-end.ensures.0 _ c.in-Some.ensures).1)

pub loop-len-smaller : goal.loop-len-smaller
loop-len-smaller c =
    omega (
      arith,
      sizes _ _ _ _ _ c.loop-len.invariant.0 c.skip_plain-end.ensures.0,
      room _ _ _ _ _ c.loop-len.invariant.0 c.skip_plain-end.ensures.0 _ c.in-Some.ensures,
      c.skip_wide-wide.ensures.forward,
      c.skip_wide-wide.ensures.inside,
    )

pub loop-len-preserved : goal.loop-len-preserved
loop-len-preserved c =
    let s = further _ _ _ _ _ c.loop-len.invariant.0 c.skip_plain-end.ensures.0 _ c.in-Some.ensures _ _ c.skip_wide-wide.ensures in
    (s, s.inside)
