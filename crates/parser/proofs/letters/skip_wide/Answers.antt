use Rattle.std.proofs.Common.{List, ℕ, ◌+◌, ◌≤◌, arith, length}
use Rattle.utf8.specs.Walk.{decode_at-within}
use Rattle.utf8.specs.Long.{Long}
use Rattle.parser.specs.LetterLaws.{letter-long, goes-letter}
use Rattle.parser.proofs.letters.skip_wide.Goals as goal

room : (t : List ℕ) (at : ℕ) → Long t at 3 → at + 3 ≤ length t
room t at w = (decode_at-within t at w.char 3 w.is).1

pub loop-end-smaller : goal.loop-end-smaller
loop-end-smaller c =
    omega (arith, room c.args.text.now c.loop-end.end (c.broad_at.ensures c.loop-end-test.true))

pub loop-end-preserved : goal.loop-end-preserved
loop-end-preserved c =
    let told = c.broad_at.ensures c.loop-end-test.true in
    (goes-letter _ _ _ _ _ c.loop-end.invariant.0 3 (letter-long _ _ _ told), room c.args.text.now c.loop-end.end told, omega arith)
