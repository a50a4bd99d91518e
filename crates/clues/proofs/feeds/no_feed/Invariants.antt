-- `clues::feeds::no_feed` meets its contract. The invariant: no byte so far is a line feed, if it is said so.
use Rattle.std.proofs.Common.{◌≡◌, true}
use Rattle.clues.specs.Feeds.{Free}
use Rattle.clues.proofs.feeds.no_feed.Given as goal

abbrev pub invariant-loop-i : goal.invariant-loop-i
invariant-loop-i l = l.none ≡ true → Free l.s l.from l.i
