-- `clues::feeds::find_feed` meets its contract. The invariant: the first line feed of all is that of what is left.
use Rattle.std.proofs.Common.{◌+◌, ◌≡◌, take, drop}
use Rattle.clues.specs.Feeds.{before_feed}
use Rattle.clues.proofs.feeds.find_feed.Given as goal

abbrev pub invariant-loop-i : goal.invariant-loop-i
invariant-loop-i l = l.i + before_feed (drop l.i (take l.end l.s)) ≡ l.from + before_feed (drop l.from (take l.end l.s))
