-- `clues::feeds::skip_blocks` meets its contract. The invariant: the first line feed of all is that of what is left.
use Rattle.std.proofs.Common.{◌+◌, ◌-◌, ◌≤◌, ◌≡◌, take, drop}
use Rattle.clues.specs.Feeds.{before_feed}
use Rattle.clues.proofs.feeds.skip_blocks.Given as goal

abbrev pub invariant-loop-at : goal.invariant-loop-at
invariant-loop-at l = (l.at ≤ l.end) × (l.at + before_feed (drop l.at (take l.end l.s)) ≡ l.from + before_feed (drop l.from (take l.end l.s)))

abbrev pub decreases-loop-at : goal.decreases-loop-at
decreases-loop-at l = l.end - l.at
