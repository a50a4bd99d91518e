-- `steps::words::word_place` meets its contract (rule 7, rule 8).
use Rattle.std.proofs.Common.{false, ◌+◌, ◌*◌, ◌≤◌, arith}
use Rattle.steps.specs.WordLaws.{fits-small}
use Rattle.steps.specs.Stopping.{word_place}
use Rattle.steps.proofs.words.word_place.Goals as goal

pub overflow_mul-n : goal.overflow_mul-n
overflow_mul-n c =
    record { fits = omega (arith, (fits-small c.args.p (c.args.n.0 * c.args.glyph.0) c.requires.0 c.requires.1)) }

pub advanced-cursor-requires : goal.advanced-cursor-requires
advanced-cursor-requires c =
    omega (arith, (fits-small c.args.p (c.args.n.0 * c.args.glyph.0) c.requires.0 c.requires.1))

pub returns : goal.returns
unfolding word_place
returns c =
    λ i. record { cursor = c.advanced-cursor.ensures i; spaces = c.spaces_after-left.ensures i; empty = false }
