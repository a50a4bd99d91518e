-- `clues::stream::add_clue` meets its contract (refusal 3, refusal 4).
use Rattle.clues.specs.Counting.{clue_ready, clue_added}
use Rattle.clues.proofs.stream.add_clue.Goals as goal

pub add_text-requires : goal.add_text-requires
add_text-requires c =
    clue_ready _ _ _ _ c.requires.counts _ _ c.check_text-checked.ensures c.requires.clues_lt_most_clues

pub returns-clause-sums_after : goal.returns-clause-sums_after
returns-clause-sums_after c =
    clue_added _ _ _ _ _ _ c.check_text-checked.ensures c.add_text.ensures.added

pub returns-clause-widths_after : goal.returns-clause-widths_after
returns-clause-widths_after c =
    clue_added _ _ _ _ _ _ c.check_text-checked.ensures c.add_text.ensures.sums_added
