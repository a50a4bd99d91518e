-- `blanks::spaces::held_rest` meets its contract (rule 8, rule 9).
use Rattle.std.proofs.Common.{◌∙◌}
use Rattle.steps.specs.RunLaws.{none_left_lem, some_left}
use Rattle.blanks.proofs.spaces.held_rest.Goals as goal

pub returns-then-chars-taken : goal.returns-then-chars-taken
returns-then-chars-taken c =
    c.nothing_left.ensures ∙ none_left_lem _ _ _ _ c.if-chars-taken.true

pub returns : goal.returns
returns c =
    some_left _ _ _ _ c.if-chars-taken.false
