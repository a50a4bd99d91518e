-- `choosing::choosing::chars_behind` meets its contract (rule 10).
use Rattle.std.proofs.Common.{arith, ◌∙◌}
use Rattle.laws.specs.PartChars.{cut-within}
use Rattle.choosing.specs.CharsBehind.{count-behind}
use Rattle.choosing.proofs.choosing.chars_behind.Goals as goal

pub slice_bounds-count_long-count : goal.slice_bounds-count_long-count
slice_bounds-count_long-count c =
    omega (arith, cut-within _ c.requires.0 _ c.requires.1)

pub slice_bounds-count_long-start : goal.slice_bounds-count_long-start
slice_bounds-count_long-start c =
    omega (arith, cut-within _ c.requires.0 _ c.requires.1)

pub returns : goal.returns
returns c =
    c.count_long.ensures ∙ count-behind _ c.requires.0 _ c.requires.1
