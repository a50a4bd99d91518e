-- `placing::taken::chars_to` meets its contract (rule 12).
use Rattle.std.proofs.Common.{◌∙◌, arith}
use Rattle.placing.specs.Taken.{Taken, taken-short}
use Rattle.placing.proofs.TakenLaws.{stretch-within, stretch-count}
use Rattle.placing.proofs.taken.chars_to.Goals as goal

pub slice_bounds-count_chars-count : goal.slice_bounds-count_chars-count
slice_bounds-count_chars-count c =
    omega (arith, c.requires.2.ends)

pub slice_bounds-count_chars-start : goal.slice_bounds-count_chars-start
slice_bounds-count_chars-start c =
    omega (arith, c.requires.2.ends)

pub slice_bounds-count_chars-end : goal.slice_bounds-count_chars-end
slice_bounds-count_chars-end c =
    stretch-within _ _ _ c.requires.2 c.requires.1

pub overflow_cast-count : goal.overflow_cast-count
overflow_cast-count c =
    record { fits = omega (arith, taken-short _ _ _ _ ((let counted_here : Taken c.args.text.now c.args.at c.args.next.0 c.count_chars-n.result = record { stretch = c.requires.2; count = c.count_chars-n.ensures ∙ stretch-count _ _ _ c.requires.2 } in counted_here)), c.requires.0) }

pub returns : goal.returns
returns c =
    (let counted_here : Taken c.args.text.now c.args.at c.args.next.0 c.count_chars-n.result = record { stretch = c.requires.2; count = c.count_chars-n.ensures ∙ stretch-count _ _ _ c.requires.2 } in counted_here)
