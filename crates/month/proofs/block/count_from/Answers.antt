-- `month::block::count_from` meets its contract.
use Rattle.month.specs.Going.{went-from, sums-went-from}
use Rattle.month.proofs.block.count_from.Goals as goal

pub returns-clause-went_from : goal.returns-clause-went_from
returns-clause-went_from c =
    went-from _ _ _ _ _ _ _ _ _ _ c.count_ended-done.ensures _ _ c.keep.ensures c.requires.text_limit_in_bounds

pub returns-clause-sums_went_from : goal.returns-clause-sums_went_from
returns-clause-sums_went_from c =
    sums-went-from _ _ _ _ _ _ _ _ _ _ c.count_ended-done.ensures _ _ c.keep.ensures c.requires.text_limit_in_bounds
