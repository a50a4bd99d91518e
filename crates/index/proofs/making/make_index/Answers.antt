-- `index::making::make_index` meets its contract (rule 11).
use Rattle.meaning.specs.Calls.{index_after}
use Rattle.index.proofs.making.make_index.Goals as goal

pub returns : goal.returns
unfolding index_after
returns c =
    record { value = c.make_from.ensures.value; index_after = c.make_from.ensures.index_after }
