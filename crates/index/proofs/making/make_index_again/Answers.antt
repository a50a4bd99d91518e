-- `index::making::make_index_again` meets its contract (rule 11).
use Rattle.std.proofs.Common.{ℕ, ap, ◌∙◌}
use Rattle.meaning.specs.Calls.{index_from, index_again_after}
use Rattle.index.proofs.making.make_index_again.Goals as goal

pub returns : goal.returns
unfolding index_again_after
returns c =
    record { value = c.make_from.ensures.value; index_after = c.make_from.ensures.index_after ∙ ap (λ (n : ℕ). index_from n c.args.s c.args.table.now c.args.lines c.args.index.now) c.kept_before.ensures }
