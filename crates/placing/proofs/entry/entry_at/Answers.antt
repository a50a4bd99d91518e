-- `placing::entry::entry_at` meets its contract (rule 12).
use Rattle.placing.specs.Laying.{laid_at}
use Rattle.placing.proofs.entry.entry_at.Goals as goal

pub returns : goal.returns
unfolding laid_at
returns c =
    λ i.
    record {
      start = c.args.at;
      rest = c.rest_in-resumed.ensures i;
      ending = c.from-ending.ensures i;
      left = c.args.p.left;
      space = c.args.p.spaces.width;
      extra = c.args.p.spaces.extra;
      width = c.args.width;
      dropped = c.args.e.dropped;
      reach = record { 0 = c.max-reach.ensures i };
      before = c.args.before;
    }
