-- `table::one_line::entry_good` meets its contract (refusal 5).
use Rattle.look.proofs.Judging.{all-tests}
use Rattle.look.proofs.one_line.entry_good.Goals as goal

pub returns : goal.returns
returns c =
    all-tests c.args.bytes.0 c.args.e c.args.prior c.args.last _ _ _ _ c.start_good-start.ensures
    c.rest_good-rest.ensures c.ending_good-ending.ensures c.count_good-count.ensures
