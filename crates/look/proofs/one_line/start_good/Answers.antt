-- `table::one_line::start_good` meets its contract (refusal 5).
use Rattle.std.proofs.Common.{◌∙◌}
use Rattle.look.proofs.Judging.{start_first, start-after}
use Rattle.look.proofs.one_line.start_good.Goals as goal

pub returns-in-None : goal.returns-in-None
returns-in-None c =
    start_first c.args.bytes.0 c.args.e c.args.prior c.in-None.is

pub returns-in-Some : goal.returns-in-Some
returns-in-Some c =
    c.start_fits.ensures ∙ start-after c.args.bytes.0 c.args.e c.args.prior _ c.in-Some.is
