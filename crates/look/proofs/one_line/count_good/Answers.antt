-- `table::one_line::count_good` meets its contract (refusal 5).
use Rattle.std.proofs.Common.{◌∙◌}
use Rattle.look.proofs.Judging.{count-first, count-after}
use Rattle.look.proofs.one_line.count_good.Goals as goal

pub returns-in-None : goal.returns-in-None
returns-in-None c =
    count-first c.args.e c.args.prior c.in-None.is

pub returns-in-Some : goal.returns-in-Some
returns-in-Some c =
    c.count_fits.ensures ∙ count-after c.args.e c.args.prior _ c.in-Some.is
