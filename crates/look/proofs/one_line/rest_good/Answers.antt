-- `table::one_line::rest_good` meets its contract (refusal 5).
use Rattle.std.proofs.Common.{◌∙◌}
use Rattle.look.proofs.Judging.{rest-first, rest-after}
use Rattle.look.proofs.one_line.rest_good.Goals as goal

pub returns-in-None : goal.returns-in-None
returns-in-None c =
    c.has_no_rest.ensures ∙ rest-first c.args.bytes.0 c.args.e c.args.prior c.in-None.is

pub returns-in-Some : goal.returns-in-Some
returns-in-Some c =
    c.rest_stands.ensures ∙ rest-after c.args.bytes.0 c.args.e c.args.prior _ c.in-Some.is
