-- `index::finding::find_line` meets its contract (rule 11).
use Rattle.std.proofs.Common.{sym, ap, ◌∙◌}
use Rattle.std.specs.Prelude.{Ok}
use Rattle.laws.specs.Asked.{asked}
use Rattle.index.proofs.Answering.{finding_gives, line-found, find_refused}
use Rattle.index.proofs.ReadYs.{passed-found}
use Rattle.index.proofs.finding.find_line.Goals as goal

pub returns-in_err-check_finding : goal.returns-in_err-check_finding
returns-in_err-check_finding c =
    asked _ c.from_residual.ensures.1
    ∙ find_refused c.args.table.now c.args.lines c.args.index.now c.args.y _ (sym c.check_finding.ensures ∙ c.in_err-check_finding.was)

pub find_in-requires : goal.find_in-requires
find_in-requires c =
    finding_gives c.args.table.now c.args.lines c.args.index.now (sym c.check_finding.ensures ∙ c.in_ok-check_finding.was)

pub returns : goal.returns
returns c =
    ap Ok (c.find_in.ensures ∙ passed-found c.args.y c.ranges.y c.args.index.now)
    ∙ line-found c.args.table.now c.args.lines c.args.index.now c.args.y (sym c.check_finding.ensures ∙ c.in_ok-check_finding.was)
