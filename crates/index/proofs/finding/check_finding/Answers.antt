-- `index::finding::check_finding` meets its contract (refusal 5, refusal 10).
use Rattle.std.proofs.Common.{sym, ◌∙◌}
use Rattle.laws.specs.Asked.{asked}
use Rattle.index.proofs.Answering.{finding_bad, finding_index}
use Rattle.index.proofs.finding.check_finding.Goals as goal

pub returns-in_err-check_table : goal.returns-in_err-check_table
returns-in_err-check_table c =
    asked _ c.from_residual.ensures.1
    ∙ finding_bad c.args.table.now c.args.lines c.args.index.now _ (sym c.check_table.ensures ∙ c.in_err-check_table.was)

pub returns : goal.returns
returns c =
    c.check_index.ensures
    ∙ finding_index c.args.table.now c.args.lines c.args.index.now (sym c.check_table.ensures ∙ c.in_ok-check_table.was)
