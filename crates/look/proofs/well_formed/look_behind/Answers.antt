-- `table::well_formed::look_behind` meets its contract (refusal 5).
use Rattle.std.proofs.Common.{◌≡◌, sym, ◌∙◌, arith}
use Rattle.meaning.specs.Table.{entries_in}
use Rattle.look.specs.Skipping.{check_from}
use Rattle.look.specs.Looking.{looked-line, looked_bad}
use Rattle.look.proofs.SkipTurns.{first-met, met-behind}
use Rattle.laws.specs.Asked.{asked}
use Rattle.look.proofs.well_formed.look_behind.Goals as goal
use Rattle.look.proofs.well_formed.look_behind.Goals.{After-check_on}

-- What is left to check decides.
same : (c : After-check_on) → c.check_on.result ≡ check_from c.args.table.now c.args.lines c.args.bytes.0 1
same c =
    c.check_on.ensures ∙ c.skip_good-good.ensures.check ∙ c.skip_good-low.ensures.check

pub returns-in_err-check_on : goal.returns-in_err-check_on
returns-in_err-check_on c =
    asked _ c.from_residual.ensures.1 ∙ looked_bad c.args.a.0 (entries_in c.args.lines c.args.table.now) _ _ (sym (same (goal.at.returns-in_err-check_on c).After-check_on) ∙ c.in_err-check_on.was)

pub returns-then-a-table : goal.returns-then-a-table
returns-then-a-table c =
    looked-line c.args.a.0 (entries_in c.args.lines c.args.table.now) _ 0 (sym (same (goal.at.returns-then-a-table c).After-check_on) ∙ c.in_ok-check_on.was)
    (first-met c.args.table.now c.args.lines c.args.a.0 c.requires.0 c.if-a-table.true)

pub returns : goal.returns
returns c =
    looked-line c.args.a.0 (entries_in c.args.lines c.args.table.now) _ _ (sym (same (goal.at.returns c).After-check_on) ∙ c.in_ok-check_on.was)
    (met-behind c.args.table.now c.args.lines c.args.a.0 c.requires.0 c.if-a-table.false _ _ _ c.skip_good-low.ensures
    (omega (arith, c.min.ensures)) _ c.affected_from.ensures)
