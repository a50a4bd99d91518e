-- `table::affected::first_affected` meets its contract (refusal 3, refusal 5, refusal 6, laying again).
use Rattle.std.proofs.Common.{ℕ, sym, ap, ◌∙◌}
use Rattle.std.specs.Prelude.{Ok}
use Rattle.meaning.specs.Table.{entries_in}
use Rattle.meaning.specs.WellFormed.{check_table}
use Rattle.table.specs.EditAlone.{check_place, affected-place, affected_bad, affected-line, affected-refused}
use Rattle.look.specs.GoodTable.{table-room}
use Rattle.look.specs.Looking.{Says, look_says}
use Rattle.laws.specs.Asked.{asked}
use Rattle.look.proofs.affected.first_affected.Goals as goal
use Rattle.look.proofs.affected.first_affected.Goals.{In_ok-line}

-- What the look over the table says.
found : (c : In_ok-line) → Says c.args.edit.from.0 (check_table c.args.lines c.args.table.now) (entries_in c.args.lines c.args.table.now) (Ok c.in_ok-line.line)
found c =
    look_says _ _ _ _ (sym c.in_ok-line.was ∙ c.look_over.ensures)

pub text_length-requires : goal.text_length-requires
text_length-requires c =
    table-room _ _ (found (goal.at.text_length-requires c).In_ok-line).0

pub returns-in_err-check_place : goal.returns-in_err-check_place
returns-in_err-check_place c =
    asked _ c.from_residual-in_err-check_place.ensures.1 ∙ affected-refused c.args.table.now c.args.lines c.args.edit _
    (affected-place c.args.table.now c.args.lines c.args.edit (found (goal.at.returns-in_err-check_place c).In_ok-line).0
    ∙ ap (λ (n : ℕ). check_place n c.args.edit) (sym c.text_length.ensures) ∙ sym c.check_place.ensures ∙ c.in_err-check_place.was)

pub returns : goal.returns
returns c =
    ap Ok (found (goal.at.returns c).In_ok-line).1
    ∙ affected-line c.args.table.now c.args.lines c.args.edit
    (affected-place c.args.table.now c.args.lines c.args.edit (found (goal.at.returns c).In_ok-line).0
    ∙ ap (λ (n : ℕ). check_place n c.args.edit) (sym c.text_length.ensures) ∙ sym c.check_place.ensures ∙ c.in_ok-check_place.was)

pub returns-in_err-line : goal.returns-in_err-line
returns-in_err-line c =
    asked _ c.from_residual.ensures.1 ∙ affected-refused c.args.table.now c.args.lines c.args.edit _
    (affected_bad c.args.table.now c.args.lines c.args.edit _ (look_says _ _ _ _ (sym c.in_err-line.was ∙ c.look_over.ensures)))
