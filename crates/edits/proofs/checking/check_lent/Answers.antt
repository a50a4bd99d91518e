-- `edits::checking::check_lent` meets its contract (refusal 1, refusal 2, refusal 3, refusal 4, refusal 5, refusal 6).
use Rattle.std.proofs.Common.{refl, sym, ap, ◌∙◌}
use Rattle.std.specs.Prelude.{Ok}
use Rattle.meaning.specs.Refusals.{Checked}
use Rattle.meaning.specs.Table.{entries_in}
use Rattle.look.specs.Looking.{looked_over, look_says, looked_bad}
use Rattle.edits.specs.Checking.{text-utf8, lent-long, lent-whole, lent-text, lent-table, lent-first}
use Rattle.laws.specs.Asked.{asked}
use Rattle.edits.proofs.checking.check_lent.Goals as goal

pub returns-then-part-gt-TEXT_LIMIT : goal.returns-then-part-gt-TEXT_LIMIT
returns-then-part-gt-TEXT_LIMIT c =
    looked_bad _ _ _ _ (sym (lent-long _ _ _ _ c.if-part-gt-TEXT_LIMIT.true))

pub returns-in_err-check_whole : goal.returns-in_err-check_whole
returns-in_err-check_whole c =
    asked _ c.from_residual.ensures.1 ∙ looked_bad _ _ _ _ (sym (lent-whole _ _ _ _ c.if-part-gt-TEXT_LIMIT.false _ refl _ (sym c.check_whole.ensures ∙ c.in_err-check_whole.was)))

pub returns-in_err-check_text : goal.returns-in_err-check_text
returns-in_err-check_text c =
    asked _ c.from_residual-in_err-check_text.ensures.1 ∙ looked_bad _ _ _ _ (sym (lent-text _ _ _ _ c.if-part-gt-TEXT_LIMIT.false _ refl (sym c.check_whole.ensures ∙ c.in_ok-check_whole.was) _
    (sym c.check_text.ensures ∙ c.in_err-check_text.was)))

pub returns-in_err-k : goal.returns-in_err-k
returns-in_err-k c =
    asked _ c.from_residual-in_err-k.ensures.1 ∙ looked_bad _ _ _ _ (sym (lent-table _ _ _ _ c.if-part-gt-TEXT_LIMIT.false _ refl (sym c.check_whole.ensures ∙ c.in_ok-check_whole.was)
    (sym c.check_text.ensures ∙ c.in_ok-check_text.was) _
    (look_says _ _ _ _ (sym c.in_err-k.was ∙ c.look_over-looked.ensures))))

pub check_first-requires : goal.check_first-requires
check_first-requires c =
    let says = look_says _ _ _ (Ok c.in_ok-k.k) (sym c.in_ok-k.was ∙ c.look_over-looked.ensures) in
    (text-utf8 _ (sym c.check_text.ensures ∙ c.in_ok-check_text.was), says.0, says.1)

pub returns : goal.returns
returns c =
    let says = look_says _ _ _ (Ok c.in_ok-k.k) (sym c.in_ok-k.was ∙ c.look_over-looked.ensures) in
    c.check_first.ensures
    ∙ ap (λ (x : Checked). looked_over c.args.edit.from.0 x (entries_in c.args.lines c.args.table.now))
    (lent-first _ _ _ _ c.if-part-gt-TEXT_LIMIT.false _ refl (sym c.check_whole.ensures ∙ c.in_ok-check_whole.was)
    (sym c.check_text.ensures ∙ c.in_ok-check_text.was) says.0)
