-- `paging::checked::check_paging` meets its contract (refusal 1, refusal 2, refusal 3, refusal 4, refusal 8).
use Rattle.std.proofs.Common.{sym, ◌∙◌}
use Rattle.checks.specs.LimitLaws.{limit-some}
use Rattle.layout.specs.Checking.{good-ready}
use Rattle.paging.specs.Listing.{limit-refused, lines-refused, room_decides}
use Rattle.laws.specs.Asked.{asked}
use Rattle.paging.proofs.checked.check_paging.Goals as goal

pub returns-in_err-check_limit : goal.returns-in_err-check_limit
returns-in_err-check_limit c =
    asked _ c.from_residual.ensures.1 ∙ limit-refused _ _ _ _ _ _ (sym c.check_limit.ensures ∙ c.in_err-check_limit.was)

pub returns-in_err-check_layout : goal.returns-in_err-check_layout
returns-in_err-check_layout c =
    asked _ c.from_residual-in_err-check_layout.ensures.1 ∙ lines-refused _ _ _ _ _ (sym c.check_limit.ensures ∙ c.in_ok-check_limit.was) _
    (sym c.check_layout.ensures ∙ c.in_err-check_layout.was)

pub check_pages-requires : goal.check_pages-requires
check_pages-requires c =
    (good-ready _ _ _ (sym c.check_layout.ensures ∙ c.in_ok-check_layout.was), limit-some _ (sym c.check_limit.ensures ∙ c.in_ok-check_limit.was))

pub returns : goal.returns
returns c =
    c.check_pages.ensures
    ∙ room_decides _ _ _ _ _ (sym c.check_limit.ensures ∙ c.in_ok-check_limit.was)
    (sym c.check_layout.ensures ∙ c.in_ok-check_layout.was)
