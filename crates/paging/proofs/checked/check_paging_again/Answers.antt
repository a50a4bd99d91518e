-- `paging::checked::check_paging_again` meets its contract (refusal 1, refusal 5, refusal 8).
use Rattle.std.proofs.Common.{sym, ap, ◌∙◌}
use Rattle.meaning.specs.Checks.{check_room}
use Rattle.meaning.specs.Table.{capacity_of}
use Rattle.meaning.specs.Pages.{page_numbers}
use Rattle.checks.specs.LimitLaws.{limit-some}
use Rattle.paging.specs.ListingAgain.{limit-refused, table-refused, room_decides}
use Rattle.laws.specs.Asked.{asked}
use Rattle.paging.proofs.checked.check_paging_again.Goals as goal

pub returns-in_err-check_limit : goal.returns-in_err-check_limit
returns-in_err-check_limit c =
    asked _ c.from_residual.ensures.1 ∙ limit-refused _ _ _ _ _ (sym c.check_limit.ensures ∙ c.in_err-check_limit.was)

pub returns-in_err-check_table : goal.returns-in_err-check_table
returns-in_err-check_table c =
    asked _ c.from_residual-in_err-check_table.ensures.1 ∙ table-refused _ _ _ _ (sym c.check_limit.ensures ∙ c.in_ok-check_limit.was) _
    (sym c.check_table.ensures ∙ c.in_err-check_table.was)

pub page_count-requires : goal.page_count-requires
page_count-requires c =
    limit-some _ (sym c.check_limit.ensures ∙ c.in_ok-check_limit.was)

pub returns : goal.returns
unfolding capacity_of
returns c =
    c.check_room.ensures
    ∙ ap (check_room (capacity_of page_numbers c.args.pages.now)) c.page_count.ensures
    ∙ room_decides _ _ _ _ (sym c.check_limit.ensures ∙ c.in_ok-check_limit.was)
    (sym c.check_table.ensures ∙ c.in_ok-check_table.was)
