-- `paging::listed::list_again` meets its contract (rule 10, refusal 1, refusal 5, refusal 8).
use Rattle.std.proofs.Common.{◌≡◌, sym, ◌∙◌}
use Rattle.std.specs.Prelude.{Ok}
use Rattle.meaning.specs.PageCalls.{check_paging_again}
use Rattle.paging.specs.ListingAgain.{again-refused, again-limit, again_listable, again-done}
use Rattle.laws.specs.Asked.{asked}
use Rattle.paging.proofs.listed.list_again.Goals as goal

pub returns-in_err-check_paging_again : goal.returns-in_err-check_paging_again
returns-in_err-check_paging_again c =
    let refused = again-refused _ _ _ _ c.args.first _ (sym c.check_paging_again.ensures ∙ c.in_err-check_paging_again.was) in
    record { value = asked _ c.from_residual.ensures.1 ∙ refused.0; pages_after = refused.1 }

pub kept_pages-kept-requires : goal.kept_pages-kept-requires
kept_pages-kept-requires c =
    again-limit _ _ _ _ (sym c.check_paging_again.ensures ∙ c.in_ok-check_paging_again.was)

pub write_pages-requires : goal.write_pages-requires
write_pages-requires c =
    again_listable _ _ _ _ (sym c.check_paging_again.ensures ∙ c.in_ok-check_paging_again.was)

pub page_count-count-requires : goal.page_count-count-requires
page_count-count-requires c =
    again-limit _ _ _ _ (sym c.check_paging_again.ensures ∙ c.in_ok-check_paging_again.was)

pub returns : goal.returns
returns c =
    let done = again-done _ _ _ _ (sym c.check_paging_again.ensures ∙ c.in_ok-check_paging_again.was) _ _ c.kept_pages-kept.ensures _ c.page_count-count.ensures _ c.write_pages.ensures in
    record { value = done.0; pages_after = done.1 }
