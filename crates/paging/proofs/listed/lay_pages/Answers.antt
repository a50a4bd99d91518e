-- `paging::listed::lay_pages` meets its contract (rule 10, refusal 1, refusal 2, refusal 3, refusal 4, refusal 8).
use Rattle.std.proofs.Common.{◌≡◌, sym, ◌∙◌}
use Rattle.std.specs.Prelude.{Ok}
use Rattle.meaning.specs.PageCalls.{check_paging}
use Rattle.layout.specs.Checking.{good-ready, good-room}
use Rattle.page_list.specs.PageTurns.{Listable}
use Rattle.paging.specs.Listing.{paging-refused, layout-good, now_listable, paging-done}
use Rattle.laws.specs.Asked.{asked}
use Rattle.paging.proofs.listed.lay_pages.Goals as goal
use Rattle.paging.proofs.listed.lay_pages.Goals.{After-write_lines-lines}

-- The list has room for the pages of the lines written.
listable : (c : After-write_lines-lines) → Listable c.write_lines-lines.new.table c.write_lines-lines.result c.args.h c.args.pages.now
listable c =
    let good = sym c.check_paging.ensures ∙ c.in_ok-check_paging.was in
    now_listable _ _ _ _ _ good _ c.write_lines-lines.ensures.value _ c.write_lines-lines.ensures.table_after c.write_lines-lines.auto.table
    (good-room _ _ _ (layout-good _ _ _ _ _ good))

pub returns-in_err-check_paging : goal.returns-in_err-check_paging
returns-in_err-check_paging c =
    let refused = paging-refused _ _ _ _ _ _ (sym c.check_paging.ensures ∙ c.in_err-check_paging.was) in
    record { value = asked _ c.from_residual.ensures.1 ∙ refused.0; table_after = refused.1.0; pages_after = refused.1.1 }

pub write_lines-lines-requires : goal.write_lines-lines-requires
write_lines-lines-requires c =
    let g = layout-good _ _ _ _ _ (sym c.check_paging.ensures ∙ c.in_ok-check_paging.was) in record { text_ready = good-ready _ _ _ g; text_in_bounds = good-room _ _ _ g }

pub write_pages-requires : goal.write_pages-requires
write_pages-requires c =
    listable (goal.at.write_pages-requires c).After-write_lines-lines

pub page_count-count-requires : goal.page_count-count-requires
page_count-count-requires c =
    (listable (goal.at.page_count-count-requires c).After-write_lines-lines).limit

pub returns : goal.returns
returns c =
    let done =
    paging-done _ _ _ _ _ (sym c.check_paging.ensures ∙ c.in_ok-check_paging.was) _ c.write_lines-lines.ensures.value _ c.write_lines-lines.ensures.table_after
    c.write_lines-lines.auto.table _ c.page_count-count.ensures _ c.write_pages.ensures in
    record { value = done.0; table_after = done.1.0; pages_after = done.1.1 }
