-- `paging::checked::check_pages` meets its contract (refusal 8).
use Rattle.std.proofs.Common.{arith, sym, ap, ◌∙◌}
use Rattle.meaning.specs.Checks.{check_room}
use Rattle.meaning.specs.Table.{capacity_of}
use Rattle.meaning.specs.Pages.{page_numbers}
use Rattle.laws.specs.PageLaws.{page_count}
use Rattle.paging.specs.Listing.{some-lines, pages-many, list_fits}
use Rattle.paging.proofs.checked.check_pages.Goals as goal

pub overflow_add-text : goal.overflow_add-text
overflow_add-text c =
    record { fits = omega (arith, c.requires.0.short) }

pub page_count-requires : goal.page_count-requires
page_count-requires c =
    c.requires.1

pub returns-then-page_count-room : goal.returns-then-page_count-room
unfolding capacity_of
returns-then-page_count-room c =
    list_fits c.args.s c.args.h c.args.text.now c.requires.1 c.args.pages.now (omega (arith, c.page_count.ensures))

pub count_lines-lines-requires : goal.count_lines-lines-requires
count_lines-lines-requires c =
    c.requires.0

pub page_count-requires-2 : goal.page_count-requires-2
page_count-requires-2 c =
    c.requires.1

pub returns : goal.returns
unfolding capacity_of
returns c =
    c.check_room.ensures
    ∙ ap (check_room (capacity_of page_numbers c.args.pages.now))
    (c.page_count-2.ensures ∙ ap (page_count c.args.h) c.count_lines-lines.ensures ∙ sym (pages-many c.args.s c.args.h c.args.text.now c.requires.1))
