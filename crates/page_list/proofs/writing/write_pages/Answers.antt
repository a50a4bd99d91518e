use Rattle.std.proofs.Common.{ℕ, ◌*◌, ◌<◌, refl, arith, ap, ◌∙◌}
use Rattle.meaning.specs.Pages.{page_numbers, of_page}
use Rattle.meaning.specs.declared.page.Page.{Page}
use Rattle.table.specs.Numbers.{put_numbers}
use Rattle.page_list.specs.PageCounts.{begins-within}
use Rattle.page_list.specs.PageTurns.{page_here, list_start, list_end, list_next}
use Rattle.page_list.proofs.writing.write_pages.Goals as goal
use Rattle.page_list.proofs.writing.write_pages.Goals.{In-loop-k}

-- A page that is left begins with a line.
within : (c : In-loop-k) → c.loop-k.k * c.args.h < c.args.lines
within c =
    begins-within c.args.h c.requires.limit c.loop-k.k c.args.lines (omega (arith, c.page_count-k-end.ensures, c.loop-k-test.true))

pub loop-k-init : goal.loop-k-init
loop-k-init c =
    list_start _ _ _ _ c.requires _

pub overflow_mul-first : goal.overflow_mul-first
overflow_mul-first c =
    record { fits = omega (arith, within (goal.at.overflow_mul-first c).In-loop-k, c.requires.few) }

pub page_at-requires : goal.page_at-requires
page_at-requires c =
    (c.requires.held, c.requires.few, within (goal.at.page_at-requires c).In-loop-k)

pub loop-k-preserved : goal.loop-k-preserved
loop-k-preserved c =
    let next =
    list_next _ _ _ _ c.requires _ _ _ _ c.loop-k.invariant
    (within (goal.at.loop-k-preserved c).In-loop-k) _
    (c.write_page.ensures
    ∙ ap (λ (p : Page). put_numbers c.loop-k.pages (page_numbers * c.loop-k.k) (of_page p))
    (c.page_at.ensures ∙ ap (λ (b : ℕ). page_here c.args.table.now c.args.lines c.args.h b (c.loop-k.k * c.args.h)) c.text_length-bytes.ensures))
    c.write_page.auto.pages
    in record { at = refl; same = next.same; left = next.left }

pub returns : goal.returns
returns c =
    list_end _ _ _ _ c.requires _ _ _ _ c.loop-k.invariant (omega (arith, c.page_count-k-end.ensures, c.loop-k-test.false))
