-- The tests of the call that lists the pages of a table again, in their order, and what it answers and leaves in each case.
-- Rule 10, refusal 1, refusal 5, refusal 8.
-- Assumes nothing.
use Rattle.std.specs.Prelude.{ℕ, ◌*◌, ◌≤◌, ◌≡◌, List, length, Err, Ok, Result}
use Rattle.meaning.specs.Refusals.{Checked}
use Rattle.std.proofs.Common.{arith, ◌∙◌}
use Rattle.std.proofs.Math.Path.{sym, ap}
use Rattle.meaning.specs.Checks.{first_of, check_limit, check_room}
use Rattle.meaning.specs.Table.{of_all, capacity_of, entries_in}
use Rattle.meaning.specs.WellFormed.{check_table}
use Rattle.meaning.specs.Pages.{pages_of, page_numbers, of_page, kept_pages, written_past}
use Rattle.meaning.specs.PageCalls.{table_pages, check_paging_again, paging_again_answer, paging_again_list}
use Rattle.meaning.specs.declared.refusals.Refusal.{Refusal}
use Rattle.laws.specs.PageLaws.{page_count, pages-count}
use Rattle.laws.specs.TableLaws.{entries_length}
use Rattle.laws.specs.TestOrder.{first_alone, none_refuses}
use Rattle.checks.specs.LimitLaws.{limit-some}
use Rattle.look.specs.GoodTable.{table-room, table-reach, table-count, reach-some}
use Rattle.layout.specs.Checking.{long-enough}
use Rattle.page_list.specs.PageTurns.{Listable}

-- ---- the tests

pub lines-some : (lines : ℕ) (table : List ℕ) → check_table lines table ≡ Ok tt → 1 ≤ lines
lines-some lines table e = reach-some lines table (table-reach lines table e).0

module _ (table : List ℕ) (lines h : ℕ) where
  many : 1 ≤ h → length (table_pages table lines h) ≡ page_count h lines
  unfolding table_pages
  many some = pages-count h some (entries_in lines table) ∙ ap (page_count h) (entries_length lines table)

  module _ (pages : List ℕ) where
    abbrev room : Checked
    room = check_room (capacity_of page_numbers pages) (page_count h lines)

    pub limit-refused : (r : Refusal) → check_limit h ≡ Err r → Err r ≡ check_paging_again table lines h pages
    unfolding check_paging_again first_of
    limit-refused r e = rw e

    module _ (limit : check_limit h ≡ Ok tt) where
      pub table-refused : (r : Refusal) → check_table lines table ≡ Err r → Err r ≡ check_paging_again table lines h pages
      unfolding check_paging_again first_of
      table-refused r e = rw (limit, e)

      pub room_decides : check_table lines table ≡ Ok tt → room ≡ check_paging_again table lines h pages
      unfolding check_paging_again first_of
      room_decides e = sym (rw (limit, e, many (limit-some h limit)) (first_alone _))

    -- What the call answers, and the list afterwards.
    abbrev pub PagingAgain : (first : ℕ) → Result ℕ Refusal → List ℕ → Type 0
    PagingAgain first answer list =
        (answer ≡ paging_again_answer table lines h pages) × (list ≡ paging_again_list table lines h first pages)

    pub again-refused : (first : ℕ) (r : Refusal) → check_paging_again table lines h pages ≡ Err r → PagingAgain first (Err r) pages
    unfolding paging_again_answer paging_again_list
    again-refused first r e = (rw e, rw e)

    -- ---- where nothing is refused

    module _ (good : check_paging_again table lines h pages ≡ Ok tt) where
      limit-good : check_limit h ≡ Ok tt
      unfolding check_paging_again
      limit-good = (none_refuses (check_limit h) _ good).0

      pub again-limit : 1 ≤ h
      again-limit = limit-some h limit-good

      table-good : check_table lines table ≡ Ok tt
      unfolding check_paging_again
      table-good = (none_refuses (check_table lines table) _ (none_refuses (check_limit h) _ good).1).0

      pub again_listable : Listable table lines h pages
      again_listable =
          record {
            held = table-room lines table table-good;
            few = table-count lines table table-good;
            some = lines-some lines table table-good;
            limit = again-limit;
            room = long-enough page_numbers (page_count h lines) pages (omega arith) (room_decides limit-good table-good ∙ good);
          }

      pub again-done : (first kept : ℕ) → kept ≡ kept_pages h first lines → (m : ℕ) → m ≡ page_count h lines → (list : List ℕ)
          → list ≡ written_past (page_numbers * kept) pages (of_all of_page (pages_of h (entries_in lines table)))
          → PagingAgain first (Ok m) list
      unfolding paging_again_answer paging_again_list table_pages
      again-done first kept k m e list w = (
        rw good (ap Ok (e ∙ sym (many again-limit))),
        rw good (w ∙ ap (λ (n : ℕ). written_past (page_numbers * n) pages (of_all of_page (table_pages table lines h))) k),
      )
