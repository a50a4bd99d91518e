-- The tests of the call that lays a text and lists its pages, in their order, and what it answers and leaves in each case.
-- Rule 10, refusal 1, refusal 2, refusal 3, refusal 4, refusal 8.
-- Assumes nothing.
use Rattle.std.specs.Prelude.{ℕ, ◌+◌, ◌*◌, ◌≤◌, ◌≡◌, Err, Ok, Result}
use Rattle.meaning.specs.Refusals.{Checked}
use Rattle.meaning.specs.declared.answers.Paged.{Paged}
use Rattle.std.proofs.Common.{arith, ◌∙◌}
use Rattle.std.proofs.Math.Path.{sym, ap}
use mathlib.Core.List.{List}
use Rattle.std.proofs.Math.ListN.{length}
use Rattle.utf8.specs.Decoding.{decode_all}
use Rattle.meaning.specs.Checks.{first_of, check_limit, check_room}
use Rattle.meaning.specs.Table.{entry_numbers, of_entry, of_all, capacity_of, written, entries_in}
use Rattle.meaning.specs.Pages.{pages_of, page_numbers, of_page, written_past}
use Rattle.meaning.specs.Calls.{text_rows, text_entries, check_layout}
use Rattle.meaning.specs.Layout.{layout}
use Rattle.meaning.specs.PageCalls.{text_pages, check_paging, paging_answer, paging_table, paging_list}
use Rattle.meaning.specs.declared.settings.Settings.{Settings}
use Rattle.meaning.specs.declared.line.Entry.{Entry}
use Rattle.meaning.specs.declared.refusals.Refusal.{Refusal}
use Rattle.laws.specs.GoodChecks.{has_room}
use Rattle.laws.specs.PageLaws.{page_count, pages-count}
use Rattle.laws.specs.PageStretches.{layout-there}
use Rattle.laws.specs.TableLaws.{entries_written}
use Rattle.laws.specs.TestOrder.{first_alone, three-good}
use Rattle.page_list.specs.WrittenPast.{past-none}
use Rattle.checks.specs.LimitLaws.{limit-some}
use Rattle.rows.specs.RowsFrom.{entries_of, entries_are, few_entries}
use Rattle.layout.specs.Checking.{long-enough, good-ready}
use Rattle.page_list.specs.PageCounts.{count-grows}
use Rattle.page_list.specs.PageTurns.{Listable}

-- ---- the room of the list (8)

module _ (s : Settings) (h : ℕ) (t : List ℕ) where
  pub some-lines : 1 ≤ length (entries_of s t)
  unfolding text_entries text_rows layout
  some-lines = rw (entries_are s t) (layout-there s (decode_all t))

  module _ (some : 1 ≤ h) where
    pub pages-many : length (pages_of h (entries_of s t)) ≡ page_count h (length (entries_of s t))
    pages-many = pages-count h some (entries_of s t)

    -- A list with room for the pages of a line more than the text has bytes has room.
    pub list_fits : (pages : List ℕ) → page_count h (length t + 1) ≤ capacity_of page_numbers pages
        → Ok tt ≡ check_room (capacity_of page_numbers pages) (length (pages_of h (entries_of s t)))
    list_fits pages m =
        has_room _ _ (omega (arith, pages-many, count-grows h some (length (entries_of s t)) (length t + 1) (few_entries s t)))

-- ---- all tests

module _ (s : Settings) (h : ℕ) (t table pages : List ℕ) where
  pub limit-refused : (r : Refusal) → check_limit h ≡ Err r → Err r ≡ check_paging s h t table pages
  unfolding check_paging first_of
  limit-refused r e = rw e

  abbrev room : Checked
  room = check_room (capacity_of page_numbers pages) (length (pages_of h (entries_of s t)))

  module _ (limit : check_limit h ≡ Ok tt) where
    pub lines-refused : (r : Refusal) → check_layout s t table ≡ Err r → Err r ≡ check_paging s h t table pages
    unfolding check_paging first_of
    lines-refused r e = rw (limit, e)

    pub room_decides : check_layout s t table ≡ Ok tt → room ≡ check_paging s h t table pages
    unfolding check_paging first_of text_pages
    room_decides e = sym (rw (limit, e, entries_are s t) (first_alone _))

  -- What the call answers, and the table and the list afterwards.
  abbrev pub Paging : Result Paged Refusal → List ℕ → List ℕ → Type 0
  Paging answer after list =
      (answer ≡ paging_answer s h t table pages) × ((after ≡ paging_table s h t table pages) × (list ≡ paging_list s h t table pages))

  pub paging-refused : (r : Refusal) → check_paging s h t table pages ≡ Err r → Paging (Err r) table pages
  unfolding paging_answer paging_table paging_list
  paging-refused r e = (rw e, (rw e, rw e))

  -- ---- where nothing is refused

  module _ (good : check_paging s h t table pages ≡ Ok tt) where
    all-good : (check_limit h ≡ Ok tt) × (check_layout s t table ≡ Ok tt) × (check_room (capacity_of page_numbers pages) (length (text_pages s h t)) ≡ Ok tt)
    unfolding check_paging
    all-good = three-good (check_limit h) (check_layout s t table) _ good

    pub some-limit : 1 ≤ h
    some-limit = limit-some h all-good.0

    pub layout-good : check_layout s t table ≡ Ok tt
    layout-good = all-good.1

    room-good : room ≡ Ok tt
    unfolding text_pages
    room-good = rw (entries_are s t) all-good.2

    abbrev es : List Entry
    es = entries_of s t

    -- The lines are written.
    module _ (n : ℕ) (count : n ≡ length es) (after : List ℕ) (lines : after ≡ written table (of_all of_entry es)) (same : length after ≡ length table) where
      pub now_listable : entry_numbers * length es ≤ length table → Listable after n h pages
      now_listable held =
          record {
            held = omega (arith, count, same);
            few = omega (arith, count, few_entries s t, (good-ready s t table layout-good).short);
            some = omega (arith, count, some-lines s h t);
            limit = some-limit;
            room =
                rw (count, ← pages-many s h t some-limit)
                (long-enough page_numbers (length (pages_of h es)) pages (omega arith) room-good);
          }

      read : entries_in n after ≡ text_entries s t
      read = rw (count, lines) (entries_written es table ∙ entries_are s t)

      pub paging-done : (m : ℕ) → m ≡ page_count h n → (list : List ℕ)
          → list ≡ written_past (page_numbers * 0) pages (of_all of_page (pages_of h (entries_in n after))) → Paging (Ok (record { lines = n; pages = m })) after list
      unfolding paging_answer paging_table paging_list text_pages
      paging-done m e list w =
          let lines_are : n ≡ length (text_entries s t) = count ∙ ap length (entries_are s t) in
          let pages-are : m ≡ length (pages_of h (text_entries s t)) =
          e ∙ ap (page_count h) lines_are ∙ sym (pages-count h some-limit (text_entries s t)) in (
            rw good (λ i. Ok (record { lines = lines_are i; pages = pages-are i })),
            (
              rw good (lines ∙ ap (λ (xs : List Entry). written table (of_all of_entry xs)) (entries_are s t)),
              rw good (w ∙ ap (λ (xs : List Entry). written_past 0 pages (of_all of_page (pages_of h xs))) read ∙ past-none pages _),
            ),
          )
