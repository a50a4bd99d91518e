-- Pages that are listed again from a line on: those before the page that holds it are kept, and nothing past the last one is written
-- (rule 10).
-- Assumes nothing.
use Rattle.std.specs.Prelude.{ℕ, ◌*◌, ◌/◌, ◌≤◌, ◌<◌, ◌≡◌, Err, Ok}
use Rattle.meaning.specs.Refusals.{Checked}
use Rattle.std.proofs.Math.Path.{refl}
use mathlib.Core.List.{List}
use Rattle.std.proofs.Math.Nat.{zero-div}
use Rattle.std.proofs.Common.{arith, lt-ltb, le-ltb}
use Rattle.std.proofs.Math.ListN.{length, take, drop}
use Rattle.basis.specs.Choice.{pick}
use Rattle.meaning.specs.Checks.{afterwards, check_limit, check_room}
use Rattle.meaning.specs.Table.{of_all, capacity_of, written, entries_in}
use Rattle.meaning.specs.WellFormed.{check_table}
use Rattle.meaning.specs.Pages.{pages_of, page_numbers, of_page, kept_pages, written_past}
use Rattle.meaning.specs.PageCalls.{table_pages, check_paging_again, paging_again_list}
use Rattle.laws.specs.GoodChecks.{room-is}
use Rattle.laws.specs.PageLaws.{pages-few}
use Rattle.laws.specs.TableLaws.{entries_length, capacity_is, pages-numbers}
use Rattle.laws.specs.TestOrder.{three-good}
use Rattle.page_list.specs.WrittenPast.{past-none, past_all, past-kept, past-behind}

-- How many are kept.
pub kept-some : (h first lines : ℕ) → first < lines → kept_pages h first lines ≡ first / h
unfolding kept_pages pick
kept-some h first lines p = rw (lt-ltb first lines p)

pub kept-all : (h first lines : ℕ) → lines ≤ first → kept_pages h first lines ≡ lines
unfolding kept_pages pick
kept-all h first lines p = rw (le-ltb first lines p)

-- What a call leaves, where it is refused and where it is not.
once-good : (P : List ℕ → Type 0) (c : Checked) (new old : List ℕ) → (c ≡ Ok tt → P new) → P old → P (afterwards c new old)
once-good P (Ok tt) new old f p = f refl
once-good P (Err r) new old f p = p

module _ (table : List ℕ) (lines h : ℕ) (pages : List ℕ) where
  abbrev numbers : List ℕ
  numbers = of_all of_page (table_pages table lines h)

  room_for : check_paging_again table lines h pages ≡ Ok tt → length numbers ≤ length pages
  unfolding check_paging_again
  room_for g =
      let n = length (table_pages table lines h) in
      let t = three-good (check_limit h) (check_table lines table) (check_room (capacity_of page_numbers pages) n) g in
      let room = (capacity_is page_numbers n pages (omega arith)).0 (room-is (capacity_of page_numbers pages) n t.2) in
      omega (arith, room, pages-numbers (table_pages table lines h))

  -- Pages before the one that holds the line are not written.
  pub pages-kept : (first : ℕ) → take (page_numbers * kept_pages h first lines) (paging_again_list table lines h first pages)
      ≡ take (page_numbers * kept_pages h first lines) pages
  unfolding paging_again_list
  pages-kept first =
      let k = page_numbers * kept_pages h first lines in
      once-good (λ (l : List ℕ). take k l ≡ take k pages) (check_paging_again table lines h pages) (written_past k pages numbers) pages
      (λ g. past-kept k pages numbers (room_for g)) refl

  -- Nor is anything past the last page.
  pub pages-past : (first : ℕ) → drop (length numbers) (paging_again_list table lines h first pages) ≡ drop (length numbers) pages
  unfolding paging_again_list
  pages-past first =
      let k = page_numbers * kept_pages h first lines in
      once-good (λ (l : List ℕ). drop (length numbers) l ≡ drop (length numbers) pages) (check_paging_again table lines h pages)
      (written_past k pages numbers) pages (λ g. past-behind k pages numbers (room_for g)) refl

  -- Where there is no such line, none is written.
  pub pages_untouched : (first : ℕ) → lines ≤ first → paging_again_list table lines h first pages ≡ pages
  unfolding paging_again_list table_pages
  pages_untouched first p =
      let es = entries_in lines table in
      let few : length numbers ≤ page_numbers * lines =
      omega (arith, pages-numbers (pages_of h es), pages-few h es, entries_length lines table) in
      rw (kept-all h first lines p, past_all (page_numbers * lines) pages numbers few)
      (once-good (λ (l : List ℕ). l ≡ pages) (check_paging_again table lines h pages) pages pages (λ _. refl) refl)

  -- Where it is the first line, all are.
  pub pages-all : 1 ≤ lines → paging_again_list table lines h 0 pages
      ≡ afterwards (check_paging_again table lines h pages) (written pages numbers) pages
  unfolding paging_again_list
  pages-all p = rw (kept-some h 0 lines p, zero-div h, past-none pages numbers)
