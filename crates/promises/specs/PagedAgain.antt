-- After an edit, a list of pages that is written again from the page of the first affected line on is the one made afresh (rule 10, laying
-- again).
-- Assumes nothing.
use Rattle.std.specs.Prelude.{ℕ, zero, suc, ◌*◌, ◌/◌, ◌≤◌, ◌<◌, ◌≡◌, refl, List, ◌∷◌, ◌++◌, map, length, take}
use Rattle.meaning.specs.Refusals.{Checked}
use Rattle.std.proofs.Math.Path.{sym}
use Rattle.std.proofs.Common.{ap, ◌∙◌, div-mul-le_self, arith, take-take}
use Rattle.utf8.specs.Encoding.{size, encode_all}
use Rattle.meaning.specs.LineIter.{Held}
use Rattle.meaning.specs.Line.{entry_at}
use Rattle.meaning.specs.Checks.{first_of, afterwards, check_room}
use Rattle.meaning.specs.Layout.{row_at, rows_by, entry_of_row, layout}
use Rattle.meaning.specs.Table.{entry_numbers, of_entry, of_all, capacity_of, written, entries_in}
use Rattle.meaning.specs.Edit.{unaffected, held_of}
use Rattle.meaning.specs.Pages.{pages_of, page_numbers, of_page, kept_pages, written_past}
use Rattle.meaning.specs.Calls.{relay_table}
use Rattle.meaning.specs.PageCalls.{text_pages, check_paging, paging_list, table_pages, check_paging_again, paging_again_list}
use Rattle.meaning.specs.declared.settings.Settings.{Settings}
use Rattle.meaning.specs.declared.edit.Edit.{Edit}
use Rattle.meaning.specs.declared.line.Entry.{Entry}
use Rattle.laws.specs.Affected.{affected_split, layout-first}
use Rattle.promises.specs.Demand3Calls.{EditOf, demand_3_holds}
use Rattle.laws.specs.GoodChecks.{limit-good, table-good}
use Rattle.promises.specs.LayoutCalls.{text-layout, layout-checked}
use Rattle.again.specs.Meeting.{Replaces}
use Rattle.laws.specs.PageLaws.{page-there}
use Rattle.paging.specs.PagesKept.{kept-some, pages-all}
use Rattle.promises.specs.SamePages.{SameStarts, same-long, same-onward, same_then, same-pages}
use Rattle.laws.specs.TableLaws.{entries_numbers, page-numbers, all_first, written-length, entries_written}
use Rattle.laws.specs.TestOrder.{first_alone}
use Rattle.page_list.specs.WrittenPast.{past-right}

-- ---- where the lines start

-- Lines that are laid start where they are laid from.
laid_then : (s : Settings) (u : List Entry) (e : Entry) (es : List Entry) (n before : ℕ) (h : Held) (cs : List ℕ) → 1 ≤ n
    → SameStarts (suc (length u)) (u ++ (e ∷ es)) (u ++ map entry_of_row (rows_by n s e.start.0 before h cs))
unfolding rows_by row_at entry_at
laid_then s u e es zero before h cs p = absurd (omega arith)
laid_then s u e es (suc n) before h cs p = same_then u e _ es _ refl

both-start : (s : Settings) (u : List Entry) (e : Entry) (es : List Entry) (n before : ℕ) (h : Held) (cs : List ℕ) (old new : List Entry)
    → 1 ≤ n → old ≡ u ++ (e ∷ es) → new ≡ u ++ map entry_of_row (rows_by n s e.start.0 before h cs) → SameStarts (suc (length u)) old new
both-start s u e es n before h cs old new m p q = rw (p, q) (laid_then s u e es n before h cs m)

-- The first affected line starts where the line in its place of the new layout does, and so does each before it.
pub edit-starts : (s : Settings) (ed : Edit) (pre mid ins post : List ℕ) → Replaces ed pre mid ins →
    let old = layout s (pre ++ (mid ++ post)) in
    SameStarts (suc (length (unaffected ed.from.0 old))) old (layout s (pre ++ (ins ++ post)))
edit-starts s ed pre mid ins post r =
    let old = layout s (pre ++ (mid ++ post)) in
    let f = layout-first s pre (mid ++ post) (ins ++ post) in
    let e = f.entry in
    let u = unaffected (size pre) old in
    let was : old ≡ u ++ (e ∷ f.more) = sym (affected_split (size pre) old) ∙ ap (◌++◌ u) f.found in
    rw r.from
    (both-start s u e f.more f.fuel e.before.0 (held_of e f.part) f.part old (layout s (pre ++ (ins ++ post)))
    (omega (arith, f.enough)) was f.new_is)

-- ---- after an edit

module _ {s : Settings} {ed : Edit} {old new table : List ℕ} {lines : ℕ} {part : List ℕ} (k : EditOf s ed old new table lines part) (h : ℕ) (some : 1 ≤ h) where
  abbrev first : ℕ
  first = length (unaffected ed.from.0 (layout s old))

  -- The pages before the one that holds it.
  abbrev kept : ℕ
  kept = first / h

  starts : SameStarts (suc first) (layout s old) (layout s new)
  starts = rw (k.old-is, k.new_is) (edit-starts s ed k.pre k.mid k.ins k.post k.replaces)

  there : (first < length (layout s old)) × (first < length (layout s new))
  there = same-long (suc first) (layout s old) (layout s new) starts

  -- Of the pages before the one that holds the first affected line, the last ends where a line starts that is not behind that one.
  same_kept : take kept (pages_of h (layout s old)) ≡ take kept (pages_of h (layout s new))
  same_kept =
      let n = suc (kept * h) in
      same-pages h kept (layout s old) (layout s new) some
      (same-onward 0 n (suc first) (layout s old) (layout s new) (omega (arith, div-mul-le_self first h)) starts)

  few-kept : kept < length (pages_of h (layout s old))
  few-kept = page-there h some kept (layout s old) (omega (arith, there, div-mul-le_self first h))

  -- A list that held the pages of the old layout, written again from the page of the first affected line on, is one made afresh.
  pub pages-again : (pages : List ℕ) → take (page_numbers * length (pages_of h (layout s old))) pages ≡ of_all of_page (pages_of h (layout s old))
      → written_past (page_numbers * kept_pages h first (length (layout s new))) pages (of_all of_page (pages_of h (layout s new)))
      ≡ written pages (of_all of_page (pages_of h (layout s new)))
  pages-again pages held =
      let was = pages_of h (layout s old) in
      let now = pages_of h (layout s new) in
      let right : take (page_numbers * kept) pages ≡ take (page_numbers * kept) (of_all of_page now) =
      sym (take-take (page_numbers * kept) (page_numbers * length was) pages (omega (arith, few-kept)))
      ∙ ap (take (page_numbers * kept)) held
      ∙ all_first of_page page_numbers page-numbers kept was
      ∙ ap (of_all of_page) same_kept
      ∙ sym (all_first of_page page_numbers page-numbers kept now) in
      rw (kept-some h first (length (layout s new)) there.1) (past-right (page_numbers * kept) pages (of_all of_page now) right)

  -- So the call that lists them again from that line on leaves what it leaves from the first line on, for a table that holds the
  -- new layout.
  module _ (after pages : List ℕ) (holds : entries_in (length (layout s new)) after ≡ layout s new)
      (held : take (page_numbers * length (pages_of h (layout s old))) pages ≡ of_all of_page (pages_of h (layout s old))) where
    left : paging_again_list after (length (layout s new)) h first pages
        ≡ afterwards (check_paging_again after (length (layout s new)) h pages) (written pages (of_all of_page (pages_of h (layout s new)))) pages
    unfolding paging_again_list table_pages
    left = rw (holds, pages-again pages held)

    pub pages_call_again : paging_again_list after (length (layout s new)) h first pages ≡ paging_again_list after (length (layout s new)) h 0 pages
    unfolding table_pages
    pages_call_again = left ∙ sym (rw holds at (pages-all after (length (layout s new)) h pages (omega (arith, there))))

    abbrev listed : Checked
    listed = check_room (capacity_of page_numbers pages) (length (pages_of h (layout s new)))

    again-checked : entry_numbers * length (layout s new) ≤ length after → check_paging_again after (length (layout s new)) h pages ≡ listed
    unfolding check_paging_again table_pages first_of
    again-checked room =
        rw (limit-good h some, table-good s new (length (layout s new)) after k.new-size room holds, holds) (first_alone listed)

    fresh_checked : (other : List ℕ) → entry_numbers * length (layout s new) ≤ length other → check_paging s h (encode_all new) other pages ≡ listed
    unfolding check_paging text_pages first_of
    fresh_checked other room =
        rw (limit-good h some, layout-checked s new k.new-text k.settings k.new-size other room, text-layout s new k.new-text)
        (first_alone listed)

    -- And what the call leaves that lays the whole new text, in a table with room for it, and lists its pages.
    pub pages_call_fresh : entry_numbers * length (layout s new) ≤ length after → (other : List ℕ)
        → entry_numbers * length (layout s new) ≤ length other
        → paging_again_list after (length (layout s new)) h first pages ≡ paging_list s h (encode_all new) other pages
    unfolding paging_list text_pages
    pages_call_fresh room other free =
        left ∙ rw (again-checked room, fresh_checked other free, text-layout s new k.new-text)

  -- Laid again and listed again is laid and listed afresh, also where the list has no room for the pages.
  pub edit-pages : (pages : List ℕ) → take (page_numbers * length (pages_of h (layout s old))) pages ≡ of_all of_page (pages_of h (layout s old))
      → paging_again_list (relay_table s part table lines ed) (length (layout s new)) h first pages ≡ paging_list s h (encode_all new) table pages
  edit-pages pages held =
      let es = layout s new in
      let is = (demand_3_holds k).relay_table_lem in
      let long : length (written table (of_all of_entry es)) ≡ length table =
      written-length table (of_all of_entry es) (omega (arith, entries_numbers es, k.room)) in
      rw is (pages_call_fresh (written table (of_all of_entry es)) pages (entries_written es table) held (omega (arith, k.room, long)) table k.room)
