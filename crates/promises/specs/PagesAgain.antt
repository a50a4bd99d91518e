-- After an edit, the pages that are listed again from the first affected line on are exactly those that laying and listing the new text
-- afresh leaves, and no page before the one that holds that line is written. By the contracts of the calls.
-- Assumes nothing.
use Rattle.std.specs.Prelude.{ℕ, ◌*◌, ◌≤◌, ◌≡◌, List, length, take, Result}
use Rattle.meaning.specs.declared.answers.Paged.{Paged}
use Rattle.meaning.specs.declared.refusals.Refusal.{Refusal}
use Rattle.meaning.specs.declared.answers.Relaid.{Relaid}
use Rattle.std.proofs.Math.Path.{sym}
use Rattle.std.proofs.Common.{ap, ◌∙◌}
use contract.Lifetimes.{Lfts}
use Rattle.utf8.specs.Encoding.{encode_all}
use Rattle.meaning.specs.Settings.{settings_of}
use Rattle.meaning.specs.Layout.{layout}
use Rattle.meaning.specs.Table.{of_all}
use Rattle.meaning.specs.Edit.{unaffected}
use Rattle.meaning.specs.Calls.{relay_table}
use Rattle.meaning.specs.Pages.{pages_of, page_numbers, of_page, kept_pages}
use Rattle.meaning.specs.PageCalls.{paging_again_list, paging_list}
use Rattle.meaning.specs.declared.settings.Settings.{Settings}
use Rattle.meaning.specs.declared.edit.Edit.{Edit}
use Rattle.promises.specs.Demand3Calls.{EditOf}
use Rattle.paging.specs.PagesKept.{pages-kept, pages_untouched}
use Rattle.promises.specs.PagedAgain.{edit-pages}
use Rattle.promises.specs.Passed.{Lent, LentNumber, LentMut}
use Rattle.promises.specs.CallContracts.{LayAgain, LayPages, ListAgain, CLayAgain, CPages, CPagesAgain}

-- ---- what is not written

module _ (table : Lent) (lines h first : ℕ) (pages : LentMut) (listed : List ℕ) where
  pub list_again-keeps : (κs : Lfts 2) (z : Result ℕ Refusal) → ListAgain κs table lines h first pages z listed
      → take (page_numbers * kept_pages h first lines) listed ≡ take (page_numbers * kept_pages h first lines) pages.now
  list_again-keeps κs z p =
      ap (take (page_numbers * kept_pages h first lines)) p.1 ∙ pages-kept table.now lines h pages.now first

  pub c-pages-again-keeps : (κs : Lfts 3) (value : LentNumber) (z value' : ℕ) → CPagesAgain κs table lines h first pages value z listed value'
      → take (page_numbers * kept_pages h first lines) listed ≡ take (page_numbers * kept_pages h first lines) pages.now
  c-pages-again-keeps κs value z value' p =
      ap (take (page_numbers * kept_pages h first lines)) p.1.0 ∙ pages-kept table.now lines h pages.now first

  -- A line past the last one has nothing written.
  pub list_again_untouched : (κs : Lfts 2) (z : Result ℕ Refusal) → ListAgain κs table lines h first pages z listed → lines ≤ first → listed ≡ pages.now
  list_again_untouched κs z p g = p.1 ∙ pages_untouched table.now lines h pages.now first g

  pub c-pages-again_untouched : (κs : Lfts 3) (value : LentNumber) (z value' : ℕ) → CPagesAgain κs table lines h first pages value z listed value'
      → lines ≤ first → listed ≡ pages.now
  c-pages-again_untouched κs value z value' p g = p.1.0 ∙ pages_untouched table.now lines h pages.now first g

-- ---- after an edit

-- An edit, the table that laying again left, and a list that held the old pages by the same h; and the new text, lent whole with a table
-- and a list that hold what these held.
module _ (s : Settings) (ed : Edit) (old new : List ℕ) (part : Lent) (table : LentMut) (lines h : ℕ) (some : 1 ≤ h)
    (k : EditOf s ed old new table.now lines part.now) (after : List ℕ) (laid : Lent) (laid-is : laid.now ≡ after)
    (text : Lent) (other : LentMut) (text-is : text.now ≡ encode_all new) (other-is : other.now ≡ table.now)
    (pages list : LentMut) (same : list.now ≡ pages.now)
    (held : take (page_numbers * length (pages_of h (layout s old))) pages.now ≡ of_all of_page (pages_of h (layout s old)))
  where
    abbrev count : ℕ
    count = length (layout s new)

    abbrev first : ℕ
    first = length (unaffected ed.from.0 (layout s old))

    again-is : after ≡ relay_table s part.now table.now lines ed
        → paging_again_list laid.now count h first pages.now ≡ paging_list s h text.now other.now list.now
    again-is e =
        ap (λ (t : List ℕ). paging_again_list t count h first pages.now) (laid-is ∙ e)
        ∙ edit-pages k h some pages.now held
        ∙ (λ i. paging_list s h (sym text-is i) (sym other-is i) (sym same i))

    pub list_again_as_fresh : (κs κs' : Lfts 2) (κs'' : Lfts 3) (z : Result Relaid Refusal) (a : Result ℕ Refusal) (b : Result Paged Refusal) (again fresh laid-afresh : List ℕ)
        → LayAgain κs s part table lines ed z after → ListAgain κs' laid count h first pages a again
        → LayPages κs'' s text h other list b laid-afresh fresh → again ≡ fresh
    list_again_as_fresh κs κs' κs'' z a b again fresh laid-afresh p q r = q.1 ∙ again-is p.1 ∙ sym r.1.1

    pub c-pages-again_as_fresh : (κs : Lfts 4) (κs' : Lfts 3) (κs'' : Lfts 5) (value count-laid again-value fresh-value page-count : LentNumber)
        (z a b : ℕ) (again fresh laid-afresh : List ℕ) (n m n' n'' c : ℕ) → CLayAgain κs s part table lines ed value count-laid z after n m
        → CPagesAgain κs' laid count h first pages again-value a again n'
        → CPages κs'' s text h other list fresh-value page-count b laid-afresh fresh n'' c → again ≡ fresh
    unfolding settings_of
    c-pages-again_as_fresh κs κs' κs'' value count-laid again-value fresh-value page-count z a b again fresh laid-afresh n m n' n'' c p q r =
        q.1.0 ∙ again-is p.1.0 ∙ sym r.1.1.0
