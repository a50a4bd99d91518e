-- What an answer of the call that lays a text and lists its pages tells its caller (rule 10).
-- Assumes nothing.
use Rattle.meaning.specs.declared.refusals.Refusal.{Refusal}
use Rattle.meaning.specs.declared.answers.Paged.{Paged}
use Rattle.std.specs.Prelude.{ℕ, ◌*◌, ◌≤◌, ◌≡◌, refl, eqb, length, take, Err, Ok, Result}
use Rattle.meaning.specs.Refusals.{Checked}
use Rattle.std.proofs.Common.{sym, ◌∙◌, arith, take_at, drop_at}
use Rattle.std.proofs.Math.Path.{ap}
use mathlib.Core.List.{List, [], ◌∷◌}
use Rattle.std.proofs.lemmas.Bool.{eqb-false}
use Rattle.std.proofs.Math.ListN.{drop}
use Rattle.meaning.specs.Checks.{answered, check_limit, check_settings, check_length, check_utf8, check_room}
use Rattle.meaning.specs.Table.{entry_numbers, of_entry, of_all, capacity_of, written, entries_in}
use Rattle.meaning.specs.Pages.{page_numbers, of_page}
use Rattle.meaning.specs.Calls.{text_entries, check_layout}
use Rattle.meaning.specs.PageCalls.{text_pages, check_paging, paging_answer, paging_table, paging_list}
use Rattle.meaning.specs.declared.settings.Settings.{Settings}
use Rattle.meaning.specs.declared.refusals.Refusal.TheVariants.{SettingOutOfRange}
use Rattle.laws.specs.GoodChecks.{refuse_good}
use Rattle.laws.specs.PageLaws.{page_count, pages-count}
use Rattle.laws.specs.PageStretches.{joined, text-joins}
use Rattle.laws.specs.TableLaws.{pages-numbers, entries_written}
use Rattle.laws.specs.TestOrder.{none_refuses, three-good}

-- So many lines, and n pages.
pub record PagingSaid (s : Settings) (h : ℕ) (t table pages : List ℕ) (lines n : ℕ) : Type 0 where
  pub laid : lines ≡ length (text_entries s t)
  pub count : n ≡ page_count h lines
  -- The table then holds the text's lines, and the list its pages, whose stretches join to the text.
  pub holds : entries_in lines (paging_table s h t table pages) ≡ text_entries s t
  pub listed : take (page_numbers * n) (paging_list s h t table pages) ≡ of_all of_page (text_pages s h t)
  pub joins : joined t (text_pages s h t) ≡ t
  -- What lies past the last page is as it was.
  pub past : drop (page_numbers * n) (paging_list s h t table pages) ≡ drop (page_numbers * n) pages

-- ---- why

paged_answer : (c : Checked) (a b lines n : ℕ) → ◌≡◌ {A = Result Paged Refusal} (answered c (Ok (record { lines = a; pages = b })) Err) (Ok (record { lines = lines; pages = n }))
    → (c ≡ Ok tt) × (lines ≡ a) × (n ≡ b)
paged_answer (Ok tt) a b lines n e =
    let q : ◌≡◌ {A = Paged} (record { lines = a; pages = b }) (record { lines = lines; pages = n }) = cc in
    (refl, sym (ap (λ (p : Paged). p.lines) q), sym (ap (λ (p : Paged). p.pages) q))
paged_answer (Err r) a b lines n e = (cc, cc, cc)

limit-some : (h : ℕ) → check_limit h ≡ Ok tt → 1 ≤ h
unfolding check_limit
limit-some h e = let d = eqb-false h 0 (refuse_good (eqb h 0) SettingOutOfRange e) in omega arith

module _ (s : Settings) (h : ℕ) (t table pages : List ℕ) where
  layout-text : check_layout s t table ≡ Ok tt → check_utf8 t ≡ Ok tt
  unfolding check_layout
  layout-text e =
      let last = check_room (capacity_of entry_numbers table) (length (text_entries s t)) ∷ [] in
      let p = none_refuses (check_settings s) (check_length (length t) ∷ check_utf8 t ∷ last) e in
      let q = none_refuses (check_length (length t)) (check_utf8 t ∷ last) p.1 in
      (none_refuses (check_utf8 t) last q.1).0

  module _ (lines n : ℕ) (e : paging_answer s h t table pages ≡ Ok (record { lines = lines; pages = n })) where
    answer : (check_paging s h t table pages ≡ Ok tt) × (lines ≡ length (text_entries s t)) × (n ≡ length (text_pages s h t))
    unfolding paging_answer
    answer = paged_answer (check_paging s h t table pages) (length (text_entries s t)) (length (text_pages s h t)) lines n e

    checked : (1 ≤ h) × (check_utf8 t ≡ Ok tt)
    unfolding check_paging
    checked =
        let room = check_room (capacity_of page_numbers pages) (length (text_pages s h t)) in
        let c = three-good (check_limit h) (check_layout s t table) room answer.0 in
        (limit-some h c.0, layout-text c.1)

    numbers : length (of_all of_page (text_pages s h t)) ≡ page_numbers * n
    numbers = pages-numbers (text_pages s h t) ∙ ap (λ (m : ℕ). page_numbers * m) (sym answer.2)

    list_is : paging_list s h t table pages ≡ written pages (of_all of_page (text_pages s h t))
    unfolding paging_list
    list_is = rw answer.0

    table_is_lem : paging_table s h t table pages ≡ written table (of_all of_entry (text_entries s t))
    unfolding paging_table
    table_is_lem = rw answer.0

    pub paging-said : PagingSaid s h t table pages lines n
    unfolding written text_pages
    paging-said =
        let xs = of_all of_page (text_pages s h t) in
        record {
          laid = answer.1;
          count = answer.2 ∙ pages-count h checked.0 (text_entries s t) ∙ ap (page_count h) (sym answer.1);
          holds = rw (table_is_lem, answer.1) (entries_written (text_entries s t) table);
          listed = rw list_is (take_at xs (drop (length xs) pages) (page_numbers * n) numbers);
          joins = text-joins s h checked.0 t checked.1;
          past = rw list_is (drop_at xs (drop (length xs) pages) (page_numbers * n) numbers ∙ ap (λ (m : ℕ). drop m pages) numbers);
        }
