-- Numbers written to a buffer but for the first k, which are kept: they are put at place k.
-- Assumes nothing.
use Rattle.std.specs.Prelude.{ℕ, zero, suc, ◌+◌, ◌*◌, ◌≤◌, ◌≡◌, refl, List, [], ◌∷◌, ◌++◌, length, take, drop}
use Rattle.std.proofs.Common.{sym, ap, ◌∙◌, arith, length-append, length-take-le, drop-drop, drop_at}
use Rattle.std.proofs.Math.Seq.{drop-nil}
use Rattle.meaning.specs.Table.{of_all, written}
use Rattle.meaning.specs.Pages.{page_numbers, of_page, written_past}
use Rattle.meaning.specs.declared.page.Page.{Page}
use Rattle.laws.specs.TableLaws.{page-numbers}
use Rattle.table.specs.Numbers.{put_numbers}

-- Those behind the first k are put where they stand.
pub past-put : (k : ℕ) (buffer xs : List ℕ) → k ≤ length buffer → written_past k buffer xs ≡ put_numbers buffer k (drop k xs)
unfolding written_past written put_numbers
past-put k buffer xs h = rw (length-append (take k buffer) (drop k xs), length-take-le k buffer h)

-- The numbers of the pages from page k on.
pub pages-dropped : (k : ℕ) (ps : List Page) → drop (page_numbers * k) (of_all of_page ps) ≡ of_all of_page (drop k ps)
unfolding of_all
pages-dropped zero ps = refl
pages-dropped (suc k) [] = drop-nil {A = ℕ} (page_numbers * suc k)
pages-dropped (suc k) (p ∷ ps) =
    let e : page_numbers * suc k ≡ page_numbers + page_numbers * k = omega arith in
    let more = of_all of_page ps in
    ap (λ (n : ℕ). drop n (of_page p ++ more)) e
    ∙ sym (drop-drop (page_numbers * k) page_numbers (of_page p ++ more))
    ∙ ap (drop (page_numbers * k)) (drop_at (of_page p) more page_numbers (page-numbers p))
    ∙ pages-dropped k ps
