-- A call that chooses a text or lists pages and refuses leaves every buffer that it is lent as it was, and every number but the one that
-- goes besides the refusal's.
-- Assumes nothing.
use Rattle.std.specs.Prelude.{ℕ, ◌<◌, ◌≡◌, List, Err}
use Rattle.std.proofs.Common.{arith, ap, ◌∙◌}
use contract.Lifetimes.{Lfts}
use Rattle.meaning.specs.Settings.{settings_of}
use Rattle.meaning.specs.PageCalls.{choosing_answer, paging_answer}
use Rattle.meaning.specs.Answers.{answer_number}
use Rattle.meaning.specs.declared.settings.Settings.{Settings}
use Rattle.meaning.specs.declared.refusals.Refusal.{Refusal}
use Rattle.promises.specs.Passed.{Lent, LentNumber, LentMut}
use Rattle.promises.specs.CallContracts.{LayPages, ListAgain, CChoose, CPages, CPagesAgain}
use Rattle.promises.specs.PagesUnwritten.{paging-kept, paging-again-kept, choosing-kept, paging-counted}

-- ---- the calls in Rattle

pub lay_pages-refused : (κs : Lfts 3) (s : Settings) (text : Lent) (h : ℕ) (table pages : LentMut) (r : Refusal) (after listed : List ℕ)
    → LayPages κs s text h table pages (Err r) after listed → (after ≡ table.now) × (listed ≡ pages.now)
lay_pages-refused κs s text h table pages r after listed p =
    let k = paging-kept s h text.now table.now pages.now (λ n e. let z : ◌≡◌ {A = ℕ} 0 1 = cc in omega arith) in
    (p.1.0 ∙ k.0, p.1.1 ∙ k.1)

pub list_again-refused : (κs : Lfts 2) (table : Lent) (lines h first : ℕ) (pages : LentMut) (r : Refusal) (listed : List ℕ)
    → ListAgain κs table lines h first pages (Err r) listed → listed ≡ pages.now
list_again-refused κs table lines h first pages r listed p =
    p.1 ∙ paging-again-kept table.now lines h first pages.now (λ m e. let z : ◌≡◌ {A = ℕ} 0 1 = cc in omega arith)

-- ---- the calls for C

pub c-choose-refused : (κs : Lfts 4) (s : Settings) (long short : Lent) (h : ℕ) (value which left : LentNumber) (z value' which' left' : ℕ)
    → CChoose κs s long short h value which left z value' which' left' → 0 < z → (which' ≡ which.now) × (left' ≡ left.now)
unfolding settings_of
c-choose-refused κs s long short h value which left z value' which' left' p g =
    let k = choosing-kept (choosing_answer s h long.now short.now) which.now left.now (omega (arith, p.0)) in
    (p.1.1.0 ∙ k.0, p.1.1.1 ∙ k.1)

pub c-pages-refused : (κs : Lfts 5) (s : Settings) (text : Lent) (h : ℕ) (table pages : LentMut) (value count : LentNumber) (z : ℕ)
    (after listed : List ℕ) (value' count' : ℕ) → CPages κs s text h table pages value count z after listed value' count' → 0 < z
    → (after ≡ table.now) × (listed ≡ pages.now) × (count' ≡ count.now)
unfolding settings_of
c-pages-refused κs s text h table pages value count z after listed value' count' p g =
    let k = paging-kept s h text.now table.now pages.now (λ n e. omega (arith, p.0 ∙ ap answer_number e)) in (
      p.1.0 ∙ k.0,
      p.1.1.0 ∙ k.1,
      p.1.1.1.1 ∙ paging-counted (paging_answer s h text.now table.now pages.now) count.now (omega (arith, p.0)),
    )

pub c-pages-again-refused : (κs : Lfts 3) (table : Lent) (lines h first : ℕ) (pages : LentMut) (value : LentNumber) (z : ℕ) (listed : List ℕ)
    (value' : ℕ) → CPagesAgain κs table lines h first pages value z listed value' → 0 < z → listed ≡ pages.now
c-pages-again-refused κs table lines h first pages value z listed value' p g =
    p.1.0 ∙ paging-again-kept table.now lines h first pages.now (λ m e. omega (arith, p.0 ∙ ap answer_number e))
