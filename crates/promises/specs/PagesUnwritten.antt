-- By the definitions, a call that chooses a text or lists pages and is not done leaves each buffer as it was, and each number that only
-- a call that is done writes.
-- Assumes nothing.
use Rattle.std.specs.Prelude.{ℕ, ◌<◌, ◌≡◌, refl, List, Err, Ok, Result}
use Rattle.meaning.specs.declared.answers.Chosen.TheVariants as chosen
use Rattle.meaning.specs.declared.answers.Chosen.{Chosen}
use Rattle.meaning.specs.declared.answers.Paged.{Paged}
use Rattle.meaning.specs.declared.refusals.Refusal.{Refusal}
use Rattle.std.proofs.Common.{arith}
use Rattle.meaning.specs.PageCalls.{check_paging, paging_answer, paging_table, paging_list, check_paging_again, paging_again_answer, paging_again_list}
use Rattle.meaning.specs.Answers.{answer_number, choosingValue, choosingWhich, choosingLeft, pagingValue, pagingCount}
use Rattle.meaning.specs.declared.settings.Settings.{Settings}
use Rattle.promises.specs.Unwritten.{kept, refusal_some}

pub paging-kept : (s : Settings) (h : ℕ) (t table pages : List ℕ) → ((p : Paged) → paging_answer s h t table pages ≡ Ok p → ⊥)
    → (paging_table s h t table pages ≡ table) × (paging_list s h t table pages ≡ pages)
unfolding paging_answer paging_table paging_list
paging-kept s h t table pages d =
    let c = check_paging s h t table pages in
    (kept c _ _ _ table (d _), kept c _ _ _ pages (d _))

pub paging-again-kept : (table : List ℕ) (lines h first : ℕ) (pages : List ℕ)
    → ((m : ℕ) → paging_again_answer table lines h pages ≡ Ok m → ⊥) → paging_again_list table lines h first pages ≡ pages
unfolding paging_again_answer paging_again_list
paging-again-kept table lines h first pages d = kept (check_paging_again table lines h pages) _ _ _ pages (d _)

pub choosing-kept : (x : Result Chosen Refusal) (which left : ℕ) → 0 < answer_number x → (choosingWhich x which ≡ which) × (choosingLeft x left ≡ left)
choosing-kept (Ok (chosen.Long n)) which left h = absurd (omega arith)
choosing-kept (Ok (chosen.Short n m)) which left h = absurd (omega arith)
choosing-kept (Err r) which left h = (refl, refl)

pub paging-counted : (x : Result Paged Refusal) (old : ℕ) → 0 < answer_number x → pagingCount x old ≡ old
paging-counted (Ok p) old h = absurd (omega arith)
paging-counted (Err r) old h = refl

-- What is answered by 0 is done.
pub paging-done : (x : Result Paged Refusal) (old : ℕ) → answer_number x ≡ 0 → x ≡ Ok (record { lines = pagingValue x; pages = pagingCount x old })
paging-done (Ok p) old e = refl
paging-done (Err r) old e = absurd (refusal_some r e)

-- A choice that is answered by 0 is of the text whose number is written.
module _ (which left : ℕ) where
  pub long-done : (x : Result Chosen Refusal) → answer_number x ≡ 0 → choosingWhich x which ≡ 0 → x ≡ Ok (chosen.Long (choosingValue x))
  long-done (Ok (chosen.Long n)) e w = refl
  long-done (Ok (chosen.Short n m)) e w = absurd (omega arith)
  long-done (Err r) e w = absurd (refusal_some r e)

  pub short-done : (x : Result Chosen Refusal) → answer_number x ≡ 0 → choosingWhich x which ≡ 1 → x ≡ Ok (chosen.Short (choosingValue x) (choosingLeft x left))
  short-done (Ok (chosen.Long n)) e w = absurd (omega arith)
  short-done (Ok (chosen.Short n m)) e w = refl
  short-done (Err r) e w = absurd (refusal_some r e)
