-- What callers may rely on of a choice and of a list of pages, by the contracts of the calls: which text is chosen, what its part takes
-- and leaves out; how many pages there are, what the list holds, and that their stretches join to the text.
-- Assumes nothing.
use Rattle.std.specs.Prelude.{ℕ, ◌≡◌, List, Ok}
use Rattle.meaning.specs.declared.answers.Chosen.TheVariants as chosen
use Rattle.std.proofs.Common.{sym, ◌∙◌}
use Rattle.std.proofs.Math.Path.{ap}
use contract.Lifetimes.{Lfts}
use Rattle.meaning.specs.Settings.{settings_of}
use Rattle.meaning.specs.PageCalls.{choosing_answer, paging_answer, paging_table, paging_list}
use Rattle.meaning.specs.Answers.{answer_number, choosingWhich}
use Rattle.meaning.specs.declared.settings.Settings.{Settings}
use Rattle.promises.specs.ChoosingCalls.{LongSaid, ShortSaid, long-said, short-said}
use Rattle.promises.specs.PagingCalls.{PagingSaid, paging-said}
use Rattle.promises.specs.Passed.{Lent, LentNumber, LentMut}
use Rattle.promises.specs.CallContracts.{Choose, LayPages, CChoose, CPages}
use Rattle.promises.specs.PagesUnwritten.{paging-done, long-done, short-done}

-- ---- the long text or the short one

module _ (s : Settings) (long short : Lent) (h : ℕ) where
  pub choose-long : (κs : Lfts 1) (n : ℕ) → Choose κs s long short h (Ok (chosen.Long n)) → LongSaid s h long.now short.now n
  choose-long κs n p = long-said s h long.now short.now n (sym p)

  pub choose-short : (κs : Lfts 1) (n k : ℕ) → Choose κs s long short h (Ok (chosen.Short n k)) → ShortSaid s h long.now short.now n k
  choose-short κs n k p = short-said s h long.now short.now n k (sym p)

  -- For C: where it returns 0 and writes which of the two it is.
  module _ (κs : Lfts 4) (value which left : LentNumber) (n k : ℕ) where
    pub c-choose-long : CChoose κs s long short h value which left 0 n 0 k → LongSaid s h long.now short.now n
    unfolding settings_of
    c-choose-long p =
        let a = choosing_answer s h long.now short.now in
        long-said s h long.now short.now n
        (long-done which.now left.now a (sym p.0) (sym p.1.1.0) ∙ (λ i. Ok (chosen.Long (sym p.1.0 i))))

    pub c-choose-short : CChoose κs s long short h value which left 0 n 1 k → ShortSaid s h long.now short.now n k
    unfolding settings_of
    c-choose-short p =
        let a = choosing_answer s h long.now short.now in
        short-said s h long.now short.now n k
        (short-done which.now left.now a (sym p.0) (sym p.1.1.0) ∙ (λ i. Ok (chosen.Short (sym p.1.0 i) (sym p.1.1.1 i))))

-- ---- pages

module _ (s : Settings) (text : Lent) (h : ℕ) (table pages : LentMut) (after listed : List ℕ) where
  -- Of a table and a list that were lent: so many lines and n pages.
  pub record Lists (lines n : ℕ) : Type 0 where
    pub said : PagingSaid s h text.now table.now pages.now lines n
    pub after_is : after ≡ paging_table s h text.now table.now pages.now
    pub listed-is : listed ≡ paging_list s h text.now table.now pages.now

  pub lay_pages_lists : (κs : Lfts 3) (lines n : ℕ) → LayPages κs s text h table pages (Ok (record { lines = lines; pages = n })) after listed → Lists lines n
  lay_pages_lists κs lines n p =
      record {
        said = paging-said s h text.now table.now pages.now lines n (sym p.0);
        after_is = p.1.0;
        listed-is = p.1.1;
      }

  -- For C: where it returns 0.
  pub c-pages_lists : (κs : Lfts 5) (value count : LentNumber) (lines n : ℕ) → CPages κs s text h table pages value count 0 after listed lines n
      → Lists lines n
  unfolding settings_of
  c-pages_lists κs value count lines n p =
      let a = paging_answer s h text.now table.now pages.now in
      record {
        said = paging-said s h text.now table.now pages.now lines n
            (paging-done a count.now (sym p.0) ∙ (λ i. Ok (record { lines = sym p.1.1.1.0 i; pages = sym p.1.1.1.1 i })));
        after_is = p.1.0;
        listed-is = p.1.1.0;
      }
