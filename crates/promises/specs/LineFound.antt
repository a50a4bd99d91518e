-- What callers may rely on of an index: it holds rule 11's y of every line, it is never refused where a line is looked for in it, and
-- the line found is the last with y at most the given one. By the contracts of the calls.
-- Assumes nothing.
use Rattle.std.specs.Prelude.{ℕ, ◌<◌, ◌≡◌, List, ℤ, pos, take, Err, None, Ok, Option, Result, Some}
use Rattle.meaning.specs.declared.refusals.Refusal.{Refusal}
use Rattle.std.proofs.Math.Path.{refl, ap}
use Rattle.std.proofs.Common.{sym, subst, ◌∙◌, arith, get_or-take}
use contract.Lifetimes.{Lfts}
use Rattle.meaning.specs.Settings.{settings_of}
use Rattle.meaning.specs.Table.{entries_in}
use Rattle.meaning.specs.Height.{y_of}
use Rattle.meaning.specs.YIndex.{index_of, find_in}
use Rattle.meaning.specs.Calls.{index_answer, index_after, find_answer}
use Rattle.meaning.specs.Answers.{answer_number, found_value}
use Rattle.meaning.specs.declared.settings.Settings.{Settings}
use Rattle.laws.specs.TableLaws.{entries_length}
use Rattle.laws.specs.Indexes.{y_at, index_at}
use Rattle.heights.specs.LineUnder.{SaysOfLines, found-line}
use Rattle.promises.specs.IndexCalls.{index-lines, index-table, index-held, find_good}
use Rattle.promises.specs.Passed.{Lent, LentYs, LentNumber, LentYsMut}
use Rattle.promises.specs.CallContracts.{MakeIndex, FindLine, CIndex, CFindLine}
use Rattle.promises.specs.Unwritten.{index-done}

-- A table of so many lines, and an index that was lent to be made.
module _ (s : Settings) (table : Lent) (lines : ℕ) (index : LentYsMut) where
  -- Of the index afterwards: its first entries are the ys of the lines, each by rule 11.
  pub record Indexes (after : List ℤ) : Type 0 where
    pub held : take lines after ≡ index_of s (entries_in lines table.now)
    pub each : (k : ℕ) → k < lines → y_at after k ≡ y_of s k (entries_in lines table.now)

  indexes : (n : ℕ) → index_answer s table.now lines index.now ≡ Ok n → (after : List ℤ)
      → after ≡ index_after s table.now lines index.now → Indexes after
  indexes n e after a =
      let held = ap (take lines) a ∙ index-held s table.now lines index.now n e in
      record {
        held = held;
        each = λ k h. sym (get_or-take lines after k (pos 0) h) ∙ ap (λ (l : List ℤ). y_at l k) held
            ∙ index_at s (entries_in lines table.now) k (omega (arith, entries_length lines table.now));
      }

  pub make_index-holds : (κs : Lfts 2) (n : ℕ) (after : List ℤ) → MakeIndex κs s table lines index (Ok n) after
      → (n ≡ lines) × Indexes after
  make_index-holds κs n after p =
      (index-lines s table.now lines index.now n (sym p.0), indexes n (sym p.0) after p.1)

  -- For C: where it returns 0.
  pub c-index-holds : (κs : Lfts 3) (value : LentNumber) (after : List ℤ) (count : ℕ) → CIndex κs s table lines index value 0 after count
      → (count ≡ lines) × Indexes after
  unfolding settings_of
  c-index-holds κs value after count p =
      let e = index-done (index_answer s table.now lines index.now) (sym p.0) in
      (p.1.1 ∙ index-lines s table.now lines index.now _ e, indexes _ e after p.1.0)

  -- ---- a line looked for in it

  -- An index of these ys, lent with the same table.
  module _ (ys : LentYs) (y : ℤ) where
    answer : (n : ℕ) → index_answer s table.now lines index.now ≡ Ok n → ys.now ≡ index_of s (entries_in lines table.now)
        → find_answer table.now lines ys.now y ≡ Ok (find_in y (index_of s (entries_in lines table.now)))
    answer n e i =
        ap (λ (l : List ℤ). find_answer table.now lines l y) i
        ∙ find_good s table.now lines (index-table s table.now lines index.now n e) y

    -- It is not refused: the answer says of the lines what rule 11 asks.
    pub find_line-under : (κs κs' : Lfts 2) (n : ℕ) (after : List ℤ) (z : Result (Option ℕ) Refusal) → MakeIndex κs s table lines index (Ok n) after
        → ys.now ≡ take lines after → FindLine κs' table lines ys y z → let f = find_in y (index_of s (entries_in lines table.now)) in (z ≡ Ok f) × SaysOfLines s (entries_in lines table.now) y f
    find_line-under κs κs' n after z p i q =
        let m = make_index-holds κs n after p in
        (q ∙ answer n (sym p.0) (i ∙ m.1.held), found-line s (entries_in lines table.now) y)

    -- For C: 0 is returned, and the value is that line's, or the one that stands for none.
    pub c_find_line-under : (κs κs' : Lfts 3) (value value' : LentNumber) (after : List ℤ) (count z line : ℕ)
        → CIndex κs s table lines index value 0 after count → ys.now ≡ take lines after → CFindLine κs' table lines ys y value' z line
        → let f = find_in y (index_of s (entries_in lines table.now)) in
        (z ≡ 0) × (line ≡ found_value (Ok f)) × SaysOfLines s (entries_in lines table.now) y f
    unfolding settings_of
    c_find_line-under κs κs' value value' after count z line p i q =
        let m = c-index-holds κs value after count p in
        let e = index-done (index_answer s table.now lines index.now) (sym p.0) in
        let a = answer _ e (i ∙ m.1.held) in
        let says = found-line s (entries_in lines table.now) y in
        (q.0 ∙ ap answer_number a, q.1 ∙ ap found_value a, says)
