-- What the calls of an index answer where nothing is refused: the index holds rule 11's ys, and is not refused where a line is looked
-- for in it (rule 11, refusal 10).
-- Assumes nothing.
use Rattle.std.specs.Prelude.{ℕ, ◌≤◌, ◌≡◌, refl, List, ℤ, Err, Ok}
use Rattle.meaning.specs.Refusals.{Checked}
use Rattle.std.proofs.Common.{sym, ◌∙◌, arith}
use Rattle.std.proofs.Math.Path.{ap}
use Rattle.std.proofs.Math.ListN.{length, take}
use Rattle.meaning.specs.Checks.{first_of, answered, check_settings, check_room}
use Rattle.meaning.specs.Table.{entries_in}
use Rattle.meaning.specs.WellFormed.{check_table}
use Rattle.meaning.specs.YIndex.{index_of, written_from, check_index, find_in}
use Rattle.meaning.specs.Calls.{check_indexing, index_answer, index_from, index_after, check_finding, find_answer}
use Rattle.meaning.specs.declared.settings.Settings.{Settings}
use Rattle.laws.specs.GoodChecks.{room-is}
use Rattle.laws.specs.TestOrder.{three-good}
use Rattle.laws.specs.TableLaws.{entries_length}
use Rattle.laws.specs.Indexes.{index-length, index-good}
use Rattle.promises.specs.WrittenYs.{written_held}

done : (c : Checked) (n k : ℕ) → answered c (Ok k) Err ≡ Ok n → (c ≡ Ok tt) × (n ≡ k)
done (Ok tt) n k e = let same : n ≡ k = cc in (refl, same)
done (Err r) n k e = absurd (let z : ◌≡◌ {A = ℕ} 0 1 = cc in omega arith)

module _ (s : Settings) (t : List ℕ) (lines : ℕ) where
  abbrev ys : List ℤ
  ys = index_of s (entries_in lines t)

  pub ys-many : length ys ≡ lines
  ys-many = index-length s (entries_in lines t) ∙ entries_length lines t

  -- A call that answers so many lines.
  module _ (index : List ℤ) (n : ℕ) (e : index_answer s t lines index ≡ Ok n) where
    answer : (check_indexing s t lines (length index) ≡ Ok tt) × (n ≡ lines)
    unfolding index_answer
    answer = done (check_indexing s t lines (length index)) n lines e

    pub index-lines : n ≡ lines
    index-lines = answer.1

    tests-good : (check_settings s ≡ Ok tt) × (check_table lines t ≡ Ok tt) × (check_room (length index) lines ≡ Ok tt)
    unfolding check_indexing
    tests-good = three-good (check_settings s) (check_table lines t) (check_room (length index) lines) answer.0

    pub index-table : check_table lines t ≡ Ok tt
    index-table = tests-good.1

    -- The index then holds the ys of all lines.
    pub index-held : take lines (index_after s t lines index) ≡ ys
    unfolding index_after index_from
    index-held =
        let room : length ys ≤ length index = omega (arith, ys-many, room-is (length index) lines tests-good.2) in
        rw answer.0 (ap (λ (k : ℕ). take k (written_from 0 index ys)) (sym ys-many) ∙ written_held index ys room)

  -- A line that is looked for in the index of a good table is found, or there is none; the index is not refused.
  pub find_good : check_table lines t ≡ Ok tt → (y : ℤ) → find_answer t lines ys y ≡ Ok (find_in y ys)
  unfolding find_answer check_finding first_of
  find_good g y = rw (g, in_order_lem)
    where
      in_order_lem : check_index lines ys ≡ Ok tt
      in_order_lem = ap (λ (k : ℕ). check_index k ys) (sym (entries_length lines t)) ∙ index-good s (entries_in lines t)
