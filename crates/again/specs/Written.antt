-- Lines put behind the first lines of a table, which stay, are written with them.
-- Assumes nothing.
use Rattle.std.specs.Prelude.{ℕ, ◌+◌, ◌*◌, ◌≤◌, ◌≡◌, List, ◌++◌, take}
use Rattle.std.proofs.Common.{arith, sym, ap, ◌∙◌}
use Rattle.std.proofs.Math.ListN.{length, length-append}
use Rattle.std.proofs.Math.Seq.{length-take-le}
use Rattle.meaning.specs.Table.{entry_numbers, of_entry, of_all, written, entries_in}
use Rattle.meaning.specs.declared.line.Entry.{Entry}
use Rattle.laws.specs.TableLaws.{entries_numbers, all_append, all-numbers-read}
use Rattle.table.specs.Numbers.{put_numbers}
use Rattle.table.specs.Stretches.{join_ahead}
use Rattle.rows.specs.Writing.{lines_put}

module _ (t : List ℕ) (n : ℕ) (us : List Entry) (is : entries_in n t ≡ us) (room : entry_numbers * n ≤ length t) where
  front-numbers : of_all of_entry us ≡ take (entry_numbers * n) t
  front-numbers = ap (of_all of_entry) (sym is) ∙ all-numbers-read n t room

  pub put_written : (zs : List Entry) → lines_put t n zs ≡ written t (of_all of_entry (us ++ zs))
  unfolding put_numbers written
  put_written zs =
      let xs = of_all of_entry zs in
      let e : entry_numbers * n + length xs ≡ length (take (entry_numbers * n) t ++ xs) =
      omega (arith, length-append (take (entry_numbers * n) t) xs, length-take-le (entry_numbers * n) t room) in
      rw (all_append of_entry us zs, front-numbers, e)

-- Lines put before others that were put are put with them.
pub put_both : (t : List ℕ) (n m : ℕ) (ys zs : List Entry) → m ≡ n + length ys → entry_numbers * m ≤ length t
    → lines_put (lines_put t m zs) n ys ≡ lines_put t n (ys ++ zs)
put_both t n m ys zs e h =
    let xs = of_all of_entry ys in
    let place : entry_numbers * m ≡ entry_numbers * n + length xs = omega (arith, entries_numbers ys) in
    rw (all_append of_entry ys zs, place) (join_ahead t (entry_numbers * n) xs (of_all of_entry zs) (omega arith))
