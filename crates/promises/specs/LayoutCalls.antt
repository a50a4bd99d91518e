-- The fresh layout of a text that is good, in a table that has room for it: nothing is refused; and what a table holds where
-- nothing was refused (rule 10).
-- Assumes nothing.
use Rattle.std.specs.Prelude.{ℕ, ◌*◌, ◌≤◌, ◌≡◌, refl, List, Err, Ok}
use Rattle.meaning.specs.Refusals.{Checked}
use Rattle.std.proofs.Common.{arith}
use Rattle.std.proofs.Math.Path.{sym}
use Rattle.std.proofs.Math.ListN.{length}
use Rattle.utf8.specs.Scalar.{Scalars}
use Rattle.utf8.specs.Encoding.{size, encode_all}
use Rattle.utf8.specs.Sizes.{size_is}
use Rattle.utf8.specs.Walk.{decode_all-encode}
use Rattle.meaning.specs.Checks.{first_of, answered, afterwards, check_settings}
use Rattle.meaning.specs.Layout.{rows, layout}
use Rattle.meaning.specs.Table.{entry_numbers, of_entry, of_all, written, entries_in}
use Rattle.meaning.specs.Calls.{text_rows, text_entries, check_layout, layout_answer, layout_table}
use Rattle.meaning.specs.declared.settings.Settings.{Settings}
use Rattle.laws.specs.GoodChecks.{length-good, utf8-good, room-good}
use Rattle.laws.specs.TableLaws.{entries_written}

module _ (s : Settings) (cs : List ℕ) (al : Scalars cs) where
  text-rows : text_rows s (encode_all cs) ≡ rows s cs
  unfolding text_rows
  text-rows = rw (decode_all-encode cs al)

  -- The lines that are laid are the layout of the text's characters.
  pub text-layout : text_entries s (encode_all cs) ≡ layout s cs
  unfolding text_entries layout
  text-layout = rw text-rows

  module _ (good : check_settings s ≡ Ok tt) (short : size cs ≤ 65535) (table : List ℕ) (room : entry_numbers * length (layout s cs) ≤ length table) where
    pub layout-checked : check_layout s (encode_all cs) table ≡ Ok tt
    unfolding check_layout first_of
    layout-checked =
        let n : length (encode_all cs) ≡ size cs = sym (size_is cs) in
        rw (
          good,
          n,
          length-good (size cs) short,
          utf8-good cs al,
          text-layout,
          room-good (length (layout s cs)) table room,
        )

    pub layout_call : layout_answer s (encode_all cs) table ≡ Ok (length (layout s cs))
    unfolding layout_answer
    layout_call = rw (layout-checked, text-layout)

    pub layout-table : layout_table s (encode_all cs) table ≡ written table (of_all of_entry (layout s cs))
    unfolding layout_table
    layout-table = rw (layout-checked, text-layout)

-- ---- a call that answers its lines

done : (c : Checked) (n k : ℕ) (new old : List ℕ) → answered c (Ok k) Err ≡ Ok n → (n ≡ k) × (afterwards c new old ≡ new)
done (Ok tt) n k new old e = let same : n ≡ k = cc in (same, refl)
done (Err r) n k new old e = let z : ◌≡◌ {A = ℕ} 0 1 = cc in absurd (omega arith)

-- The lines that the table then holds are those of the text.
pub layout-holds : (s : Settings) (t table : List ℕ) (n : ℕ) → layout_answer s t table ≡ Ok n
    → entries_in n (layout_table s t table) ≡ text_entries s t
unfolding layout_answer layout_table
layout-holds s t table n e =
    let es = text_entries s t in
    let d = done (check_layout s t table) n (length es) (written table (of_all of_entry es)) table e in
    rw (d.0, d.1) (entries_written es table)
