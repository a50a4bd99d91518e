-- An entry read number by number from a place of a table.
-- Assumes nothing.
use Prim.Native.Nat.{ℕ, ◌+◌}
use mathlib.Core.Path.{◌≡◌}
use mathlib.Core.List.{List}
use native.Mathlib.Nat.{add-zero}
use lib.ListN.{get_or, drop}
use lib.Seq.{get_or-drop}
use Rattle.meaning.specs.Table.{entry_in}
use Rattle.meaning.specs.declared.line.Entry.{Entry}

abbrev pub entry_from : List ℕ → ℕ → Entry
entry_from t i =
    record {
      start = record { 0 = get_or t i 0 };
      rest = record { end = record { 0 = get_or t (i + 1) 0 }; count = record { 0 = get_or t (i + 2) 0 } };
      ending = get_or t (i + 3) 0;
      left = record { 0 = get_or t (i + 4) 0 };
      space = record { 0 = get_or t (i + 5) 0 };
      extra = record { 0 = get_or t (i + 6) 0 };
      width = record { 0 = get_or t (i + 7) 0 };
      dropped = record { 0 = get_or t (i + 8) 0 };
      reach = record { 0 = get_or t (i + 9) 0 };
      before = record { 0 = get_or t (i + 10) 0 };
    }

pub entry-from : (t : List ℕ) (i : ℕ) → entry_from t i ≡ entry_in (drop i t)
unfolding entry_in
entry-from t i = simp (get_or-drop, add-zero)
