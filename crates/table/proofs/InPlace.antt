-- A line without a rest, moved where it stands: start, reach and the characters before are stored, and the other numbers are as they were.
-- Assumes nothing.
use Prim.Native.Nat.{ℕ, zero, suc, ◌+◌, ◌-◌, ◌*◌, ◌≤◌}
use mathlib.Core.Path.{◌≡◌, sym, ap, subst, ◌∙◌}
use mathlib.Core.List.{List, [], ◌∷◌}
use native.Mathlib.Nat.{add-zero}
use native.Mathlib.Omega.{arith}
use borrow.Author.Tests.{eq-eqb}
use lib.ListN.{length, get_or, set}
use lib.Seq.{set-get_or, get_or-set_other}
use Rattle.basis.specs.Choice.{pick}
use Rattle.meaning.specs.Table.{entry_numbers, of_entry}
use Rattle.meaning.specs.Edit.{moved, moved_rest, moved_entry}
use Rattle.meaning.specs.declared.line.Entry.{Entry}
use Rattle.table.specs.Numbers.{put_numbers, stored_from, stored-are}
use Rattle.table.specs.declared.edited.Shift.{Shift}
use Rattle.table.specs.Moving.{MovableOffset, MovableCount, MovableEntry, Movable, moved_by, line_moved, line-movable}
use Rattle.table.proofs.Reading.{entry_from, entry-from}

module _ (t : List ℕ) (i : ℕ) where
  -- So many of the table's own numbers, from number n of a line on, and then others.
  abbrev own : (n count : ℕ) → List ℕ → List ℕ
  own n zero xs = xs
  own n (suc c) xs = get_or t (i + n) 0 ∷ own (suc n) c xs

  -- To store a number where it stands changes nothing.
  own_number : (u : List ℕ) (j : ℕ) → get_or u j 0 ≡ get_or t j 0 → set u j (get_or t j 0) ≡ u
  own_number u j q = ap (set u j) (sym q) ∙ set-get_or u j 0

  own-stored : (c n : ℕ) (u xs : List ℕ) → ((q : ℕ) → n ≤ q → get_or u (i + q) 0 ≡ get_or t (i + q) 0)
      → stored_from u i n (own n c xs) ≡ stored_from u i (n + c) xs
  own-stored zero n u xs h = ap (λ (m : ℕ). stored_from u i m xs) (sym (add-zero n))
  own-stored (suc c) n u xs h =
      let e : suc n + c ≡ n + suc c = omega arith in
      ap (λ (v : List ℕ). stored_from v i (suc n) (own (suc n) c xs)) (own_number u (i + n) (h n (omega arith)))
      ∙ own-stored c (suc n) u xs (λ q p. h q (omega arith))
      ∙ ap (λ (m : ℕ). stored_from u i m xs) e

  module _ (room : i + entry_numbers ≤ length t) (a b y z : ℕ) where
    -- The first two numbers of a line and its last two.
    four-stored : set (set (set (set t i a) (i + 1) b) (i + 9) y) (i + 10) z ≡ put_numbers t i (a ∷ b ∷ own 2 7 (y ∷ z ∷ []))
    four-stored =
        let u = set (set t i a) (i + 1) b in
        sym (own-stored 7 2 u (y ∷ z ∷ []) (λ q p. get_or-set_other (set t i a) (i + 1) (i + q) b 0 (λ e. omega arith) ∙ get_or-set_other t i (i + q) a 0 (λ e. omega arith)))
        ∙ stored-are (a ∷ b ∷ own 2 7 (y ∷ z ∷ [])) t i room

module _ (t : List ℕ) (k : ℕ) (sh : Shift) (m : Movable t k k 1 sh) where
  abbrev at : ℕ
  at = entry_numbers * k

  pub here-movable : MovableEntry sh (entry_from t (entry_numbers * k))
  here-movable = subst (MovableEntry sh) (sym (entry-from t (entry_numbers * k))) (line-movable t k k sh m)

  room : at + entry_numbers ≤ length t
  room = omega (arith, m.to_room)

  -- The three numbers that are stored where there is no rest.
  module _ (start reach count : ℕ) (s : start ≡ moved sh.edit (get_or t (entry_numbers * k) 0))
      (r : reach ≡ moved sh.edit (get_or t (entry_numbers * k + 9) 0))
      (c : count ≡ sh.to.0 + (get_or t (entry_numbers * k + 10) 0 - sh.from.0)) where
    all-four : (end : ℕ) → end ≡ (moved_rest sh.edit (entry_from t at).rest).end.0
        → set (set (set (set t at start) (at + 1) end) (at + 9) reach) (at + 10) count ≡ line_moved t k k sh
    unfolding of_entry moved_entry moved_rest
    all-four end e =
        four-stored t at room start end reach count
        ∙ (λ j. put_numbers t at (s j ∷ e j ∷ own t at 2 7 (r j ∷ c j ∷ [])))
        ∙ ap (λ (x : Entry). put_numbers t at (of_entry (moved_by sh x))) (entry-from t at)

    moved-three : get_or t (entry_numbers * k + 1) 0 ≡ 0
        → set (set (set t (entry_numbers * k) start) (entry_numbers * k + 9) reach) (entry_numbers * k + 10) count ≡ line_moved t k k sh
    unfolding moved_rest pick
    moved-three z =
        let same = own_number t at (set t at start) (at + 1) (get_or-set_other t at (at + 1) start 0 (λ e. omega arith)) in
        ap (λ (u : List ℕ). set (set u (at + 9) reach) (at + 10) count) (sym same)
        ∙ all-four (get_or t (at + 1) 0) (rw (eq-eqb _ _ z) z)

  -- The code reads each number after it has stored those before it, which are others.
  module _ (start : ℕ) where
    reach-kept : get_or (set t (entry_numbers * k) start) (entry_numbers * k + 9) 0 ≡ get_or t (entry_numbers * k + 9) 0
    reach-kept = get_or-set_other t at (at + 9) start 0 (λ e. omega arith)

    pub reach-movable : MovableOffset sh.edit (get_or (set t (entry_numbers * k) start) (entry_numbers * k + 9) 0)
    reach-movable = subst (MovableOffset sh.edit) (sym reach-kept) here-movable.reach

    module _ (reach : ℕ) where
      count_kept : get_or (set (set t (entry_numbers * k) start) (entry_numbers * k + 9) reach) (entry_numbers * k + 10) 0 ≡ get_or t (entry_numbers * k + 10) 0
      count_kept = get_or-set_other (set t at start) (at + 9) (at + 10) reach 0 (λ e. omega arith) ∙ get_or-set_other t at (at + 10) start 0 (λ e. omega arith)

      pub count-movable : MovableCount sh (get_or (set (set t (entry_numbers * k) start) (entry_numbers * k + 9) reach) (entry_numbers * k + 10) 0)
      count-movable = subst (MovableCount sh) (sym count_kept) here-movable.before

      pub moved_in_turn : (count : ℕ) → start ≡ moved sh.edit (get_or t (entry_numbers * k) 0)
          → reach ≡ moved sh.edit (get_or (set t (entry_numbers * k) start) (entry_numbers * k + 9) 0)
          → count ≡ sh.to.0 + (get_or (set (set t (entry_numbers * k) start) (entry_numbers * k + 9) reach) (entry_numbers * k + 10) 0 - sh.from.0)
          → get_or t (entry_numbers * k + 1) 0 ≡ 0
          → set (set (set t (entry_numbers * k) start) (entry_numbers * k + 9) reach) (entry_numbers * k + 10) count ≡ line_moved t k k sh
      moved_in_turn count s r c z =
          moved-three start reach count s (r ∙ ap (moved sh.edit) reach-kept) (c ∙ ap (λ (x : ℕ). sh.to.0 + (x - sh.from.0)) count_kept) z
