-- The tests of the calls of an index as they are made, and what is answered in each case.
-- Refusal 1, refusal 2, refusal 5, refusal 8, refusal 10.
-- Assumes nothing.
use Prim.Native.Nat.{ℕ, ◌≤◌, ◌<◌}
use Rattle.std.specs.Prelude.{Err, Ok}
use Rattle.meaning.specs.Refusals.{Checked}
use mathlib.Core.Path.{◌≡◌, refl, sym, ◌∙◌}
use mathlib.Core.List.{List, [], ◌∷◌}
use native.Mathlib.Omega.{arith}
use borrow.Author.Tests.{eq-eqb, ne_eqb, eqb-true}
use lib.Dec.{eqb}
use lib.IntN.{ℤ}
use lib.ListN.{length}
use Rattle.basis.specs.Choice.{pick}
use Rattle.meaning.specs.Checks.{first_of, check_settings, check_room}
use Rattle.meaning.specs.Table.{entries_in}
use Rattle.meaning.specs.WellFormed.{check_table}
use Rattle.meaning.specs.YIndex.{index_of, written_from, kept_before, check_ys, check_index, find_in}
use Rattle.meaning.specs.Calls.{check_height, check_indexing, index_answer, index_from, check_finding, find_answer}
use Rattle.meaning.specs.declared.settings.Settings.{Settings}
use Rattle.meaning.specs.declared.refusals.Refusal.{Refusal}
use Rattle.meaning.specs.declared.refusals.Refusal.TheVariants.{TooSmall, BadIndex}
use Rattle.laws.specs.GoodChecks.{has_room, has_no_room, room-is}
use Rattle.laws.specs.GoodLines.{good-both}
use Rattle.laws.specs.TestOrder.{first_alone, first-refused, first_good}
use Rattle.look.specs.GoodTable.{table-reach, reach-some}

-- ---- the index made

module _ (s : Settings) (t : List ℕ) (lines room : ℕ) where
  pub indexing_bad : (r : Refusal) → check_height s t lines ≡ Err r → Err r ≡ check_indexing s t lines room
  unfolding check_height check_indexing
  indexing_bad r e = sym (first-refused (check_settings s) (check_table lines t) (check_room room lines ∷ []) r e)

  room_decides : check_height s t lines ≡ Ok tt → check_indexing s t lines room ≡ check_room room lines
  unfolding check_height check_indexing
  room_decides e = first_good (check_settings s) (check_table lines t) (check_room room lines ∷ []) e ∙ first_alone (check_room room lines)

  pub indexing_small : check_height s t lines ≡ Ok tt → room < lines → Err (TooSmall lines) ≡ check_indexing s t lines room
  indexing_small e h = has_no_room room lines h ∙ sym (room_decides e)

  pub indexing_good : check_height s t lines ≡ Ok tt → lines ≤ room → Ok tt ≡ check_indexing s t lines room
  indexing_good e h = has_room room lines h ∙ sym (room_decides e)

  -- The other way.
  pub indexing_gives : check_indexing s t lines room ≡ Ok tt → (check_height s t lines ≡ Ok tt) × (lines ≤ room)
  indexing_gives g = known (check_height s t lines) refl
    where
      known : (c : Checked) → check_height s t lines ≡ c → (check_height s t lines ≡ Ok tt) × (lines ≤ room)
      known (Ok tt) e = (e, room-is room lines (sym (room_decides e) ∙ g))
      known (Err r) e = absurd (let f = indexing_bad r e in let z : ◌≡◌ {A = ℕ} 0 1 = cc in omega arith)

module _ (s : Settings) (first : ℕ) where
  pub kept_top : s.vertical ≡ 0 → first ≡ kept_before s first
  unfolding kept_before pick
  kept_top e = rw (eq-eqb _ _ e)

  pub kept-none : (s.vertical ≡ 0 → ⊥) → 0 ≡ kept_before s first
  unfolding kept_before pick
  kept-none d = rw (ne_eqb _ _ d)

module _ (s : Settings) (t : List ℕ) (lines kept : ℕ) (index : List ℤ) where
  pub index_made : check_indexing s t lines (length index) ≡ Ok tt
      → (Ok lines ≡ index_answer s t lines index)
      × (written_from kept index (index_of s (entries_in lines t)) ≡ index_from kept s t lines index)
  unfolding index_answer index_from
  index_made g = (rw g, rw g)

  pub index-refused : (r : Refusal) → check_indexing s t lines (length index) ≡ Err r
      → (Err r ≡ index_answer s t lines index) × (index ≡ index_from kept s t lines index)
  unfolding index_answer index_from
  index-refused r e = (rw e, rw e)

-- ---- the line found

module _ (t : List ℕ) (lines : ℕ) (index : List ℤ) where
  pub finding_bad : (r : Refusal) → check_table lines t ≡ Err r → Err r ≡ check_finding t lines index
  unfolding check_finding first_of
  finding_bad r e = rw e

  pub finding_index : check_table lines t ≡ Ok tt → check_index lines index ≡ check_finding t lines index
  unfolding check_finding first_of
  finding_index e = sym (rw e (first_alone (check_index lines index)))

  -- A table and an index that are good: there is a line, and the ys are in order.
  pub finding_gives : check_finding t lines index ≡ Ok tt → (0 < length index) × (check_ys index ≡ Ok tt)
  unfolding check_index
  finding_gives g = known (check_table lines t) refl
    where
      known : (c : Checked) → check_table lines t ≡ c → (0 < length index) × (check_ys index ≡ Ok tt)
      known (Ok tt) e =
          let b = good-both (eqb (length index) lines) (check_ys index) (BadIndex (length index)) (finding_index e ∙ g) in
          (omega (arith, eqb-true (length index) lines b.0, reach-some lines t (table-reach lines t e).0), b.1)
      known (Err r) e = absurd (let f = finding_bad r e in let z : ◌≡◌ {A = ℕ} 0 1 = cc in omega arith)

  module _ (y : ℤ) where
    pub line-found : check_finding t lines index ≡ Ok tt → Ok (find_in y index) ≡ find_answer t lines index y
    unfolding find_answer
    line-found g = rw g

    pub find_refused : (r : Refusal) → check_finding t lines index ≡ Err r → Err r ≡ find_answer t lines index y
    unfolding find_answer
    find_refused r e = rw e
