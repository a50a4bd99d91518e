-- Checks that refuse nothing: of a text that is short enough, of one that is UTF-8, and of a table that is large enough or
-- holds a layout.
-- Refusal 1, refusal 3, refusal 4, refusal 5, refusal 8.
-- Assumes nothing.
use Rattle.std.specs.Prelude.{ℕ, ◌*◌, ◌≤◌, ◌<◌, ◌≡◌, refl, Bool, true, false, not, List, length, ltb, Err, Ok}
use Rattle.std.proofs.Common.{arith, ◌∙◌}
use borrow.Author.Tests.{lt-ltb, le-ltb, le-leb, eq-eqb, ne_eqb, ltb-false}
use Rattle.basis.specs.Choice.{pick, pick_true, pick-false}
use Rattle.utf8.specs.Scalar.{Scalars}
use Rattle.utf8.specs.Encoding.{size, encode_all}
use Rattle.utf8.specs.Prefix.{prefix-whole}
use Rattle.meaning.specs.Checks.{refuse_if, check_limit, check_length, check_utf8, check_room}
use Rattle.meaning.specs.Layout.{layout}
use Rattle.meaning.specs.Table.{entry_numbers, capacity_of, entries_in}
use Rattle.meaning.specs.WellFormed.{check_table}
use Rattle.meaning.specs.declared.settings.Settings.{Settings}
use Rattle.meaning.specs.declared.refusals.Refusal.{Refusal}
use Rattle.meaning.specs.declared.refusals.Refusal.TheVariants.{TooSmall}
use Rattle.laws.specs.TableLaws.{capacity_is}
use Rattle.laws.specs.WellFormedLayout.{layout-good}

-- Nothing is refused where the test does not hold.
pub refuse_not : (t : Bool) (r : Refusal) → t ≡ false → refuse_if t r ≡ Ok tt
unfolding refuse_if
refuse_not t r e = pick-false t _ _ e

-- And where nothing is refused, it does not hold.
pub refuse_good : (t : Bool) (r : Refusal) → refuse_if t r ≡ Ok tt → t ≡ false
unfolding refuse_if pick
refuse_good false r e = refl
refuse_good true r e = absurd (let z : ◌≡◌ {A = ℕ} 0 1 = cc in omega arith)

pub refuse_unless : (t : Bool) (r : Refusal) → t ≡ true → refuse_if (not t) r ≡ Ok tt
refuse_unless t r e = refuse_not (not t) r (rw e)

-- A limit of a line or more lets lines in.
pub limit-good : (h : ℕ) → 1 ≤ h → check_limit h ≡ Ok tt
unfolding check_limit
limit-good h some = refuse_not _ _ (ne_eqb h 0 (λ e. omega arith))

pub length-good : (n : ℕ) → n ≤ 65535 → check_length n ≡ Ok tt
unfolding check_length
length-good n h = refuse_not _ _ (le-ltb 65535 n h)

pub utf8-good : (cs : List ℕ) → Scalars cs → check_utf8 (encode_all cs) ≡ Ok tt
unfolding check_utf8
utf8-good cs al =
    refuse_unless _ _ (eq-eqb _ _ ((prefix-whole (encode_all cs)).1 (record { scalars = cs; all = al; is = refl })))

-- A buffer has room for as many as it needs, or has not.
module _ (room needed : ℕ) where
  pub has_room : needed ≤ room → Ok tt ≡ check_room room needed
  unfolding check_room refuse_if pick
  has_room h = rw (le-ltb room needed h)

  pub has_no_room : room < needed → Err (TooSmall needed) ≡ check_room room needed
  unfolding check_room refuse_if pick
  has_no_room h = rw (lt-ltb room needed h)

  pub room-is : check_room room needed ≡ Ok tt → needed ≤ room
  unfolding check_room
  room-is h = ltb-false room needed (refuse_good (ltb room needed) (TooSmall needed) h)

-- A table has room for as many lines as it has eleven numbers each.
pub room-good : (n : ℕ) (table : List ℕ) → entry_numbers * n ≤ length table → check_room (capacity_of entry_numbers table) n ≡ Ok tt
unfolding check_room
room-good n table h = refuse_not _ _ (le-ltb _ _ ((capacity_is entry_numbers n table (omega arith)).1 h))

-- A table that holds the layout of a text is well formed.
pub table-good : (s : Settings) (cs : List ℕ) (lines : ℕ) (table : List ℕ) → size cs ≤ 65535 → entry_numbers * lines ≤ length table
    → entries_in lines table ≡ layout s cs → check_table lines table ≡ Ok tt
unfolding check_table
table-good s cs lines table b h e =
    pick_true _ _ _ (le-leb _ _ ((capacity_is entry_numbers lines table (omega arith)).1 h)) ∙ rw e (layout-good s cs b)
