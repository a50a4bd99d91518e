-- The answer and the table of laying again, by refusals 1 to 6 and the room that the table has.
-- Assumes nothing.
use Rattle.std.specs.Prelude.{ℕ, ◌≤◌, ◌<◌, ◌≡◌, refl, length, Err, Ok, Result}
use Rattle.meaning.specs.Refusals.{Checked}
use Rattle.meaning.specs.declared.answers.Relaid.{Relaid}
use Rattle.std.proofs.Math.Path.{sym}
use Rattle.std.proofs.Common.{◌∙◌}
use mathlib.Core.List.{List, [], ◌∷◌, ◌++◌}
use borrow.Author.Tests.{lt-ltb, le-ltb}
use Rattle.basis.specs.Choice.{pick}
use Rattle.utf8.specs.Decoding.{decode_all}
use Rattle.meaning.specs.Checks.{refuse_if, first_of, check_settings, check_length, check_utf8, check_room}
use Rattle.meaning.specs.Table.{entry_numbers, of_entry, of_all, capacity_of, written, entries_in}
use Rattle.meaning.specs.WellFormed.{check_table}
use Rattle.meaning.specs.Edit.{unaffected, affected, check_whole, check_rest, check_edit}
use Rattle.meaning.specs.Calls.{lines_laid, lines_after, check_relay, relay_answer, relay_table}
use Rattle.meaning.specs.declared.settings.Settings.{Settings}
use Rattle.meaning.specs.declared.edit.Edit.{Edit}
use Rattle.meaning.specs.declared.line.Entry.{Entry}
use Rattle.meaning.specs.declared.refusals.Refusal.{Refusal}
use Rattle.meaning.specs.declared.refusals.Refusal.TheVariants.{TooSmall}
use Rattle.laws.specs.TestOrder.{first_alone}
use Rattle.edits.specs.Checking.{check_first, check_lent, check_before}
use Rattle.again.specs.GoodRelay.{all-good, goods}

-- Tests in two parts are the tests one after the other.
first_append : (xs ys : List Checked) → first_of (first_of xs ∷ ys) ≡ first_of (xs ++ ys)
unfolding first_of
first_append [] ys = refl
first_append ((Ok tt) ∷ xs) ys = first_append xs ys
first_append (Err r ∷ xs) ys = refl

first_more : (c : Checked) (xs ys : List Checked) → first_of xs ≡ first_of ys → first_of (c ∷ xs) ≡ first_of (c ∷ ys)
unfolding first_of
first_more (Ok tt) xs ys e = e
first_more (Err r) xs ys e = refl

-- What the call answers, and the table afterwards.
abbrev pub Answers : Settings → (part table : List ℕ) → (lines : ℕ) → Edit → Result Relaid Refusal → List ℕ → Type 0
Answers s part table lines ed answer after =
    (answer ≡ relay_answer s part table lines ed) × (after ≡ relay_table s part table lines ed)

module _ (s : Settings) (part table : List ℕ) (lines : ℕ) (ed : Edit) where
  abbrev old : List Entry
  old = entries_in lines table

  abbrev onward : List Entry
  onward = affected ed.from.0 old

  abbrev before : ℕ
  before = length (unaffected ed.from.0 old)

  abbrev room : Checked
  room = check_room (capacity_of entry_numbers table) (length (lines_after s part table lines ed))

  in_order_lem : check_relay s part table lines ed ≡ first_of (check_before s part table lines ed ∷ room ∷ [])
  unfolding check_relay check_before check_lent check_first
  in_order_lem =
      let t = check_table lines table in
      let w = check_whole t old ed in
      let u = check_utf8 part in
      let l = check_length (length part) in
      let r = check_rest before onward (decode_all part) in
      let e = check_edit old ed onward (length part) (decode_all part) in
      let f = first_of (r ∷ e ∷ []) in
      let after = room ∷ [] in
      sym
      (first_append (check_settings s ∷ first_of (l ∷ w ∷ u ∷ t ∷ f ∷ []) ∷ []) after
      ∙ first_more (check_settings s) (first_of (l ∷ w ∷ u ∷ t ∷ f ∷ []) ∷ after) (l ∷ w ∷ u ∷ t ∷ r ∷ e ∷ after)
      (first_append (l ∷ w ∷ u ∷ t ∷ f ∷ []) after
      ∙ first_more l (w ∷ u ∷ t ∷ f ∷ after) (w ∷ u ∷ t ∷ r ∷ e ∷ after)
      (first_more w (u ∷ t ∷ f ∷ after) (u ∷ t ∷ r ∷ e ∷ after)
      (first_more u (t ∷ f ∷ after) (t ∷ r ∷ e ∷ after) (first_more t (f ∷ after) (r ∷ e ∷ after) (first_append (r ∷ e ∷ []) after))))))

  refused : (r : Refusal) → check_relay s part table lines ed ≡ Err r → Answers s part table lines ed (Err r) table
  unfolding relay_answer relay_table
  refused r e = (rw e, rw e)

  -- Refusals 1 to 6.
  pub refused-before : (r : Refusal) → check_before s part table lines ed ≡ Err r → Answers s part table lines ed (Err r) table
  unfolding first_of
  refused-before r e = refused r (in_order_lem ∙ rw e)

  module _ (good : check_before s part table lines ed ≡ Ok tt) where
    room_decides : check_relay s part table lines ed ≡ room
    unfolding first_of
    room_decides = in_order_lem ∙ rw good (first_alone room)

    module _ (n : ℕ) (is : n ≡ length (lines_after s part table lines ed)) where
      -- Refusal 8.
      pub too_small : capacity_of entry_numbers table < n → Answers s part table lines ed (Err (TooSmall n)) table
      unfolding check_room refuse_if pick
      too_small h = refused (TooSmall n) (room_decides ∙ rw (← is, lt-ltb _ _ h))

      -- The lines are written.
      pub laid-again : (laid : ℕ) → laid ≡ length (lines_laid s part table lines ed) → n ≤ capacity_of entry_numbers table
          → Answers s part table lines ed (Ok (record { lines = n; laid = laid })) (written table (of_all of_entry (lines_after s part table lines ed)))
      unfolding relay_answer relay_table check_room refuse_if pick
      laid-again laid l h =
          let enough : room ≡ Ok tt = rw (← is, le-ltb _ _ h) in
          let all : check_relay s part table lines ed ≡ Ok tt = room_decides ∙ enough in
          (rw (all, ← is, ← l), rw all)
