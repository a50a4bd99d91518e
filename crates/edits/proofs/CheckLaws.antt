-- The tests of an edit and of the lent part, on each way through them.
-- Assumes nothing.
use Prim.Native.Nat.{ℕ, ◌+◌, ◌-◌, ◌*◌, ◌<◌}
use Rattle.std.specs.Prelude.{Err, Ok}
use Rattle.meaning.specs.Refusals.{Checked}
use mathlib.Core.Path.{◌≡◌, ap, ◌∙◌}
use mathlib.Core.Bool.{true, false, ◌&&◌}
use mathlib.Core.List.{List}
use lib.ListN.{length, drop}
use Rattle.utf8.specs.Decoding.{decode_all}
use Rattle.utf8.specs.Places.{boundary_at}
use Rattle.meaning.specs.Checks.{check_utf8}
use Rattle.meaning.specs.Table.{entry_numbers, entry_in, entries_in}
use Rattle.meaning.specs.WellFormed.{text_length}
use Rattle.meaning.specs.Edit.{unaffected, check_whole, rest_fits, part_fits}
use Rattle.meaning.specs.declared.edit.Edit.{Edit}
use Rattle.meaning.specs.declared.line.Entry.{Entry}
use Rattle.meaning.specs.declared.refusals.Refusal.{Refusal}
use Rattle.meaning.specs.declared.refusals.Refusal.TheVariants.{BadEdit}
use Rattle.laws.specs.PartChars.{part-boundary}
use Rattle.edits.specs.Checking.{whole_of, whole_is, ends_fit, length_fits, part-fits, check_first, bad_edit, good-edit}

-- ---- by the table's check

module _ (es : List Entry) (ed : Edit) (c : Checked) where
  pub whole-none : (r : Refusal) → c ≡ Err r → Ok tt ≡ check_whole c es ed
  unfolding check_whole
  whole-none r h = rw h

  pub whole-some : c ≡ Ok tt → (n : ℕ) → n ≡ text_length es → whole_of n ed ≡ check_whole c es ed
  whole-some h n is = ap (λ (m : ℕ). whole_of m ed) is ∙ whole_is es ed ∙ rw h

-- ---- the ends of the inserted bytes

pub ends-tested : (t : List ℕ) (ed : Edit) (e : Entry) (front end : ℕ) → check_utf8 t ≡ Ok tt
    → front ≡ ed.from.0 - e.start.0 → end ≡ ed.from.0 + ed.inserted.0 - e.start.0
    → boundary_at t front && boundary_at t end ≡ ends_fit ed e (decode_all t)
unfolding ends_fit
ends-tested t ed e front end u p q = rw (part-boundary t u front, part-boundary t u end, p, q)

-- ---- 6, with the first affected line, whose rest fits

module _ (table : List ℕ) (lines : ℕ) (ed : Edit) (k : ℕ) (k-is : k ≡ length (unaffected ed.from.0 (entries_in lines table)))
    (part : List ℕ) (h : k < lines) (e : Entry) (e-is : e ≡ entry_in (drop (entry_numbers * k) table)) (f : rest_fits e (decode_all part) ≡ true)
    (n : ℕ) (n-is : n ≡ text_length (entries_in lines table))
  where
    abbrev old : List Entry
    old = entries_in lines table

    both : part_fits old ed e (length part) (decode_all part) ≡ length_fits n ed e (length part) && ends_fit ed e (decode_all part)
    both = rw n-is (part-fits old ed e (length part) (decode_all part))

    pub edit-length : length_fits n ed e (length part) ≡ false → Err BadEdit ≡ check_first part table lines ed
    edit-length p = bad_edit table lines ed k k-is part h e e-is f (both ∙ rw p)

    module _ (p : length_fits n ed e (length part) ≡ true) where
      pub edit-ends : ends_fit ed e (decode_all part) ≡ false → Err BadEdit ≡ check_first part table lines ed
      edit-ends q = bad_edit table lines ed k k-is part h e e-is f (both ∙ rw (p, q))

      pub edit-fits : ends_fit ed e (decode_all part) ≡ true → Ok tt ≡ check_first part table lines ed
      edit-fits q = good-edit table lines ed k k-is part h e e-is f (both ∙ rw (p, q))
