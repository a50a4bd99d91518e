-- The tests of laying again before anything is laid, in the order of their numbers, and each way through them.
-- Assumes nothing.
use Rattle.std.specs.Prelude.{ℕ, ◌+◌, ◌-◌, ◌*◌, ◌≤◌, ◌<◌, ◌≡◌, refl, Bool, true, false, ◌&&◌, List, [], ◌∷◌, leb, eqb, length, drop, Err, None, Ok, Option, Some}
use Rattle.meaning.specs.Refusals.{Checked}
use Rattle.std.proofs.Common.{arith, ap, ◌∙◌, lt-ltb, length-append}
use Rattle.std.proofs.Math.Path.{sym}
use Rattle.std.proofs.Math.Bool.{and_assoc}
use Rattle.basis.specs.Choice.{pick, pick_under, by_test}
use Rattle.utf8.specs.Decoding.{decode_all}
use Rattle.utf8.specs.Places.{boundary}
use Rattle.meaning.specs.Checks.{text_limit, refuse_if, first_of, check_settings, check_length, check_utf8, check_text}
use Rattle.meaning.specs.Table.{entry_numbers, entry_in, entries_in}
use Rattle.meaning.specs.WellFormed.{text_length, check_table}
use Rattle.meaning.specs.Edit.{unaffected, affected, in_order, new_length, check_whole, rest_fits, check_rest, part_fits, check_edit}
use Rattle.meaning.specs.declared.settings.Settings.{Settings}
use Rattle.meaning.specs.declared.edit.Edit.{Edit}
use Rattle.meaning.specs.declared.line.Entry.{Entry}
use Rattle.meaning.specs.declared.refusals.Refusal.{Refusal}
use Rattle.meaning.specs.declared.refusals.Refusal.TheVariants.{TextTooLong, BadLine, BadEdit}
use Rattle.laws.specs.TableLaws.{entries_length}
use Rattle.laws.specs.TestOrder.{first_alone}
use Rattle.laws.specs.GoodChecks.{length-good}
use Rattle.laws.specs.Affected.{affected_split}
use Rattle.table.specs.EditAlone.{edited_whole}
use Rattle.table.specs.LinesFrom.{lines_from, lines_more, lines_end}
use Rattle.edits.specs.OldLines.{lines-drop, affected-drop}

-- ---- the edited whole

-- 3, where the table is well formed.
abbrev pub whole_checked : Option ℕ → Checked
whole_checked (Some n) = check_length n
whole_checked None = Ok tt

-- The old text has n bytes.
unfoldable pub whole_of : (n : ℕ) → Edit → Checked
whole_of n ed = whole_checked (edited_whole n ed)

pub whole_is : (es : List Entry) (ed : Edit) → whole_of (text_length es) ed ≡ check_whole (Ok tt) es ed
unfolding whole_of edited_whole check_whole in_order new_length
whole_is es ed = pick_under whole_checked (leb ed.from.0 ed.to.0 && leb ed.to.0 (text_length es)) _ _

-- ---- the lent part

-- Both ends of the inserted bytes are boundaries in a part that stands from an entry's start on.
unfoldable pub ends_fit : Edit → Entry → List ℕ → Bool
ends_fit ed e cs = boundary cs (ed.from.0 - e.start.0) && boundary cs (ed.from.0 + ed.inserted.0 - e.start.0)

-- The part has the bytes that the edited whole has from there on.
abbrev pub whole_fits : Option ℕ → (start length : ℕ) → Bool
whole_fits (Some n) start len = eqb len (n - start)
whole_fits None start len = false

unfoldable pub length_fits : (n : ℕ) → Edit → Entry → (length : ℕ) → Bool
length_fits n ed e len = whole_fits (edited_whole n ed) e.start.0 len

pub part-fits : (es : List Entry) (ed : Edit) (e : Entry) (len : ℕ) (cs : List ℕ)
    → part_fits es ed e len cs ≡ length_fits (text_length es) ed e len && ends_fit ed e cs
unfolding part_fits length_fits edited_whole ends_fit in_order new_length pick
part-fits es ed e len cs =
    by_test (leb ed.from.0 ed.to.0 && leb ed.to.0 (text_length es))
    (λ h. rw h (and_assoc (eqb len (new_length es ed - e.start.0)) _ _)) (λ h. rw h)

-- ---- the tests, one behind the other

-- 5 and 6 of the first affected line.
unfoldable pub check_first : (part table : List ℕ) → (lines : ℕ) → Edit → Checked
check_first part table lines ed =
    let old = entries_in lines table in
    let onward = affected ed.from.0 old in
    first_of
    (check_rest (length (unaffected ed.from.0 old)) onward (decode_all part)
    ∷ check_edit old ed onward (length part) (decode_all part) ∷ [])

-- 3 to 6.
unfoldable pub check_lent : (part table : List ℕ) → (lines : ℕ) → Edit → Checked
check_lent part table lines ed =
    first_of
    (check_length (length part) ∷ check_whole (check_table lines table) (entries_in lines table) ed ∷ check_utf8 part ∷ check_table lines table
    ∷ check_first part table lines ed ∷ [])

-- 1 to 6.
unfoldable pub check_before : Settings → (part table : List ℕ) → (lines : ℕ) → Edit → Checked
check_before s part table lines ed = first_of (check_settings s ∷ check_lent part table lines ed ∷ [])

-- ---- the first affected line

module _ (table : List ℕ) (lines : ℕ) (ed : Edit) (k : ℕ) (k-is : k ≡ length (unaffected ed.from.0 (entries_in lines table))) where
  abbrev old : List Entry
  old = entries_in lines table

  abbrev onward : List Entry
  onward = affected ed.from.0 old

  pub few-before : k ≤ lines
  few-before =
      let u = unaffected ed.from.0 old in
      omega (arith, length-append u onward, ap length (affected_split ed.from.0 old), entries_length lines table)

  onward-is : onward ≡ lines_from table lines k
  onward-is = affected-drop ed.from.0 old ∙ ap (λ (n : ℕ). drop n old) (sym k-is) ∙ sym (lines-drop k lines table)

  none-affected : lines ≤ k → onward ≡ []
  none-affected h = onward-is ∙ lines_end table lines k h

  pub first-affected : k < lines → onward ≡ entry_in (drop (entry_numbers * k) table) ∷ lines_from table lines (k + 1)
  first-affected h = onward-is ∙ lines_more table lines k h

  module _ (part : List ℕ) where
    abbrev cs : List ℕ
    cs = decode_all part

    pub no_line : lines ≤ k → Err BadEdit ≡ check_first part table lines ed
    unfolding check_first check_rest check_edit first_of
    no_line h = rw (none-affected h)

    module _ (h : k < lines) (e : Entry) (e-is : e ≡ entry_in (drop (entry_numbers * k) table)) where
      here : onward ≡ e ∷ lines_from table lines (k + 1)
      here = first-affected h ∙ rw e-is

      pub bad_rest : rest_fits e cs ≡ false → Err (BadLine k) ≡ check_first part table lines ed
      unfolding check_first check_rest refuse_if first_of pick
      bad_rest f = rw (here, f, k-is)

      module _ (f : rest_fits e cs ≡ true) where
        pub bad_edit : part_fits old ed e (length part) cs ≡ false → Err BadEdit ≡ check_first part table lines ed
        unfolding check_first check_rest check_edit refuse_if first_of pick
        bad_edit g = rw (here, f, g)

        pub good-edit : part_fits old ed e (length part) cs ≡ true → Ok tt ≡ check_first part table lines ed
        unfolding check_first check_rest check_edit refuse_if first_of pick
        good-edit g = rw (here, f, g)

-- ---- 3 to 6, one after the other

both-good : (a b : Checked) → first_of (a ∷ b ∷ []) ≡ Ok tt → (a ≡ Ok tt) × (b ≡ Ok tt)
unfolding first_of
both-good (Ok tt) b e = (refl, sym (first_alone b) ∙ e)
both-good (Err r) b e = let z : ◌≡◌ {A = ℕ} 0 1 = cc in absurd (omega arith)

pub text-utf8 : (t : List ℕ) → check_text t ≡ Ok tt → check_utf8 t ≡ Ok tt
unfolding check_text
text-utf8 t e = (both-good (check_length (length t)) (check_utf8 t) e).1

module _ (part table : List ℕ) (lines : ℕ) (ed : Edit) where
  pub lent-long : text_limit < length part → Err (TextTooLong (length part)) ≡ check_lent part table lines ed
  unfolding check_lent check_length refuse_if first_of pick
  lent-long h = rw (lt-ltb text_limit (length part) h)

  module _ (short : length part ≤ text_limit) (c : Checked) (c-is : c ≡ check_table lines table) where
    pub lent-whole : (r : Refusal) → check_whole c (entries_in lines table) ed ≡ Err r → Err r ≡ check_lent part table lines ed
    unfolding check_lent first_of
    lent-whole r h = rw (length-good (length part) short, ← c-is, h)

    module _ (whole : check_whole c (entries_in lines table) ed ≡ Ok tt) where
      pub lent-text : (r : Refusal) → check_text part ≡ Err r → Err r ≡ check_lent part table lines ed
      unfolding check_lent check_text first_of
      lent-text r h =
          let u : check_utf8 part ≡ Err r = sym (first_alone (check_utf8 part)) ∙ rw (length-good (length part) short) at h in
          rw (length-good (length part) short, ← c-is, whole, u)

      module _ (text : check_text part ≡ Ok tt) where
        pub lent-table : (r : Refusal) → c ≡ Err r → Err r ≡ check_lent part table lines ed
        unfolding check_lent first_of
        lent-table r h = rw (length-good (length part) short, ← c-is, whole, text-utf8 part text, h)

        pub lent-first : c ≡ Ok tt → check_first part table lines ed ≡ check_lent part table lines ed
        unfolding check_lent first_of
        lent-first h =
            rw (length-good (length part) short, ← c-is, whole, text-utf8 part text, h) (sym (first_alone (check_first part table lines ed)))

-- ---- 1 to 6

module _ (s : Settings) (part table : List ℕ) (lines : ℕ) (ed : Edit) where
  pub settings-first : (r : Refusal) → check_settings s ≡ Err r → Err r ≡ check_before s part table lines ed
  unfolding check_before first_of
  settings-first r h = rw h

  pub then-lent : check_settings s ≡ Ok tt → check_lent part table lines ed ≡ check_before s part table lines ed
  unfolding check_before first_of
  then-lent h = rw h (sym (first_alone (check_lent part table lines ed)))
