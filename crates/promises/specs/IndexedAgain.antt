-- After an edit, an index that is made again from the first affected line on is the index of the new lines (rule 11, laying again).
-- Assumes nothing.
use Prim.Native.Nat.{ℕ, zero, suc, ◌+◌, ◌≤◌, ◌<◌}
use Rattle.std.specs.Prelude.{◌≡◌, List, [], ◌∷◌, ℤ, ◌+ℤ◌}
use Rattle.std.proofs.Math.Path.{refl, sym, ap}
use Rattle.std.proofs.Common.{◌∙◌, arith, eq-eqb, ne_eqb, length-append, length-take, take-take}
use Rattle.std.proofs.Math.IntN.{pos}
use Rattle.std.proofs.Math.ListN.{length, take}
use Rattle.basis.specs.Choice.{pick}
use Rattle.basis.specs.Order.{by_eq}
use Rattle.meaning.specs.Layout.{layout}
use Rattle.meaning.specs.Table.{entries_in}
use Rattle.meaning.specs.Edit.{unaffected, affected}
use Rattle.meaning.specs.Height.{height_of, offset_of, added_before, y_of}
use Rattle.meaning.specs.YIndex.{ys_from, index_of, written_from, kept_before}
use Rattle.meaning.specs.Calls.{index_from, index_after, index_again_after}
use Rattle.meaning.specs.declared.settings.Settings.{Settings}
use Rattle.meaning.specs.declared.edit.Edit.{Edit}
use Rattle.meaning.specs.declared.line.Entry.{Entry}
use Rattle.laws.specs.TableLaws.{entries_length}
use Rattle.promises.specs.WrittenYs.{kept-right}
use Rattle.laws.specs.Affected.{affected_split, unaffected-old}
use Rattle.promises.specs.LaidAgain.{unaffected-new}
use Rattle.promises.specs.Demand3Calls.{EditOf}

-- ---- lines that are the same have the same ys at the top

added-first : (s : Settings) (j k : ℕ) (es : List Entry) → j ≤ k → added_before s j es ≡ added_before s j (take k es)
unfolding added_before
added-first s zero zero [] h = refl
added-first s zero (suc k) [] h = refl
added-first s (suc j) zero [] h = refl
added-first s (suc j) (suc k) [] h = refl
added-first s zero zero (e ∷ es) h = refl
added-first s zero (suc k) (e ∷ es) h = refl
added-first s (suc j) zero (e ∷ es) h = absurd (omega arith)
added-first s (suc j) (suc k) (e ∷ es) h = omega (arith, added-first s j k es (omega arith))

module _ (s : Settings) (top : s.vertical ≡ 0) (k : ℕ) (es fs : List Entry) (same : take k es ≡ take k fs) where
  no_offset : (h : ℕ) → offset_of s h ≡ pos 0
  unfolding offset_of pick
  no_offset h = rw (eq-eqb _ _ top)

  same-y : (j : ℕ) → j < k → y_of s j es ≡ y_of s j fs
  unfolding y_of
  same-y j h =
      let added = added-first s j k es (omega arith) ∙ ap (added_before s j) same ∙ sym (added-first s j k fs (omega arith)) in
      let offset = no_offset (height_of s es) ∙ sym (no_offset (height_of s fs)) in
      λ i. s.top +ℤ offset i +ℤ pos (added i)

  same-ys : (j n m c : ℕ) → j + c ≡ k → c ≤ n → c ≤ m → take c (ys_from s es j n) ≡ take c (ys_from s fs j m)
  unfolding ys_from
  same-ys j n m zero e p q = refl
  same-ys j zero m (suc c) e p q = absurd (omega arith)
  same-ys j (suc n) zero (suc c) e p q = absurd (omega arith)
  same-ys j (suc n) (suc m) (suc c) e p q =
      let y = same-y j (omega arith) in
      let more = same-ys (suc j) n m c (omega arith) (omega arith) (omega arith) in
      λ i. y i ∷ more i

  pub same_index : k ≤ length es → k ≤ length fs → take k (index_of s es) ≡ take k (index_of s fs)
  unfolding index_of
  same_index p q = same-ys 0 (length es) (length fs) k (omega arith) p q

-- ---- after an edit

module _ {s : Settings} {ed : Edit} {old new table : List ℕ} {lines : ℕ} {part : List ℕ} (k : EditOf s ed old new table lines part) where
  abbrev first : ℕ
  first = length (unaffected ed.from.0 (layout s old))

  same_lines : take first (layout s old) ≡ take first (layout s new)
  same_lines =
      unaffected-old ed.from.0 (layout s old)
      ∙ sym (rw (k.old-is, k.new_is) (unaffected-new s ed k.pre k.mid k.ins k.post k.replaces))

  few-old : first ≤ length (layout s old)
  few-old =
      let u = unaffected ed.from.0 (layout s old) in
      let v = affected ed.from.0 (layout s old) in
      omega (arith, ap length (affected_split ed.from.0 (layout s old)), length-append u v)

  few-new : first ≤ length (layout s new)
  few-new =
      omega (arith, ap length same_lines, length-take first (layout s old), length-take first (layout s new), few-old)

  -- An index that held the ys of the old lines, made again from the first affected line on, is one that is made afresh, wherever the
  -- text stands in its box.
  pub index-again : (index : List ℤ) → take lines index ≡ index_of s (layout s old)
      → written_from (kept_before s first) index (index_of s (layout s new)) ≡ written_from 0 index (index_of s (layout s new))
  unfolding kept_before pick
  index-again index held = by_eq s.vertical 0 at_top elsewhere
    where
      right : s.vertical ≡ 0 → take first index ≡ take first (index_of s (layout s new))
      right e =
          sym (take-take first lines index (omega (arith, few-old, ap length k.held, entries_length lines table)))
          ∙ ap (take first) held ∙ same_index s e first (layout s old) (layout s new) same_lines few-old few-new

      at_top : s.vertical ≡ 0 → written_from (kept_before s first) index (index_of s (layout s new)) ≡ written_from 0 index (index_of s (layout s new))
      at_top e = rw (eq-eqb _ _ e) (kept-right first index (index_of s (layout s new)) (right e))

      elsewhere : (s.vertical ≡ 0 → ⊥) → written_from (kept_before s first) index (index_of s (layout s new)) ≡ written_from 0 index (index_of s (layout s new))
      elsewhere d = rw (ne_eqb _ _ d)

  -- So the call that makes it again leaves what the call that makes it leaves, of a table that holds the new lines.
  pub index_call_again : (after : List ℕ) (index : List ℤ) → entries_in (length (layout s new)) after ≡ layout s new
      → take lines index ≡ index_of s (layout s old)
      → index_again_after s after (length (layout s new)) first index ≡ index_after s after (length (layout s new)) index
  unfolding index_again_after index_after index_from
  index_call_again after index holds held = rw (holds, index-again index held)
