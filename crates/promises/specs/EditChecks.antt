-- An edit of a text and the part that is lent for laying it again are good: refusal 3, refusal 5 and refusal 6 are not given.
-- Assumes nothing.
use Rattle.std.specs.Prelude.{ℕ, ◌+◌, ◌-◌, ◌≤◌, ◌≡◌, refl, true, List, [], ◌∷◌, ◌++◌, length, take, Ok}
use Rattle.std.proofs.Common.{arith, sym, ap, ◌∙◌, append_assoc, length-append, le-leb, eq-eqb}
use Rattle.std.proofs.Math.Seq.{take-append_seam}
use Rattle.basis.specs.Choice.{pick_true, and_both}
use Rattle.utf8.specs.Encoding.{size}
use Rattle.utf8.specs.Sizes.{size_append}
use Rattle.utf8.specs.Places.{boundary}
use Rattle.utf8.specs.Boundaries.{boundary-is}
use Rattle.meaning.specs.Layout.{layout}
use Rattle.meaning.specs.WellFormed.{text_length}
use Rattle.meaning.specs.Edit.{affected, in_order, new_length, check_whole, check_rest, check_order, part_fits, check_edit}
use Rattle.meaning.specs.declared.settings.Settings.{Settings}
use Rattle.meaning.specs.declared.edit.Edit.{Edit}
use Rattle.meaning.specs.declared.line.Entry.{Entry}
use Rattle.laws.specs.Suffixes.{Suffix, shorter_suffix}
use Rattle.again.specs.Meeting.{Replaces}
use Rattle.laws.specs.Affected.{layout-first}
use Rattle.laws.specs.WellFormedLayout.{layout-length}
use Rattle.laws.specs.GoodChecks.{refuse_unless, length-good}
use Rattle.promises.specs.LaidAgain.{start_of, Lent, some-affected, affected-start, part-is}

-- Where an end of a text begins is a character boundary.
suffix_boundary : (v c : List ℕ) (i : ℕ) → Suffix v c → i + size c ≡ size v → boundary v i ≡ true
suffix_boundary v c i f e =
    let n : i ≡ size f.front = omega (arith, ap size f.is, size_append f.front c) in
    (boundary-is v i).1
    (record {
      chars = length f.front;
      within = rw (f.is, length-append) (omega arith);
      is = n ∙ ap size (sym (ap (take (length f.front)) f.is ∙ take-append_seam f.front c));
    })

-- The four tests of `part_fits`, of the first of some lines.
edit-from : (es : List Entry) (ed : Edit) (onward : List Entry) (n : ℕ) (cs : List ℕ) → (onward ≡ [] → ⊥) → in_order es ed ≡ true
    → n ≡ new_length es ed - start_of onward
    → boundary cs (ed.from.0 - start_of onward) ≡ true
    → boundary cs (ed.from.0 + ed.inserted.0 - start_of onward) ≡ true
    → check_edit es ed onward n cs ≡ Ok tt
unfolding check_edit part_fits
edit-from es ed [] n cs some a b c d = absurd (some refl)
edit-from es ed (e ∷ more) n cs some a b c d = refuse_unless (part_fits es ed e n cs) _ (simp (a, eq-eqb _ _ b, c, d))

module _ (s : Settings) (ed : Edit) (pre mid ins post : List ℕ) (r : Replaces ed pre mid ins) where
  abbrev old : List ℕ
  old = pre ++ (mid ++ post)

  abbrev new : List ℕ
  new = pre ++ (ins ++ post)

  old-size : size old ≡ size pre + (size mid + size post)
  old-size = simp size_append

  new-size : size new ≡ size pre + (size ins + size post)
  new-size = simp size_append

  in_order_lem : in_order (layout s old) ed ≡ true
  unfolding in_order
  in_order_lem =
      and_both _ _ (le-leb ed.from.0 ed.to.0 (omega arith))
      (le-leb ed.to.0 (text_length (layout s old)) (omega (arith, layout-length s old, old-size)))

  new-length : new_length (layout s old) ed ≡ size new
  unfolding new_length
  new-length = omega (arith, layout-length s old, old-size, new-size)

  -- 3, and 6 of an edit alone.
  pub whole-good : size new ≤ 65535 → check_whole (Ok tt) (layout s old) ed ≡ Ok tt
  unfolding check_whole
  whole-good h = pick_true _ _ _ in_order_lem ∙ rw new-length (length-good (size new) h)

  pub order-good : check_order (layout s old) ed ≡ Ok tt
  unfolding check_order
  order-good = refuse_unless _ _ in_order_lem

  module _ (cs : List ℕ) (k : Lent ed (layout s old) new cs) where
    -- 5, of the first affected line's rest in the part.
    pub rest-good : (n : ℕ) → check_rest n (affected ed.from.0 (layout s old)) cs ≡ Ok tt
    unfolding check_rest
    rest-good n =
        let f = layout-first s pre (mid ++ post) (ins ++ post) in
        rw (r.from, f.found, part-is s ed pre mid ins post r cs k) (refuse_unless _ _ f.fits)

    lent-size : start_of (affected ed.from.0 (layout s old)) + size cs ≡ size new
    lent-size = omega (arith, k.at, ap size k.is, size_append k.front cs)

    from-boundary : boundary cs (ed.from.0 - start_of (affected ed.from.0 (layout s old))) ≡ true
    from-boundary =
        let b = affected-start s ed pre mid ins post r in
        let n = size_append ins post in
        suffix_boundary cs (ins ++ post) _
        (shorter_suffix pre (ins ++ post) k.front cs k.is (omega (arith, lent-size, new-size))) (omega (arith, lent-size, new-size))

    inserted-boundary : boundary cs (ed.from.0 + ed.inserted.0 - start_of (affected ed.from.0 (layout s old))) ≡ true
    inserted-boundary =
        let b = affected-start s ed pre mid ins post r in
        suffix_boundary cs post _
        (shorter_suffix (pre ++ ins) post k.front cs (rw append_assoc k.is) (omega (arith, lent-size, new-size)))
        (omega (arith, lent-size, new-size))

    -- 6, with the part.
    pub edit-good : (n : ℕ) → n ≡ size cs → check_edit (layout s old) ed (affected ed.from.0 (layout s old)) n cs ≡ Ok tt
    edit-good n e =
        edit-from (layout s old) ed (affected ed.from.0 (layout s old)) n cs (some-affected s ed pre mid ins post r) in_order_lem
        (omega (arith, lent-size, new-length)) from-boundary inserted-boundary
