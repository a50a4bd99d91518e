-- Demand 3: laying again after an edit gives exactly the layout of the new text.
-- Assumes nothing.
use Rattle.std.specs.Prelude.{ℕ, suc, ◌+◌, ◌≤◌, ◌≡◌, List, [], ◌∷◌, ◌++◌, map, length, drop}
use Rattle.std.proofs.Common.{arith, ap, ◌∙◌, take-append-drop}
use Rattle.std.proofs.Math.Path.{sym}
use Rattle.std.proofs.Math.ListN.{take}
use Rattle.std.proofs.Math.Seq.{take-append_seam}
use Rattle.utf8.specs.Encoding.{size, encode_all}
use Rattle.utf8.specs.Sizes.{size_append, drop-encoded}
use Rattle.meaning.specs.Layout.{rows_by, layout, entry_of_row}
use Rattle.meaning.specs.Edit.{unaffected, affected, chars_in, held_of, again, lines_again}
use Rattle.meaning.specs.declared.settings.Settings.{Settings}
use Rattle.meaning.specs.declared.edit.Edit.{Edit}
use Rattle.meaning.specs.declared.line.Entry.{Entry}
use Rattle.laws.specs.Suffixes.{same_suffix, chars_in-front}
use Rattle.laws.specs.Stands.{stand-size}
use Rattle.again.specs.Meeting.{Replaces}
use Rattle.again.specs.Relaid.{lines_of, again-lines}
use Rattle.laws.specs.Affected.{begins, layout-first}

-- Where the first of some lines starts.
abbrev pub start_of : List Entry → ℕ
start_of [] = 0
start_of (e ∷ es) = e.start.0

-- The part that is lent for laying again: of the new text what stands from the first affected line's start on.
pub record Lent (ed : Edit) (old : List Entry) (new part : List ℕ) : Type 0 where
  pub front : List ℕ
  pub is : new ≡ front ++ part
  pub at : size front ≡ start_of (affected ed.from.0 old)

-- Its bytes are those of the new text from there on.
pub lent-bytes : (ed : Edit) (old : List Entry) (new part : List ℕ) → Lent ed old new part
    → drop (start_of (affected ed.from.0 old)) (encode_all new) ≡ encode_all part
lent-bytes ed old new part k = rw (← k.at, k.is) (drop-encoded k.front part)

-- What a text has from a byte on.
unfoldable pub part_from : (start : ℕ) → List ℕ → List ℕ
part_from start cs = drop (chars_in cs start) cs

size-front : (start : ℕ) (text x y : List ℕ) → start ≡ size x → text ≡ x ++ y
    → size (take (chars_in text start) text) ≡ start
size-front start text x y e q = rw (q, e, chars_in-front x y, take-append_seam)

lines-again : (s : Settings) (ed : Edit) (old : List Entry) (part : List ℕ) (a : ℕ) → ed.from.0 ≡ a
    → lines_again s ed old part ≡ unaffected a old ++ lines_of (again s ed old (affected a old) part)
unfolding lines_again
lines-again s ed old part a e = ap (λ (n : ℕ). unaffected n old ++ lines_of (again s ed old (affected n old) part)) e

-- In pre ++ (mid ++ post) the edit replaces mid by ins, whatever the settings are.
module _ (s : Settings) (ed : Edit) (pre mid ins post : List ℕ) (r : Replaces ed pre mid ins) where
  -- A line is affected, and the first one starts no later than the edit.
  pub some-affected : affected ed.from.0 (layout s (pre ++ (mid ++ post))) ≡ [] → ⊥
  some-affected e =
      let f = layout-first s pre (mid ++ post) (ins ++ post) in
      let z : ◌≡◌ {A = ℕ} 0 1 = cc (r.from, f.found) in
      omega arith

  pub affected-start : start_of (affected ed.from.0 (layout s (pre ++ (mid ++ post)))) ≤ ed.from.0
  affected-start = let f = layout-first s pre (mid ++ post) (ins ++ post) in rw (r.from, f.found) f.before

  -- The lines before it, with which the old layout begins (`unaffected-old`), are those with which the new one begins.
  pub unaffected-new : take (length (unaffected ed.from.0 (layout s (pre ++ (mid ++ post))))) (layout s (pre ++ (ins ++ post)))
      ≡ unaffected ed.from.0 (layout s (pre ++ (mid ++ post)))
  unaffected-new =
      let f = layout-first s pre (mid ++ post) (ins ++ post) in
      rw r.from
      (begins (unaffected (size pre) (layout s (pre ++ (mid ++ post))))
      (map entry_of_row (rows_by f.fuel s f.entry.start.0 f.entry.before.0 (held_of f.entry f.part) f.part))
      (layout s (pre ++ (ins ++ post))) f.new_is)

  -- Such a part can be lent.
  pub can_lend : Lent ed (layout s (pre ++ (mid ++ post))) (pre ++ (ins ++ post))
      (part_from (start_of (affected ed.from.0 (layout s (pre ++ (mid ++ post))))) (pre ++ (ins ++ post)))
  unfolding part_from
  can_lend =
      let new = pre ++ (ins ++ post) in
      let start = start_of (affected ed.from.0 (layout s (pre ++ (mid ++ post)))) in
      let f = layout-first s pre (mid ++ post) (ins ++ post) in
      let e : start ≡ size f.stands.front = rw (r.from, f.found) f.stands.at in
      record {
        front = take (chars_in new start) new;
        is = sym (take-append-drop (chars_in new start) new);
        at = size-front start new f.stands.front f.part e f.stands.is;
      }

  -- The lent part is what the first affected line starts.
  pub part-is : (part : List ℕ) → Lent ed (layout s (pre ++ (mid ++ post))) (pre ++ (ins ++ post)) part
      → part ≡ (layout-first s pre (mid ++ post) (ins ++ post)).part
  part-is part k =
      let f = layout-first s pre (mid ++ post) (ins ++ post) in
      let at : size k.front ≡ f.entry.start.0 = k.at ∙ rw (r.from, f.found) in
      let n : size (pre ++ (ins ++ post)) ≡ size k.front + size part = ap size k.is ∙ size_append k.front part in
      same_suffix k.front part f.stands.front f.part (sym k.is ∙ f.stands.is)
      (omega (arith, stand-size (pre ++ (ins ++ post)) f.entry.start.0 (held_of f.entry f.part) f.part f.stands))

  pub relaid_is : (part : List ℕ) → Lent ed (layout s (pre ++ (mid ++ post))) (pre ++ (ins ++ post)) part
      → lines_again s ed (layout s (pre ++ (mid ++ post))) part ≡ layout s (pre ++ (ins ++ post))
  unfolding again
  relaid_is part k =
      let f = layout-first s pre (mid ++ post) (ins ++ post) in
      let old = layout s (pre ++ (mid ++ post)) in
      let lines =
      again-lines s ed pre mid ins post r (suc (length f.part)) f.entry.start.0 f.entry.before.0
      (held_of f.entry f.part) f.part f.stands (omega arith) f.fuel f.enough in
      lines-again s ed old part (size pre) r.from ∙ rw (f.found, part-is part k, lines) (sym f.new_is)
