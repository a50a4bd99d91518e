-- The old lines that laying again keeps are the last ones, and the first of them starts behind the replaced bytes.
-- Assumes nothing.
use Prim.Native.Nat.{ℕ, suc, ◌+◌, ◌-◌, ◌≤◌}
use native.Mathlib.Omega.{arith}
use Rattle.std.specs.Prelude.{◌≡◌, true, ◌&&◌, length, drop}
use Rattle.std.proofs.Math.Path.{refl, ap}
use Rattle.std.proofs.Common.{sym, subst, ◌∙◌, length-drop, drop_of_length-le}
use mathlib.Core.List.{List, [], ◌∷◌, map}
use borrow.Author.Tests.{leb-true}
use Rattle.std.proofs.Math.Dec.{leb, eqb}
use Rattle.std.proofs.lemmas.List.{length-map}
use Rattle.basis.specs.Choice.{pick, by_test, and_true}
use Rattle.meaning.specs.Layout.{Row}
use Rattle.meaning.specs.Edit.{moved, moved_rest, moved_entry, meets, kept_from, Again, one_more, unless_kept}
use Rattle.meaning.specs.declared.settings.Settings.{Settings}
use Rattle.meaning.specs.declared.edit.Edit.{Edit}
use Rattle.meaning.specs.declared.line.Rest.{Rest}
use Rattle.meaning.specs.declared.line.Entry.{Entry}
use Rattle.again.specs.Relaid.{count_of}
use Rattle.rows.specs.RowsFrom.{rows_from}
use Rattle.stands.specs.declared.stand.Stand.{Stand}
use Rattle.again.specs.AgainFrom.{until_kept, again_from}

-- The first of some lines, if there is one, starts behind the replaced bytes.
abbrev pub StartsBehind : Edit → List Entry → Type 0
StartsBehind ed [] = Unit {0}
StartsBehind ed (e ∷ es) = ed.to.0 ≤ e.start.0

-- Some lines are the old ones from line j on, and start behind the replaced bytes.
pub record Last (ed : Edit) (old es : List Entry) : Type 0 where
  pub from : ℕ
  pub within : from ≤ length old
  pub is : es ≡ drop from old
  pub behind : StartsBehind ed es

module _ (ed : Edit) where
  met-behind : (start : ℕ) (rest : Rest) (e : Entry) → meets ed start rest e ≡ true → ed.to.0 ≤ e.start.0
  unfolding meets
  met-behind start rest e h =
      let a = leb ed.to.0 e.start.0 in
      let b = eqb (moved ed e.start.0) start in
      let c = eqb (moved_rest ed e.rest).end.0 rest.end.0 in
      leb-true ed.to.0 e.start.0 (and_true a b (and_true (a && b) c (and_true (a && b && c) _ h).0).0).0

  -- No lines are the old ones from behind the last.
  no_lines_lem : (old : List Entry) → Last ed old []
  no_lines_lem old =
      let h : length old ≤ length old = omega arith in
      record { from = length old; within = h; is = sym (drop_of_length-le old h); behind = tt }

  kept-last : (start : ℕ) (rest : Rest) (old : List Entry) → Last ed old (kept_from ed start rest old)
  unfolding kept_from pick
  kept-last start rest [] = no_lines_lem []
  kept-last start rest (e ∷ es) =
      let more = kept-last start rest es in
      by_test (meets ed start rest e)
      (λ t. rw t (record { from = 0; within = omega arith; is = refl; behind = met-behind start rest e t }))
      (λ t. rw t (record { from = suc more.from; within = omega (arith, more.within); is = more.is; behind = more.behind }))

  -- What is kept are such lines, moved: from the count before the first of them to the one that it has then.
  pub record KeptLast (old : List Entry) (a : Again) : Type 0 where
    pub lines : List Entry
    pub last : Last ed old lines
    pub is : a.kept ≡ map (moved_entry ed (count_of lines) (count_of a.kept)) lines

  stopped_last : (old : List Entry) (before : ℕ) (es : List Entry) (a : Again) → Last ed old es → KeptLast old a
      → KeptLast old (unless_kept ed before es a)
  unfolding unless_kept moved_entry
  stopped_last old before [] a l k = k
  stopped_last old before (e ∷ es) a l k =
      let from = e.before.0 in
      let same : before ≡ before + (from - from) = omega arith in
      record { lines = e ∷ es; last = l; is = ap (λ (n : ℕ). map (moved_entry ed from n) (e ∷ es)) same }

  keeps-last : (old : List Entry) (rs : List Row) → KeptLast old (until_kept ed old rs)
  unfolding until_kept
  keeps-last old [] = record { lines = []; last = no_lines_lem old; is = refl }
  keeps-last old (r ∷ rs) =
      let k = keeps-last old rs in
      stopped_last old r.entry.before.0 (kept_from ed r.entry.start.0 r.entry.rest old) (one_more r (until_kept ed old rs))
      (kept-last r.entry.start.0 r.entry.rest old) (record { lines = k.lines; last = k.last; is = k.is })

-- ---- by their count

module _ (s : Settings) (t : List ℕ) (ed : Edit) (old : List Entry) (base : ℕ) (p : Stand) where
  abbrev a : Again
  a = again_from s t ed old base p

  abbrev first : ℕ
  first = length old - length a.kept

  lasts : KeptLast ed old a
  lasts = keeps-last ed old (rows_from s t base p)

  counted : lasts.last.from ≡ first
  counted =
      let l = lasts.last in
      let n = ap length lasts.is ∙ length-map lasts.lines (moved_entry ed (count_of lasts.lines) (count_of a.kept)) ∙ ap length l.is ∙ length-drop l.from old in
      omega (arith, n, l.within)

  pub kept-few : length a.kept ≤ length old
  kept-few =
      let l = lasts.last in
      omega (arith, ap length lasts.is ∙ length-map lasts.lines (moved_entry ed (count_of lasts.lines) (count_of a.kept)) ∙ ap length l.is ∙ length-drop l.from old)

  pub kept-are : a.kept ≡ map (moved_entry ed (count_of (drop first old)) (count_of a.kept)) (drop first old)
  kept-are =
      lasts.is
      ∙ ap (λ (es : List Entry). map (moved_entry ed (count_of es) (count_of a.kept)) es) (lasts.last.is ∙ ap (λ (n : ℕ). drop n old) counted)

  pub kept-behind : StartsBehind ed (drop first old)
  kept-behind = subst (StartsBehind ed) (lasts.last.is ∙ ap (λ (n : ℕ). drop n old) counted) lasts.last.behind
