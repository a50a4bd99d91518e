-- The lines of a well formed table: they rise, and those before the first affected one start before b.
-- Assumes nothing.
use Rattle.std.specs.Prelude.{ℕ, suc, ◌≤◌, ◌<◌, ◌≡◌, false, leb, length, drop, Ok}
use Rattle.std.proofs.Common.{arith, sym, ap, ◌∙◌}
use Rattle.std.proofs.Math.Path.{refl}
use mathlib.Core.List.{List, [], ◌∷◌}
use Rattle.std.proofs.Math.Seq.{drop-append_seam}
use borrow.Author.Tests.{lt-leb, leb-true}
use Rattle.basis.specs.Choice.{pick, by_test}
use Rattle.meaning.specs.Table.{entries_in}
use Rattle.meaning.specs.WellFormed.{Before, line, check_lines}
use Rattle.meaning.specs.Edit.{unaffected, affected, meets, kept_from}
use Rattle.meaning.specs.declared.edit.Edit.{Edit}
use Rattle.meaning.specs.declared.line.Rest.{Rest}
use Rattle.meaning.specs.declared.line.Entry.{Entry}
use Rattle.laws.specs.Affected.{affected_split}
use Rattle.table.specs.LinesFrom.{lines_from}
use Rattle.look.specs.MovableLines.{entries_from_lem}
use Rattle.laws.specs.GoodLines.{good_more, good_start, start-after}
use Rattle.edits.specs.Pointer.{Above, Rising}

-- The lines of a table from a line on are what is left of all of them.
pub lines-drop : (k lines : ℕ) (t : List ℕ) → lines_from t lines k ≡ drop k (entries_in lines t)
unfolding lines_from
lines-drop k lines t = sym (entries_from_lem k lines t)

-- ---- they rise

rises-above : (n k start reach before : ℕ) (es : List Entry) → check_lines n k (line start reach before) es ≡ Ok tt → Above start es
rises-above n k start reach before [] h = tt
rises-above n k start reach before (e ∷ es) h = (
  (start-after n start reach before e (good_start n k (line start reach before) e es h)).0,
  rises-above n (suc k) e.start.0 e.reach.0 e.before.0 es (good_more n k (line start reach before) e es h),
)

pub rises : (n k : ℕ) (b : Before) (es : List Entry) → check_lines n k b es ≡ Ok tt → Rising es
rises n k b [] h = tt
rises n k b (e ∷ es) h = rises-above n (suc k) e.start.0 e.reach.0 e.before.0 es (good_more n k b e es h)

-- ---- the first affected line

pub affected-drop : (a : ℕ) (es : List Entry) → affected a es ≡ drop (length (unaffected a es)) es
affected-drop a es =
    let u = unaffected a es in
    sym (drop-append_seam u (affected a es)) ∙ ap (drop (length u)) (affected_split a es)

module _ (ed : Edit) (start : ℕ) (rest : Rest) where
  starts-before : (e : Entry) → e.start.0 < ed.to.0 → meets ed start rest e ≡ false
  unfolding meets
  starts-before e h = simp (lt-leb ed.to.0 e.start.0 h)

  -- The next line starts within a line's reach, so a line with reach <= a starts before b if a line follows it.
  pub kept-affected : (a n k : ℕ) (b : Before) (es : List Entry) → a ≤ ed.to.0 → check_lines n k b es ≡ Ok tt
      → (affected a es ≡ [] → ⊥) → kept_from ed start rest es ≡ kept_from ed start rest (affected a es)
  unfolding affected kept_from pick
  kept-affected a n k b [] h g d = refl
  kept-affected a n k b (e ∷ []) h g d = by_test (leb e.reach.0 a) (λ t. absurd (d (rw t))) (λ t. rw t)
  kept-affected a n k b (e ∷ f ∷ es) h g d =
      let more = good_more n k b e (f ∷ es) g in
      let c = line e.start.0 e.reach.0 e.before.0 in
      let s = start-after n e.start.0 e.reach.0 e.before.0 f (good_start n (suc k) c f es more) in
      by_test (leb e.reach.0 a)
      (λ t.
      let r = leb-true e.reach.0 a t in
      rw (t, starts-before e (omega arith)) (kept-affected a n (suc k) c (f ∷ es) h more (rw t at d)))
      (λ t. rw t)
