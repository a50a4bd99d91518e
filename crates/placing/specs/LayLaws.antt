-- Laying a line: what its passes need, and the line that they make.
-- Assumes nothing.
use Rattle.std.specs.Prelude.{ℕ, ◌≤◌, ◌≡◌, refl, true, List}
use Rattle.std.proofs.Common.{arith, sym, ap, subst, ◌∙◌}
use Rattle.meaning.specs.Line.{unmeasured, start_place, lay_line}
use Rattle.meaning.specs.declared.settings.Settings.{Settings}
use Rattle.meaning.specs.declared.cursor.Place.{Place}
use Rattle.meaning.specs.declared.line.Measure.{Measure}
use Rattle.meaning.specs.declared.line.Placed.{Placed}
use Rattle.moves.specs.Fine.{FineSpaces}
use Rattle.moves.specs.FineSteps.{plain_fine, start_fine}
use Rattle.placing.specs.PlaceLaws.{place_fine}
use Rattle.steps.specs.Stepping.{ran_from}
use Rattle.steps.specs.Unrolled.{nothing_resumed}
use Rattle.steps.specs.Running.{PassReady, none-fits}
use Rattle.laws.specs.LineBounds.{line-chars}
use Rattle.parser.specs.Lexing.{chars_from}
use Rattle.meaning.specs.declared.counts.Offset.{Offset}
use Rattle.placing.specs.LineFrom.{LineAt, held_in, line_from}
use Rattle.placing.specs.Taken.{Taken, taken_is}
use Rattle.placing.specs.Laying.{LineReady, passed_from, plainly, as_measured, placed_by, laid_at, line-passes, passes-next, measured-plainly}
use Rattle.placing.specs.LineLaws.{placed-count}
use Rattle.placing.specs.Quick.{DrawnAlike}
use Rattle.steps.specs.declared.step.Resumed.{Resumed}
use Rattle.steps.specs.declared.step.Ended.{Ended}
use Rattle.placing.specs.FairLaws.{laid_same}

module _ {s : Settings} {t : List ℕ} {at : ℕ} {r : Resumed} (h : LineReady s t at r) where
  -- ---- one pass

  module _ (p : Placed) (start : Place) (m : Measure) (is : start ≡ start_place s p.left.0 p.spaces) (none : m ≡ unmeasured) where
    pub start-ready : FineSpaces p.spaces → p.left.0 ≤ s.width.0 → PassReady s start t at r m
    start-ready f g =
        record {
          settings = h.settings;
          place = rw is (start_fine s p.left.0 p.spaces h.settings g f);
          short = h.short;
          inside = h.inside;
          rest = h.rest;
          small = rw none (omega arith);
        }

    pub passes : (e : Ended) → e ≡ ran_from s start t at r.chars.0 r.count.0 m → e ≡ passed_from s t at r p
    unfolding passed_from
    passes e f = rw (is, none) at f

  -- ---- measured, and placed

  module _ (plain : Placed) (first : Ended) (is : plain ≡ plainly s) (measured : first ≡ passed_from s t at r plain) where
    pub plain_ready : FineSpaces plain.spaces × (plain.left.0 ≤ s.width.0)
    plain_ready = rw is (plain_fine s h.settings, omega arith)

    pub few-spaces : first.measure.count.0 ≤ 65535
    few-spaces = rw (measured, is) (placed-count s t at r h.rest h.settings h.short)

    pub placed-ready : (p : Placed) → p ≡ placed_by s first → FineSpaces p.spaces × (p.left.0 ≤ s.width.0)
    unfolding placed_by
    placed-ready p e = rw e (place_fine s first.ended first.measure.width.0 first.measure.count.0 h.settings few-spaces)

    -- ---- and drawn

    module _ (width : ℕ) (p : Placed) (l : LineAt) (wide : width ≡ first.measure.width.0) (placed : p ≡ placed_by s first) (before n : ℕ) where
      -- The line takes as many characters as its drawing pass.
      drawn-chars : Taken t at (passed_from s t at r p).next.0 n → n ≡ (lay_line s (held_in r) (chars_from t at)).chars
      drawn-chars a =
          let k = (lay_line s (held_in r) (chars_from t at)).chars in
          let all = line-chars s (held_in r) (chars_from t at) h.rest.within h.rest.counts in
          taken_is t at k (passed_from s t at r p).next.0 n (omega arith)
          (rw (placed, measured, is) (passes-next s t at before r h.rest)) a

      pub laid_twice : (drawn : Ended) → drawn ≡ passed_from s t at r p → Taken t at drawn.next.0 n
          → l ≡ laid_at at before r p width first.reach.0 drawn n → l ≡ line_from s t at before r
      laid_twice drawn e a f =
          rw (f, drawn-chars (rw e at a), e, placed, wide, measured, is) (sym (line-passes s t at before r h.rest))

      -- A line that is placed as it was measured is drawn as it was.
      pub laid-once : as_measured s p ≡ true → Taken t at first.next.0 n
          → l ≡ laid_at at before r p width first.reach.0 first n → l ≡ line_from s t at before r
      laid-once e a f = laid_twice first (measured ∙ ap (passed_from s t at r) (is ∙ sym (measured-plainly s p e))) a f

-- ---- a line that is drawn as it was measured

module _ {s : Settings} {t : List ℕ} {at : ℕ} {r : Resumed} (h : LineReady s t at r) (none : r.chars.0 ≡ 0) where
  pub rested : LineReady s t at nothing_resumed
  rested = record { settings = h.settings; short = h.short; inside = h.inside; rest = none-fits t at nothing_resumed refl }

  passed-rested : (p : Placed) → passed_from s t at nothing_resumed p ≡ passed_from s t at r p
  unfolding passed_from
  passed-rested p =
      let count : r.count.0 ≡ 0 = omega (arith, h.rest.counts) in
      λ i. ran_from s (start_place s p.left.0 p.spaces) t at (sym none i) (sym count i) unmeasured

  module _ (e : Ended) (d : DrawnAlike s t at e) where
    pub alike-few : e.measure.count.0 ≤ 65535
    alike-few = few-spaces h (plainly s) e refl (d.measured ∙ passed-rested (plainly s))

    pub laid-alike : (before n : ℕ) → Taken t at e.next.0 n → (l : LineAt)
        → l ≡ laid_at at before r (placed_by s e) e.measure.width.0 e.reach.0 e n → l ≡ line_from s t at before r
    laid-alike before n a l f =
        let p = placed_by s e in
        let width = e.measure.width.0 in
        let drawn = passed_from s t at nothing_resumed p in
        let ends : e.next.0 ≡ drawn.next.0 = ap (λ (o : Offset). o.0) (sym d.drawn.next) in
        laid_twice h (plainly s) e refl (d.measured ∙ passed-rested (plainly s)) width p l refl refl before n
        drawn (passed-rested p) (subst (λ (x : ℕ). Taken t at x n) ends a)
        (f ∙ laid_same at before r p width e drawn n d.drawn)
