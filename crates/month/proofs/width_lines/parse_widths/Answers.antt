-- `month::width_lines::parse_widths` meets its contract (refusal 13).
use Rattle.std.proofs.Common.{ℕ, List, Option, ap, ◌+◌, ◌≤◌, ◌<◌, ◌≡◌, refl, sym, ◌∙◌, arith, length, take, drop}
use Rattle.std.proofs.lemmas.Result.{err_from_is_err_and}
use Rattle.std.specs.Option.{ok_or}
use Rattle.month.specs.declared.width_lines.WidthsError.TheVariants.{Bad}
use Rattle.clues.specs.Feeds.{before_feed}
use Rattle.month.specs.Blocks.{feed_within}
use Rattle.month.specs.WidthTurns.{reading_start, reading_end, reading_full, reading_bad, reading_next}
use Rattle.month.proofs.width_lines.parse_widths.Goals as goal

-- A line feed that is looked for stands in the file, or at its end.
stops : (file : List ℕ) (at stop : ℕ) → at < length file → stop ≡ at + before_feed (drop at (take (length file) file)) → (at ≤ stop) × (stop ≤ length file)
stops file at stop h e = feed_within file at (length file) stop (omega arith) (omega arith) e

pub loop-at-init : goal.loop-at-init
loop-at-init c =
    reading_start _ _

pub returns-then-widths-k-clause-value : goal.returns-then-widths-k-clause-value
returns-then-widths-k-clause-value c =
    reading_full _ _ _ _ _ c.loop-at.invariant c.loop-at-test.true _ refl c.if-widths-k.true

pub slice_bounds-parse_width-end : goal.slice_bounds-parse_width-end
slice_bounds-parse_width-end c =
    omega (arith, stops _ _ _ c.loop-at-test.true c.find_feed-stop.ensures)

pub returns-in_err-w-clause-value : goal.returns-in_err-w-clause-value
returns-in_err-w-clause-value c =
    let none = c.in_err-w.ensures.ok_part in
    let bad = reading_bad _ _ _ _ _ c.loop-at.invariant c.loop-at-test.true _ c.find_feed-stop.ensures c.if-widths-k.false (sym c.parse_width.ensures ∙ none) in
    let p = err_from_is_err_and c.from_residual.result c.from_residual.ensures.1 in
    rw (p.1, p.2) (c.in_err-w.ensures.value ∙ ap (λ (o : Option ℕ). ok_or o (Bad c.loop-at.k)) none ∙ bad)

pub loop-at-preserved : goal.loop-at-preserved
loop-at-preserved c =
    let w = sym c.parse_width.ensures ∙ c.in_ok-w.ensures.ok_part in
    reading_next _ _ _ _ _ c.loop-at.invariant c.loop-at-test.true _ c.find_feed-stop.ensures c.if-widths-k.false _ w (stops _ _ _ c.loop-at-test.true c.find_feed-stop.ensures).1

pub returns : goal.returns
returns c =
    record { value = (reading_end _ _ _ _ _ c.loop-at.invariant c.loop-at-test.false).0; held = (reading_end _ _ _ _ _ c.loop-at.invariant c.loop-at-test.false).1 }
