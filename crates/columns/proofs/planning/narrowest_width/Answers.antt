use Rattle.std.proofs.Common.{ℕ, Bool, List, ◌≡◌, sym, ap, subst, ◌∙◌, arith}
use Rattle.utf8.specs.Decoding.{decode_all}
use Rattle.meaning.specs.Columns.{fits_whole, with_width}
use Rattle.meaning.specs.declared.settings.Settings.{Settings}
use Rattle.rows.specs.RowsFrom.{TextReady}
use Rattle.columns.specs.declared.skipping.Skips.{Skips}
use Rattle.columns.specs.OtherWidths.{ready_with}
use Rattle.columns.specs.Skipping.{skips_of, next-wider}
use Rattle.columns.specs.FairSkips.{SkipsFairly, skips_fairly}
use Rattle.columns.specs.WidthTurns.{sought_from, sought_none, sought_here, sought_next}
use Rattle.columns.proofs.planning.narrowest_width.Goals as goal

-- What is skipped is skipped fairly.
fairly : (s : Settings) (t : List ℕ) → TextReady s t → (k : Skips) → k ≡ skips_of s t → SkipsFairly s (decode_all t) k
fairly s t ready k is = subst (SkipsFairly s (decode_all t)) (sym is) (skips_fairly s t ready)

-- What is answered of settings with a width is so of that width.
tried : (s : Settings) (h : ℕ) (cs : List ℕ) (w : ℕ) (x : Settings) → x ≡ with_width s w → (b r : Bool) → b ≡ fits_whole x h cs → b ≡ r
    → fits_whole (with_width s w) h cs ≡ r
tried s h cs w x is b r answer e = sym (answer ∙ ap (λ (y : Settings). fits_whole y h cs) is) ∙ e

pub first_width-w-requires : goal.first_width-w-requires
first_width-w-requires c =
    (c.requires.0, c.requires.1, (fairly c.args.s c.args.text.now c.requires.0 _ c.skips_of-skips.ensures).small)

pub loop-w-init : goal.loop-w-init
loop-w-init c =
    sought_from _ _ _ _ (fairly c.args.s c.args.text.now c.requires.0 _ c.skips_of-skips.ensures) c.first_width-w.result
    (omega (arith, c.first_width-w.ensures.low)) c.first_width-w.ensures.whole c.first_width-w.ensures.none

pub fits_whole-requires : goal.fits_whole-requires
fits_whole-requires c =
    ready_with c.args.s c.loop-w.w (omega (arith, c.loop-w-test.true)) _ c.requires.0 _ c.with_width-tried.ensures

pub returns-then-fits_whole : goal.returns-then-fits_whole
returns-then-fits_whole c =
    sought_here _ _ _ _ _ c.loop-w.invariant (omega (arith, c.loop-w-test.true))
    (tried _ _ _ _ _ c.with_width-tried.ensures _ _ c.fits_whole.ensures c.if-fits_whole.true)

pub loop-w-smaller : goal.loop-w-smaller
loop-w-smaller c =
    let wider = next-wider c.skips_of-skips.result c.loop-w.w c.loop-w.invariant.fair.small (omega (arith, c.loop-w-test.true)) in
    omega (arith, c.loop-w-test.true, c.next_width-w.ensures)

pub loop-w-preserved : goal.loop-w-preserved
loop-w-preserved c =
    sought_next _ _ _ _ _ c.loop-w.invariant (omega (arith, c.loop-w-test.true))
    (tried _ _ _ _ _ c.with_width-tried.ensures _ _ c.fits_whole.ensures c.if-fits_whole.false) _ c.next_width-w.ensures

pub returns : goal.returns
returns c =
    sought_none _ _ _ _ _ c.loop-w.invariant (omega (arith, c.loop-w-test.false))
