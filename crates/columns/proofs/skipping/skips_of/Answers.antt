-- `columns::skipping::skips_of` meets its contract.
use Rattle.std.proofs.Common.{refl, sym, ap, ◌∙◌, arith}
use Rattle.widths.specs.GlyphPlaces.{asked_glyphs}
use Rattle.columns.specs.Skipping.{tab_skips, skips-none, skips_tabs, skips-glyphs}
use Rattle.columns.proofs.skipping.skips_of.Goals as goal

pub returns-then-s-gt2 : goal.returns-then-s-gt2
returns-then-s-gt2 c =
    skips-none _ _ (omega (arith, c.if-s-gt2.true))

pub returns-then-has_tab : goal.returns-then-has_tab
returns-then-has_tab c =
    skips_tabs _ _ (omega (arith, c.if-s-gt2.false)) _ (sym c.has_tab.ensures ∙ c.if-has_tab.true)
    (c.tab_skips.ensures ∙ ap (tab_skips c.args.s) c.widest_part-widest.ensures.0)

pub returns : goal.returns
returns c =
    skips-glyphs _ _ (omega (arith, c.if-s-gt2.false)) _ (sym c.has_tab.ensures ∙ c.if-has_tab.false) refl
    (c.asked_room-enough.ensures ∙ ap (asked_glyphs c.args.s.alignment) c.widest_part-widest.ensures.0)
