-- With plain spaces, and without tabs or where tabs and box are whole glyphs wide, a pass draws whole glyphs: so a line is measured in whole
-- glyphs (rule 8, rule 10).
-- Assumes nothing.
use Rattle.std.specs.Prelude.{ℕ, ◌+◌, ◌-◌, ◌*◌, ◌/◌, ◌≡◌, ◌⊎◌, ◌&&◌, ◌||◌, List, [], ◌∷◌, eqb, length, take, None, Option, Some}
use Rattle.meaning.specs.declared.counts.Pixels.{Pixels}
use Rattle.std.proofs.Common.{subst, inl, arith}
use Rattle.std.proofs.Math.Logic.{inr}
use Rattle.std.proofs.Math.Bool.{not}
use Rattle.basis.specs.Choice.{pick_cases}
use Rattle.utf8.specs.Encoding.{bytes, size}
use Rattle.meaning.specs.Tokens.{Tok, newLine, carriageReturn, tab, softHyphen, space, word, chars_of, size_of, need_of}
use Rattle.meaning.specs.Cursor.{room_of, fits_in, advance, has_moved, tab_width}
use Rattle.meaning.specs.SpaceConfig.{spaces_width, spaces_after}
use Rattle.meaning.specs.Lookahead.{Looked}
use Rattle.meaning.specs.Words.{Drawn, Stretches, last, glued, stretches, glues, printed_first, drawn_stretches, drawn_word}
use Rattle.meaning.specs.LineIter.{when, skips, Step, go, stop, cut_run, on_space, on_tab, hyphenated, on_break, wrap_on, unfit_word, cut_word, on_word, step, Ran, pass_on, process}
use Rattle.meaning.specs.Line.{unmeasured, measured}
use Rattle.meaning.specs.declared.settings.Settings.{Settings}
use Rattle.meaning.specs.declared.cursor.LineCursor.{LineCursor}
use Rattle.meaning.specs.declared.cursor.Spaces.{Spaces}
use Rattle.meaning.specs.declared.cursor.Place.{Place}
use Rattle.meaning.specs.declared.line.EventKind.{EventKind}
use Rattle.laws.specs.Pens.{Plain, plain-after, plain-width}
use Rattle.laws.specs.LastPrint.{to_last_print, AllOf, all_append, all_first, width_of, measured-width}
use Rattle.widths.specs.Wholes.{Whole, no_glyph, one-glyph, many-glyphs, more-glyphs, fewer-glyphs}
use Rattle.widths.specs.TabStops.{next_stop, tab-to, whole-stop}
use Rattle.widths.specs.TabFree.{TabFree, free-next}

-- ---- whole glyphs

-- Each event is as wide as whole glyphs.
abbrev EachWhole : ℕ → List Drawn → Type 0
EachWhole g = AllOf (λ (k : EventKind) (n w : ℕ). Whole g w)

whole_sum : (g : ℕ) (ds : List Drawn) → EachWhole g ds → Whole g (width_of ds)
unfolding width_of
whole_sum g [] f = no_glyph g
whole_sum g (d ∷ ds) f = more-glyphs g d.width (width_of ds) f.0 (whole_sum g ds f.1)

-- ---- words

spaces-whole : (g : ℕ) (sp : Spaces) (n : ℕ) → Plain g sp → Whole g (spaces_width sp n)
spaces-whole g sp n plain = record { count = n; is = plain-width g sp n plain }

printed-whole : (g at : ℕ) (w : List ℕ) (more : List Drawn) → EachWhole g more → EachWhole g (printed_first g at w more)
unfolding printed_first
printed-whole g at [] more f = f
printed-whole g at (c ∷ w) more f = (many-glyphs g (length (c ∷ w)), f)

stretches-whole : (g : ℕ) (sp : Spaces) (at : ℕ) (w : Stretches) → Plain g sp → EachWhole g (drawn_stretches g sp at w)
unfolding drawn_stretches
stretches-whole g sp at (last w) plain = (many-glyphs g (length w), tt)
stretches-whole g sp at (glued w c more) plain =
    printed-whole g at w _
    (spaces-whole g sp 1 plain, stretches-whole g (spaces_after sp 1) (at + size w + bytes c) more (plain-after g sp 1 plain))

word-whole : (g : ℕ) (sp : Spaces) (at : ℕ) (cs : List ℕ) → Plain g sp → EachWhole g (drawn_word g sp at cs)
unfolding drawn_word
word-whole g sp at cs = stretches-whole g sp at (stretches cs)

-- ---- steps

-- The cursor stands at whole glyphs, in a box of whole glyphs whose tabs are whole glyphs.
pub record OnGlyphs (g : ℕ) (c : LineCursor) : Type 0 where
  pub position : Whole g c.position.0
  pub box : Whole g c.width.0
  pub tab : Whole g c.tab.0

-- So, or there is no tab to come.
abbrev pub TabsWhole : ℕ → List Tok → LineCursor → Type 0
TabsWhole g ts c = TabFree ts ⊎ OnGlyphs g c

-- A step draws so, and leaves plain spaces and such a cursor.
abbrev WholeStep : ℕ → List Tok → Step → Type 0
WholeStep g ts (go q ds r) = EachWhole g ds × Plain g q.spaces × TabsWhole g ts q.cursor
WholeStep g ts (stop e ds k h d r) = EachWhole g ds

still-whole : (g : ℕ) (t : Tok) (ts : List Tok) (c : LineCursor) → TabsWhole g (t ∷ ts) c → TabsWhole g ts c
still-whole g t ts c (inl free) = inl (free-next t ts free)
still-whole g t ts c (inr f) = inr f

on_wholes : (g : ℕ) (c : LineCursor) (n : ℕ) → OnGlyphs g c → Whole g n → OnGlyphs g (advance c n)
unfolding advance
on_wholes g c n f k = record { position = more-glyphs g c.position.0 n f.position k; box = f.box; tab = f.tab }

module _ (s : Settings) (p : Place) (at : ℕ) (plain : Plain s.glyph.0 p.spaces) (ts : List Tok) where
  abbrev g : ℕ
  g = s.glyph.0

  abbrev P : Step → Type 0
  P = WholeStep g ts

  module _ (still : TabsWhole g ts p.cursor) where
    -- Further on by whole glyphs.
    onward : (n : ℕ) → Whole g n → TabsWhole g ts (advance p.cursor n)
    onward n k = by_kind still
      where
        by_kind : TabsWhole g ts p.cursor → TabsWhole g ts (advance p.cursor n)
        by_kind (inl free) = inl free
        by_kind (inr f) = inr (on_wholes g p.cursor n f k)

    space-whole : (cs : List ℕ) (n : ℕ) (look : Looked) → P (on_space s p at cs n look)
    unfolding on_space cut_run when
    space-whole cs n look =
        let wide = spaces_width p.spaces n in
        let whole = spaces-whole g p.spaces n plain in
        let used = plain-after g p.spaces n plain in
        pick_cases P (skips s p) (λ _. ((no_glyph g, tt), used, still)) λ _.
        pick_cases P (fits_in p.cursor wide)
        (λ _. ((pick_cases (Whole g) look.fits (λ _. whole) (λ _. no_glyph g), tt), used, onward wide whole)) λ _.
        pick_cases (EachWhole g) (eqb (room_of p.cursor / (wide / n)) 0) (λ _. tt) (λ _. (no_glyph g, tt))

    hyphen-whole : (reach : ℕ) → P (hyphenated s p at reach)
    unfolding hyphenated
    hyphen-whole reach =
        pick_cases P (fits_in p.cursor g)
        (λ _. pick_cases P p.empty (λ _. ((one-glyph g, tt), plain, onward g (one-glyph g))) (λ _. (one-glyph g, tt)))
        (λ _. pick_cases P p.empty (λ _. (tt, plain, still)) (λ _. tt))

    break_whole : (u : Option Pixels) (reach : ℕ) → P (on_break s p at u reach)
    unfolding on_break
    break_whole None reach = (tt, plain, still)
    break_whole (Some u) reach =
        pick_cases P (p.empty || not (fits_in p.cursor u.0)) (λ _. hyphen-whole reach) (λ _. (tt, plain, still))

    cut-word-whole : (cs : List ℕ) → P (cut_word s p at cs)
    unfolding cut_word unfit_word
    cut-word-whole cs =
        let fitting = room_of p.cursor / g in
        pick_cases P (eqb fitting 0) (λ _. pick_cases P (wrap_on s && has_moved p.cursor) (λ _. tt) (λ _. tt))
        (λ _. word-whole g p.spaces at (take fitting cs) plain)

    printed-word-whole : (cs : List ℕ) → P (on_word s p at cs)
    unfolding on_word
    printed-word-whole cs =
        pick_cases P (fits_in p.cursor (length cs * g))
        (λ _. (word-whole g p.spaces at cs plain, plain-after g p.spaces (glues cs) plain, onward (length cs * g) (many-glyphs g (length cs)))) λ _.
        pick_cases P p.empty (λ _. cut-word-whole cs) (λ _. tt)

  -- A tab: to its stop, or to the edge.
  module _ (f : OnGlyphs g p.cursor) where
    tab-wide : Whole g (tab_width p.cursor)
    tab-wide =
        let c = p.cursor in
        let stop = whole-stop g c.tab.0 c.position.0 f.tab f.position in
        let is : next_stop c.tab.0 c.position.0 - c.position.0 ≡ tab_width c = omega (arith, tab-to c) in
        subst (Whole g) is (fewer-glyphs g (next_stop c.tab.0 c.position.0) c.position.0 stop f.position)

    room-wide : Whole g (room_of p.cursor)
    unfolding room_of
    room-wide = fewer-glyphs g p.cursor.width.0 p.cursor.position.0 f.box f.position

    tab-whole : (look : Looked) → P (on_tab s p at look)
    unfolding on_tab
    tab-whole look =
        let c = p.cursor in
        pick_cases P (skips s p) (λ _. (tt, plain, inr f)) λ _.
        pick_cases P (fits_in c (tab_width c)) (λ _. ((tab-wide, tt), plain, inr (on_wholes g c (tab_width c) f tab-wide)))
        (λ _. ((room-wide, tt), plain, inr (on_wholes g c (room_of c) f room-wide)))

step-whole : (s : Settings) (p : Place) (at : ℕ) → Plain s.glyph.0 p.spaces → (t : Tok) (ts : List Tok) → TabsWhole s.glyph.0 (t ∷ ts) p.cursor
    → WholeStep s.glyph.0 ts (step s p at t ts)
unfolding step
step-whole s p at plain newLine ts k = (no_glyph s.glyph.0, tt)
step-whole s p at plain carriageReturn ts k = (no_glyph s.glyph.0, tt)
step-whole s p at plain tab ts (inl free) = absurd free
step-whole s p at plain tab ts (inr f) = tab-whole s p at plain ts f _
step-whole s p at plain softHyphen ts k = break_whole s p at plain ts (still-whole s.glyph.0 softHyphen ts p.cursor k) _ _
step-whole s p at plain (space cs n e) ts k = space-whole s p at plain ts (still-whole s.glyph.0 (space cs n e) ts p.cursor k) cs n _
step-whole s p at plain (word cs e) ts k = printed-word-whole s p at plain ts (still-whole s.glyph.0 (word cs e) ts p.cursor k) cs

-- ---- the pass

-- All that is drawn up to the last print.
abbrev WholeRan : ℕ → Ran → Type 0
WholeRan g r = EachWhole g (to_last_print r.drawn)

on-whole : (g here n : ℕ) (ts : List Tok) (x : Step) (more : Place → Ran) → WholeStep g ts x
    → ((q : Place) → Plain g q.spaces → TabsWhole g ts q.cursor → WholeRan g (more q)) → WholeRan g (pass_on here n x more)
on-whole g here n ts (go q ds r) more f rest =
    all_append (λ (k : EventKind) (n w : ℕ). Whole g w) ds (more q).drawn f.0 (rest q f.1 f.2)
on-whole g here n ts (stop e ds k h d r) more f rest = all_first (λ (k : EventKind) (n w : ℕ). Whole g w) ds f

pass-whole : (s : Settings) (ts : List Tok) (p : Place) (at : ℕ) → TabsWhole s.glyph.0 ts p.cursor → Plain s.glyph.0 p.spaces
    → WholeRan s.glyph.0 (process s p at ts)
unfolding process to_last_print
pass-whole s [] p at k plain = tt
pass-whole s (t ∷ ts) p at k plain =
    on-whole s.glyph.0 (at + need_of t) (chars_of t) ts (step s p at t ts) (λ q. process s q (at + size_of t) ts) (step-whole s p at plain t ts k)
    (λ q f c. pass-whole s ts q (at + size_of t) c f)

-- The width that it is measured by.
pub measured-whole : (s : Settings) (ts : List Tok) (p : Place) (at : ℕ) → TabsWhole s.glyph.0 ts p.cursor → Plain s.glyph.0 p.spaces
    → Whole s.glyph.0 (measured unmeasured (process s p at ts).drawn).width.0
measured-whole s ts p at k plain =
    let ds = (process s p at ts).drawn in
    rw (measured-width ds) (whole_sum s.glyph.0 (to_last_print ds) (pass-whole s ts p at k plain))
