-- Where less than a glyph's room is left in a line nothing more is printed in it (rule 8).
-- Assumes nothing.
use Rattle.std.specs.Prelude.{ℕ, ◌+◌, ◌*◌, ◌/◌, ◌≤◌, ◌<◌, ◌≡◌, refl, true, ◌&&◌, ◌||◌, List, [], ◌∷◌, ◌++◌, eqb, length, None, Option, Some}
use Rattle.meaning.specs.declared.counts.Pixels.{Pixels}
use Rattle.std.proofs.Common.{ap, ◌∙◌, arith}
use Rattle.std.proofs.Math.Bool.{not}
use Rattle.std.proofs.Math.Nat.{one-mul, mul-le-mul_right, div-eq_of_lt}
use borrow.Author.Tests.{leb-true, eqb-false}
use Rattle.basis.specs.Choice.{pick_cases}
use Rattle.meaning.specs.Tokens.{Tok, newLine, carriageReturn, tab, softHyphen, space, word, chars_of, size_of, need_of}
use Rattle.meaning.specs.Cursor.{room_of, fits_in, advance, has_moved, tab_width}
use Rattle.meaning.specs.SpaceConfig.{spaces_width}
use Rattle.meaning.specs.Lookahead.{Looked}
use Rattle.meaning.specs.Words.{Drawn}
use Rattle.meaning.specs.LineIter.{skips, Step, go, stop, cut_run, on_space, on_tab, hyphenated, on_break, wrap_on, unfit_word, cut_word, on_word, step, Ran, pass_on, process}
use Rattle.meaning.specs.declared.settings.Settings.{Settings}
use Rattle.meaning.specs.declared.cursor.LineCursor.{LineCursor}
use Rattle.meaning.specs.declared.cursor.Place.{Place}
use Rattle.meaning.specs.declared.line.EventKind.{EventKind}
use Rattle.meaning.specs.declared.line.EventKind.TheVariants.{Space, Printed, Move}
use Rattle.laws.specs.Spell.{spell, SoundTok, Sound}
use Rattle.laws.specs.LastPrint.{if_more, kept_if, to_last_print, AllOf}

-- None of these is a print.
abbrev Silent : EventKind → (count width : ℕ) → Type 0
Silent Printed n w = ⊥
Silent Space n w = Unit {0}
Silent Move n w = Unit {0}

abbrev AllSilent : List Drawn → Type 0
AllSilent = AllOf Silent

kept_silent : (k : EventKind) (d : Drawn) → Silent k d.count d.width → kept_if k d [] ≡ []
unfolding if_more
kept_silent Printed d h = absurd h
kept_silent Space d h = refl
kept_silent Move d h = refl

-- Before what prints nothing they print nothing.
silent_append : (ds es : List Drawn) → AllSilent ds → to_last_print es ≡ [] → to_last_print (ds ++ es) ≡ []
unfolding to_last_print
silent_append [] es f e = e
silent_append (d ∷ ds) es f e = ap (kept_if d.kind d) (silent_append ds es f.1 e) ∙ kept_silent d.kind d f.0

silent_first : (ds : List Drawn) → AllSilent ds → to_last_print ds ≡ []
unfolding to_last_print
silent_first [] f = refl
silent_first (d ∷ ds) f = ap (kept_if d.kind d) (silent_first ds f.1) ∙ kept_silent d.kind d f.0

room-less : (c : LineCursor) (n : ℕ) → room_of (advance c n) ≤ room_of c
unfolding room_of advance
room-less c n = omega arith

-- ---- steps

module _ (s : Settings) (p : Place) (at : ℕ) (narrow : room_of p.cursor < s.glyph.0) where
  abbrev g : ℕ
  g = s.glyph.0

  -- A step prints nothing and leaves no more room.
  abbrev P : Step → Type 0
  P (go q ds r) = AllSilent ds × (room_of q.cursor < g)
  P (stop e ds k h d r) = AllSilent ds

  moved : (n : ℕ) → room_of (advance p.cursor n) < g
  moved n = omega (arith, room-less p.cursor n)

  glyph-unfit : {X : Type 0} (n : ℕ) → g ≤ n → fits_in p.cursor n ≡ true → X
  unfolding fits_in
  glyph-unfit n h e = absurd (omega (arith, leb-true n (room_of p.cursor) e))

  space_quiet : (cs : List ℕ) (n : ℕ) (look : Looked) → P (on_space s p at cs n look)
  unfolding on_space cut_run
  space_quiet cs n look =
      let wide = spaces_width p.spaces n in
      pick_cases P (skips s p) (λ _. ((tt, tt), narrow)) λ _.
      pick_cases P (fits_in p.cursor wide) (λ _. ((tt, tt), moved wide)) λ _.
      pick_cases AllSilent (eqb (room_of p.cursor / (wide / n)) 0) (λ _. tt) (λ _. (tt, tt))

  tab_quiet : (look : Looked) → P (on_tab s p at look)
  unfolding on_tab
  tab_quiet look =
      let wide = tab_width p.cursor in
      pick_cases P (skips s p) (λ _. (tt, narrow)) λ _.
      pick_cases P (fits_in p.cursor wide)
      (λ _. ((pick_cases (λ (k : EventKind). Silent k 0 wide) look.fits (λ _. tt) (λ _. tt), tt), moved wide))
      (λ _. ((tt, tt), moved (room_of p.cursor)))

  hyphen_quiet : (reach : ℕ) → P (hyphenated s p at reach)
  unfolding hyphenated
  hyphen_quiet reach =
      pick_cases P (fits_in p.cursor g) (λ e. glyph-unfit g (omega arith) e)
      (λ _. pick_cases P p.empty (λ _. (tt, narrow)) (λ _. tt))

  break_quiet : (u : Option Pixels) (reach : ℕ) → P (on_break s p at u reach)
  unfolding on_break
  break_quiet None reach = (tt, narrow)
  break_quiet (Some u) reach = pick_cases P (p.empty || not (fits_in p.cursor u.0)) (λ _. hyphen_quiet reach) (λ _. (tt, narrow))

  word_quiet : (cs : List ℕ) → 1 ≤ length cs → P (on_word s p at cs)
  unfolding on_word cut_word unfit_word
  word_quiet cs h =
      pick_cases P (fits_in p.cursor (length cs * g)) (λ e. glyph-unfit (length cs * g) (omega (arith, mul-le-mul_right g h, one-mul g)) e) λ _.
      pick_cases P p.empty
      (λ _.
      pick_cases P (eqb (room_of p.cursor / g) 0) (λ _. pick_cases P (wrap_on s && has_moved p.cursor) (λ _. tt) (λ _. tt))
      (λ e. absurd (eqb-false (room_of p.cursor / g) 0 e (div-eq_of_lt narrow))))
      (λ _. tt)

  step_quiet : (t : Tok) (ts : List Tok) → SoundTok t (spell ts) → P (step s p at t ts)
  unfolding step
  step_quiet newLine ts h = (tt, tt)
  step_quiet carriageReturn ts h = (tt, tt)
  step_quiet tab ts h = tab_quiet _
  step_quiet softHyphen ts h = break_quiet _ _
  step_quiet (space cs n e) ts h = space_quiet cs n _
  step_quiet (word cs e) ts h = word_quiet cs h.0

on_quiet : (s : Settings) (p : Place) (at : ℕ) (narrow : room_of p.cursor < s.glyph.0) (here n : ℕ) (x : Step) (more : Place → Ran) → P s p at narrow x
    → ((q : Place) → room_of q.cursor < s.glyph.0 → to_last_print (more q).drawn ≡ []) → to_last_print (pass_on here n x more).drawn ≡ []
on_quiet s p at narrow here n (go q ds r) more f rest = silent_append ds (more q).drawn f.0 (rest q f.1)
on_quiet s p at narrow here n (stop e ds k h d r) more f rest = silent_first ds f

pub pass_quiet : (s : Settings) (ts : List Tok) (p : Place) (at : ℕ) → Sound ts → room_of p.cursor < s.glyph.0
    → to_last_print (process s p at ts).drawn ≡ []
unfolding process to_last_print
pass_quiet s [] p at h narrow = refl
pass_quiet s (t ∷ ts) p at h narrow =
    on_quiet s p at narrow (at + need_of t) (chars_of t) (step s p at t ts) (λ q. process s q (at + size_of t) ts) (step_quiet s p at narrow t ts h.0)
    (λ q f. pass_quiet s ts q (at + size_of t) h.1 f)
