-- What a whole pass from a fine place measures is no more than its text allows, and it drops no more than it takes.
-- Assumes nothing.
use Rattle.std.specs.Prelude.{ℕ, ◌+◌, ◌*◌, ◌/◌, ◌≤◌, ◌&&◌, ◌||◌, List, [], ◌∷◌, eqb, length, None, Option, Some}
use Rattle.meaning.specs.declared.counts.Pixels.{Pixels}
use Rattle.std.proofs.Math.Bool.{not}
use Rattle.std.proofs.Common.{arith, length-append}
use Rattle.basis.specs.Choice.{pick_cases}
use Rattle.utf8.specs.Encoding.{size}
use Rattle.meaning.specs.Tokens.{Tok, newLine, carriageReturn, tab, softHyphen, space, word, chars_of, size_of, need_of}
use Rattle.meaning.specs.Cursor.{room_of, fits_in, has_moved, tab_width}
use Rattle.meaning.specs.SpaceConfig.{spaces_width}
use Rattle.meaning.specs.Lookahead.{Looked}
use Rattle.meaning.specs.LineIter.{Step, go, stop, skips, cut_run, on_space, on_tab, hyphenated, on_break, wrap_on, unfit_word, cut_word, on_word, step, Ran, pass_on, process}
use Rattle.meaning.specs.Line.{measured}
use Rattle.meaning.specs.declared.settings.Settings.{Settings}
use Rattle.meaning.specs.declared.cursor.Place.{Place}
use Rattle.meaning.specs.declared.line.Measure.{Measure}
use Rattle.laws.specs.Spell.{text_of, spell, Sound}
use Rattle.laws.specs.TokenLaws.{chars-text, size-spell}
use Rattle.laws.specs.Measuring.{measured_append}
use Rattle.moves.specs.Fine.{FineSettings, FinePlace}
use Rattle.moves.specs.FineSteps.{Grows, FineStep, step_fine}

-- ---- what is measured

-- A token, and what holds of the pass after it.
on-grows : (p : Place) (m : Measure) (here : ℕ) (t : Tok) (ts : List Tok) (x : Step) (more : Place → Ran) → FineStep p m (size_of t) (chars_of t) x
    → ((q : Place) (n : Measure) → FinePlace q → Grows n (8192 * size (spell ts)) (length (spell ts) + q.spaces.extra.0) (more q).drawn)
    → Grows m (8192 * size (spell (t ∷ ts))) (length (spell (t ∷ ts)) + p.spaces.extra.0) (pass_on here (chars_of t) x more).drawn
unfolding spell
on-grows p m here t ts (go q ds r) more f g =
    let l = length-append (text_of t) (spell ts) in
    let n = measured m ds in
    let rest = g q n f.place in
    record {
      pen = rw (measured_append m ds (more q).drawn) (omega (arith, f.grows.pen, rest.pen, size-spell t ts));
      spaces = rw (measured_append m ds (more q).drawn) (omega (arith, f.grows.spaces, rest.spaces, f.extra, chars-text t));
    }
on-grows p m here t ts (stop e ds k h d r) more f g =
    let l = length-append (text_of t) (spell ts) in
    record { pen = omega (arith, f.pen, size-spell t ts); spaces = omega (arith, f.spaces, chars-text t) }

pub pass-grows : (s : Settings) (p : Place) (at : ℕ) (m : Measure) (ts : List Tok) → FineSettings s → FinePlace p → Sound ts
    → Grows m (8192 * size (spell ts)) (length (spell ts) + p.spaces.extra.0) (process s p at ts).drawn
unfolding process measured spell
pass-grows s p at m [] fs fp h = record { pen = omega arith; spaces = omega arith }
pass-grows s p at m (t ∷ ts) fs fp h =
    on-grows p m (at + need_of t) t ts (step s p at t ts) (λ q. process s q (at + size_of t) ts) (step_fine s p at m t ts fs fp h.0)
    (λ q n f. pass-grows s q (at + size_of t) n ts fs f h.1)

-- ---- what is dropped

abbrev Drops : Step → Type 0
Drops (go q ds r) = Unit {0}
Drops (stop e ds k h d r) = d ≤ k

module _ (s : Settings) (p : Place) (at : ℕ) where
  space_drops : (cs : List ℕ) (n : ℕ) (look : Looked) → Drops (on_space s p at cs n look)
  unfolding on_space cut_run
  space_drops cs n look =
      pick_cases Drops (skips s p) (λ _. tt) λ _.
      pick_cases Drops (fits_in p.cursor (spaces_width p.spaces n)) (λ _. tt) (λ _. omega arith)

  tab_drops : (look : Looked) → Drops (on_tab s p at look)
  unfolding on_tab
  tab_drops look =
      pick_cases Drops (skips s p) (λ _. tt) λ _. pick_cases Drops (fits_in p.cursor (tab_width p.cursor)) (λ _. tt) (λ _. tt)

  break_drops : (w : Option Pixels) (r : ℕ) → Drops (on_break s p at w r)
  unfolding on_break hyphenated
  break_drops None r = tt
  break_drops (Some w) r =
      pick_cases Drops (p.empty || not (fits_in p.cursor w.0))
      (λ _.
      pick_cases Drops (fits_in p.cursor s.glyph.0) (λ _. pick_cases Drops p.empty (λ _. tt) (λ _. omega arith))
      (λ _. pick_cases Drops p.empty (λ _. tt) (λ _. omega arith)))
      (λ _. tt)

  word_drops : (cs : List ℕ) → Drops (on_word s p at cs)
  unfolding on_word cut_word unfit_word
  word_drops cs =
      pick_cases Drops (fits_in p.cursor (length cs * s.glyph.0)) (λ _. tt) λ _.
      pick_cases Drops p.empty
      (λ _.
      pick_cases Drops (eqb (room_of p.cursor / s.glyph.0) 0)
      (λ _. pick_cases Drops (wrap_on s && has_moved p.cursor) (λ _. omega arith) (λ _. omega arith)) (λ _. omega arith))
      (λ _. omega arith)

step_drops : (s : Settings) (p : Place) (at : ℕ) (t : Tok) (ts : List Tok) → Drops (step s p at t ts)
unfolding step
step_drops s p at newLine ts = omega arith
step_drops s p at carriageReturn ts = omega arith
step_drops s p at tab ts = tab_drops s p at _
step_drops s p at softHyphen ts = break_drops s p at _ _
step_drops s p at (space cs n e) ts = space_drops s p at cs n _
step_drops s p at (word cs e) ts = word_drops s p at cs

on_drops : (here n : ℕ) (x : Step) (more : Place → Ran) → Drops x → ((q : Place) → (more q).dropped ≤ (more q).chars)
    → (pass_on here n x more).dropped ≤ (pass_on here n x more).chars
on_drops here n (go q ds r) more f g = omega (arith, g q)
on_drops here n (stop e ds k h d r) more f g = f

pub pass_drops : (s : Settings) (p : Place) (at : ℕ) (ts : List Tok) → (process s p at ts).dropped ≤ (process s p at ts).chars
unfolding process
pass_drops s p at [] = omega arith
pass_drops s p at (t ∷ ts) =
    on_drops (at + need_of t) (chars_of t) (step s p at t ts) (λ q. process s q (at + size_of t) ts) (step_drops s p at t ts)
    (λ q. pass_drops s q (at + size_of t) ts)
