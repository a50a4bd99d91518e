-- A step that ends a line and holds something holds all of its token that it does not take (rule 9).
-- Assumes nothing.
use Rattle.std.specs.Prelude.{ℕ, ◌+◌, ◌-◌, ◌*◌, ◌/◌, ◌≤◌, min, ◌≡◌, refl, ◌&&◌, ◌||◌, List, eqb, length, None, Option, Some}
use Rattle.meaning.specs.declared.counts.Pixels.{Pixels}
use Rattle.std.proofs.Math.Bool.{not}
use Rattle.std.proofs.Common.{arith}
use Rattle.basis.specs.Choice.{pick_cases}
use Rattle.meaning.specs.Tokens.{Tok, newLine, carriageReturn, tab, softHyphen, space, word, chars_of}
use Rattle.meaning.specs.Cursor.{room_of, fits_in, has_moved, tab_width}
use Rattle.meaning.specs.SpaceConfig.{spaces_width}
use Rattle.meaning.specs.Lookahead.{Looked}
use Rattle.meaning.specs.LineIter.{Held, nothing_held, held_after, Step, go, stop, skips, cut_run, on_space, on_tab, hyphenated, on_break, wrap_on, unfit_word, cut_word, on_word, step}
use Rattle.meaning.specs.declared.settings.Settings.{Settings}
use Rattle.meaning.specs.declared.cursor.Place.{Place}
use Rattle.laws.specs.Spell.{spell, SoundTok}

-- Of a token of n characters k are taken: nothing is held, or all the others are.
abbrev pub HoldsRest : (n k : ℕ) → Held → Type 0
HoldsRest n k h = (h.chars ≡ 0 → ⊥) → k + h.chars ≡ n

abbrev pub WholeStep : ℕ → Step → Type 0
WholeStep n (go q ds r) = Unit {0}
WholeStep n (stop e ds k h d r) = HoldsRest n k h

none-held : (n k : ℕ) → HoldsRest n k nothing_held
none-held n k d = absurd (d refl)

rest-held : (chars count k : ℕ) → k ≤ chars → HoldsRest chars k (held_after chars count k)
rest-held chars count k h = pick_cases (HoldsRest chars k) (eqb (chars - k) 0) (λ _. none-held chars k) (λ _ _. omega arith)

module _ (s : Settings) (p : Place) (at : ℕ) where
  space-whole : (cs : List ℕ) (n : ℕ) (look : Looked) → n ≤ length cs → WholeStep (length cs) (on_space s p at cs n look)
  unfolding on_space cut_run
  space-whole cs n look g =
      let P = WholeStep (length cs) in
      let w = spaces_width p.spaces n in
      pick_cases P (skips s p) (λ _. tt) λ _. pick_cases P (fits_in p.cursor w) (λ _. tt)
      (λ _. rest-held (length cs) n (min (room_of p.cursor / (w / n) + 1) n) (omega arith))

  tab-whole : (look : Looked) → WholeStep 1 (on_tab s p at look)
  unfolding on_tab
  tab-whole look =
      let P = WholeStep 1 in
      pick_cases P (skips s p) (λ _. tt) λ _. pick_cases P (fits_in p.cursor (tab_width p.cursor)) (λ _. tt) (λ _. tt)

  break_whole : (w : Option Pixels) (r : ℕ) → WholeStep 1 (on_break s p at w r)
  unfolding on_break hyphenated
  break_whole None r = tt
  break_whole (Some w) r =
      let P = WholeStep 1 in
      pick_cases P (p.empty || not (fits_in p.cursor w.0))
      (λ _.
      pick_cases P (fits_in p.cursor s.glyph.0) (λ _. pick_cases P p.empty (λ _. tt) (λ _. none-held 1 1))
      (λ _. pick_cases P p.empty (λ _. tt) (λ _. none-held 1 0)))
      (λ _. tt)

  word-whole : (cs : List ℕ) → WholeStep (length cs) (on_word s p at cs)
  unfolding on_word cut_word unfit_word
  word-whole cs =
      let P = WholeStep (length cs) in
      pick_cases P (fits_in p.cursor (length cs * s.glyph.0)) (λ _. tt) λ _.
      pick_cases P p.empty
      (λ _.
      pick_cases P (eqb (room_of p.cursor / s.glyph.0) 0)
      (λ _. pick_cases P (wrap_on s && has_moved p.cursor) (λ _. none-held _ 0) (λ _. none-held _ _)) (λ _. none-held _ _))
      (λ _. none-held _ 0)

pub step-whole : (s : Settings) (p : Place) (at : ℕ) (t : Tok) (ts : List Tok) → SoundTok t (spell ts)
    → WholeStep (chars_of t) (step s p at t ts)
unfolding step chars_of
step-whole s p at newLine ts h = none-held 1 1
step-whole s p at carriageReturn ts h = none-held 1 1
step-whole s p at tab ts h = tab-whole s p at _
step-whole s p at softHyphen ts h = break_whole s p at _ _
step-whole s p at (space cs n e) ts h = space-whole s p at cs n _ h.1
step-whole s p at (word cs e) ts h = word-whole s p at cs
