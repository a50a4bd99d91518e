-- How much is drawn at most: no more things than the line takes bytes.
-- Assumes nothing.
use Prim.Native.Nat.{ℕ, ◌+◌, ◌*◌, ◌/◌, ◌≤◌, min}
use Rattle.meaning.specs.declared.counts.Pixels.{Pixels}
use Rattle.std.proofs.Common.{subst, length-append}
use Rattle.std.specs.Prelude.{◌&&◌, ◌||◌, eqb, take, None, Option, Some}
use Rattle.std.proofs.Math.Bool.{not}
use mathlib.Core.List.{List, [], ◌∷◌, ◌++◌}
use native.Mathlib.Omega.{arith}
use borrow.Author.Tests.{eqb-false}
use Rattle.std.proofs.Math.ListN.{length, length-take}
use Rattle.std.proofs.lemmas.List.{take-append-le}
use Rattle.basis.specs.Choice.{pick_cases}
use Rattle.utf8.specs.Encoding.{size}
use Rattle.meaning.specs.Tokens.{Tok, newLine, carriageReturn, tab, softHyphen, space, word, chars_of, size_of, need_of, tokens}
use Rattle.meaning.specs.Cursor.{room_of, fits_in, has_moved, tab_width}
use Rattle.meaning.specs.SpaceConfig.{spaces_width}
use Rattle.meaning.specs.Lookahead.{Looked}
use Rattle.meaning.specs.Words.{Drawn}
use Rattle.meaning.specs.LineIter.{Held, Step, go, stop, skips, cut_run, on_space, on_tab, hyphenated, on_break, wrap_on, unfit_word, cut_word, on_word, step, Ran, pass_on, process}
use Rattle.meaning.specs.Line.{line_tokens, placing, measuring, start_place, line_of, lay_line}
use Rattle.meaning.specs.declared.settings.Settings.{Settings}
use Rattle.meaning.specs.declared.cursor.Place.{Place}
use Rattle.laws.specs.Spell.{text_of, spell, SoundTok, Sound}
use Rattle.laws.specs.TokenLaws.{chars-text, length-size, size-text}
use Rattle.laws.specs.LineTokens.{line-tokens_cover, line-tokens-sound}
use Rattle.laws.specs.Steps.{SoundStep, step-sound, too_wide, some-spaces}
use Rattle.laws.specs.PassBounds.{size-take, whole-text}
use Rattle.parser.specs.Lexing.{chars_from}
use Rattle.parser.specs.declared.lexeme.Lexeme.{Lexeme}
use Rattle.steps.specs.Stepping.{tok_of}
use Rattle.steps.specs.Pending.{Pending}
use Rattle.ink.specs.WordDrawn.{word-few}
use Rattle.prints.specs.TokenDrawn.{drawn_of, tok_drawn}

-- ---- one token

-- What a step draws of the characters cs.
abbrev Few : List ℕ → Step → Type 0
Few cs (go q ds r) = length ds ≤ size cs
Few cs (stop e ds k h d r) = length ds ≤ size (take k cs)

few-drawn : (cs : List ℕ) (y : Step) → Few cs y → length (drawn_of y) ≤ size cs
few-drawn cs (go q ds r) f = f
few-drawn cs (stop e ds k h d r) f = omega (arith, size-take k cs)

-- The first k characters, if there are any, have bytes.
some-taken : (k : ℕ) (cs : List ℕ) → 1 ≤ k → 1 ≤ length cs → 1 ≤ size (take k cs)
some-taken k cs f g = omega (arith, length-size (take k cs), length-take k cs)

module _ (s : Settings) (p : Place) (at : ℕ) where
  cut-few : (cs : List ℕ) (n width : ℕ) → 1 ≤ n → 1 ≤ length cs → Few cs (cut_run p at cs n width)
  unfolding cut_run
  cut-few cs n width f g =
      let fitting = room_of p.cursor / (width / n) in
      let taken = min (fitting + 1) n in
      let z = size (take taken cs) in
      let some : 1 ≤ z = some-taken taken cs (omega arith) g in
      pick_cases (λ (ds : List Drawn). length ds ≤ z) (eqb fitting 0) (λ _. omega arith) (λ _. omega arith)

  run-few : (cs : List ℕ) (n : ℕ) (l : Looked) → 1 ≤ length cs → Few cs (on_space s p at cs n l)
  unfolding on_space
  run-few cs n l h =
      let w = spaces_width p.spaces n in
      pick_cases (Few cs) (skips s p) (λ _. omega (arith, length-size cs))
      (λ _. pick_cases (Few cs) (fits_in p.cursor w) (λ _. omega (arith, length-size cs))
      (λ e. cut-few cs n w (some-spaces p.spaces n _ (too_wide p.cursor w e)) h))

  module _ (c : ℕ) where
    tab-few : (l : Looked) → Few (c ∷ []) (on_tab s p at l)
    unfolding on_tab
    tab-few l =
        let one = length-size (c ∷ []) in
        pick_cases (Few (c ∷ [])) (skips s p) (λ _. omega arith)
        (λ _. pick_cases (Few (c ∷ [])) (fits_in p.cursor (tab_width p.cursor)) (λ _. omega (arith, one)) (λ _. omega (arith, one)))

    hyphen-few : (r : ℕ) → Few (c ∷ []) (hyphenated s p at r)
    unfolding hyphenated
    hyphen-few r =
        let one = length-size (c ∷ []) in
        pick_cases (Few (c ∷ [])) (fits_in p.cursor s.glyph.0)
        (λ _. pick_cases (Few (c ∷ [])) p.empty (λ _. omega (arith, one)) (λ _. omega (arith, one)))
        (λ _. pick_cases (Few (c ∷ [])) p.empty (λ _. omega arith) (λ _. omega arith))

    break_few : (w : Option Pixels) (r : ℕ) → Few (c ∷ []) (on_break s p at w r)
    unfolding on_break
    break_few None r = omega arith
    break_few (Some w) r = pick_cases (Few (c ∷ [])) (p.empty || not (fits_in p.cursor w.0)) (λ _. hyphen-few r) (λ _. omega arith)

  on-word-few : (cs : List ℕ) → 1 ≤ length cs → Few cs (on_word s p at cs)
  unfolding on_word cut_word unfit_word
  on-word-few cs h =
      let k = room_of p.cursor / s.glyph.0 in
      pick_cases (Few cs) (fits_in p.cursor (length cs * s.glyph.0)) (λ _. word-few s.glyph.0 p.spaces at cs h)
      (λ _. pick_cases (Few cs) p.empty
      (λ _. pick_cases (Few cs) (eqb k 0) (λ _. pick_cases (Few cs) (wrap_on s && has_moved p.cursor) (λ _. omega arith) (λ _. omega arith))
      (λ d. word-few s.glyph.0 p.spaces at (take k cs) (omega (arith, length-take k cs, eqb-false k 0 d))))
      (λ _. omega arith))

  step-few : (u : Tok) (ts : List Tok) (cs : List ℕ) → SoundTok u cs → Few (text_of u) (step s p at u ts)
  unfolding step
  step-few newLine ts cs h = length-size (0x000A ∷ [])
  step-few carriageReturn ts cs h = length-size (0x000D ∷ [])
  step-few tab ts cs h = tab-few 0x0009 _
  step-few softHyphen ts cs h = break_few 0x00AD _ _
  step-few (space ws n e) ts cs h = run-few ws n _ h.0
  step-few (word ws e) ts cs h = on-word-few ws h.0

pub tok-few : (s : Settings) (p : Place) (t : List ℕ) (at chars count : ℕ) (x : Lexeme) → Pending t at chars count x
    → at + length (tok_drawn s p t at x) ≤ x.end.0
unfolding tok_drawn
tok-few s p t at chars count x y =
    let u = tok_of t at x in
    let ts = tokens (chars_from t x.end.0) in
    omega (arith, y.end, size-text u, few-drawn (text_of u) (step s p at u ts) (step-few s p at u ts _ y.stands.sound))

-- ---- a pass

on-few : (here : ℕ) (p : Place) (u : Tok) (cs : List ℕ) (y : Step) (more : Place → Ran) → Few (text_of u) y → SoundStep (chars_of u) p y
    → ((q : Place) → length (more q).drawn ≤ size (take (more q).chars cs)) →
    let r = pass_on here (chars_of u) y more in
    length r.drawn ≤ size (take r.chars (text_of u ++ cs))
on-few here p u cs (go q ds r) more h o f = simp length-append (omega (arith, f q, size-text u, whole-text (more q).chars u cs))
on-few here p u cs (stop e ds k w d r) more h o f =
    rw (take-append-le k (text_of u) cs (omega (arith, o.within, chars-text u))) h

process-few : (s : Settings) (p : Place) (at : ℕ) (ts : List Tok) → Sound ts
    → length (process s p at ts).drawn ≤ size (take (process s p at ts).chars (spell ts))
unfolding process spell
process-few s p at [] h = omega arith
process-few s p at (u ∷ ts) h =
    on-few (at + need_of u) p u (spell ts) (step s p at u ts) (λ q. process s q (at + size_of u) ts)
    (step-few s p at u ts (spell ts) h.0) (step-sound s p at u ts h.0) (λ q. process-few s q (at + size_of u) ts h.1)

-- ---- a line

line_of-few : (s : Settings) (ts : List Tok) → Sound ts → length (line_of s ts).drawn ≤ size (take (line_of s ts).chars (spell ts))
unfolding line_of
line_of-few s ts h =
    let p = placing s (measuring s ts) in
    process-few s (start_place s p.left.0 p.spaces) 0 ts h

pub line-few : (s : Settings) (h : Held) (cs : List ℕ) → h.chars ≤ length cs → h.count ≤ h.chars
    → length (lay_line s h cs).drawn ≤ size (take (lay_line s h cs).chars cs)
unfolding lay_line
line-few s h cs f g =
    let l = line_of s (line_tokens h cs) in
    subst (λ (c : List ℕ). length l.drawn ≤ size (take l.chars c)) (line-tokens_cover h cs)
    (line_of-few s (line_tokens h cs) (line-tokens-sound h cs f g))
