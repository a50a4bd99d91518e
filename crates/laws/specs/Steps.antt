-- What a token may do to a line: what it takes and holds where the line ends there, and how far it looks (rule 8).
-- Assumes nothing.
use Prim.Native.Nat.{ℕ, zero, suc, ◌+◌, ◌-◌, ◌*◌, ◌/◌, ◌≤◌, ◌<◌, min}
use Rattle.meaning.specs.declared.counts.Pixels.{Pixels}
use Rattle.std.specs.Prelude.{◌≡◌, true, false, ◌&&◌, ◌||◌, List, ◌∷◌, eqb, None, Option, Some}
use Rattle.std.proofs.Common.{sym, ◌∙◌}
use Rattle.std.proofs.Math.Bool.{not}
use Rattle.std.proofs.lemmas.Bool.{false≢true}
use Rattle.std.proofs.Math.Nat.{mul_comm, div-le_of_le-mul}
use native.Mathlib.Omega.{arith}
use borrow.Author.Tests.{leb-false, eqb-false, not-true}
use Rattle.std.proofs.Math.ListN.{length}
use Rattle.basis.specs.Choice.{pick_cases, and_true}
use Rattle.utf8.specs.Encoding.{size}
use Rattle.meaning.specs.Tokens.{Tok, newLine, carriageReturn, tab, softHyphen, space, word, chars_of, size_of}
use Rattle.meaning.specs.Cursor.{room_of, fits_in, has_moved, tab_width}
use Rattle.meaning.specs.SpaceConfig.{spaces_width}
use Rattle.meaning.specs.Lookahead.{Looked}
use Rattle.meaning.specs.LineIter.{Held, nothing_held, held_after, Step, go, stop, skips, moved_on, used_up, cut_run, on_space, on_tab, hyphenated, on_break, wrap_on, unfit_word, cut_word, on_word, step}
use Rattle.meaning.specs.declared.settings.Settings.{Settings}
use Rattle.meaning.specs.declared.cursor.LineCursor.{LineCursor}
use Rattle.meaning.specs.declared.cursor.Spaces.{Spaces}
use Rattle.meaning.specs.declared.cursor.Place.{Place}
use Rattle.meaning.specs.declared.line.LineEnd.{LineEnd}
use Rattle.meaning.specs.declared.line.LineEnd.TheVariants.{NewLine, CarriageReturn, EndOfText, LineBreak}
use Rattle.laws.specs.Spell.{spell, SoundTok, Sound}
use Rattle.laws.specs.TokenLaws.{size-spell}
use Rattle.laws.specs.Reaches.{width-reach, draws-reach}

-- Nothing was printed and the cursor has not moved, as where a pass starts.
pub record Untouched (p : Place) : Type 0 where
  pub empty : p.empty ≡ true
  pub unmoved : p.cursor.position.0 ≡ p.cursor.start.0

-- A line ends at a token of n characters, at a place: k of them are taken, the rest at most is held, and an untouched line takes
-- one.
pub record SoundStop (n : ℕ) (p : Place) (e : LineEnd) (k : ℕ) (h : Held) : Type 0 where
  pub inside : e ≡ EndOfText → ⊥
  pub within : k + h.chars ≤ n
  pub held : h.count ≤ h.chars
  pub takes : Untouched p → 1 ≤ k

abbrev pub SoundStep : (n : ℕ) → Place → Step → Type 0
SoundStep n p (go q ds r) = Unit {0}
SoundStep n p (stop e ds k h d r) = SoundStop n p e k h

-- The three ways to end a line within the text.
break_inside : LineBreak ≡ EndOfText → ⊥
break_inside e = let z : ◌≡◌ {A = ℕ} 0 1 = cc in omega arith

new-line-inside : NewLine ≡ EndOfText → ⊥
new-line-inside e = let z : ◌≡◌ {A = ℕ} 0 1 = cc in omega arith

return_inside : CarriageReturn ≡ EndOfText → ⊥
return_inside e = let z : ◌≡◌ {A = ℕ} 0 1 = cc in omega arith

-- Nothing is held.
stops : {e : LineEnd} (n : ℕ) {p : Place} {k : ℕ} → (e ≡ EndOfText → ⊥) → k ≤ n → (Untouched p → 1 ≤ k) → SoundStop n p e k nothing_held
stops n d f g = record { inside = d; within = omega arith; held = omega arith; takes = g }

-- Only a line that is not empty, or whose cursor has moved, ends before a token.
waits : (n : ℕ) {p : Place} → p.empty ≡ false → SoundStop n p LineBreak 0 nothing_held
waits n d = stops n break_inside (omega arith) (λ u. absurd (false≢true (sym d ∙ u.empty)))

moved-waits : (n : ℕ) (s : Settings) (p : Place) → wrap_on s && has_moved p.cursor ≡ true → SoundStop n p LineBreak 0 nothing_held
unfolding has_moved
moved-waits n s p d =
    let apart = (and_true (wrap_on s) (has_moved p.cursor) d).1 in
    stops n break_inside (omega arith) (λ u. absurd (eqb-false p.cursor.position.0 p.cursor.start.0 (not-true _ apart) u.unmoved))

-- The rest of a cut run.
held_after_lem : (chars count k : ℕ) → k ≤ count → count ≤ chars
    → (k + (held_after chars count k).chars ≤ chars) × ((held_after chars count k).count ≤ (held_after chars count k).chars)
held_after_lem chars count k f g =
    pick_cases (λ (h : Held). (k + h.chars ≤ chars) × (h.count ≤ h.chars)) (eqb (chars - k) 0) (λ _. omega arith)
    (λ _. omega arith)

-- What does not fit is wider than the room.
pub too_wide : (c : LineCursor) (w : ℕ) → fits_in c w ≡ false → room_of c < w
unfolding fits_in
too_wide c w e = leb-false w (room_of c) e

-- A width of no spaces is 0, and 0 fits.
pub some-spaces : (sp : Spaces) (n m : ℕ) → m < spaces_width sp n → 1 ≤ n
unfolding spaces_width
some-spaces sp zero m h = omega arith
some-spaces sp (suc n) m h = omega arith

module _ (s : Settings) (p : Place) (at : ℕ) where
  cut-run : (cs : List ℕ) (n width : ℕ) → 1 ≤ n → n ≤ length cs → SoundStep (length cs) p (cut_run p at cs n width)
  unfolding cut_run
  cut-run cs n width f g =
      let taken = min (room_of p.cursor / (width / n) + 1) n in
      let h = held_after_lem (length cs) n taken (omega arith) g in
      record { inside = break_inside; within = h.0; held = h.1; takes = λ _. omega arith }

  on-space : (cs : List ℕ) (n : ℕ) (look : Looked) → n ≤ length cs → SoundStep (length cs) p (on_space s p at cs n look)
  unfolding on_space
  on-space cs n look g =
      let P = SoundStep (length cs) p in
      let w = spaces_width p.spaces n in
      pick_cases P (skips s p) (λ _. tt) λ _. pick_cases P (fits_in p.cursor w) (λ _. tt) λ e.
      cut-run cs n w (some-spaces p.spaces n _ (too_wide p.cursor w e)) g

  on_tab_lem : (look : Looked) → SoundStep 1 p (on_tab s p at look)
  unfolding on_tab
  on_tab_lem look =
      let P = SoundStep 1 p in
      pick_cases P (skips s p) (λ _. tt) λ _. pick_cases P (fits_in p.cursor (tab_width p.cursor)) (λ _. tt) (λ _. tt)

  on-hyphen : (reach : ℕ) → SoundStep 1 p (hyphenated s p at reach)
  unfolding hyphenated
  on-hyphen reach =
      let P = SoundStep 1 p in
      pick_cases P (fits_in p.cursor s.glyph.0)
      (λ _. pick_cases P p.empty (λ _. tt) (λ _. stops 1 break_inside (omega arith) (λ _. omega arith)))
      (λ _. pick_cases P p.empty (λ _. tt) (λ d. waits 1 d))

  on_break_lem : (w : Option Pixels) (reach : ℕ) → SoundStep 1 p (on_break s p at w reach)
  unfolding on_break
  on_break_lem None reach = tt
  on_break_lem (Some w) reach =
      pick_cases (SoundStep 1 p) (p.empty || not (fits_in p.cursor w.0)) (λ _. on-hyphen reach) (λ _. tt)

  cut_word_lem : (cs : List ℕ) → 1 ≤ length cs → room_of p.cursor < length cs * s.glyph.0
      → SoundStep (length cs) p (cut_word s p at cs)
  unfolding cut_word unfit_word
  cut_word_lem cs f g =
      let fitting = room_of p.cursor / s.glyph.0 in
      let k : fitting ≤ length cs = div-le_of_le-mul s.glyph.0 (omega (arith, mul_comm s.glyph.0 (length cs))) in
      let P = SoundStep (length cs) p in
      pick_cases P (eqb fitting 0)
      (λ _. pick_cases P (wrap_on s && has_moved p.cursor) (moved-waits (length cs) s p) (λ _. stops (length cs) break_inside (omega arith) (λ _. f)))
      (λ d. stops (length cs) break_inside k (λ _. omega (arith, eqb-false fitting 0 d)))

  on-word : (cs : List ℕ) → 1 ≤ length cs → SoundStep (length cs) p (on_word s p at cs)
  unfolding on_word
  on-word cs f =
      let P = SoundStep (length cs) p in
      let w = length cs * s.glyph.0 in
      pick_cases P (fits_in p.cursor w) (λ _. tt) λ e. pick_cases P p.empty
      (λ _. cut_word_lem cs f (too_wide p.cursor w e)) (λ d. waits (length cs) d)

-- Whatever a token does, at any place and with any settings.
pub step-sound : (s : Settings) (p : Place) (at : ℕ) (t : Tok) (ts : List Tok) → SoundTok t (spell ts)
    → SoundStep (chars_of t) p (step s p at t ts)
unfolding step chars_of
step-sound s p at newLine ts h = stops 1 new-line-inside (omega arith) (λ _. omega arith)
step-sound s p at carriageReturn ts h = stops 1 return_inside (omega arith) (λ _. omega arith)
step-sound s p at tab ts h = on_tab_lem s p at _
step-sound s p at softHyphen ts h = on_break_lem s p at _ _
step-sound s p at (space cs n e) ts h = on-space s p at cs n _ h.1
step-sound s p at (word cs e) ts h = on-word s p at cs h.0

-- How far a step looked.
abbrev pub looked_of : Step → ℕ
looked_of (go q ds r) = r
looked_of (stop e ds k h d r) = r

abbrev Near : ℕ → Step → Type 0
Near m x = looked_of x ≤ m

module _ (s : Settings) (p : Place) (at m : ℕ) where
  space-reach : (cs : List ℕ) (n : ℕ) (look : Looked) → look.reach ≤ m → looked_of (on_space s p at cs n look) ≤ m
  unfolding on_space cut_run
  space-reach cs n look g =
      pick_cases (Near m) (skips s p) (λ _. omega arith) λ _.
      pick_cases (Near m) (fits_in p.cursor (spaces_width p.spaces n)) (λ _. g) (λ _. omega arith)

  tab-reach : (look : Looked) → look.reach ≤ m → looked_of (on_tab s p at look) ≤ m
  unfolding on_tab
  tab-reach look g =
      pick_cases (Near m) (skips s p) (λ _. omega arith) λ _.
      pick_cases (Near m) (fits_in p.cursor (tab_width p.cursor)) (λ _. g) (λ _. omega arith)

  hyphen-reach : (r : ℕ) → r ≤ m → looked_of (hyphenated s p at r) ≤ m
  unfolding hyphenated
  hyphen-reach r g =
      pick_cases (Near m) (fits_in p.cursor s.glyph.0) (λ _. pick_cases (Near m) p.empty (λ _. g) (λ _. g))
      (λ _. pick_cases (Near m) p.empty (λ _. g) (λ _. g))

  break_reach : (w : Option Pixels) (r : ℕ) → r ≤ m → looked_of (on_break s p at w r) ≤ m
  unfolding on_break
  break_reach None r g = g
  break_reach (Some w) r g =
      pick_cases (Near m) (p.empty || not (fits_in p.cursor w.0)) (λ _. hyphen-reach r g) (λ _. g)

  word-reach : (cs : List ℕ) → looked_of (on_word s p at cs) ≤ m
  unfolding on_word cut_word unfit_word
  word-reach cs =
      pick_cases (Near m) (fits_in p.cursor (length cs * s.glyph.0)) (λ _. omega arith) λ _.
      pick_cases (Near m) p.empty
      (λ _.
      pick_cases (Near m) (eqb (room_of p.cursor / s.glyph.0) 0)
      (λ _. pick_cases (Near m) (wrap_on s && has_moved p.cursor) (λ _. omega arith) (λ _. omega arith)) (λ _. omega arith))
      (λ _. omega arith)

-- A step looks no further than past the character after the text.
pub step-reach : (s : Settings) (p : Place) (at : ℕ) (t : Tok) (ts : List Tok) → Sound ts
    → looked_of (step s p at t ts) ≤ at + size (spell (t ∷ ts)) + 1
unfolding step
step-reach s p at newLine ts h = omega arith
step-reach s p at carriageReturn ts h = omega arith
step-reach s p at tab ts h =
    tab-reach s p at _ _
    (omega (arith, size-spell tab ts, draws-reach s (moved_on p (tab_width p.cursor)) (at + size_of tab) ts h))
step-reach s p at softHyphen ts h =
    break_reach s p at _ _ _
    (omega (arith, size-spell softHyphen ts, width-reach s.glyph.0 None (at + size_of softHyphen) ts h))
step-reach s p at (space cs n e) ts h =
    let t = space cs n e in
    space-reach s p at _ cs n _
    (omega (arith, size-spell t ts, draws-reach s (moved_on (used_up p n) (spaces_width p.spaces n)) (at + size_of t) ts h))
step-reach s p at (word cs e) ts h = word-reach s p at _ cs
