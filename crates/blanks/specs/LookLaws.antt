-- White space that fits is gone over by a look: the look from after it sees the same, and no less far.
-- Assumes nothing.
use Rattle.std.specs.Prelude.{ℕ, ◌+◌, ◌≤◌, max, ◌≡◌, Bool, true, false, length}
use native.Mathlib.Omega.{arith}
use mathlib.Core.List.{List, [], ◌∷◌, ◌++◌}
use Rattle.utf8.specs.Encoding.{size}
use Rattle.meaning.specs.Tokens.{Tok, newLine, carriageReturn, tab, softHyphen, space, word, ender, size_of, ender_of, need_of, kind_of, count_of}
use Rattle.meaning.specs.Cursor.{fits_in, advance}
use Rattle.meaning.specs.SpaceConfig.{spaces_after}
use Rattle.meaning.specs.Lookahead.{Looked, goes_on, next_fits}
use Rattle.meaning.specs.declared.cursor.LineCursor.{LineCursor}
use Rattle.meaning.specs.declared.cursor.Spaces.{Spaces}
use Rattle.laws.specs.Spell.{text_of, spell, SoundTok, Sound}
use Rattle.laws.specs.TokenLaws.{chars-text, size-text, sound-chars}
use Rattle.steps.specs.Ahead.{white_width}
use Rattle.steps.specs.Foreseeing.{White}
use Rattle.steps.specs.FitsLaws.{fits-white}

-- ---- how far a look sees at least

front-size : (ws cs : List ℕ) → 1 ≤ length ws → ender (ws ++ cs) ≤ size ws
unfolding ender size
front-size [] cs h = absurd (omega arith)
front-size (c ∷ ws) cs h = omega arith

-- A token's first character is its own.
first-size : (t : Tok) (cs : List ℕ) → SoundTok t cs → ender (text_of t ++ cs) ≤ size_of t
first-size t cs h = omega (arith, front-size (text_of t) cs (omega (arith, sound-chars t cs h, chars-text t)), size-text t)

here-seen : (b : Bool) (here : ℕ) (r : Looked) → here ≤ (goes_on b here r).reach
unfolding goes_on
here-seen true here r = omega arith
here-seen false here r = omega arith

module _ (g : ℕ) (c : LineCursor) (sp : Spaces) (at : ℕ) where
  token_seen : (t : Tok) (ts : List Tok) → at + need_of t ≤ (next_fits g c sp at (t ∷ ts)).reach
  unfolding next_fits
  token_seen newLine ts = omega arith
  token_seen carriageReturn ts = omega arith
  token_seen softHyphen ts = omega arith
  token_seen (word cs e) ts = omega arith
  token_seen tab ts = here-seen _ _ _
  token_seen (space cs n e) ts = here-seen _ _ _

  -- The first character is looked at, or the text's end.
  first-seen : (ts : List Tok) → Sound ts → at + ender (spell ts) ≤ (next_fits g c sp at ts).reach
  unfolding next_fits spell ender need_of
  first-seen [] h = omega arith
  first-seen (t ∷ ts) h = omega (arith, token_seen t ts, first-size t (spell ts) h.0)

-- ---- the look is kept

ender-most : (t : Tok) (cs : List ℕ) → SoundTok t cs → ender_of t ≤ ender cs
unfolding ender_of
ender-most newLine cs h = omega arith
ender-most carriageReturn cs h = omega arith
ender-most tab cs h = omega arith
ender-most softHyphen cs h = omega arith
ender-most (space ws n e) cs h = h.2
ender-most (word ws e) cs h = h.1

goes_near : (here : ℕ) (r : Looked) → here ≤ r.reach → goes_on true here r ≡ r
unfolding goes_on
goes_near here r h = let m : max here r.reach ≡ r.reach = omega arith in rw m

pub look_kept : (g : ℕ) (c : LineCursor) (sp : Spaces) (at : ℕ) (u : Tok) (ts : List Tok) → White (kind_of u) → SoundTok u (spell ts) → Sound ts
    → (w : ℕ) → w ≡ white_width (kind_of u) (count_of u) c sp → fits_in c w ≡ true
    → next_fits g c sp at (u ∷ ts) ≡ next_fits g (advance c w) (spaces_after sp (count_of u)) (at + size_of u) ts
unfolding need_of
look_kept g c sp at u ts e h k w q f =
    let c' = advance c w in
    let sp' = spaces_after sp (count_of u) in
    let far = first-seen g c' sp' (at + size_of u) ts k in
    rw (fits-white g c sp at ts u e w q, f) (goes_near _ _ (omega (arith, far, ender-most u (spell ts) h)))
