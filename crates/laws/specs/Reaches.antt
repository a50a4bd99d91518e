-- How far a pass looks ahead: never past the character after the text, which stands for its end (rule 12).
-- Assumes nothing.
use Rattle.std.specs.Prelude.{ℕ, ◌+◌, ◌*◌, ◌≤◌, Bool, true, false, ◌||◌, List, [], ◌∷◌, length, Option}
use Rattle.meaning.specs.declared.counts.Pixels.{Pixels}
use Rattle.std.proofs.Common.{arith}
use Rattle.basis.specs.Choice.{pick_cases}
use Rattle.utf8.specs.Encoding.{size}
use Rattle.meaning.specs.Tokens.{Tok, newLine, carriageReturn, tab, softHyphen, space, word, ender, size_of, ender_of, need_of}
use Rattle.meaning.specs.Cursor.{fits_in, advance, tab_width}
use Rattle.meaning.specs.SpaceConfig.{spaces_width, spaces_after}
use Rattle.meaning.specs.Lookahead.{Looked, goes_on, next_fits, added, next_width}
use Rattle.meaning.specs.LineIter.{draws_space}
use Rattle.meaning.specs.declared.settings.Settings.{Settings}
use Rattle.meaning.specs.declared.cursor.LineCursor.{LineCursor}
use Rattle.meaning.specs.declared.cursor.Spaces.{Spaces}
use Rattle.meaning.specs.declared.cursor.Place.{Place}
use Rattle.laws.specs.Spell.{spell, SoundTok, Sound}
use Rattle.laws.specs.TokenLaws.{size-spell}

-- What ends a token stands in the text, or is its end.
pub ender-bound : (cs : List ℕ) → ender cs ≤ size cs + 1
unfolding ender size
ender-bound [] = omega arith
ender-bound (c ∷ cs) = omega arith

pub need_bound : (t : Tok) (cs : List ℕ) → SoundTok t cs → need_of t ≤ size_of t + size cs + 1
unfolding need_of ender_of
need_bound newLine cs h = omega arith
need_bound carriageReturn cs h = omega arith
need_bound tab cs h = omega arith
need_bound softHyphen cs h = omega arith
need_bound (space ws n e) cs h = omega (arith, ender-bound cs)
need_bound (word ws e) cs h = omega (arith, ender-bound cs)

-- So to find the first token of a text.
pub here-bound : (at : ℕ) (t : Tok) (ts : List Tok) → SoundTok t (spell ts) → at + need_of t ≤ at + size (spell (t ∷ ts)) + 1
here-bound at t ts h = omega (arith, need_bound t (spell ts) h, size-spell t ts)

goes_on_lem : (b : Bool) {here m : ℕ} (r : Looked) → here ≤ m → r.reach ≤ m → (goes_on b here r).reach ≤ m
unfolding goes_on
goes_on_lem true r h g = omega arith
goes_on_lem false r h g = h

pub fits-reach : (g : ℕ) (c : LineCursor) (sp : Spaces) (at : ℕ) (ts : List Tok) → Sound ts
    → (next_fits g c sp at ts).reach ≤ at + size (spell ts) + 1
unfolding next_fits
fits-reach g c sp at [] h = omega arith
fits-reach g c sp at (newLine ∷ ts) h = here-bound at newLine ts h.0
fits-reach g c sp at (carriageReturn ∷ ts) h = here-bound at carriageReturn ts h.0
fits-reach g c sp at (softHyphen ∷ ts) h = here-bound at softHyphen ts h.0
fits-reach g c sp at (word cs e ∷ ts) h = here-bound at (word cs e) ts h.0
fits-reach g c sp at (tab ∷ ts) h =
    goes_on_lem (fits_in c (tab_width c)) _ (here-bound at tab ts h.0)
    (omega (arith, size-spell tab ts, fits-reach g (advance c (tab_width c)) sp (at + size_of tab) ts h.1))
fits-reach g c sp at (space cs n e ∷ ts) h =
    let t = space cs n e in
    let w = spaces_width sp n in
    goes_on_lem (fits_in c w) _ (here-bound at t ts h.0)
    (omega (arith, size-spell t ts, fits-reach g (advance c w) (spaces_after sp n) (at + size_of t) ts h.1))

pub width-reach : (g : ℕ) (w : Option Pixels) (at : ℕ) (ts : List Tok) → Sound ts
    → (next_width g w at ts).reach ≤ at + size (spell ts) + 1
unfolding next_width
width-reach g w at [] h = omega arith
width-reach g w at (newLine ∷ ts) h = here-bound at newLine ts h.0
width-reach g w at (carriageReturn ∷ ts) h = here-bound at carriageReturn ts h.0
width-reach g w at (tab ∷ ts) h = here-bound at tab ts h.0
width-reach g w at (softHyphen ∷ ts) h = here-bound at softHyphen ts h.0
width-reach g w at (space cs n e ∷ ts) h = here-bound at (space cs n e) ts h.0
width-reach g w at (word cs e ∷ ts) h =
    let t = word cs e in
    omega (arith, here-bound at t ts h.0, size-spell t ts, width-reach g (added w (length cs * g)) (at + size_of t) ts h.1)

pub draws-reach : (s : Settings) (p : Place) (at : ℕ) (ts : List Tok) → Sound ts
    → (draws_space s p at ts).reach ≤ at + size (spell ts) + 1
unfolding draws_space
draws-reach s p at ts h =
    pick_cases (λ (r : Looked). r.reach ≤ at + size (spell ts) + 1) p.empty (λ _. omega arith)
    (λ _. fits-reach s.glyph.0 p.cursor p.spaces at ts h)
