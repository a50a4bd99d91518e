-- The lookahead for whether the next word fits as its loop runs: how far was looked before, and what is left of the text.
-- Assumes nothing.
use Rattle.std.specs.Prelude.{ℕ, ◌+◌, ◌-◌, ◌*◌, max, ◌≡◌, Bool, true, false, List, [], ◌∷◌}
use Rattle.std.proofs.Common.{arith, sym, ◌∙◌}
use Rattle.std.proofs.Math.Path.{refl}
use Rattle.meaning.specs.Tokens.{Tok, newLine, carriageReturn, tab, softHyphen, space, word, tokens, chars_of, size_of, need_of, kind_of, count_of}
use Rattle.meaning.specs.Cursor.{fits_in, advance}
use Rattle.meaning.specs.SpaceConfig.{spaces_after}
use Rattle.meaning.specs.Lookahead.{Looked, goes_on, next_fits}
use Rattle.meaning.specs.declared.tokens.TokenKind.TheVariants.{Word, Break}
use Rattle.meaning.specs.declared.cursor.LineCursor.{LineCursor}
use Rattle.meaning.specs.declared.cursor.Spaces.{Spaces}
use Rattle.parser.specs.Lexing.{chars_from}
use Rattle.parser.specs.declared.lexeme.Lexeme.{Lexeme}
use Rattle.steps.specs.Lexed.{Lexes}
use Rattle.steps.specs.Stepping.{look_of}
use Rattle.steps.specs.declared.foreseen.Look.{Look}
use Rattle.steps.specs.Ahead.{look_at, white_width}
use Rattle.steps.specs.Foreseeing.{White}
use Rattle.steps.specs.KindLaws.{Halts}

-- What a lookahead answers that had looked up to an offset before.
unfoldable pub look_from : (reach : ℕ) → Looked → Look
look_from reach l = look_at l.fits (max reach l.reach)

pub look_zero : (l : Looked) → look_from 0 l ≡ look_of l
unfolding look_from
look_zero l = let e : max 0 l.reach ≡ l.reach = omega arith in rw e

look_on : (r here : ℕ) (l : Looked) → look_from r (goes_on true here l) ≡ look_from (max r here) l
unfolding look_from goes_on
look_on r here l = let e : max r (max here l.reach) ≡ max (max r here) l.reach = omega arith in rw e

-- A tab takes nothing of the extra pixels.
pub none_used : (sp : Spaces) → spaces_after sp 0 ≡ sp
unfolding spaces_after
none_used sp = let e : sp.extra.0 - 0 ≡ sp.extra.0 = omega arith in rw e

module _ (g : ℕ) (c : LineCursor) (sp : Spaces) (at : ℕ) (ts : List Tok) where
  fits_word : (u : Tok) → kind_of u ≡ Word → next_fits g c sp at (u ∷ ts) ≡ record { fits = fits_in c (chars_of u * g); reach = at + need_of u }
  unfolding next_fits chars_of
  fits_word newLine e = cc
  fits_word carriageReturn e = cc
  fits_word tab e = cc
  fits_word softHyphen e = cc
  fits_word (space cs n b) e = cc
  fits_word (word cs b) e = refl

  fits_break : (u : Tok) → kind_of u ≡ Break → next_fits g c sp at (u ∷ ts) ≡ record { fits = fits_in c g; reach = at + need_of u }
  unfolding next_fits
  fits_break newLine e = cc
  fits_break carriageReturn e = cc
  fits_break tab e = cc
  fits_break softHyphen e = refl
  fits_break (space cs n b) e = cc
  fits_break (word cs b) e = cc

  fits_halts : (u : Tok) → Halts (kind_of u) → next_fits g c sp at (u ∷ ts) ≡ record { fits = false; reach = at + need_of u }
  unfolding next_fits
  fits_halts newLine e = refl
  fits_halts carriageReturn e = refl
  fits_halts tab e = absurd e
  fits_halts softHyphen e = absurd e
  fits_halts (space cs n b) e = absurd e
  fits_halts (word cs b) e = absurd e

  pub fits-white : (u : Tok) → White (kind_of u) → (w : ℕ) → w ≡ white_width (kind_of u) (count_of u) c sp
      → next_fits g c sp at (u ∷ ts)
      ≡ goes_on (fits_in c w) (at + need_of u) (next_fits g (advance c w) (spaces_after sp (count_of u)) (at + size_of u) ts)
  unfolding next_fits white_width
  fits-white newLine e w q = absurd e
  fits-white carriageReturn e w q = absurd e
  fits-white tab e w q = rw (q, none_used sp)
  fits-white softHyphen e w q = absurd e
  fits-white (space cs n b) e w q = rw q
  fits-white (word cs b) e w q = absurd e

-- One turn of the loop: the next lexeme is x.
module _ (t : List ℕ) (at : ℕ) (x : Lexeme) (l : Lexes t at x) (g : ℕ) (c : LineCursor) (sp : Spaces) (r : ℕ) (r' : ℕ) (q : r' ≡ max r x.reach.0) where
  abbrev looking : Look
  looking = look_from r (next_fits g c sp at (tokens (chars_from t at)))

  pub look_word : x.kind ≡ Word → (b : Bool) → b ≡ fits_in c (x.chars.0 * g) → look_at b r' ≡ looking
  unfolding look_from
  look_word e b p = rw (p, q, l.reach, l.chars, l.step, fits_word g c sp at _ l.tok (sym l.kind ∙ e))

  pub look_break : x.kind ≡ Break → (b : Bool) → b ≡ fits_in c g → look_at b r' ≡ looking
  unfolding look_from
  look_break e b p = rw (p, q, l.reach, l.step, fits_break g c sp at _ l.tok (sym l.kind ∙ e))

  pub look_halts : Halts x.kind → look_at false r' ≡ looking
  unfolding look_from
  look_halts e = rw (q, l.reach, l.step, fits_halts g c sp at _ l.tok (rw l.kind at e))

  module _ (e : White x.kind) (w : ℕ) (p : w ≡ white_width x.kind x.count.0 c sp) where
    white-is : w ≡ white_width (kind_of l.tok) (count_of l.tok) c sp
    white-is = rw (← l.kind, ← l.count) p

    pub look_white : fits_in c w ≡ true → (c' : LineCursor) (sp' : Spaces) → c' ≡ advance c w → sp' ≡ spaces_after sp x.count.0
        → look_from r' (next_fits g c' sp' x.end.0 (tokens (chars_from t x.end.0))) ≡ looking
    look_white f c' sp' a b =
        rw (a, b, q, l.step, fits-white g c sp at _ l.tok (rw l.kind at e) w white-is, f, look_on r _ _, ← l.reach, ← l.count, ← l.end)

    pub look_full : fits_in c w ≡ false → look_at false r' ≡ looking
    unfolding look_from goes_on
    look_full f = rw (q, l.reach, l.step, fits-white g c sp at _ l.tok (rw l.kind at e) w white-is, f)

pub look_end : (t : List ℕ) (at g : ℕ) (c : LineCursor) (sp : Spaces) (r : ℕ) → tokens (chars_from t at) ≡ [] → (r' : ℕ) → r' ≡ max r (at + 1)
    → look_at false r' ≡ look_from r (next_fits g c sp at (tokens (chars_from t at)))
unfolding look_from next_fits
look_end t at g c sp r e r' q = rw (q, e)
