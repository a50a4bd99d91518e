-- Rule 8: what a pass looks at beyond the token at hand. `at` is the offset from the line's start where the looking begins, and
-- `reach` the offset after the furthest character examined (rule 12).
-- Assumes nothing.
use Rattle.std.specs.Prelude.{ℕ, ◌+◌, ◌*◌, max, Bool, true, false, List, [], ◌∷◌, length, None, Option, Some}
use Rattle.meaning.specs.declared.counts.Pixels.{Pixels}
use Rattle.meaning.specs.Tokens.{Tok, newLine, carriageReturn, tab, softHyphen, space, word, size_of, need_of}
use Rattle.meaning.specs.Cursor.{fits_in, advance, tab_width}
use Rattle.meaning.specs.SpaceConfig.{spaces_width, spaces_after}
use Rattle.meaning.specs.declared.cursor.LineCursor.{LineCursor}
use Rattle.meaning.specs.declared.cursor.Spaces.{Spaces}

-- Whether the next word fits, and how far was looked.
pub record Looked : Type 0 where
  pub fits : Bool
  pub reach : ℕ

-- White space that fits is passed; white space that does not ends the looking.
unfoldable pub goes_on : Bool → ℕ → Looked → Looked
goes_on true here r = record { fits = r.fits; reach = max here r.reach }
goes_on false here r = record { fits = false; reach = here }

-- `next_word_fits`: white space is passed as far as it fits, and then a word or "-" has to fit.
unfoldable pub next_fits : (glyph : ℕ) → LineCursor → Spaces → (at : ℕ) → List Tok → Looked
next_fits g c sp at [] = record { fits = false; reach = at + 1 }
next_fits g c sp at (newLine ∷ ts) = record { fits = false; reach = at + need_of newLine }
next_fits g c sp at (carriageReturn ∷ ts) = record { fits = false; reach = at + need_of carriageReturn }
next_fits g c sp at (softHyphen ∷ ts) = record { fits = fits_in c g; reach = at + need_of softHyphen }
next_fits g c sp at (word cs e ∷ ts) = record { fits = fits_in c (length cs * g); reach = at + need_of (word cs e) }
next_fits g c sp at (tab ∷ ts) =
    goes_on (fits_in c (tab_width c)) (at + need_of tab) (next_fits g (advance c (tab_width c)) sp (at + size_of tab) ts)
next_fits g c sp at (space cs n e ∷ ts) =
    goes_on (fits_in c (spaces_width sp n)) (at + need_of (space cs n e))
    (next_fits g (advance c (spaces_width sp n)) (spaces_after sp n) (at + size_of (space cs n e)) ts)

-- The next word's width, and how far was looked.
pub record Ahead : Type 0 where
  pub width : Option Pixels
  pub reach : ℕ

abbrev pub further : ℕ → Ahead → Ahead
further here r = record { width = r.width; reach = max here r.reach }

-- One width more.
unfoldable pub added : Option Pixels → ℕ → Option Pixels
added None w = Some (record { 0 = w })
added (Some v) w = Some (record { 0 = v.0 + w })

-- `next_word_width`: words add up; a soft hyphen adds its "-" and ends the looking, anything else ends it.
unfoldable pub next_width : (glyph : ℕ) → Option Pixels → (at : ℕ) → List Tok → Ahead
next_width g w at [] = record { width = w; reach = at + 1 }
next_width g w at (newLine ∷ ts) = record { width = w; reach = at + need_of newLine }
next_width g w at (carriageReturn ∷ ts) = record { width = w; reach = at + need_of carriageReturn }
next_width g w at (tab ∷ ts) = record { width = w; reach = at + need_of tab }
next_width g w at (space cs n e ∷ ts) = record { width = w; reach = at + need_of (space cs n e) }
next_width g w at (softHyphen ∷ ts) = record { width = added w g; reach = at + need_of softHyphen }
next_width g w at (word cs e ∷ ts) =
    further (at + need_of (word cs e)) (next_width g (added w (length cs * g)) (at + size_of (word cs e)) ts)
