-- The plain word that a pass stands at, and that fits.
-- Assumes nothing.
use Rattle.std.specs.Prelude.{◌≡◌, true, List, ℕ, ◌-◌, ◌*◌, None, Option, Some}
use Rattle.meaning.specs.Cursor.{fits_in}
use Rattle.meaning.specs.declared.settings.Settings.{Settings}
use Rattle.meaning.specs.declared.cursor.Place.{Place}
use Rattle.steps.specs.Stopping.{word_place}
use Rattle.pairs.specs.PlainWords.{PlainWord}
use Rattle.strides.specs.declared.first.Begun.{Begun}

pub record Beginning (s : Settings) (p : Place) (t : List ℕ) (at : ℕ) (x : Begun) : Type 0 where
  pub word : PlainWord t at x.end.0
  pub chars : x.chars.0 ≡ x.end.0 - at
  pub fits : fits_in p.cursor ((x.end.0 - at) * s.glyph.0) ≡ true
  pub place : x.place ≡ word_place s.glyph.0 p (x.end.0 - at) 0

abbrev pub FirstIs : Settings → Place → List ℕ → ℕ → Option Begun → Type 0
FirstIs s p t at None = Unit {0}
FirstIs s p t at (Some x) = Beginning s p t at x
