-- A word of which not all fits ends the pass (rule 8).
-- Assumes nothing.
use Prim.Native.Nat.{ℕ, ◌*◌, ◌/◌}
use mathlib.Core.Path.{◌≡◌, refl, sym}
use mathlib.Core.Bool.{false, ◌&&◌}
use mathlib.Core.List.{List}
use Rattle.basis.specs.Choice.{by_test}
use Rattle.basis.specs.Order.{by_eq}
use Rattle.meaning.specs.Cursor.{room_of, fits_in, has_moved}
use Rattle.meaning.specs.LineIter.{wrap_on}
use Rattle.meaning.specs.Line.{unmeasured}
use Rattle.meaning.specs.declared.settings.Settings.{Settings}
use Rattle.meaning.specs.declared.cursor.Place.{Place}
use Rattle.parser.specs.declared.lexeme.Lexeme.{Lexeme}
use Rattle.steps.specs.WordLaws.{WordAt, word-waits, moved-waits, word_drops, word-parts}
use Rattle.drawing.specs.PastTokens.{Stops}

pub word-stops : (s : Settings) (p : Place) (t : List ℕ) (at : ℕ) (x : Lexeme) → WordAt t at x → fits_in p.cursor (x.chars.0 * s.glyph.0) ≡ false → Stops s p t at x
word-stops s p t at x w e =
    by_test p.empty
    (λ f. by_eq (room_of p.cursor / s.glyph.0) 0
    (λ z. by_test (wrap_on s && has_moved p.cursor)
    (λ h. record { end = _; is = sym (moved-waits s p t at x unmeasured w e f z h) })
    (λ h. record { end = _; is = sym (word_drops s p t at x unmeasured w e f z h) }))
    (λ z. record { end = _; is = sym (word-parts s p t at x unmeasured w e f _ _ _ refl z refl refl) }))
    (λ f. record { end = _; is = sym (word-waits s p t at x unmeasured w e f) })
