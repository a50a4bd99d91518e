-- What the running step of a soft hyphen that shows answers.
-- Assumes nothing.
use Rattle.std.specs.Prelude.{ℕ, ◌+◌, ◌≡◌, Bool, true, false, ◌||◌, not}
use Rattle.std.proofs.Math.Nat.{add-zero}
use Rattle.basis.specs.Choice.{pick, pick_true}
use Rattle.utf8.specs.Encoding.{bytes, size}
use Rattle.meaning.specs.Tokens.{softHyphen}
use Rattle.meaning.specs.Cursor.{fits_in}
use Rattle.meaning.specs.LineIter.{moved_on, hyphenated}
use Rattle.meaning.specs.Line.{noted, measured}
use Rattle.meaning.specs.declared.settings.Settings.{Settings}
use Rattle.meaning.specs.declared.cursor.Place.{Place}
use Rattle.meaning.specs.declared.line.LineEnd.TheVariants.{LineBreak}
use Rattle.meaning.specs.declared.line.EventKind.TheVariants.{Printed}
use Rattle.meaning.specs.declared.line.Measure.{Measure}
use Rattle.steps.specs.Stepping.{resumed_at, stepped_at}
use Rattle.steps.specs.Stopping.{ends_before}
use Rattle.steps.specs.declared.step.Stepped.{Stepped}
use Rattle.steps.specs.declared.step.Stepped.TheVariants.{Go, Stop}

-- ---- a hyphen that shows

module _ (s : Settings) (p : Place) (at : ℕ) (m : Measure) (reach : ℕ) where
  abbrev asked : Stepped
  asked = stepped_at m at softHyphen (hyphenated s p at reach)

  -- It is printed.
  module _ (e : fits_in p.cursor s.glyph.0 ≡ true) (n : Measure) (h : n ≡ noted Printed (m.pen.0 + s.glyph.0) (m.spaces.0 + 0) m) where
    pub hyphen-goes : p.empty ≡ true → (q : Place) → q ≡ moved_on p s.glyph.0 → Go q n (record { 0 = reach }) ≡ asked
    unfolding hyphenated stepped_at measured
    hyphen-goes f q g = rw (h, g, pick_true (fits_in p.cursor s.glyph.0), pick_true p.empty)

    pub hyphen-ends : p.empty ≡ false → Stop (ends_before LineBreak n (at + 2) 0 reach) ≡ asked
    unfolding hyphenated stepped_at ends_before resumed_at measured size bytes pick
    hyphen-ends f = rw (e, f, h)

  -- It has no room.
  module _ (e : fits_in p.cursor s.glyph.0 ≡ false) where
    pub hyphen_unprinted : p.empty ≡ true → Go p m (record { 0 = reach }) ≡ asked
    unfolding hyphenated stepped_at measured pick
    hyphen_unprinted f = rw (e, f)

    pub hyphen-stays : p.empty ≡ false → Stop (ends_before LineBreak m at 0 reach) ≡ asked
    unfolding hyphenated stepped_at ends_before resumed_at measured size pick
    hyphen-stays f = rw (e, f, add-zero at)

-- On a line that is not empty a soft hyphen shows before a word that does not fit.
pub shows-not : (p : Place) (w : ℕ) (f : Bool) → p.empty ≡ false → f ≡ fits_in p.cursor w → not f ≡ (p.empty || not (fits_in p.cursor w))
shows-not p w f e h = rw (e, h)
