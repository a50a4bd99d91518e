-- A plain word that a pass stands at and that fits: where the pass then stands.
-- Assumes nothing.
use Rattle.std.specs.Prelude.{◌≡◌, List, ℕ, ◌≤◌}
use Rattle.std.proofs.Common.{ap, ◌∙◌, arith}
use Rattle.meaning.specs.declared.settings.Settings.{Settings}
use Rattle.meaning.specs.declared.cursor.Place.{Place}
use Rattle.meaning.specs.declared.line.Measure.{Measure}
use Rattle.steps.specs.Unrolled.{nothing_resumed}
use Rattle.steps.specs.Running.{PassReady}
use Rattle.steps.specs.Stopping.{word_measure}
use Rattle.strides.specs.Strides.{Onward}
use Rattle.strides.specs.First.{Beginning}
use Rattle.strides.specs.declared.first.Begun.{Begun}
use Rattle.strides.specs.StrideLaws.{plain-goes}

module _ {s : Settings} {p : Place} {t : List ℕ} {at : ℕ} {m : Measure} (r : PassReady s p t at nothing_resumed m) {x : Begun} (b : Beginning s p t at x) where
  pub first-numbers : (x.end.0 ≤ 65535) × (x.chars.0 ≤ 65535)
  first-numbers = let w = b.word.letters in omega (arith, w.inside, r.short, b.chars)

  pub first-onward : (n : Measure) → n ≡ word_measure s.glyph.0 p.spaces m x.chars.0 0 → Onward s p t at nothing_resumed m x.place x.end.0 n
  first-onward n e =
      plain-goes r x.end.0 b.word b.fits x.place n b.place (e ∙ ap (λ (k : ℕ). word_measure s.glyph.0 p.spaces m k 0) b.chars)
