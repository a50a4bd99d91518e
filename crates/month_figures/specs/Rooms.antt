-- No sum of figures wraps.
-- Assumes nothing.
use Rattle.std.specs.Prelude.{◌+◌, ◌^◌, ◌<◌}
use Rattle.meaning.specs.declared.figures.Figures.{Figures}

-- The sums of two fit 64 bits.
pub record Room (f g : Figures) : Type 0 where
  pub texts : f.texts + g.texts < 2 ^ 64
  pub lines : f.lines + g.lines < 2 ^ 64
  pub broken : f.broken + g.broken < 2 ^ 64
  pub dropped : f.dropped + g.dropped < 2 ^ 64
  pub long : f.long + g.long < 2 ^ 64
  pub invalid : f.invalid + g.invalid < 2 ^ 64
