-- `edits::checking::length_fits` meets its contract (refusal 1, refusal 2, refusal 3, refusal 4, refusal 5, refusal 6).
use Rattle.std.proofs.Common.{rules, sym, ap, ◌∙◌, eqb}
use Rattle.std.specs.Prelude.{Option, ℕ}
use Rattle.edits.specs.Checking.{whole_fits, length_fits}
use Rattle.edits.proofs.checking.length_fits.Goals as goal

pub returns : goal.returns
unfolding length_fits
returns c = search (rules, c.edited_whole.ensures)
