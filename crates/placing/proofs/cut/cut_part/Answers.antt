-- `placing::cut::cut_part` meets its contract (rule 8).
use Rattle.std.proofs.Common.{refl, arith}
use Rattle.placing.proofs.CutLaws.{within, cut-alike, cut-taken}
use Rattle.placing.proofs.cut.cut_part.Goals as goal

pub overflow_mul-wide : goal.overflow_mul-wide
overflow_mul-wide c =
    record { fits = omega (arith, within c.requires.0 c.args.x c.requires.1 c.requires.2 refl c.if-most-eq0.false c.if-x-most.false c.part_of-part.ensures, c.requires.0.settings.2) }

pub returns : goal.returns
returns c = (
  cut-alike c.requires.0 c.args.x c.requires.1 c.requires.2 refl c.if-most-eq0.false c.if-x-most.false c.part_of-part.ensures _ _ c.printed_at-m.ensures
      c.ends_before-e.ensures,
  cut-taken c.requires.0 c.args.x c.requires.1 c.requires.2 refl c.if-most-eq0.false c.if-x-most.false c.part_of-part.ensures _ _ c.ends_before-e.ensures,
)
