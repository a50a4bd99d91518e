-- `strides::next::plain_pair` meets its contract (rule 8).
use Rattle.std.proofs.Common.{refl, arith}
use Rattle.parser.specs.Scanning.{scanned_at}
use Rattle.strides.specs.Next.{plain_pair}
use Rattle.strides.proofs.next.plain_pair.Goals as goal

pub overflow_cast-from : goal.overflow_cast-from
overflow_cast-from c =
    omega (arith, c.requires)

pub overflow_add-from : goal.overflow_add-from
overflow_add-from c =
    record { fits = omega (arith, c.requires) }

pub overflow_cast-to : goal.overflow_cast-to
overflow_cast-to c =
    omega (arith, c.requires)

pub overflow_add-result : goal.overflow_add-result
overflow_add-result c =
    record { fits = omega (arith, c.requires) }

pub overflow_sub-result : goal.overflow_sub-result
overflow_sub-result c =
    omega (arith, c.requires)

pub overflow_add-result-2 : goal.overflow_add-result-2
overflow_add-result-2 c =
    record { fits = omega (arith, c.requires) }

pub returns : goal.returns
unfolding plain_pair scanned_at
returns c =
    refl
