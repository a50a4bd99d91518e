-- `utf8::long::long_len` meets its contract (refusal 4, rule 2).
use Rattle.std.proofs.Common.{arith}
use Rattle.utf8.specs.Long.{long-two, long-three}
use Rattle.utf8.proofs.long.long_len.Goals as goal

pub is_pair-requires : goal.is_pair-requires
is_pair-requires c =
    record { le_a = omega arith; a_bound = omega arith }

-- Two bytes.
pub returns-then-is_pair : goal.returns-then-is_pair
returns-then-is_pair c =
    long-two _ _ (omega arith) (c.is_pair.ensures c.if-is_pair.true)

-- Three bytes.
pub returns-then-is_triple : goal.returns-then-is_triple
returns-then-is_triple c =
    long-three _ _ (omega arith) (c.is_triple.ensures c.if-is_triple.true)
