-- `utf8::text::skip_front` meets its contract (refusal 4, refusal 6).
use Rattle.std.proofs.Common.{arith}
use Rattle.utf8.specs.Ascii.{plain-on}
use Rattle.utf8.proofs.text.skip_front.Goals as goal

pub skip_blocks-large-requires : goal.skip_blocks-large-requires
skip_blocks-large-requires c =
    (omega arith, omega arith)

pub skip_blocks-requires : goal.skip_blocks-requires
skip_blocks-requires c =
    (c.skip_blocks-large.ensures.passed.inside, omega arith)

pub returns : goal.returns
returns c =
    plain-on _ _ _ _ c.skip_blocks-large.ensures c.skip_blocks.ensures
