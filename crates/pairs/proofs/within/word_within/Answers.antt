-- `pairs::within::word_within` meets its contract (rule 2).
use Rattle.std.proofs.Common.{◌<◌, arith, length}
use Rattle.parser.specs.Ascii.{plain-inside}
use Rattle.pairs.proofs.within.word_within.Goals as goal

pub limit_at-limit-requires : goal.limit_at-limit-requires
limit_at-limit-requires c =
    omega (arith, (let inside_here : c.args.from < length c.args.text.now = plain-inside _ _ c.requires.1 in inside_here), c.requires.0)

pub overflow_add-from : goal.overflow_add-from
overflow_add-from c =
    omega (arith, (let inside_here : c.args.from < length c.args.text.now = plain-inside _ _ c.requires.1 in inside_here), c.requires.0)

pub skip_plain-end-requires : goal.skip_plain-end-requires
skip_plain-end-requires c =
    omega (arith, (let inside_here : c.args.from < length c.args.text.now = plain-inside _ _ c.requires.1 in inside_here), c.limit_at-limit.ensures, c.if-most-eq0.false)
