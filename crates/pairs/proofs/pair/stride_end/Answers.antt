-- `pairs::pair::stride_end` meets its contract (rule 2).
use Rattle.std.proofs.Common.{◌≡◌, sym, ◌∙◌, true, ◌+◌, arith}
use Rattle.parser.specs.Ascii.{plain_at, space_at, plain-inside, space-inside}
use Rattle.pairs.proofs.pair.stride_end.Goals as goal

pub overflow_add-from : goal.overflow_add-from
overflow_add-from c =
    omega (arith, space-inside _ _ ((let spaced_here : space_at c.args.text.now c.args.at ≡ true = sym c.space_at.ensures ∙ c.if-space_at.true in spaced_here)), c.requires)

pub overflow_add-from-then-plain_at : goal.overflow_add-from-then-plain_at
overflow_add-from-then-plain_at c =
    omega (arith, plain-inside _ _ ((let lettered_here : plain_at c.args.text.now (c.args.at + 1) ≡ true = sym c.plain_at.ensures ∙ c.if-plain_at.true in lettered_here)), c.requires)

pub skip_plain-end-requires : goal.skip_plain-end-requires
skip_plain-end-requires c =
    omega (arith, plain-inside _ _ ((let lettered_here : plain_at c.args.text.now (c.args.at + 1) ≡ true = sym c.plain_at.ensures ∙ c.if-plain_at.true in lettered_here)))
