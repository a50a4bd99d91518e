use Rattle.std.proofs.Common.{◌≡◌, length, arith, rules}
use Rattle.utf8.specs.Ascii.{plain-one, plain-on}
use Rattle.utf8.proofs.text.skip_ascii.Goals as goal

pub skip_blocks-large-requires : goal.skip_blocks-large-requires
skip_blocks-large-requires c =
    (search rules, omega arith)

pub skip_blocks-at-requires : goal.skip_blocks-at-requires
skip_blocks-at-requires c =
    (c.skip_blocks-large.ensures.passed.inside, omega arith)

pub loop-i-init : goal.loop-i-init
loop-i-init c =
    plain-on _ _ _ _ c.skip_blocks-large.ensures c.skip_blocks-at.ensures

pub returns-then-text-i-ge128 : goal.returns-then-text-i-ge128
returns-then-text-i-ge128 c =
    c.loop-i.invariant

pub loop-i-preserved : goal.loop-i-preserved
loop-i-preserved c =
    plain-one c.args.text.now c.args.from c.loop-i.i (omega arith) (omega arith) c.loop-i.invariant

pub returns : goal.returns
returns c =
    let all : c.loop-i.i ≡ length c.args.text.now = omega (arith, c.skip_blocks-at.ensures.passed.inside) in
    rw (← all) c.loop-i.invariant
