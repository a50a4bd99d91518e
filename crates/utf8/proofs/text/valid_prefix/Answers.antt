use Rattle.std.proofs.Common.{◌≡◌, sym, ap, ◌∙◌, ◌+◌, ◌≤◌, arith, length, drop, length-drop}
use Rattle.utf8.specs.Decoding.{decode_at}
use Rattle.utf8.specs.Walk.{is_char, decode_at-within}
use Rattle.utf8.specs.Prefix.{prefix-at-more, prefix-at-none, prefix-within}
use Rattle.utf8.specs.Ascii.{pass_on_lem}
use Rattle.utf8.specs.declared.sequence.Decoded.TheVariants.{Char}
use Rattle.utf8.proofs.text.valid_prefix.Goals as goal

pub ends_told-requires : goal.ends_told-requires
ends_told-requires c =
    c.skip_front-ascii.ensures.passed.inside

-- All is told.
pub returns-then-ends_told : goal.returns-then-ends_told
returns-then-ends_told c =
    let p = pass_on_lem _ _ _ _ c.skip_front-ascii.ensures.passed (c.ends_told.ensures c.if-ends_told.true) in
    omega (arith, p.prefix, prefix-within (drop (length c.args.text.now) c.args.text.now), length-drop (length c.args.text.now) c.args.text.now)

pub skip_common-at-requires : goal.skip_common-at-requires
skip_common-at-requires c =
    c.skip_front-ascii.ensures.passed.inside

pub loop-len-init : goal.loop-len-init
loop-len-init c =
    let p = pass_on_lem _ _ _ _ c.skip_front-ascii.ensures.passed c.skip_common-at.ensures in
    (omega (arith, p.prefix), p.inside)

pub overflow_cast-len : goal.overflow_cast-len
overflow_cast-len c =
    omega (arith, (let room_here : (1 ≤ c.in-Char.len) × (c.loop-len.at + c.in-Char.len ≤ length c.args.text.now) = decode_at-within c.args.text.now c.loop-len.at _ c.in-Char.len ((let read_here : decode_at c.args.text.now c.loop-len.at ≡ Char c.in-Char.cp c.in-Char.len = sym c.decode.ensures ∙ c.in-Char.is in read_here)) in room_here))

pub overflow_add-at : goal.overflow_add-at
overflow_add-at c =
    omega (arith, (let room_here : (1 ≤ c.in-Char.len) × (c.loop-len.at + c.in-Char.len ≤ length c.args.text.now) = decode_at-within c.args.text.now c.loop-len.at _ c.in-Char.len ((let read_here : decode_at c.args.text.now c.loop-len.at ≡ Char c.in-Char.cp c.in-Char.len = sym c.decode.ensures ∙ c.in-Char.is in read_here)) in room_here))

pub skip_common-at-requires-in-Char : goal.skip_common-at-requires-in-Char
skip_common-at-requires-in-Char c =
    omega (arith, (let room_here : (1 ≤ c.in-Char.len) × (c.loop-len.at + c.in-Char.len ≤ length c.args.text.now) = decode_at-within c.args.text.now c.loop-len.at _ c.in-Char.len ((let read_here : decode_at c.args.text.now c.loop-len.at ≡ Char c.in-Char.cp c.in-Char.len = sym c.decode.ensures ∙ c.in-Char.is in read_here)) in room_here))

pub loop-len-smaller : goal.loop-len-smaller
loop-len-smaller c =
    omega (arith, (let room_here : (1 ≤ c.in-Char.len) × (c.loop-len.at + c.in-Char.len ≤ length c.args.text.now) = decode_at-within c.args.text.now c.loop-len.at _ c.in-Char.len ((let read_here : decode_at c.args.text.now c.loop-len.at ≡ Char c.in-Char.cp c.in-Char.len = sym c.decode.ensures ∙ c.in-Char.is in read_here)) in room_here), c.skip_common-at-in-Char.ensures.forward, c.skip_common-at-in-Char.ensures.inside)

pub loop-len-preserved : goal.loop-len-preserved
loop-len-preserved c =
    (omega (arith, c.loop-len.invariant, prefix-at-more c.args.text.now c.loop-len.at _ c.in-Char.len ((let read_here : decode_at c.args.text.now c.loop-len.at ≡ Char c.in-Char.cp c.in-Char.len = sym c.decode.ensures ∙ c.in-Char.is in read_here)), c.skip_common-at-in-Char.ensures.forward, c.skip_common-at-in-Char.ensures.prefix), c.skip_common-at-in-Char.ensures.inside)

pub returns-in-Bad : goal.returns-in-Bad
returns-in-Bad c =
    omega (arith, prefix-at-none c.args.text.now c.loop-len.at (ap is_char (sym c.decode.ensures ∙ c.in-Bad.is)))

pub returns-in-End : goal.returns-in-End
returns-in-End c =
    omega (arith, prefix-at-none c.args.text.now c.loop-len.at (ap is_char (sym c.decode.ensures ∙ c.in-End.is)))
