-- `table::plain::counted_on` meets its contract (refusal 5).
use Rattle.std.proofs.Common.{arith}
use Rattle.look.specs.Skipping.{Counted}
use Rattle.look.proofs.PlainTurns.{counts_fit, counts-between}
use Rattle.look.proofs.plain.counted_on.Goals as goal

pub returns : goal.returns
returns c e h =
    let starts = c.starting-told.ensures c.if-told-ne0.false in
    let more =
    counts-between c.wide.result c.wide-2.result c.wide-3.result c.wide-4.result _ _ c.wide.ensures.1 c.wide-2.ensures.1 c.wide-4.ensures.1
    (omega (arith, starts.past, c.wide-3.ensures.0, c.wide-4.ensures.0)) c.wrapping_sub_u64-fewer.ensures.value c.wrapping_sub_u64-fewer.type_inv
    c.wrapping_sub_u64.ensures.value c.wrapping_sub_u64.type_inv c.if-fewer-wrapping_sub_u64.false in
    let few : Counted c.args.table.now c.args.at = omega (arith, more.1, c.wide.ensures.0, c.wide-2.ensures.0, c.wide-3.ensures.0, c.wide-4.ensures.0) in
    (record { starts = starts; counted = counts_fit _ _ _ (omega (arith, more.0, c.wide.ensures.0, c.wide-2.ensures.0)) few }, few)
