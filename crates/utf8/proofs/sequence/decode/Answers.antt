-- `utf8::sequence::decode` meets its contract: by the length that the lead byte says, each answer is the law of that length.
-- Refusal 4.
use Rattle.std.proofs.Common.{◌∙◌, ◌<◌, arith, get_or}
use Rattle.utf8.proofs.Reading.{lead-four, at-end, at_cut, at_one, at-two, at-three, at-four, at_none}
use Rattle.utf8.proofs.sequence.decode.Goals as goal

pub returns-then-text-at : goal.returns-then-text-at
returns-then-text-at c =
    at-end c.args.text.now c.args.at c.if-text-at.true

pub returns-then-text-at-2 : goal.returns-then-text-at-2
returns-then-text-at-2 c =
    at_cut c.args.text.now c.args.at c.if-text-at.false _ c.seq_len-n.ensures (omega arith)

pub overflow_cast-result : goal.overflow_cast-result
overflow_cast-result c =
    omega (arith, (let byte_here : get_or c.args.text.now c.args.at 0 < 256 = omega (arith, c.shared_slice_known-2-1.given c.args.at) in byte_here))

pub returns-then-n-eq1 : goal.returns-then-n-eq1
returns-then-n-eq1 c =
    at_one c.args.text.now c.args.at c.if-text-at.false _ c.seq_len-n.ensures ((let byte_here : get_or c.args.text.now c.args.at 0 < 256 = omega (arith, c.shared_slice_known-2-1.given c.args.at) in byte_here)) c.if-n-eq1.true

pub returns-then-n-eq2 : goal.returns-then-n-eq2
returns-then-n-eq2 c =
    c.two.ensures ∙ at-two c.args.text.now c.args.at c.if-text-at.false _ c.seq_len-n.ensures c.if-text-at-2.false c.if-n-eq2.true

pub returns-then-n-eq3 : goal.returns-then-n-eq3
returns-then-n-eq3 c =
    c.three.ensures ∙ at-three c.args.text.now c.args.at c.if-text-at.false _ c.seq_len-n.ensures c.if-text-at-2.false c.if-n-eq3.true

pub returns-then-n-eq4 : goal.returns-then-n-eq4
returns-then-n-eq4 c =
    c.four.ensures ∙ at-four c.args.text.now c.args.at c.if-text-at.false _ c.seq_len-n.ensures c.if-text-at-2.false c.if-n-eq4.true

pub returns : goal.returns
returns c =
    at_none c.args.text.now c.args.at c.if-text-at.false _ c.seq_len-n.ensures (omega (arith, lead-four (get_or c.args.text.now c.args.at 0), c.seq_len-n.ensures))
