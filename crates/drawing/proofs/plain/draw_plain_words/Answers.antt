use Rattle.drawing.proofs.PlainEvents.{first-drawn, turn-first, turn_last, next-put, turn-next}
use Rattle.drawing.proofs.plain.draw_plain_words.Goals as goal

pub loop-to-init : goal.loop-to-init
loop-to-init c =
    turn-first c.requires.1 (first-drawn c.requires.1 c.requires.0 c.word_end-first.ensures c.args.events.now _ _ c.put_one-pen.ensures) c.word_end-first.ensures

pub put_one-pen-requires-in-loop-to : goal.put_one-pen-requires-in-loop-to
put_one-pen-requires-in-loop-to c =
    next-put c.requires.1 c.loop-to.invariant c.loop-to-test.true c.word_end-next.ensures _ _ c.put_one-spaced.ensures

pub loop-to-preserved : goal.loop-to-preserved
loop-to-preserved c =
    turn-next c.requires.1 c.loop-to.invariant c.loop-to-test.true c.word_end-next.ensures _ _ c.put_one-spaced.ensures _ _ c.put_one-pen-in-loop-to.ensures

pub returns : goal.returns
returns c =
    turn_last c.requires.1 (first-drawn c.requires.1 c.requires.0 c.word_end-first.ensures c.args.events.now _ _ c.put_one-pen.ensures) c.loop-to.invariant c.loop-to-test.false
