-- `tokenizer::tokenize::fill` meets its contract (rule 3, refusal 3, refusal 4, refusal 8).
use Rattle.std.proofs.Common.{◌∙◌, arith}
use Rattle.tokenizer.proofs.TokenizeLaws.{tokens-few, no_room, room}
use Rattle.tokenizer.proofs.tokenize.fill.Goals as goal

pub write_tokens-requires : goal.write_tokens-requires
write_tokens-requires c =
    omega (arith, tokens-few c.args.text.now)

pub returns-then-text-room : goal.returns-then-text-room
returns-then-text-room c =
    let r = room c.args.text.now c.args.buffer.now _ c.write_tokens.ensures.value (omega (arith, tokens-few c.args.text.now)) in record { value = r.0; buffer_after = c.write_tokens.ensures.buffer_after ∙ r.1 }

pub returns-then-room-needed : goal.returns-then-room-needed
returns-then-room-needed c =
    record { value = (no_room _ _ _ c.count_tokens-needed.ensures c.if-room-needed.true).0; buffer_after = (no_room _ _ _ c.count_tokens-needed.ensures c.if-room-needed.true).1 }

pub returns : goal.returns
returns c =
    let r = room c.args.text.now c.args.buffer.now _ c.write_tokens-2.ensures.value (omega (arith, c.count_tokens-needed.ensures)) in record { value = r.0; buffer_after = c.write_tokens-2.ensures.buffer_after ∙ r.1 }
