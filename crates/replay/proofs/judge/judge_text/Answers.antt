-- `replay::judge::judge_text` meets its contract.
use Rattle.std.proofs.Common.{subst, length}
use Rattle.meaning.specs.declared.settings.Settings.{Settings}
use Rattle.replay.specs.Record.{Laid}
use Rattle.replay.specs.Shape.{part}
use Rattle.replay.proofs.HoldLaws.{holds}
use Rattle.replay.proofs.judge.judge_text.Goals as goal

pub returns : goal.returns
returns c =
    let laid = c.layout_agrees.ensures (c.if-not-layout_agrees.false) in
    holds c.args.numbers.now c.args.c c.requires.parts c.args.text.now c.requires.text_value (c.tokens_agree.ensures (c.if-not-tokens_agree.false))
    (subst (λ (s : Settings). Laid s c.args.text.now (part c.args.numbers.now c.args.c.lines c.args.c.events) (part c.args.numbers.now c.args.c.events (length c.args.numbers.now))) c.settings-s.ensures laid)
