-- `prints::tokens::draw_token` meets its contract (rule 8, rule 9, rule 13).
use Rattle.std.proofs.Common.{sym, ap, ◌∙◌, arith}
use Rattle.steps.specs.BreakLaws.{break_end}
use Rattle.ink.specs.Sheet.{sheet, drawn_on}
use Rattle.prints.specs.TokenEvents.{line-drawn, return_drawn, step_grew, grown-narrow, run-events, hyphen-events}
use Rattle.prints.proofs.tokens.draw_token.Goals as goal

pub growth-requires : goal.growth-requires
growth-requires c =
    step_grew c.args.s c.args.p _ c.args.at c.args.x c.args.m c.args.stepped c.requires.0.ready c.requires.0.stepped

pub draw_run-requires : goal.draw_run-requires
draw_run-requires c =
    let w = grown-narrow c.args.s c.args.p _ c.args.at c.args.x c.args.m c.args.stepped c.requires.0.ready c.requires.0.stepped c.growth.result c.growth.ensures in
    (c.requires.0.pen, w, c.requires.0.ready.short, omega (arith, c.requires.0.ready.stands.longer, c.requires.0.ready.stands.within, c.requires.0.ready.short), omega (arith, c.requires.0.ready.stands.within, c.requires.0.ready.short))

pub growth-requires-in-Break : goal.growth-requires-in-Break
growth-requires-in-Break c =
    step_grew c.args.s c.args.p _ c.args.at c.args.x c.args.m c.args.stepped c.requires.0.ready c.requires.0.stepped

pub draw_print-requires : goal.draw_print-requires
draw_print-requires c =
    let w = grown-narrow c.args.s c.args.p _ c.args.at c.args.x c.args.m c.args.stepped c.requires.0.ready c.requires.0.stepped c.growth-in-Break.result c.growth-in-Break.ensures in
    let e = break_end c.args.text.now c.args.at c.args.x c.requires.0.ready.stands c.in-Break.is in
    (c.requires.0.pen, w, omega (arith, e, c.requires.0.ready.stands.within, c.requires.0.ready.short), omega (arith, e, c.requires.0.ready.stands.within, c.requires.0.ready.short))

pub returns-in-Whitespace : goal.returns-in-Whitespace
returns-in-Whitespace c =
    c.draw_run.ensures
    ∙ run-events c.args.s c.args.p c.args.text.now c.args.at c.args.x c.args.m c.args.stepped c.requires.0.ready c.requires.0.stepped c.growth.result c.growth.ensures (sheet c.args.events.now c.args.pen) c.in-Whitespace.is

pub returns-in-Break : goal.returns-in-Break
returns-in-Break c =
    c.draw_print.ensures
    ∙ hyphen-events c.args.s c.args.p c.args.text.now c.args.at c.args.x c.args.m c.args.stepped c.requires.0.ready c.requires.0.stepped c.growth-in-Break.result c.growth-in-Break.ensures (sheet c.args.events.now c.args.pen) c.in-Break.is

pub returns-in-NewLine : goal.returns-in-NewLine
returns-in-NewLine c =
    c.put_one.ensures
    ∙ ap (drawn_on (sheet c.args.events.now c.args.pen)) (sym (line-drawn c.args.s c.args.p c.args.text.now c.args.at c.args.x c.in-NewLine.is))

pub returns-in-CarriageReturn : goal.returns-in-CarriageReturn
returns-in-CarriageReturn c =
    c.put_one-in-CarriageReturn.ensures
    ∙ ap (drawn_on (sheet c.args.events.now c.args.pen)) (sym (return_drawn c.args.s c.args.p c.args.text.now c.args.at c.args.x c.in-CarriageReturn.is))
