use Rattle.std.proofs.Common.{sym, ◌∙◌, arith}
use Rattle.moves.specs.FineLaws.{times_bound}
use Rattle.steps.specs.Lexed.{Lexes, lexes, lexes-end}
use borrow.Enum.Refused.{opened}
use Rattle.blanks.proofs.WidthLaws.{ahead-zero, ahead-word, ahead_break, ahead-ends, ahead-end, word-known}
use Rattle.steps.specs.KindLaws.{ends_of}
use Rattle.blanks.proofs.line_iter.next_word_width.Goals as goal

pub loop-x-init : goal.loop-x-init
loop-x-init c =
    (ahead-zero _, c.requires.2, omega arith)

pub overflow_mul-x : goal.overflow_mul-x
overflow_mul-x c =
    let l = (lexes _ _ _ (sym c.token_at-token.ensures ∙ c.in-Some.is)) in
    record { fits = omega (arith, times_bound c.in-Some.x.chars.0 c.args.glyph l.few c.requires.1, l.within, c.requires.0) }

pub with_width-width-requires : goal.with_width-width-requires
with_width-width-requires c =
    let l = (lexes _ _ _ (sym c.token_at-token.ensures ∙ c.in-Some.is)) in
    omega (arith, times_bound c.in-Some.x.chars.0 c.args.glyph l.few c.requires.1, l.within, c.requires.0, c.loop-x.invariant.2)

pub loop-x-smaller : goal.loop-x-smaller
loop-x-smaller c =
    let l = (lexes _ _ _ (sym c.token_at-token.ensures ∙ c.in-Some.is)) in
    omega (arith, l.longer, l.within)

pub loop-x-preserved : goal.loop-x-preserved
loop-x-preserved c =
    let l = (lexes _ _ _ (sym c.token_at-token.ensures ∙ c.in-Some.is)) in (
      ahead-word _ _ c.in-Some.x l c.args.glyph c.loop-x.width c.loop-x.reach c.in-Word.is _ _ c.with_width-width.ensures c.max-reach.ensures ∙ c.loop-x.invariant.0,
      l.within,
      rw c.with_width-width.ensures (word-known _ _ c.in-Some.x l c.args.glyph c.loop-x.width c.loop-x.reach c.requires.1 c.loop-x.invariant.2),
    )

pub with_width-last-requires : goal.with_width-last-requires
with_width-last-requires c =
    omega (arith, c.loop-x.invariant.1, c.loop-x.invariant.2, c.requires.0, c.requires.1)

pub returns-in_default : goal.returns-in_default
returns-in_default c =
    ahead-end _ c.loop-x.pos c.args.glyph c.loop-x.width c.loop-x.reach
    (lexes-end _ _ (sym c.token_at-token.ensures ∙ c.in_default.is)) _ c.max.ensures
    ∙ c.loop-x.invariant.0

pub returns-in-Break : goal.returns-in-Break
returns-in-Break c =
    ahead_break _ _ _ (lexes _ _ _ (sym c.token_at-token.ensures ∙ c.in-Some.is)) c.args.glyph c.loop-x.width c.loop-x.reach c.in-Break.is _ _ c.with_width-last.ensures c.max-reach.ensures
    ∙ c.loop-x.invariant.0

pub returns-in_default-kind : goal.returns-in_default-kind
returns-in_default-kind c =
    ahead-ends _ _ _ (lexes _ _ _ (sym c.token_at-token.ensures ∙ c.in-Some.is)) c.args.glyph c.loop-x.width c.loop-x.reach (ends_of c.in-Some.x.kind (opened c.in_default-kind.in_default-kind-own.keys3)) _ c.max-reach.ensures
    ∙ c.loop-x.invariant.0
