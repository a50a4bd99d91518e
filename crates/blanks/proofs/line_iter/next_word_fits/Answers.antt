use Rattle.std.proofs.Common.{true, ◌≡◌, sym, ◌∙◌, arith}
use Rattle.meaning.specs.Cursor.{fits_in}
use Rattle.moves.specs.FineLaws.{times_bound, fits-room, advance_fine, spaces_fine}
use Rattle.steps.specs.Lexed.{Lexes, lexes, lexes-end}
use Rattle.steps.specs.FitsLaws.{look_zero, look_word, look_break, look_halts, look_white, look_full, look_end}
use Rattle.steps.specs.KindLaws.{white_of, halts_of}
use Rattle.blanks.proofs.line_iter.next_word_fits.Goals as goal

pub loop-x-init : goal.loop-x-init
loop-x-init c =
    (look_zero _, c.requires.0, c.requires.1, c.requires.4)

pub returns-in_default : goal.returns-in_default
returns-in_default c =
    c.look_at.ensures
    ∙ look_end _ c.loop-x.pos c.args.glyph c.loop-x.cur c.loop-x.left c.loop-x.reach
    (lexes-end _ _ (sym c.token_at-token.ensures ∙ c.in_default.is)) _ c.max.ensures
    ∙ c.loop-x.invariant.0

pub overflow_mul-x : goal.overflow_mul-x
overflow_mul-x c =
    let l = (lexes _ _ _ (sym c.token_at-token.ensures ∙ c.in-Some.is)) in
    record { fits = omega (arith, times_bound c.in-Some.x.chars.0 c.args.glyph l.few c.requires.3, l.within, c.requires.2) }

pub returns-in-Word : goal.returns-in-Word
returns-in-Word c =
    c.look_at-in-Word.ensures
    ∙ look_word _ _ _ (lexes _ _ _ (sym c.token_at-token.ensures ∙ c.in-Some.is)) c.args.glyph c.loop-x.cur c.loop-x.left c.loop-x.reach _ c.max-reach.ensures c.in-Word.is _ c.fits.ensures
    ∙ c.loop-x.invariant.0

pub returns-in-Break : goal.returns-in-Break
returns-in-Break c =
    c.look_at-in-Break.ensures
    ∙ look_break _ _ _ (lexes _ _ _ (sym c.token_at-token.ensures ∙ c.in-Some.is)) c.args.glyph c.loop-x.cur c.loop-x.left c.loop-x.reach _ c.max-reach.ensures c.in-Break.is _ c.fits-in-Break.ensures
    ∙ c.loop-x.invariant.0

pub white_width-w-requires : goal.white_width-w-requires
white_width-w-requires c =
    let l = (lexes _ _ _ (sym c.token_at-token.ensures ∙ c.in-Some.is)) in
    (c.loop-x.invariant.1, c.loop-x.invariant.2, omega (arith, l.fewer, l.few, l.within, c.requires.2))

pub returns-then-not-fits : goal.returns-then-not-fits
returns-then-not-fits c =
    c.look_at-then-not-fits.ensures
    ∙ look_full _ _ _ (lexes _ _ _ (sym c.token_at-token.ensures ∙ c.in-Some.is)) c.args.glyph c.loop-x.cur c.loop-x.left c.loop-x.reach _ c.max-reach.ensures (white_of c.in-Some.x.kind c.in-Tab.in-Tab-own.keys3) _ c.white_width-w.ensures
    (sym c.fits-in-Tab.ensures ∙ c.if-not-fits.true)
    ∙ c.loop-x.invariant.0

pub advanced-cur-requires : goal.advanced-cur-requires
advanced-cur-requires c =
    omega (arith, fits-room c.loop-x.cur c.white_width-w.result (sym c.fits-in-Tab.ensures ∙ c.if-not-fits.false), c.loop-x.invariant.1)

pub loop-x-smaller : goal.loop-x-smaller
loop-x-smaller c =
    let l = (lexes _ _ _ (sym c.token_at-token.ensures ∙ c.in-Some.is)) in
    omega (arith, l.longer, l.within)

pub loop-x-preserved : goal.loop-x-preserved
loop-x-preserved c =
    let l = (lexes _ _ _ (sym c.token_at-token.ensures ∙ c.in-Some.is)) in (
      look_white _ _ _ l c.args.glyph c.loop-x.cur c.loop-x.left c.loop-x.reach _ c.max-reach.ensures (white_of c.in-Some.x.kind c.in-Tab.in-Tab-own.keys3) _ c.white_width-w.ensures
          (sym c.fits-in-Tab.ensures ∙ c.if-not-fits.false) _ _ c.advanced-cur.ensures c.spaces_after-left.ensures ∙ c.loop-x.invariant.0,
      rw c.advanced-cur.ensures (advance_fine c.loop-x.cur c.white_width-w.result c.loop-x.invariant.1 (sym c.fits-in-Tab.ensures ∙ c.if-not-fits.false)),
      rw c.spaces_after-left.ensures (spaces_fine c.loop-x.left c.in-Some.x.count.0 c.loop-x.invariant.2),
      l.within,
    )

pub returns-in_default-kind : goal.returns-in_default-kind
returns-in_default-kind c =
    c.look_at-in_default-kind.ensures
    ∙ look_halts _ _ _ (lexes _ _ _ (sym c.token_at-token.ensures ∙ c.in-Some.is)) c.args.glyph c.loop-x.cur c.loop-x.left c.loop-x.reach _ c.max-reach.ensures (halts_of c.in-Some.x.kind c.in_default-kind.in_default-kind-own.keys4)
    ∙ c.loop-x.invariant.0
