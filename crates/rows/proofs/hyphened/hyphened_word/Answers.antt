-- `rows::hyphened::hyphened_word` meets its contract (rule 8).
use Rattle.std.proofs.Common.{◌+◌, ◌≡◌, sym, ap, ◌∙◌, arith}
use Rattle.std.specs.Prelude.{Some}
use Rattle.meaning.specs.Line.{noted, unmeasured}
use Rattle.meaning.specs.Tokens.{tokens}
use Rattle.meaning.specs.declared.line.EventKind.TheVariants.{Printed}
use Rattle.meaning.specs.declared.line.LineEnd.TheVariants.{LineBreak}
use Rattle.meaning.specs.declared.line.Measure.{Measure}
use Rattle.parser.specs.Lexing.{chars_from, lexed_at}
use Rattle.parser.specs.Marks.{Mark}
use Rattle.parser.specs.MarkLaws.{mark-room}
use Rattle.steps.specs.Stopping.{ends_before}
use Rattle.strides.specs.OnwardLaws.{read-pending}
use Rattle.rows.proofs.HyphenLaws.{waits_ran, drops_ran}
use Rattle.rows.proofs.hyphened.hyphened_word.Goals as goal

pub overflow_add-at : goal.overflow_add-at
overflow_add-at c =
    omega (arith, mark-room _ _ 2 c.requires.hyphen, c.requires.starts.ready.short)

pub token_at-token-requires : goal.token_at-token-requires
token_at-token-requires c =
    c.requires.starts.ready.short

pub noted_print-m-requires : goal.noted_print-m-requires
noted_print-m-requires c =
    omega (arith, c.requires.starts.ready.settings.1, ap (λ (m : Measure). m.pen.0) c.nothing_measured.ensures)

pub overflow_add-x : goal.overflow_add-x
overflow_add-x c =
    let h = (read-pending _ _ _ ((let word_here : lexed_at (c.args.at + 2) (tokens (chars_from c.args.text.now (c.args.at + 2))) ≡ Some c.in-Some.x = sym c.token_at-token.ensures ∙ c.in-Some.is in word_here))).stands in
    record { fits = omega (arith, h.within, c.requires.starts.ready.short) }

pub overflow_cast-next : goal.overflow_cast-next
overflow_cast-next c =
    record { fits = omega (arith, mark-room _ _ 2 c.requires.hyphen, c.requires.starts.ready.short) }

pub overflow_add-next : goal.overflow_add-next
overflow_add-next c =
    record { fits = omega (arith, mark-room _ _ 2 c.requires.hyphen, c.requires.starts.ready.short) }

pub returns-then-s-eq1 : goal.returns-then-s-eq1
returns-then-s-eq1 c =
    c.ends_before-e.ensures ∙ ap (λ (m : Measure). ends_before LineBreak m (c.args.at + 2) 0 c.max-reach.result) ((let measure_here : c.noted_print-m.result ≡ noted Printed (unmeasured.pen.0 + c.args.s.glyph.0) (unmeasured.spaces.0 + 0) unmeasured = c.noted_print-m.ensures ∙ ap (λ (m : Measure). noted Printed (m.pen.0 + c.args.s.glyph.0) (m.spaces.0 + 0) m) c.nothing_measured.ensures in measure_here))
    ∙ waits_ran c.requires _ ((let word_here : lexed_at (c.args.at + 2) (tokens (chars_from c.args.text.now (c.args.at + 2))) ≡ Some c.in-Some.x = sym c.token_at-token.ensures ∙ c.in-Some.is in word_here)) c.in-Word.is ((let behind_here : Mark c.args.text.now c.in-Some.x.end.0 2 = c.hyphen_at.ensures c.if-not-hyphen_at.false in behind_here)) c.if-s-eq1.true c.max-reach.result c.max-reach.ensures

pub returns : goal.returns
returns c =
    c.ends_before-e-2.ensures ∙ ap (λ (m : Measure). ends_before LineBreak m c.in-Some.x.end.0 c.in-Some.x.chars.0 c.max-reach.result) ((let measure_here : c.noted_print-m.result ≡ noted Printed (unmeasured.pen.0 + c.args.s.glyph.0) (unmeasured.spaces.0 + 0) unmeasured = c.noted_print-m.ensures ∙ ap (λ (m : Measure). noted Printed (m.pen.0 + c.args.s.glyph.0) (m.spaces.0 + 0) m) c.nothing_measured.ensures in measure_here))
    ∙ drops_ran c.requires c.in-Some.x ((let word_here : lexed_at (c.args.at + 2) (tokens (chars_from c.args.text.now (c.args.at + 2))) ≡ Some c.in-Some.x = sym c.token_at-token.ensures ∙ c.in-Some.is in word_here)) c.in-Word.is ((let behind_here : Mark c.args.text.now c.in-Some.x.end.0 2 = c.hyphen_at.ensures c.if-not-hyphen_at.false in behind_here)) c.if-s-eq1.false c.max-reach.result c.max-reach.ensures
