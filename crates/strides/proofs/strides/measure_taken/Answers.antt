-- `strides::strides::measure_taken` meets its contract (rule 8).
use Rattle.std.proofs.Common.{ap, ◌∙◌, arith}
use Rattle.meaning.specs.declared.line.Measure.{Measure}
use Rattle.steps.specs.Stopping.{word_measure}
use Rattle.strides.proofs.strides.measure_taken.Goals as goal

pub overflow_add-pen : goal.overflow_add-pen
overflow_add-pen c =
    record { fits = omega (arith, c.requires.pen) }

pub overflow_add-spaces : goal.overflow_add-spaces
overflow_add-spaces c =
    record { fits = omega (arith, c.requires.count) }

pub word_measure-requires : goal.word_measure-requires
word_measure-requires c =
    (c.requires.spaces, c.requires.glyph, c.requires.many, c.requires.fewer, rw c.printed_at-spaced.ensures c.requires.pen, rw c.printed_at-spaced.ensures c.requires.count)

pub returns : goal.returns
returns c =
    c.word_measure.ensures
    ∙ ap (λ (v : Measure). word_measure c.args.s.glyph.0 c.args.t.left v c.args.t.word.chars.0 c.args.t.word.weight.0) c.printed_at-spaced.ensures
