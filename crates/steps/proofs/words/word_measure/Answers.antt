-- `steps::words::word_measure` meets its contract (rule 7, rule 8).
use Rattle.std.proofs.Common.{◌-◌, ◌*◌, ◌≤◌, arith}
use Rattle.steps.specs.WordLaws.{letters-small}
use Rattle.moves.specs.FineLaws.{width-bound}
use Rattle.steps.specs.Stopping.{word_measure}
use Rattle.steps.proofs.words.word_measure.Goals as goal

pub overflow_mul-letters : goal.overflow_mul-letters
overflow_mul-letters c =
    record { fits = omega (arith, (letters-small c.args.n.0 c.args.g.0 c.args.glyph.0 c.requires.2 c.requires.1)) }

pub overflow_add-pen : goal.overflow_add-pen
overflow_add-pen c =
    record { fits = omega (arith, (letters-small c.args.n.0 c.args.g.0 c.args.glyph.0 c.requires.2 c.requires.1)) }

pub overflow_add-pen-2 : goal.overflow_add-pen-2
overflow_add-pen-2 c =
    record { fits = omega (arith, (letters-small c.args.n.0 c.args.g.0 c.args.glyph.0 c.requires.2 c.requires.1), c.spaces_width.ensures, width-bound c.args.sp c.args.g.0 c.requires.0 (omega arith)) }

pub returns : goal.returns
unfolding word_measure
returns c =
    rw (c.printed_at.ensures, c.spaces_width.ensures)
