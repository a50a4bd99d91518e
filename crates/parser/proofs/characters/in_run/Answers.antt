-- `parser::characters::in_run` meets its contract (rule 1, rule 2).
use Rattle.std.proofs.Common.{sym, ap, ◌∙◌}
use Rattle.meaning.specs.Characters.{in_run}
use Rattle.parser.specs.GlueLaws.{glue-word}
use Rattle.parser.specs.CharacterLaws.{zero-width, high-run}
use Rattle.parser.proofs.characters.in_run.Goals as goal

pub returns-then-c-eq8203 : goal.returns-then-c-eq8203
returns-then-c-eq8203 c =
    sym (ap in_run c.if-c-eq8203.true ∙ zero-width.1)

pub returns-then-is_glue : goal.returns-then-is_glue
returns-then-is_glue c =
    sym (glue-word _ (sym c.is_glue.ensures ∙ c.if-is_glue.true)).1

pub returns : goal.returns
returns c =
    c.is_white_space.ensures
    ∙ sym (high-run _ c.if-c-lt128.false c.if-c-eq8203.false (sym c.is_glue.ensures ∙ c.if-is_glue.false))
