-- `parser::glue::glue_of` meets its contract (rule 2, rule 8).
use Rattle.std.proofs.Common.{sym, ◌∙◌}
use Rattle.parser.specs.GlueLaws.{glue-some, glue-none}
use Rattle.parser.proofs.glue.glue_of.Goals as goal

pub returns-then-is_glue : goal.returns-then-is_glue
returns-then-is_glue c =
    sym (glue-some _ (sym c.is_glue.ensures ∙ c.if-is_glue.true))

pub returns-else-is_glue : goal.returns-else-is_glue
returns-else-is_glue c =
    sym (glue-none _ (sym c.is_glue.ensures ∙ c.if-is_glue.false))
