-- `parser::glue::glue_len` meets its contract (rule 2, rule 8).
use Rattle.std.proofs.Common.{sym, ◌∙◌, arith}
use Rattle.parser.specs.LetterLaws.{glues-here, glues-long}
use Rattle.parser.proofs.glue.glue_len.Goals as goal

-- Two bytes.
pub returns-then-b : goal.returns-then-b
returns-then-b c =
    glues-here _ _ (omega arith) (omega arith) (omega arith)

-- Three bytes.
pub returns-then-is_long_glue : goal.returns-then-is_long_glue
returns-then-is_long_glue c =
    glues-long _ _ (omega arith) (sym c.is_long_glue.ensures ∙ c.if-is_long_glue.true)
