-- `parser::characters::in_word` meets its contract (rule 1, rule 2).
use Rattle.std.proofs.Common.{not, sym, ap, ◌∙◌}
use Rattle.meaning.specs.Characters.{in_word}
use Rattle.parser.specs.GlueLaws.{glue-word}
use Rattle.parser.specs.CharacterLaws.{soft_hyphen, zero-width, high_word}
use Rattle.parser.proofs.characters.in_word.Goals as goal

pub returns-then-c-eq173 : goal.returns-then-c-eq173
returns-then-c-eq173 c =
    sym (ap in_word c.if-c-eq173.true ∙ soft_hyphen.0)

pub returns-then-c-eq8203 : goal.returns-then-c-eq8203
returns-then-c-eq8203 c =
    sym (ap in_word c.if-c-eq8203.true ∙ zero-width.0)

pub returns-then-is_glue : goal.returns-then-is_glue
returns-then-is_glue c =
    sym (glue-word _ (sym c.is_glue.ensures ∙ c.if-is_glue.true)).0

pub returns : goal.returns
returns c =
    let e = sym c.is_glue.ensures ∙ c.if-is_glue.false in
    ap not c.is_white_space.ensures
    ∙ sym (high_word _ c.if-c-lt128.false c.if-c-eq8203.false e c.if-c-eq173.false)
