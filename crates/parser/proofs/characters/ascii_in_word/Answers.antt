-- `parser::characters::ascii_in_word` meets its contract (rule 1, rule 2).
use Rattle.basis.specs.Choice.{pick}
use Rattle.basis.specs.Order.{tests}
use Rattle.parser.specs.CharacterLaws.{ascii_word_lem}
use Rattle.parser.proofs.characters.ascii_in_word.Goals as goal

pub returns-then-c-gt32 : goal.returns-then-c-gt32
unfolding pick
returns-then-c-gt32 c =
    rw (ascii_word_lem c.args.c c.requires) (search tests)

pub returns-then-c-eq32 : goal.returns-then-c-eq32
unfolding pick
returns-then-c-eq32 c =
    rw (ascii_word_lem c.args.c c.requires) (search tests)

pub returns-then-c-gt13 : goal.returns-then-c-gt13
unfolding pick
returns-then-c-gt13 c =
    rw (ascii_word_lem c.args.c c.requires) (search tests)

pub returns : goal.returns
unfolding pick
returns c =
    rw (ascii_word_lem c.args.c c.requires) (search tests)
