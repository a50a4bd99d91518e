-- `parser::characters::ascii_in_run` meets its contract (rule 1, rule 2).
use Rattle.basis.specs.Choice.{pick}
use Rattle.basis.specs.Order.{tests}
use Rattle.parser.specs.CharacterLaws.{ascii_run_lem}
use Rattle.parser.proofs.characters.ascii_in_run.Goals as goal

pub returns-then-c-eq32 : goal.returns-then-c-eq32
unfolding pick
returns-then-c-eq32 c =
    rw (ascii_run_lem c.args.c c.requires) (search tests)

pub returns-then-c-lt11 : goal.returns-then-c-lt11
unfolding pick
returns-then-c-lt11 c =
    rw (ascii_run_lem c.args.c c.requires) (search tests)

pub returns : goal.returns
unfolding pick
returns c =
    rw (ascii_run_lem c.args.c c.requires) (search tests)
