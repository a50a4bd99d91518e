-- `blanks::spaces::draws_space` meets its contract (rule 8, rule 9).
use Rattle.steps.specs.DrawLaws.{draws-front, draws-some, draws-known}
use Rattle.blanks.proofs.spaces.draws_space.Goals as goal

pub returns-then-q : goal.returns-then-q
returns-then-q c =
    draws-front _ _ _ _ c.if-q.true

pub returns-in-Some : goal.returns-in-Some
returns-in-Some c =
    draws-known _ _ _ _ c.args.seen _ c.if-q.false c.requires.4 c.in-Some.is

pub returns : goal.returns
returns c =
    draws-some _ _ _ _ _ c.if-q.false c.next_word_fits.ensures
