-- `blanks::ahead::look_after` meets its contract (rule 8).
use Rattle.steps.specs.KindLaws.{white_of}
use Rattle.blanks.proofs.ahead.look_after.Goals as goal

pub look_beyond-requires : goal.look_beyond-requires
look_beyond-requires c =
    (c.requires, white_of c.args.x.kind c.in-Tab.in-Tab-own.keys1)
