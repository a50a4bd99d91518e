-- `steps::first::known_token` meets its contract (rule 8, rule 9).
use Rattle.steps.specs.Knowing.{known-stands}
use Rattle.steps.proofs.first.known_token.Goals as goal

pub token_left-requires : goal.token_left-requires
token_left-requires c =
    record { text_len_bound = (c.requires.0, known-stands _ _ c.args.known c.in-Some.x c.requires.1 c.if-known-from.false c.in-Some.is c.in-Word.is, c.in-Word.is); between = c.requires.2 }
