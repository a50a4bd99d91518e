-- `steps::first::first_token` meets its contract (rule 8, rule 9).
use Rattle.std.proofs.Common.{ap, ◌∙◌, arith}
use Rattle.std.specs.Prelude.{Some}
use Rattle.steps.specs.Knowing.{between_none}
use Rattle.steps.proofs.RestLaws.{rest-inside, rest_read, ender-at-most, none_read}
use Rattle.steps.proofs.first.first_token.Goals as goal

pub returns-then-known-at : goal.returns-then-known-at
returns-then-known-at c =
    c.token_at.ensures ∙ none_read _ c.args.at c.args.rest c.if-rest-eq0.true

pub known_token-requires : goal.known_token-requires
known_token-requires c =
    (c.requires.0, c.requires.2, between_none _ c.args.at)

pub returns-then-rest-eq0 : goal.returns-then-rest-eq0
returns-then-rest-eq0 c =
    c.known_token.ensures ∙ none_read _ c.args.at c.args.rest c.if-rest-eq0.true

pub rest_lexeme-requires : goal.rest_lexeme-requires
rest_lexeme-requires c =
    (omega (arith, rest-inside _ c.args.at c.args.rest c.requires.1 c.if-rest-eq0.false, c.requires.0), ender-at-most _ c.args.rest.end.0 _ c.ender_at.ensures)

pub returns : goal.returns
returns c =
    ap Some c.rest_lexeme.ensures ∙ rest_read _ c.args.at c.args.rest c.requires.1 c.if-rest-eq0.false _ c.ender_at.ensures
