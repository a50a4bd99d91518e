-- `parser::later::token_left` meets its contract (rule 2, rule 8).
use Rattle.std.proofs.Common.{sym, ap, ◌∙◌, arith}
use Rattle.std.specs.Prelude.{Some}
use Rattle.parser.proofs.ShorterLaws.{Less, less-between}
use Rattle.parser.proofs.later.token_left.Goals as goal

pub without-requires : goal.without-requires
without-requires c =
    let l = (let stands_here : Less c.args.text.now c.args.at c.args.x c.args.chars 0 = less-between _ c.args.x c.requires.text_len_bound.2 (omega (arith, c.if-x-ne0.false)) c.args.from _ _ c.requires.text_len_bound.1 c.requires.between (omega (arith, c.if-x-at.false)) in stands_here) in (l.some, l.glued)

pub returns : goal.returns
returns c =
    ap Some c.without.ensures ∙ sym ((let stands_here : Less c.args.text.now c.args.at c.args.x c.args.chars 0 = less-between _ c.args.x c.requires.text_len_bound.2 (omega (arith, c.if-x-ne0.false)) c.args.from _ _ c.requires.text_len_bound.1 c.requires.between (omega (arith, c.if-x-at.false)) in stands_here)).stands
