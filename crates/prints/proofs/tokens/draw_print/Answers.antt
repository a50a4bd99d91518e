-- `prints::tokens::draw_print` meets its contract (rule 8, rule 9, rule 13).
use Rattle.std.proofs.Common.{◌∙◌}
use Rattle.ink.specs.Sheet.{sheet}
use Rattle.prints.proofs.RunEvents.{print_hides, print_shows}
use Rattle.prints.proofs.tokens.draw_print.Goals as goal

pub returns-then-width-eq0 : goal.returns-then-width-eq0
returns-then-width-eq0 c =
    print_hides (sheet c.args.events.now c.args.pen) c.args.at c.args.to c.args.g c.if-width-eq0.true

pub returns : goal.returns
returns c =
    c.put_one.ensures ∙ print_shows (sheet c.args.events.now c.args.pen) c.args.at c.args.to c.args.g c.if-width-eq0.false
