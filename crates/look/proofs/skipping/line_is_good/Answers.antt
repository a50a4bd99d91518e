-- `table::skipping::line_is_good` meets its contract (refusal 5).
use Rattle.std.proofs.Common.{◌+◌, Bool, ◌&&◌, leb, get_or, sym, ap, ◌∙◌}
use Rattle.look.proofs.SkipTurns.{all-good}
use Rattle.look.proofs.skipping.line_is_good.Goals as goal

pub returns : goal.returns
returns c e =
    all-good c.args.table.now c.args.at c.args.bytes c.args.most c.requires.2
    (sym c.start_fits.ensures ∙ c.if-not-start_fits.false)
    (sym c.rest_stands.ensures ∙ c.if-not-rest_stands.false)
    (sym c.count_fits.ensures ∙ c.if-not-count_fits.false)
    (ap (λ (b : Bool). b && leb (get_or c.args.table.now (c.args.at + 9) 0) c.args.most) (sym c.ending_good.ensures) ∙ e)
