-- `heights::height::line_y` meets its contract (rule 11).
use Rattle.std.proofs.Common.{sym, ap, ◌∙◌, rules, to_z-of_z, w32, SFits}
use Rattle.std.specs.Prelude.{Ok, Some}
use Rattle.laws.specs.Asked.{asked}
use Rattle.heights.specs.Heights.{shown_at}
use Rattle.heights.specs.GoodHeight.{height-measures, no_line, y-answered, y-refused}
use Rattle.heights.proofs.height.line_y.Goals as goal

pub returns-in_err-check_height : goal.returns-in_err-check_height
returns-in_err-check_height c =
    asked _ c.from_residual.ensures.1
    ∙ y-refused c.args.s c.args.table.now c.args.lines _ c.args.line (sym c.check_height.ensures ∙ c.in_err-check_height.was)

pub returns-then-lines-line : goal.returns-then-lines-line
returns-then-lines-line c =
    no_line c.args.s c.args.table.now c.args.lines (sym c.check_height.ensures ∙ c.in_ok-check_height.was) c.args.line c.if-lines-line.true

pub shown_at-requires : goal.shown_at-requires
shown_at-requires c =
    height-measures c.args.s c.args.table.now c.args.lines (sym c.check_height.ensures ∙ c.in_ok-check_height.was)

pub returns : goal.returns
returns c =
    let f : SFits w32 c.y_of.result = search rules in
    ap (λ l. Ok (Some l)) (c.shown_at.ensures ∙ ap (shown_at c.args.s) (to_z-of_z f ∙ c.y_of.ensures))
    ∙ y-answered c.args.s c.args.table.now c.args.lines (sym c.check_height.ensures ∙ c.in_ok-check_height.was) c.args.line c.if-lines-line.false
