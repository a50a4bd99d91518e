-- `table::moving::move_lines` meets its contract (laying again).
use Rattle.std.proofs.Common.{ℕ, sym, subst, ap, ◌∙◌}
use Rattle.table.specs.Moving.{Movable, lines_moved}
use Rattle.table.proofs.moving.move_lines.Goals as goal

pub move_still-requires : goal.move_still-requires
move_still-requires c =
    subst (λ (k : ℕ). Movable c.args.table.now k c.args.to c.args.count c.args.shift) c.if-from-to.true c.requires

pub returns-then-from-to : goal.returns-then-from-to
returns-then-from-to c =
    c.move_still.ensures ∙ ap (λ (k : ℕ). lines_moved c.args.table.now k c.args.to c.args.count c.args.shift) (sym c.if-from-to.true)
