-- `table::in_step::skip_in_step` meets its contract (refusal 5).
use Rattle.std.proofs.Common.{◌≡◌, ℕ, ◌+◌, ◌-◌, sym, subst, arith}
use Rattle.basis.specs.Order.{by_lt}
use Rattle.meaning.specs.Table.{entry_numbers}
use Rattle.look.specs.Skipping.{PlainLines}
use Rattle.look.proofs.PlainTurns.{lines_none}
use Rattle.look.proofs.StepTurns.{steps_plain}
use Rattle.look.proofs.in_step.skip_in_step.Goals as goal

pub returns : goal.returns
returns c =
    let place : c.args.from - entry_numbers + entry_numbers ≡ c.args.from = omega (arith, c.requires.0) in
    by_lt c.pass_blocks-at.result c.args.from
    (λ h. let e : c.max.result ≡ c.args.from = omega (arith, c.max.ensures) in
    subst (PlainLines c.args.table.now c.args.last c.args.most c.args.from) (sym e) (lines_none _ _ _))
    (λ h. let e : c.max.result ≡ c.pass_blocks-at.result = omega (arith, c.max.ensures) in
    subst (PlainLines c.args.table.now c.args.last c.args.most c.args.from) (sym e)
    (subst (λ (x : ℕ). PlainLines c.args.table.now c.args.last c.args.most x c.pass_blocks-at.result) place
    (steps_plain c.args.table.now c.args.last _ c.args.most (c.args.from - entry_numbers) _ (omega arith) (omega (arith, c.if-start-chars.false)) c.pass_blocks-at.ensures (omega (arith, place, h)))))
