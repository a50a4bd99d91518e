use Rattle.std.proofs.Common.{◌≡◌, refl, sym, subst, ℕ, ◌+◌, ◌-◌, arith}
use Rattle.placing.specs.Leads.{Skips, skip-more, skip-end}
use Rattle.placing.proofs.cuts.skip_chars.Goals as goal

pub loop-passed-init : goal.loop-passed-init
loop-passed-init c =
    let all_left : c.args.count - 0 ≡ c.args.count = omega arith in
    rw all_left (record { ends = refl; all = c.requires.1 })

pub bounds-text-at : goal.bounds-text-at
bounds-text-at c =
    (skip-more _ _ _ _ _ c.loop-passed.invariant (omega arith)).inside

pub overflow_add-at : goal.overflow_add-at
overflow_add-at c =
    omega (arith, (skip-more _ _ _ _ _ c.loop-passed.invariant (omega arith)).room, c.lead_len-at.ensures, c.requires.0)

pub loop-passed-preserved : goal.loop-passed-preserved
loop-passed-preserved c =
    let less : c.args.count - c.loop-passed._passed - 1 ≡ c.args.count - (c.loop-passed._passed + 1) = omega arith in
    let more = rw less at ((skip-more _ _ _ _ _ c.loop-passed.invariant (omega arith)).more) in
    subst (λ (k : ℕ). Skips c.args.text.now c.args.from c.args.count (c.loop-passed.at + k) (c.args.count - (c.loop-passed._passed + 1))) (sym c.lead_len-at.ensures) more

pub returns : goal.returns
returns c =
    skip-end _ _ _ _ _ c.loop-passed.invariant (omega arith) c.requires.1
