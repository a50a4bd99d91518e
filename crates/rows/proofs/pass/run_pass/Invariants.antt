-- `rows::pass::run_pass` meets its contract (rule 8, rule 9, rule 12).
use Rattle.std.proofs.Common.{◌-◌, ◌≡◌, length}
use Rattle.steps.specs.Stepping.{ran_from}
use Rattle.steps.specs.Unrolled.{farther}
use Rattle.steps.specs.Foreseeing.{ForeseesFrom}
use Rattle.steps.specs.Running.{PassReady}
use Rattle.rows.proofs.pass.run_pass.Given as goal

abbrev pub invariant-loop-known : goal.invariant-loop-known
invariant-loop-known l = (farther l.reach (ran_from l.s l.p l.text l.at l.held.chars.0 l.held.count.0 l.sum) ≡ ran_from l.s l.initial.p l.text l.initial.at l.initial.held.chars.0 l.initial.held.count.0 l.initial.sum)
    × PassReady l.s l.p l.text l.at l.held l.sum
    × ForeseesFrom l.s l.p l.text l.at l.held l.seen

abbrev pub decreases-loop-known : goal.decreases-loop-known
decreases-loop-known l = length l.text - l.at
