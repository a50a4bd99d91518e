-- `placing::cuts::skip_chars` meets its contract. The invariant: what is left ends where all of it does (rule 2).
use Rattle.std.proofs.Common.{◌-◌}
use Rattle.placing.specs.Leads.{Skips}
use Rattle.placing.proofs.cuts.skip_chars.Given as goal

abbrev pub invariant-loop-passed : goal.invariant-loop-passed
invariant-loop-passed l = Skips l.text l.from l.count l.at (l.count - l._passed)
