-- `placing::cuts::lead_len` meets its contract (rule 2).
use Rattle.std.proofs.Common.{lt-ltb, le-ltb}
use Rattle.basis.specs.Choice.{pick}
use Rattle.placing.specs.Leads.{lead_len}
use Rattle.placing.proofs.cuts.lead_len.Goals as goal

pub returns-then-a-lt128 : goal.returns-then-a-lt128
unfolding lead_len pick
returns-then-a-lt128 c =
    rw (lt-ltb _ _ c.if-a-lt128.true)

pub returns-then-a-lt224 : goal.returns-then-a-lt224
unfolding lead_len pick
returns-then-a-lt224 c =
    rw (le-ltb _ _ c.if-a-lt128.false, lt-ltb _ _ c.if-a-lt224.true)

pub returns-then-a-lt240 : goal.returns-then-a-lt240
unfolding lead_len pick
returns-then-a-lt240 c =
    rw (le-ltb _ _ c.if-a-lt128.false, le-ltb _ _ c.if-a-lt224.false, lt-ltb _ _ c.if-a-lt240.true)

pub returns : goal.returns
unfolding lead_len pick
returns c =
    rw (le-ltb _ _ c.if-a-lt128.false, le-ltb _ _ c.if-a-lt224.false, le-ltb _ _ c.if-a-lt240.false)
