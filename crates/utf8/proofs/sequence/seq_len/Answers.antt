-- `utf8::sequence::seq_len` meets its contract: what the code makes of the run of one bits is the length, at each of the 256
-- bytes.
-- Refusal 4.
use Rattle.std.proofs.Common.{◌≡◌, ap, sym, ◌∙◌, ℕ, ◌-◌, ◌<◌, arith, eqb, ltb, ne_eqb, lt-ltb, le-ltb}
use lib.Count.{count_leading_zeros}
use Rattle.basis.specs.Choice.{pick}
use Rattle.basis.specs.Tables.{same-below}
use Rattle.utf8.specs.Decoding.{seq_len}
use Rattle.utf8.proofs.sequence.seq_len.Goals as goal

-- What the code makes of a run of so many one bits.
abbrev ofRun : ℕ → ℕ
ofRun n = pick (eqb n 0) 1 (pick (eqb n 1) 0 (pick (ltb 4 n) 0 n))

run_is : (a : ℕ) → a < 256 → ofRun (count_leading_zeros 8 (255 - a)) ≡ seq_len a
unfolding count_leading_zeros seq_len pick
run_is a h = same-below (λ k. ofRun (count_leading_zeros 8 (255 - k))) seq_len 256 tt a h

pub returns-then-ones-eq0 : goal.returns-then-ones-eq0
unfolding pick
returns-then-ones-eq0 c =
    sym (ap ofRun c.if-ones-eq0.true) ∙ run_is c.args.lead c.ranges.lead.fits

pub returns-then-ones-eq1 : goal.returns-then-ones-eq1
unfolding pick
returns-then-ones-eq1 c =
    sym (ap ofRun c.if-ones-eq1.true) ∙ run_is c.args.lead c.ranges.lead.fits

pub returns-then-ones-gt4 : goal.returns-then-ones-gt4
unfolding pick
returns-then-ones-gt4 c =
    simp (ne_eqb _ _ c.if-ones-eq0.false, ne_eqb _ _ c.if-ones-eq1.false, lt-ltb 4 ((let run_here : ℕ = count_leading_zeros 8 (255 - c.args.lead) in run_here)) (omega arith)) at (run_is c.args.lead c.ranges.lead.fits)

pub returns : goal.returns
unfolding pick
returns c =
    simp (ne_eqb _ _ c.if-ones-eq0.false, ne_eqb _ _ c.if-ones-eq1.false, le-ltb 4 ((let run_here : ℕ = count_leading_zeros 8 (255 - c.args.lead) in run_here)) (omega arith)) at (run_is c.args.lead c.ranges.lead.fits)
