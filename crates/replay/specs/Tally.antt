-- The recording's cases, counted.
-- Assumes nothing.
use Rattle.std.specs.Prelude.{ℕ, ◌+◌, ◌≤◌, Some}
use Rattle.std.specs.Option.{option_or}
use Rattle.std.proofs.Common.{arith}
use Rattle.replay.specs.declared.judge.Verdict.{Verdict}
use Rattle.replay.specs.declared.judge.Verdict.TheVariants as verdict
use Rattle.replay.specs.declared.tally.Tally.{Tally}

-- One more case; and one more that differs.
abbrev pub agreed_of : Tally → Tally
agreed_of t = record { cases = t.cases + 1; differ = t.differ; first = t.first }

abbrev pub differed_of : Tally → Tally
differed_of t = record { cases = t.cases + 1; differ = t.differ + 1; first = option_or t.first (Some (t.cases + 1)) }

abbrev pub counted_of : Tally → Verdict → Tally
counted_of t verdict.Comment = t
counted_of t verdict.Agrees = agreed_of t
counted_of t verdict.Differs = differed_of t

-- There are at most so many cases, and no more that differ.
pub record Sound (n : ℕ) (t : Tally) : Type 0 where
  pub few : t.cases ≤ n
  pub part : t.differ ≤ t.cases

-- So are they after a line more.
pub counted-sound : (n : ℕ) (t : Tally) (v : Verdict) → Sound n t → Sound (n + 1) (counted_of t v)
counted-sound n t verdict.Comment h = record { few = omega (arith, h.few); part = h.part }
counted-sound n t verdict.Agrees h = record { few = omega (arith, h.few); part = omega (arith, h.part) }
counted-sound n t verdict.Differs h = record { few = omega (arith, h.few); part = omega (arith, h.part) }
