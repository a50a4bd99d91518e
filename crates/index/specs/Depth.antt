-- How deep the search goes: of 65,536 lines, the most that a table has, sixteen halvings leave one, so that there are at most seventeen
-- calls of `last_under` within one another. scripts/footprint counts on it.
-- Assumes nothing.
use Rattle.std.specs.Prelude.{ℕ, zero, suc, ◌+◌, ◌-◌, ◌/◌, ◌≤◌, ◌<◌}
use Rattle.std.proofs.Common.{arith}

-- How many of n lines the longer half has.
abbrev pub longer_half : ℕ → ℕ
longer_half n = n - n / 2

-- Whichever half the search goes on in, it has no more.
pub each_half : (low high : ℕ) → low < high
    → (high - (low + (high - low) / 2) ≤ longer_half (high - low)) × (low + (high - low) / 2 - low ≤ longer_half (high - low))
each_half low high h = (omega arith, omega arith)

-- How many lines are left of n, at most, to a call that stands so deep in others.
abbrev pub left_at : (depth n : ℕ) → ℕ
left_at zero n = n
left_at (suc depth) n = left_at depth (longer_half n)

fewer : (depth m n : ℕ) → m ≤ n → left_at depth m ≤ left_at depth n
fewer zero m n h = h
fewer (suc depth) m n h = fewer depth (longer_half m) (longer_half n) (omega arith)

-- The search ends at one line.
pub depth_limit : (n : ℕ) → n ≤ 65536 → left_at 16 n ≤ 1
depth_limit n h = fewer 16 n 65536 h
