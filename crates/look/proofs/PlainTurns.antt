-- Plain lines: the tests of one line by plain numbers, two of them read as one, and blocks of lines after others.
-- Assumes nothing.
use Rattle.std.proofs.Common.{◌≡◌, ℕ, ◌+◌, ◌-◌, ◌*◌, ◌%◌, ◌<◌, ◌≤◌, true, List, get_or, subst, arith, lt-ltb, le-leb}
use Rattle.basis.specs.Order.{by_lt}
use Rattle.meaning.specs.Table.{entry_numbers}
use Rattle.look.specs.OneLine.{count_fits}
use Rattle.look.specs.Skipping.{block_lines, block_numbers, span, soft_end, Paired, PlainEnd, Starts, Lines}
use Rattle.look.proofs.SkipTurns.{breaks-good}

-- ---- one line

pub counts_fit : (c s d : ℕ) → c < d → d ≤ s → count_fits c s d ≡ true
unfolding count_fits
counts_fit c s d a b = rw (lt-ltb c d a, le-leb d s b)

module _ (t : List ℕ) (at : ℕ) where
  -- No rest and an end type of 3, told by one number.
  pub soft_end_lem : (r : ℕ) → Paired t (at + 2) r → r ≡ soft_end → PlainEnd t at
  soft_end_lem r p e =
      let three : get_or t (at + 2 + 1) 0 ≡ 3 = omega (arith, p.both, p.low) in
      let place : at + 2 + 1 ≡ at + 3 = omega arith in
      record {
        none = omega (arith, p.both, p.low);
        ending = breaks-good (get_or t (at + 3) 0) (subst (λ (i : ℕ). get_or t i 0 ≡ 3) place three);
      }

  -- What the tests of a line's start say: a start that is at most a number of 32 bits has no rest beside it.
  pub starts-on : (most start reached from : ℕ) → Paired t at start → reached ≡ get_or t (at - entry_numbers + 9) 0 → reached < span
      → start ≤ reached → from ≡ get_or t (at - entry_numbers) 0 → from < start → get_or t (at + 9) 0 ≤ most
      → Starts t at most
  starts-on most start reached from p q b w f l o =
      record { past = omega (arith, p.both); within = omega (arith, p.both); restless = omega (arith, p.both); low = o }

-- As many characters more as bytes, or fewer: one test of how many there are fewer before the line before, modulo 2^64.
pub counts-between : (c0 c1 s0 s1 fewer back : ℕ) → c0 < span → c1 < span → s1 < span → s0 < s1
    → (fewer + c1) % 18446744073709551616 ≡ c0 → fewer < 18446744073709551616 → (back + s1) % 18446744073709551616 ≡ s0 → back < 18446744073709551616
    → back ≤ fewer
    → (c0 < c1) × (c1 + s0 ≤ c0 + s1)
counts-between c0 c1 s0 s1 fewer back a b c d e f g h i =
    let far : back + s1 ≡ 18446744073709551616 + s0 = omega arith in
    let more : fewer + c1 ≡ 18446744073709551616 + c0 = omega arith in
    (omega arith, omega arith)

-- ---- line after line

module _ (P : ℕ → Type 0) (last from : ℕ) where
  pub lines_none : Lines P last from from
  lines_none = record { count = 0; ends = omega arith; each = λ i h. absurd (omega arith); inside = λ i h. absurd (omega arith) }

  -- Up to a line that comes earlier they are so as well.
  pub lines-wider : (near to : ℕ) → near ≤ last → Lines P near from to → Lines P last from to
  lines-wider near to h p =
      record { count = p.count; ends = p.ends; each = p.each; inside = λ i a. omega (arith, p.inside i a) }

  -- Lines after lines.
  pub lines_join : (at to : ℕ) → Lines P last from at → Lines P last at to → Lines P last from to
  lines_join at to p q =
      let there : (i : ℕ) → p.count ≤ i → at + entry_numbers * (i - p.count) ≡ from + entry_numbers * i = λ i h. omega (arith, p.ends) in
      record {
        count = p.count + q.count;
        ends = omega (arith, p.ends, q.ends);
        each = λ i a. by_lt i p.count (p.each i) (λ b. subst P (there i b) (q.each (i - p.count) (omega arith)));
        inside = λ i a. by_lt i p.count (p.inside i) (λ b. omega (arith, there i b, q.inside (i - p.count) (omega arith)));
      }

  -- A block of them, and one.
  pub lines_block : from + block_numbers ≤ last → ((i : ℕ) → i < block_lines → P (from + entry_numbers * i)) → Lines P last from (from + block_numbers)
  lines_block h f = record { count = 8; ends = omega arith; each = f; inside = λ i a. omega arith }

  pub lines-one : from < last → P from → Lines P last from (from + entry_numbers)
  lines-one h p =
      let here : (i : ℕ) → i < 1 → from ≡ from + entry_numbers * i = λ i a. omega arith in
      record { count = 1; ends = omega arith; each = λ i a. subst P (here i a) p; inside = λ i a. omega arith }

  -- If there are any, the first is not the one at `last`, nor are they past it.
  pub lines-some : (to : ℕ) → Lines P last from to → (to ≡ from → ⊥) → (from < last) × (from < to) × (to < last + entry_numbers)
  lines-some to p n =
      by_lt 0 p.count
      (λ a. (omega (arith, p.inside 0 a), omega (arith, p.ends), omega (arith, p.ends, p.inside (p.count - 1) (omega arith))))
      (λ b. absurd (n (omega (arith, p.ends))))

-- One more line, of a property of all lines from a number of the table on.
pub next-line : (P : ℕ → Type 0) (at n : ℕ) → ((i : ℕ) → i < n → P (at + entry_numbers * i)) → P (at + entry_numbers * n)
    → (i : ℕ) → i < n + 1 → P (at + entry_numbers * i)
next-line P at n f p i h =
    by_lt i n (f i) (λ b. let e : n ≡ i = omega arith in subst (λ (x : ℕ). P (at + entry_numbers * x)) e p)
