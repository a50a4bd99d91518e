-- Lines in step: one test of two numbers read as one, and a run of such lines, which are plain.
-- Assumes nothing.
use Rattle.std.proofs.Common.{◌≡◌, ℕ, zero, suc, ◌+◌, ◌-◌, ◌*◌, ◌%◌, ◌<◌, ◌≤◌, true, List, get_or, sym, subst, arith}
use Rattle.meaning.specs.Table.{entry_numbers}
use Rattle.look.specs.OneLine.{count_fits}
use Rattle.look.specs.Skipping.{span, pair_at, Paired, PlainEnd, Counted, Follows, PlainLine, PlainLines, InStep, StepLines}
use Rattle.look.proofs.PlainTurns.{counts_fit}

-- ---- one line

-- What is found is past what is due, and by no more than `most` is past `last`: one test of what is short of it, modulo 2^64.
found-past : (last most gap short due found : ℕ) → last < most → most < span → (gap + most) % 18446744073709551616 ≡ last
    → short < 18446744073709551616 → found < 18446744073709551616 → (short + found) % 18446744073709551616 ≡ due → due ≤ 18446744069414584320 + last
    → gap < 18446744073709551616 → gap ≤ short
    → (due < found) × (found + last ≤ due + most)
found-past last most gap short due found a b c d e f g h i =
    let far : gap + most ≡ 18446744073709551616 + last = omega arith in
    let all : short + found ≡ 18446744073709551616 + due = omega arith in
    (omega arith, omega arith)

-- So are their parts.
parts-past : (last most chars next before reach : ℕ) → reach < span → next ≤ last → most < span
    → span * chars + next < reach + span * before → reach + span * before + last ≤ span * chars + next + most
    → (before ≡ chars) × (next < reach) × (reach ≤ most)
parts-past last most chars next before reach a b c d e =
    let same : before ≡ chars = omega arith in
    (same, omega arith, omega arith)

module _ (t : List ℕ) (at lag last most : ℕ) where
  pub in_step-on : (next start chars found gap short : ℕ) → pair_at t (at + entry_numbers) ≤ last → last < most → most < span
      → Paired t (at + entry_numbers) next → Paired t at start → start < next
      → chars ≡ (start + lag) % span → Paired t (at + 9) found → found < 18446744073709551616
      → (short + found) % 18446744073709551616 ≡ span * chars + next → short < 18446744073709551616
      → (gap + most) % 18446744073709551616 ≡ last → gap < 18446744073709551616 → gap ≤ short
      → InStep t at lag most × (pair_at t at ≤ last)
  in_step-on next start chars found gap short a b c n s l q p u e v g w x =
      let n-is = n.both in
      let s-is = s.both in
      let p-is = p.both in
      let place : at + 9 + 1 ≡ at + 10 = omega arith in
      let none : get_or t (at + 1) 0 ≡ 0 = omega arith in
      let small : chars < span = omega (arith, q) in
      let f = found-past last most gap short (span * chars + next) found b c g v u e (omega arith) w x in
      let parts = parts-past last most chars next (get_or t (at + 9 + 1) 0) (get_or t (at + 9) 0) p.low (omega arith) c (omega (arith, f.0)) (omega (arith, f.1)) in
      let begins : start ≡ get_or t at 0 = omega arith in (
        record {
          counted = subst (λ (x : ℕ). get_or t (at + 10) 0 ≡ (x + lag) % span) begins (subst (λ (i : ℕ). get_or t i 0 ≡ (start + lag) % span) place (omega (arith, parts.0, q)));
          past = omega arith;
          within = omega (arith, parts.1);
          restless = omega arith;
          low = parts.2;
        },
        omega arith,
      )

-- ---- line after line

-- As many bytes as characters are added: the characters before the next line are more, and no more than its start.
counts-on : (lag s0 c0 s1 c1 : ℕ) → c0 ≡ (s0 + lag) % span → c1 ≡ (s1 + lag) % span → c0 ≤ s0 → s0 < s1 → s1 < span
    → (c0 < c1) × (c1 ≤ s1)
counts-on lag s0 c0 s1 c1 p q a b c = (omega arith, omega arith)

module _ (t : List ℕ) (lag most : ℕ) (m : most < span) (at : ℕ) (u : Counted t at) (p : InStep t at lag most) (q : InStep t (at + entry_numbers) lag most) where
  step_counts : (get_or t (at + 10) 0 < get_or t (at + entry_numbers + 10) 0) × Counted t (at + entry_numbers)
  step_counts = counts-on lag (get_or t at 0) _ (get_or t (at + entry_numbers) 0) _ p.counted q.counted u p.past (omega (arith, p.within, p.low))

  step_follows : Follows t (at + entry_numbers) most
  step_follows =
      let here : at ≡ at + entry_numbers - entry_numbers = omega arith in
      record {
        starts =
            record {
              past = subst (λ (x : ℕ). get_or t x 0 < get_or t (at + entry_numbers) 0) here p.past;
              within = subst (λ (x : ℕ). get_or t (at + entry_numbers) 0 ≤ get_or t (x + 9) 0) here p.within;
              restless = p.restless;
              low = q.low;
            };
        counted =
            subst (λ (x : ℕ). count_fits (get_or t (x + 10) 0) (get_or t (at + entry_numbers) 0) (get_or t (at + entry_numbers + 10) 0) ≡ true) here
            (counts_fit _ _ _ step_counts.0 step_counts.1);
      }

-- Behind the first of them, lines in step are plain.
module _ (t : List ℕ) (last lag most from to : ℕ) (m : most < span) (h : Counted t from) (p : StepLines t last lag most from to) where
  on : (i : ℕ) → from + entry_numbers * i + entry_numbers ≡ from + entry_numbers * suc i
  on i = omega arith

  next : (i : ℕ) → suc i < p.count → InStep t (from + entry_numbers * i + entry_numbers) lag most
  next i a = subst (λ (x : ℕ). InStep t x lag most) (sym (on i)) (p.each (suc i) a).step

  under : (i : ℕ) → i < p.count → Counted t (from + entry_numbers * i)
  under zero a = let first : from ≡ from + entry_numbers * zero = omega arith in subst (Counted t) first h
  under (suc i) a = subst (Counted t) (on i) (step_counts t lag most m (from + entry_numbers * i) (under i (omega arith)) (p.each i (omega arith)).step (next i a)).1

  pub steps_plain : from + entry_numbers ≤ to → PlainLines t last most (from + entry_numbers) to
  steps_plain l =
      let some : 1 ≤ p.count = omega (arith, p.ends) in
      let there : (i : ℕ) → from + entry_numbers * i + entry_numbers ≡ from + entry_numbers + entry_numbers * i = λ i. omega arith in
      record {
        count = p.count - 1;
        ends = omega (arith, p.ends);
        each =
            λ i a. subst (λ (x : ℕ). PlainLine t x most) (there i)
            (record {
              follows = step_follows t lag most m (from + entry_numbers * i) (under i (omega arith)) (p.each i (omega arith)).step (next i (omega arith));
              end = subst (PlainEnd t) (sym (on i)) (p.each (suc i) (omega arith)).end;
            });
        inside = λ i a. omega (arith, p.inside (suc i) (omega arith));
      }
