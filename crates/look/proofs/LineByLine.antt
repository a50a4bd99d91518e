-- The check of a table, line by line, and what it answers before any line is looked at.
-- Assumes nothing.
use Rattle.std.proofs.Common.{◌≡◌, ℕ, zero, suc, ◌+◌, ◌-◌, ◌*◌, ◌/◌, ◌<◌, ◌≤◌, true, false, eqb, List, ◌∷◌, length, get_or, drop, sym, refl, ap, ◌∙◌, add-one, arith, eq-eqb, ne_eqb, le-leb}
use Rattle.std.specs.Prelude.{Err, Ok}
use borrow.Author.Tests.{lt-leb}
use Rattle.basis.specs.Choice.{pick_true, pick-false}
use Rattle.basis.specs.Order.{by_eq, within-is, within-not}
use Rattle.meaning.specs.Table.{entry_numbers, capacity_of, entry_in, entries_in}
use Rattle.meaning.specs.WellFormed.{last_reach, text_length, Before, nothing, line, entry_good, check_lines, check_entries, check_table}
use Rattle.meaning.specs.declared.line.Entry.{Entry}
use Rattle.meaning.specs.declared.refusals.Refusal.TheVariants.{BadLine}
use Rattle.table.specs.LinesFrom.{lines_from, lines_more, lines_end, last-reach}
use Rattle.look.specs.OneLine.{line_good, is_last, line-good}

module _ (t : List ℕ) (lines k : ℕ) where
  -- Is the line after this one past the last.
  last-is : k < lines → is_last (lines_from t lines (k + 1)) ≡ eqb (k + 1) lines
  last-is h =
      by_eq (k + 1) lines (λ e. rw (lines_end t lines (k + 1) (omega arith), eq-eqb _ _ e))
      (λ d. rw (lines_more t lines (k + 1) (omega arith), ne_eqb _ _ d))

  pub lines-done : (n : ℕ) (b : Before) → lines ≤ k → check_lines n k b (lines_from t lines k) ≡ Ok tt
  unfolding check_lines
  lines-done n b h = rw (lines_end t lines k h)

  module _ (h : k < lines) (e : Entry) (q : e ≡ entry_in (drop (entry_numbers * k) t)) (n : ℕ) (b : Before) where
    abbrev rest : List Entry
    rest = lines_from t lines (k + 1)

    here : lines_from t lines k ≡ e ∷ rest
    here = lines_more t lines k h ∙ ap (λ (x : Entry). x ∷ rest) (sym q)

    tested : entry_good n b e rest ≡ line_good n b e (eqb (k + 1) lines)
    tested = sym (line-good n b e rest) ∙ ap (line_good n b e) (last-is h)

    pub line-checked : line_good n b e (eqb (k + 1) lines) ≡ true
        → check_lines n k b (lines_from t lines k) ≡ check_lines n (k + 1) (line e.start.0 e.reach.0 e.before.0) rest
    unfolding check_lines
    line-checked g =
        ap (check_lines n k b) here
        ∙ pick_true _ _ _ (tested ∙ g)
        ∙ ap (λ (j : ℕ). check_lines n j (line e.start.0 e.reach.0 e.before.0) rest) (sym (add-one k))

    pub line_bad : line_good n b e (eqb (k + 1) lines) ≡ false → check_lines n k b (lines_from t lines k) ≡ Err (BadLine k)
    unfolding check_lines
    line_bad g = ap (check_lines n k b) here ∙ pick-false _ _ _ (tested ∙ g)

pub reach-none : (t : List ℕ) (lines : ℕ) → lines ≡ 0 → 0 ≡ last_reach (entries_in lines t)
unfolding last_reach entries_in
reach-none t lines e = rw e

pub reach-last : (t : List ℕ) (lines : ℕ) → (lines ≡ 0 → ⊥) → get_or t (entry_numbers * (lines - 1) + 9) 0 ≡ last_reach (entries_in lines t)
reach-last t zero d = absurd (d refl)
reach-last t (suc m) d =
    let e : suc m - 1 ≡ m = omega arith in
    rw e (sym (last-reach m t))

pub text-is : (es : List Entry) (r : ℕ) → r ≡ last_reach es → r - 1 ≡ text_length es
unfolding text_length
text-is es r q = ap (λ (n : ℕ). n - 1) q

module _ (t : List ℕ) (lines : ℕ) where
  pub few : length t / entry_numbers < lines → Err (BadLine 0) ≡ check_table lines t
  unfolding check_table capacity_of
  few h = sym (pick-false _ _ _ (lt-leb _ _ h))

  module _ (h : lines ≤ length t / entry_numbers) where
    by_entries : check_table lines t ≡ check_entries (entries_in lines t)
    unfolding check_table capacity_of
    by_entries = pick_true _ _ _ (le-leb _ _ h)

    module _ (r : ℕ) (q : r ≡ last_reach (entries_in lines t)) where
      pub reach_bad : (1 ≤ r → r ≤ 65536 → ⊥) → Err (BadLine 0) ≡ check_table lines t
      unfolding check_entries
      reach_bad d =
          sym (by_entries ∙ pick-false _ _ _ (within-not 1 65536 (last_reach (entries_in lines t)) (λ a b. d (rw q a) (rw q b))))

      pub reach-good : 1 ≤ r → r ≤ 65536 → check_lines (r - 1) 0 nothing (entries_in lines t) ≡ check_table lines t
      unfolding check_entries text_length
      reach-good a b =
          rw q (sym (by_entries ∙ pick_true _ _ _ (within-is 1 65536 (last_reach (entries_in lines t)) (rw q at a) (rw q at b))))
