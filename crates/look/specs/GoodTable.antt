-- What a well formed table gives: it holds its lines, there are 1 to 65,536 of them, and the text is at most 65,535 bytes long.
-- Assumes nothing.
use Rattle.std.specs.Prelude.{◌≡◌, ℕ, zero, suc, ◌+◌, ◌-◌, ◌*◌, ◌/◌, ◌≤◌, true, List, [], ◌∷◌, length, nat_le, Ok}
use Rattle.std.proofs.Common.{arith}
use borrow.Author.Tests.{leb-true, eqb-true}
use Rattle.basis.specs.Order.{within, within-true}
use Rattle.meaning.specs.Checks.{text_limit}
use Rattle.meaning.specs.Table.{entry_numbers, capacity_of, entries_in}
use Rattle.meaning.specs.WellFormed.{last_reach, text_length, nothing, line, start_good, check_lines, check_entries, check_table}
use Rattle.meaning.specs.declared.line.Entry.{Entry}
use Rattle.meaning.specs.declared.refusals.Refusal.TheVariants.{BadLine}
use Rattle.laws.specs.TableLaws.{entries_length}
use Rattle.laws.specs.GoodLines.{good-both, good_more, good_start, start-after}

-- ---- how many lines there are

few-after : (n k start reach before : ℕ) (es : List Entry) → start ≤ n → check_lines n k (line start reach before) es ≡ Ok tt
    → length es ≤ n - start
few-after n k start reach before [] s h = omega arith
few-after n k start reach before (e ∷ es) s h =
    let a = start-after n start reach before e (good_start n k (line start reach before) e es h) in
    omega (arith, few-after n (suc k) e.start.0 e.reach.0 e.before.0 es a.2 (good_more n k (line start reach before) e es h))

pub few-lines : (n k : ℕ) (es : List Entry) → check_lines n k nothing es ≡ Ok tt → length es ≤ n + 1
unfolding start_good
few-lines n k [] h = omega arith
few-lines n k (e ∷ es) h =
    let z = eqb-true e.start.0 0 (good_start n k nothing e es h) in
    omega (arith, few-after n (suc k) e.start.0 e.reach.0 e.before.0 es (omega arith) (good_more n k nothing e es h))

-- ---- the whole table

module _ (lines : ℕ) (t : List ℕ) (h : check_table lines t ≡ Ok tt) where
  abbrev old : List Entry
  old = entries_in lines t

  whole : (nat_le lines (capacity_of entry_numbers t) ≡ true) × (check_entries old ≡ Ok tt)
  unfolding check_table
  whole = good-both (nat_le lines (capacity_of entry_numbers t)) (check_entries old) (BadLine 0) h

  reached : (within 1 65536 (last_reach old) ≡ true) × (check_lines (text_length old) 0 nothing old ≡ Ok tt)
  unfolding check_entries
  reached = good-both (within 1 65536 (last_reach old)) (check_lines (text_length old) 0 nothing old) (BadLine 0) whole.1

  pub table-room : entry_numbers * lines ≤ length t
  unfolding capacity_of
  table-room = omega (arith, leb-true lines (length t / entry_numbers) whole.0)

  pub table-reach : (1 ≤ last_reach old) × (last_reach old ≤ 65536)
  table-reach = within-true 1 65536 (last_reach old) reached.0

  pub table-text : text_length old ≤ text_limit
  unfolding text_length
  table-text = omega (arith, table-reach)

  pub table-lines : check_lines (text_length old) 0 nothing old ≡ Ok tt
  table-lines = reached.1

  pub table-count : lines ≤ 65536
  table-count = omega (arith, few-lines (text_length old) 0 old table-lines, table-text, entries_length lines t)

pub reach-some : (lines : ℕ) (t : List ℕ) → 1 ≤ last_reach (entries_in lines t) → 1 ≤ lines
unfolding last_reach entries_in
reach-some zero t h = omega arith
reach-some (suc m) t h = omega arith
