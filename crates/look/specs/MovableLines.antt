-- The lines of a well formed table from one on that starts behind the replaced bytes can be moved.
-- Assumes nothing.
use Rattle.std.specs.Prelude.{◌≡◌, ℕ, zero, suc, ◌+◌, ◌-◌, ◌*◌, ◌<◌, ◌≤◌, true, ◌&&◌, List, [], ◌∷◌, length, drop, ◌==◌, nat_le, nat_lt, Ok}
use Rattle.std.proofs.Common.{sym, ◌∙◌, drop-drop}
use Rattle.std.proofs.Math.Path.{ap, subst}
use Rattle.std.proofs.Math.Nat.{sub-zero}
use native.Mathlib.Omega.{arith}
use borrow.Author.Tests.{leb-true, ltb-true, eqb-true}
use Rattle.std.proofs.Math.Seq.{drop-nil}
use Rattle.basis.specs.Choice.{and_true, by-either}
use Rattle.meaning.specs.Checks.{text_limit}
use Rattle.meaning.specs.Table.{entry_numbers, entry_in, entries_in}
use Rattle.meaning.specs.WellFormed.{last_reach, text_length, Before, nothing, line, start_good, no_rest, rest_good, count_good, check_lines, check_table}
use Rattle.meaning.specs.declared.line.Entry.{Entry}
use Rattle.table.specs.LinesFrom.{lines_from, lines_more}
use Rattle.laws.specs.GoodLines.{good_more, good_start, good-rest, good-reach, good-count, start-after, count-after}
use Rattle.look.specs.GoodTable.{table-reach, table-text, table-lines}
use Rattle.table.specs.declared.edited.Shift.{Shift}
use Rattle.table.specs.Moving.{MovableEntry, AllMovable}

-- The lines of a table from line j on.
pub entries_from_lem : (j n : ℕ) (t : List ℕ) → drop j (entries_in n t) ≡ entries_in (n - j) (drop (entry_numbers * j) t)
unfolding entries_in
entries_from_lem zero n t = ap (λ (k : ℕ). entries_in k t) (sym (sub-zero n))
entries_from_lem (suc j) zero t =
    let e : 0 - suc j ≡ 0 = omega arith in
    rw e
entries_from_lem (suc j) (suc n) t =
    let e : suc n - suc j ≡ n - j = omega arith in
    let f : entry_numbers + entry_numbers * j ≡ entry_numbers * suc j = omega arith in
    rw (e, ← f) (entries_from_lem j n (drop entry_numbers t) ∙ ap (entries_in (n - j)) (drop-drop (entry_numbers * j) entry_numbers t))

-- ---- one line

module _ (n : ℕ) (e : Entry) where
  start-within : (b : Before) → start_good n b e ≡ true → e.start.0 ≤ n
  unfolding start_good
  start-within nothing h = omega (arith, eqb-true e.start.0 0 h)
  start-within (line start reach before) h = (start-after n start reach before e h).2

  count-within : (b : Before) → count_good b e ≡ true → e.before.0 ≤ e.start.0
  unfolding count_good
  count-within nothing h = omega (arith, eqb-true e.before.0 0 h)
  count-within (line start reach before) h = (count-after start reach before e h).1

  no_end : no_rest e ≡ true → e.rest.end.0 ≡ 0
  unfolding no_rest
  no_end h = eqb-true e.rest.end.0 0 (and_true (e.rest.end.0 == 0) (e.rest.count.0 == 0) h).0

  rest-within : (b : Before) → rest_good n b e ≡ true → 0 < e.rest.end.0 → (e.start.0 ≤ e.rest.end.0) × (e.rest.end.0 ≤ n)
  unfolding rest_good
  rest-within nothing h some = absurd (omega (arith, no_end h))
  rest-within (line start reach before) h some =
      let end = e.rest.end.0 in
      let above = nat_lt e.start.0 end in
      let inside = nat_le end n in
      let examined = nat_le end reach in
      let counted = nat_le e.rest.count.0 (end - e.start.0) in
      by-either (no_rest e) (above && inside && examined && counted) h (λ f. absurd (omega (arith, no_end f)))
      (λ f.
      let g = and_true above inside (and_true (above && inside) examined (and_true (above && inside && examined) counted f).0).0 in
      (omega (arith, ltb-true e.start.0 end g.0), leb-true end n g.1))

-- ---- line after line

module _ (n : ℕ) (sh : Shift) (short : n ≤ text_limit) where
  one : (k : ℕ) (b : Before) (e : Entry) (es : List Entry) → check_lines n k b (e ∷ es) ≡ Ok tt → sh.edit.to.0 ≤ e.start.0
      → e.start.0 ≤ e.reach.0 → sh.from.0 ≤ e.before.0
      → MovableEntry sh e
  one k b e es h s r f =
      let rest = rest-within n e b (good-rest n k b e es h) in
      record {
        start = (omega arith, omega (arith, start-within n e b (good_start n k b e es h)));
        rest = λ some. (omega (arith, rest some), omega (arith, rest some));
        reach = (omega arith, omega (arith, good-reach n k b e es h));
        before = (f, omega (arith, count-within n e b (good-count n k b e es h), start-within n e b (good_start n k b e es h)));
      }

  lines : (k : ℕ) (b : Before) (e : Entry) (es : List Entry) → check_lines n k b (e ∷ es) ≡ Ok tt → last_reach (e ∷ es) ≡ n + 1
      → sh.edit.to.0 ≤ e.start.0 → sh.from.0 ≤ e.before.0
      → AllMovable sh (e ∷ es)
  unfolding last_reach
  lines k b e [] h r s p = (one k b e [] h s (omega (arith, start-within n e b (good_start n k b e [] h))) p, tt)
  lines k b e (f ∷ es) h r s p =
      let c = line e.start.0 e.reach.0 e.before.0 in
      let more = good_more n k b e (f ∷ es) h in
      let a = start-after n e.start.0 e.reach.0 e.before.0 f (good_start n (suc k) c f es more) in
      let d = count-after e.start.0 e.reach.0 e.before.0 f (good-count n (suc k) c f es more) in
      (one k b e (f ∷ es) h s (omega (arith, a)) p, lines (suc k) c f es more r (omega (arith, a)) (omega (arith, d)))

  -- From any of the lines on.
  pub lines-movable : (j k : ℕ) (b : Before) (es : List Entry) → check_lines n k b es ≡ Ok tt → last_reach es ≡ n + 1
      → (e : Entry) (more : List Entry) → drop j es ≡ e ∷ more → sh.edit.to.0 ≤ e.start.0
      → sh.from.0 ≤ e.before.0 → AllMovable sh (e ∷ more)
  unfolding last_reach
  lines-movable zero k b es h r e more q s p =
      lines k b e more (ap (check_lines n k b) (sym q) ∙ h) (ap last_reach (sym q) ∙ r) s p
  lines-movable (suc j) k b [] h r e more q s p = absurd (omega (arith, ap length q))
  lines-movable (suc j) k b (x ∷ []) h r e more q s p = absurd (omega (arith, ap length (sym (drop-nil j) ∙ q)))
  lines-movable (suc j) k b (x ∷ f ∷ es) h r e more q s p =
      lines-movable j (suc k) (line x.start.0 x.reach.0 x.before.0) (f ∷ es) (good_more n k b x (f ∷ es) h) r e more q s p

-- No more characters than bytes stand before any of them.
lines-few : (n j k : ℕ) (b : Before) (es : List Entry) → check_lines n k b es ≡ Ok tt → (e : Entry) (more : List Entry) → drop j es ≡ e ∷ more
    → e.before.0 ≤ n
lines-few n zero k b es h e more q =
    let g = ap (check_lines n k b) (sym q) ∙ h in
    omega (arith, count-within n e b (good-count n k b e more g), start-within n e b (good_start n k b e more g))
lines-few n (suc j) k b [] h e more q = absurd (omega (arith, ap length q))
lines-few n (suc j) k b (x ∷ es) h e more q =
    lines-few n j (suc k) (line x.start.0 x.reach.0 x.before.0) es (good_more n k b x es h) e more q

-- ---- of a table

module _ (t : List ℕ) (lines j : ℕ) (sh : Shift) where
  pub table-movable : check_table lines t ≡ Ok tt → j < lines → sh.edit.to.0 ≤ (entry_in (drop (entry_numbers * j) t)).start.0
      → sh.from.0 ≤ (entry_in (drop (entry_numbers * j) t)).before.0
      → AllMovable sh (entries_in (lines - j) (drop (entry_numbers * j) t))
  unfolding text_length lines_from
  table-movable h k s p =
      let old = entries_in lines t in
      let reach : last_reach old ≡ text_length old + 1 = omega (arith, table-reach lines t h) in
      let here = lines_more t lines j k in
      subst (AllMovable sh) (sym here)
      (lines-movable (text_length old) sh (table-text lines t h) j 0 nothing old (table-lines lines t h) reach _ _ (entries_from_lem j lines t ∙ here) s p)

module _ (t : List ℕ) (lines j : ℕ) where
  -- No more characters than the text has bytes stand before a line.
  pub table-few : check_table lines t ≡ Ok tt → j < lines → (entry_in (drop (entry_numbers * j) t)).before.0 ≤ text_limit
  unfolding lines_from
  table-few h k =
      let old = entries_in lines t in
      omega (
        arith,
        lines-few (text_length old) j 0 nothing old (table-lines lines t h) _ _ (entries_from_lem j lines t ∙ lines_more t lines j k),
        table-text lines t h,
      )
