-- Lines that are skipped: the tests of one line by plain numbers, and one turn of the loop over them.
-- Assumes nothing.
use Rattle.std.proofs.Common.{◌≡◌, ℕ, zero, suc, ◌+◌, ◌-◌, ◌*◌, ◌/◌, ◌<◌, ◌≤◌, Bool, true, false, ◌&&◌, eqb, ltb, leb, List, length, get_or, drop, sym, refl, ap, ◌∙◌, subst, add-zero, arith, ltb-false, ltb-true, lt-ltb, eq-eqb, ne_eqb, le-leb, leb-true}
use Rattle.std.specs.Prelude.{Err}
use Rattle.basis.specs.Choice.{pick, pick_cases, and_true}
use Rattle.meaning.specs.Table.{entry_numbers, entry_in, entries_in}
use Rattle.meaning.specs.WellFormed.{Before, nothing, line, start_good, no_rest, rest_good, count_good, check_lines}
use Rattle.meaning.specs.Edit.{unaffected}
use Rattle.meaning.specs.declared.line.Entry.{Entry}
use Rattle.meaning.specs.declared.refusals.Refusal.TheVariants.{BadLine}
use Rattle.table.specs.LinesFrom.{lines_from, lines-all, start-at, reach-at, before_at}
use Rattle.look.specs.OneLine.{start_fits, rest_stands, count_fits, ending_at, line_good}
use Rattle.look.specs.Skipping.{before, GoodLine, PlainLine, PlainLines, check_from, Skipped}
use Rattle.table.proofs.Reading.{entry_from, entry-from}
use Rattle.look.proofs.LineByLine.{line-checked, line_bad}
use Rattle.table.proofs.SearchLaws.{search-past, search-met}

-- A test that failed says nothing.
Holds : Bool → Type 0
Holds true = Unit {0}
Holds false = ⊥

pub not_good : {X : Type 0} → false ≡ true → X
unfolding Holds
not_good e = absurd (subst Holds (sym e) tt)

module _ (t : List ℕ) (at n most : ℕ) where
  pub all-good : most ≤ n + 1 → start_fits n (get_or t (at - entry_numbers) 0) (get_or t (at - entry_numbers + 9) 0) (get_or t at 0) ≡ true
      → rest_stands n (get_or t (at - entry_numbers + 9) 0) (get_or t at 0) (get_or t (at + 1) 0) (get_or t (at + 2) 0) ≡ true
      → count_fits (get_or t (at - entry_numbers + 10) 0) (get_or t at 0) (get_or t (at + 10) 0) ≡ true
      → ending_at false (get_or t (at + 3) 0) && leb (get_or t (at + 9) 0) most ≡ true
      → GoodLine t at n most
  unfolding line_good start_good rest_good no_rest count_good start_fits rest_stands count_fits
  all-good m s r c e =
      let f = and_true (ending_at false (get_or t (at + 3) 0)) (leb (get_or t (at + 9) 0) most) e in
      let low = leb-true (get_or t (at + 9) 0) most f.1 in
      let high : leb (get_or t (at + 9) 0) (suc n) ≡ true = le-leb (get_or t (at + 9) 0) (suc n) (omega arith) in
      let all : line_good n (before t at) (entry_from t at) false ≡ true = λ i. s i && r i && f.0 i && high i && c i in
      let from = get_or t (at - entry_numbers) 0 in
      let start = get_or t at 0 in
      let a = and_true (ltb from start && leb start (get_or t (at - entry_numbers + 9) 0)) (leb start n) s in
      record {
        good = subst (λ (x : Entry). line_good n (before t at) x false ≡ true) (entry-from t at) all;
        past = ltb-true from start (and_true (ltb from start) (leb start (get_or t (at - entry_numbers + 9) 0)) a.0).0;
        inside = leb-true start n a.1;
        low = low;
      }

  -- A plain line is good if it starts within the text.
  pub plain-good : most ≤ n + 1 → get_or t at 0 ≤ n → PlainLine t at most → GoodLine t at n most
  unfolding start_fits rest_stands
  plain-good m h p =
      let fits : start_fits n (get_or t (at - entry_numbers) 0) (get_or t (at - entry_numbers + 9) 0) (get_or t at 0) ≡ true
      = rw (lt-ltb _ _ p.follows.starts.past, le-leb _ _ p.follows.starts.within, le-leb _ _ h) in
      let ends : ending_at false (get_or t (at + 3) 0) && leb (get_or t (at + 9) 0) most ≡ true = rw (p.end.ending, le-leb _ _ p.follows.starts.low) in
      all-good m fits (rw (eq-eqb _ _ p.follows.starts.restless, eq-eqb _ _ p.end.none)) p.follows.counted ends

-- ---- line after line

module _ (t : List ℕ) (lines n k : ℕ) where
  -- The line before line k + 1 is line k.
  before-next : (e : Entry) → e ≡ entry_in (drop (entry_numbers * k) t) → line e.start.0 e.reach.0 e.before.0 ≡ before t (entry_numbers * (k + 1))
  before-next e q =
      let p : entry_numbers * (k + 1) - entry_numbers ≡ entry_numbers * k = omega arith in
      rw (q, p, start-at t k, reach-at t k, before_at t k)

  pub line_on : k < lines → (e : Entry) → e ≡ entry_in (drop (entry_numbers * k) t)
      → line_good n (before t (entry_numbers * k)) e (eqb (k + 1) lines) ≡ true
      → check_from t lines n k ≡ check_from t lines n (k + 1)
  line_on h e q g =
      line-checked t lines k h e q n (before t (entry_numbers * k)) g
      ∙ ap (λ (b : Before). check_lines n (k + 1) b (lines_from t lines (k + 1))) (before-next e q)

-- The first line, which has none before it.
module _ (t : List ℕ) (lines n : ℕ) (some : 1 ≤ lines) (e : Entry) (q : e ≡ entry_in t) where
  pub first_on : line_good n nothing e (eqb 1 lines) ≡ true → check_lines n 0 nothing (entries_in lines t) ≡ check_from t lines n 1
  first_on g =
      ap (check_lines n 0 nothing) (sym (lines-all t lines))
      ∙ line-checked t lines 0 some e q n nothing g
      ∙ ap (λ (b : Before). check_lines n 1 b (lines_from t lines 1)) (before-next t lines n 0 e q)

  pub first_bad : line_good n nothing e (eqb 1 lines) ≡ false → check_lines n 0 nothing (entries_in lines t) ≡ Err (BadLine 0)
  first_bad g = ap (check_lines n 0 nothing) (sym (lines-all t lines)) ∙ line_bad t lines 0 some e q n nothing g

module _ (t : List ℕ) (lines n most j : ℕ) where
  pub skip-none : j ≤ lines → Skipped t lines n most j j
  skip-none h = record { forward = omega arith; inside = h; check = refl; search = λ a l. refl }

  skip-one : (k : ℕ) → k + 1 < lines → GoodLine t (entry_numbers * k) n most → Skipped t lines n most j k → Skipped t lines n most j (k + 1)
  skip-one k h p c =
      let e = entry_in (drop (entry_numbers * k) t) in
      let test : eqb (k + 1) lines ≡ false = ne_eqb (k + 1) lines (λ q. omega arith) in
      let good = ap (line_good n (before t (entry_numbers * k)) e) test ∙ p.good in
      record {
        forward = omega (arith, c.forward);
        inside = omega arith;
        check = sym (line_on t lines n k (omega arith) e refl good) ∙ c.check;
        search = λ a l. let low = p.low in omega (arith, c.search a l, search-past t lines k a (omega arith) (omega arith));
      }

-- ---- plain lines, and others

pub breaks-good : (n : ℕ) → n ≡ 3 → ending_at false n ≡ true
unfolding ending_at
breaks-good n e = rw e

pub below-good : (n : ℕ) → n < 2 → ending_at false n ≡ true
unfolding ending_at
below-good n h = rw (le-leb n 3 (omega arith), ne_eqb n 2 (λ e. omega arith))

-- The lines from line j up to line k are skipped if the last of them starts within the text.
pub record Skimmed (t : List ℕ) (lines n most j k : ℕ) : Type 0 where
  pub some : 1 ≤ k
  pub inside : k ≤ lines
  pub reached : get_or t (entry_numbers * k - entry_numbers + 9) 0 ≤ most
  pub skipped : get_or t (entry_numbers * k - entry_numbers) 0 ≤ n → Skipped t lines n most j k

-- The loops go by the number at which a line stands.
abbrev pub SkimmedTo : List ℕ → (lines n most j at : ℕ) → Type 0
SkimmedTo t lines n most j at = Skimmed t lines n most j (at / entry_numbers) × (at ≡ entry_numbers * (at / entry_numbers))

module _ (t : List ℕ) (lines n most j : ℕ) (m : most ≤ n + 1) where
  pub skim_start : 1 ≤ j → j ≤ lines → get_or t (entry_numbers * j - entry_numbers + 9) 0 ≤ most → Skimmed t lines n most j j
  skim_start a b c = record { some = a; inside = b; reached = c; skipped = λ _. skip-none t lines n most j b }

  -- The line before line k + 1 is line k.
  module _ (k : ℕ) (h : k + 1 < lines) (c : Skimmed t lines n most j k) where
    abbrev at : ℕ
    at = entry_numbers * k

    here : entry_numbers * (k + 1) - entry_numbers ≡ entry_numbers * k
    here = omega arith

    skim_on : (get_or t (entry_numbers * k) 0 ≤ n → Skipped t lines n most j (k + 1)) → get_or t (entry_numbers * k + 9) 0 ≤ most
        → Skimmed t lines n most j (k + 1)
    skim_on f low = record { some = omega arith; inside = omega arith; reached = rw here low; skipped = rw here f }

    pub skim_plain : PlainLine t (entry_numbers * k) most → Skimmed t lines n most j (k + 1)
    skim_plain p =
        skim_on (λ b. skip-one t lines n most j k h (plain-good t at n most m b p) (c.skipped (omega (arith, p.follows.starts.past, p.follows.starts.within, c.reached)))) p.follows.starts.low

    pub skim_good : GoodLine t (entry_numbers * k) n most → Skimmed t lines n most j (k + 1)
    skim_good p = skim_on (λ b. skip-one t lines n most j k h p (c.skipped (omega (arith, p.past, p.inside)))) p.low

  -- So many plain lines.
  plain_by : (count k : ℕ) → ((i : ℕ) → i < count → PlainLine t (entry_numbers * k + entry_numbers * i) most)
      → ((i : ℕ) → i < count → entry_numbers * k + entry_numbers * i < entry_numbers * (lines - 1)) → Skimmed t lines n most j k → Skimmed t lines n most j (k + count)
  plain_by zero k p b c = subst (Skimmed t lines n most j) (sym (add-zero k)) c
  plain_by (suc count) k p b c =
      let first : entry_numbers * k + entry_numbers * 0 ≡ entry_numbers * k = omega arith in
      let on : k + 1 + count ≡ k + suc count = omega arith in
      let next : (i : ℕ) → entry_numbers * k + entry_numbers * suc i ≡ entry_numbers * (k + 1) + entry_numbers * i = λ i. omega arith in
      let one = skim_plain k (omega (arith, b 0 (omega arith))) c (subst (λ (x : ℕ). PlainLine t x most) first (p 0 (omega arith))) in
      subst (Skimmed t lines n most j) on
      (plain_by count (k + 1) (λ i h. subst (λ (x : ℕ). PlainLine t x most) (next i) (p (suc i) (omega arith)))
      (λ i h. omega (arith, b (suc i) (omega arith))) one)

  pub plain-to : (from to : ℕ) → PlainLines t (entry_numbers * (lines - 1)) most from to → SkimmedTo t lines n most j from → SkimmedTo t lines n most j to
  plain-to from to p c =
      let k = from / entry_numbers in
      let same : from ≡ entry_numbers * k = c.1 in
      let there : to / entry_numbers ≡ k + p.count = omega (arith, p.ends) in (
        subst (Skimmed t lines n most j) (sym there)
            (plain_by p.count k (λ i h. subst (λ (x : ℕ). PlainLine t (x + entry_numbers * i) most) same (p.each i h))
            (λ i h. omega (arith, p.inside i h)) c.0),
        omega (arith, p.ends),
      )

  pub good-to : (at : ℕ) → at < entry_numbers * (lines - 1) → GoodLine t at n most → SkimmedTo t lines n most j at → SkimmedTo t lines n most j (at + entry_numbers)
  good-to at h p c =
      let k = at / entry_numbers in
      let there : (at + entry_numbers) / entry_numbers ≡ k + 1 = omega (arith, c.1) in (
        subst (Skimmed t lines n most j) (sym there)
            (skim_good k (omega (arith, c.1)) c.0 (subst (λ (x : ℕ). GoodLine t x n most) c.1 p)),
        omega (arith, c.1),
      )

  -- What is skipped in the end.
  pub skims_to : (at : ℕ) → j ≤ lines → SkimmedTo t lines n most j at → (r : ℕ) → r ≡ pick (ltb n (get_or t (at - entry_numbers) 0)) j (at / entry_numbers)
      → Skipped t lines n most j r
  skims_to at h c r e =
      let start = get_or t (at - entry_numbers) 0 in
      subst (Skipped t lines n most j) (sym e)
      (pick_cases (Skipped t lines n most j) (ltb n start) (λ _. skip-none t lines n most j h)
      (λ f. c.0.skipped (subst (λ (x : ℕ). get_or t (x - entry_numbers) 0 ≤ n) c.1 (ltb-false n start f))))

-- ---- the search, when the lines behind the first are skipped up to line j

module _ (t : List ℕ) (lines a : ℕ) (some : 1 ≤ lines) where
  all_lines : length (unaffected a (lines_from t lines 0)) ≡ length (unaffected a (entries_in lines t))
  all_lines = ap (λ (es : List Entry). length (unaffected a es)) (lines-all t lines)

  pub first-met : a < get_or t 9 0 → 0 ≡ length (unaffected a (entries_in lines t))
  first-met h = sym (search-met t lines 0 a some h) ∙ all_lines

  pub met-behind : get_or t 9 0 ≤ a → (n most j : ℕ) → Skipped t lines n most 1 j → most ≤ a
      → (k : ℕ) → k ≡ j + length (unaffected a (lines_from t lines j))
      → k ≡ length (unaffected a (entries_in lines t))
  met-behind h n most j p l k q = omega (arith, q, p.search a l, search-past t lines 0 a some h, all_lines)
