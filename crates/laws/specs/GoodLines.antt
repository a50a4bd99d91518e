-- What the check of lines says of each line, where it finds none that is bad (refusal 5).
-- Assumes nothing.
use Rattle.std.specs.Prelude.{ℕ, suc, ◌≤◌, ◌<◌, ◌≡◌, refl, Bool, true, false, ◌&&◌, List, ◌∷◌, ltb, Err, Ok}
use Rattle.meaning.specs.Refusals.{Checked}
use Rattle.std.proofs.Common.{arith, leb-true, ltb-true}
use Rattle.std.proofs.Math.Dec.{leb}
use Rattle.basis.specs.Choice.{pick, and_true}
use Rattle.meaning.specs.WellFormed.{Before, line, start_good, rest_good, ending_good, count_good, entry_good, check_lines}
use Rattle.meaning.specs.declared.line.Entry.{Entry}
use Rattle.meaning.specs.declared.refusals.Refusal.{Refusal}
use Rattle.meaning.specs.declared.refusals.Refusal.TheVariants.{BadLine}

-- A choice whose other answer is a refusal.
pub good-both : (t : Bool) (c : Checked) (r : Refusal) → pick t c (Err r) ≡ Ok tt → (t ≡ true) × (c ≡ Ok tt)
unfolding pick
good-both true c r e = (refl, e)
good-both false c r e = absurd (let z : ◌≡◌ {A = ℕ} 0 1 = cc in omega arith)

-- ---- line by line

module _ (n k : ℕ) (b : Before) (e : Entry) (es : List Entry) (h : check_lines n k b (e ∷ es) ≡ Ok tt) where
  abbrev more : Checked
  more = check_lines n (suc k) (line e.start.0 e.reach.0 e.before.0) es

  both : (entry_good n b e es ≡ true) × (more ≡ Ok tt)
  unfolding check_lines
  both = good-both (entry_good n b e es) more (BadLine k) h

  pub good_more : check_lines n (suc k) (line e.start.0 e.reach.0 e.before.0) es ≡ Ok tt
  good_more = both.1

  -- The five tests of the first line.
  abbrev tests_of : Bool
  tests_of = start_good n b e && rest_good n b e && ending_good es e.ending

  four : tests_of && leb e.reach.0 (suc n) ≡ true
  unfolding entry_good
  four = (and_true (tests_of && leb e.reach.0 (suc n)) (count_good b e) both.0).0

  three : tests_of ≡ true
  three = (and_true tests_of (leb e.reach.0 (suc n)) four).0

  two : start_good n b e && rest_good n b e ≡ true
  two = (and_true (start_good n b e && rest_good n b e) (ending_good es e.ending) three).0

  pub good_start : start_good n b e ≡ true
  good_start = (and_true (start_good n b e) (rest_good n b e) two).0

  pub good-rest : rest_good n b e ≡ true
  good-rest = (and_true (start_good n b e) (rest_good n b e) two).1

  pub good-reach : e.reach.0 ≤ suc n
  good-reach = leb-true e.reach.0 (suc n) (and_true tests_of (leb e.reach.0 (suc n)) four).1

  pub good-count : count_good b e ≡ true
  unfolding entry_good
  good-count = (and_true (tests_of && leb e.reach.0 (suc n)) (count_good b e) both.0).1

-- A line after another starts past it, within that line's reach and the text.
pub start-after : (n start reach before : ℕ) (e : Entry) → start_good n (line start reach before) e ≡ true
    → (start < e.start.0) × (e.start.0 ≤ reach) × (e.start.0 ≤ n)
unfolding start_good
start-after n start reach before e h =
    let p = ltb start e.start.0 in
    let q = leb e.start.0 reach in
    let r = leb e.start.0 n in
    let f = and_true (p && q) r h in
    let g = and_true p q f.0 in
    (ltb-true start e.start.0 g.0, leb-true e.start.0 reach g.1, leb-true e.start.0 n f.1)

-- And has more characters before it than that line, and no more than bytes.
pub count-after : (start reach before : ℕ) (e : Entry) → count_good (line start reach before) e ≡ true
    → (before < e.before.0) × (e.before.0 ≤ e.start.0)
unfolding count_good
count-after start reach before e h =
    let f = and_true (ltb before e.before.0) (leb e.before.0 e.start.0) h in
    (ltb-true before e.before.0 f.0, leb-true e.before.0 e.start.0 f.1)
