-- What the tests of one line come to, on each way through the code.
-- Assumes nothing.
use Rattle.std.proofs.Common.{◌≡◌, ℕ, ◌+◌, ◌-◌, ◌<◌, ◌≤◌, Bool, true, false, ◌&&◌, eqb, leb, add-one, le-ltb, lt-ltb}
use Rattle.meaning.specs.WellFormed.{start_good, no_rest, rest_good, count_good}
use Rattle.meaning.specs.declared.line.Entry.{Entry}
use Rattle.look.specs.OneLine.{before_of, start_fits, rest_stands, count_fits, ending_at, line_good}
use Rattle.look.specs.declared.one_line.LineBefore.{LineBefore}
use Rattle.std.specs.Prelude.{Option, Some, None}

module _ (n reached start end count : ℕ) where
  pub stands-none : eqb end 0 && eqb count 0 ≡ true → true ≡ rest_stands n reached start end count
  unfolding rest_stands
  stands-none h = rw h

  pub stands-short : eqb end 0 && eqb count 0 ≡ false → end ≤ start → false ≡ rest_stands n reached start end count
  unfolding rest_stands
  stands-short h p = rw (h, le-ltb _ _ p)

  pub stands-tested : eqb end 0 && eqb count 0 ≡ false → start < end
      → leb end n && leb end reached && leb count (end - start) ≡ rest_stands n reached start end count
  unfolding rest_stands
  stands-tested h p = rw (h, lt-ltb _ _ p)

module _ (e : Entry) (b : Option LineBefore) where
  pub count-first : b ≡ None → eqb e.before.0 0 ≡ count_good (before_of b) e
  unfolding count_good
  count-first q = rw q

  pub count-after : (l : LineBefore) → b ≡ Some l
      → count_fits l.before.0 e.start.0 e.before.0 ≡ count_good (before_of b) e
  unfolding count_good count_fits
  count-after l q = rw q

module _ (n : ℕ) (e : Entry) (b : Option LineBefore) where
  pub start_first : b ≡ None → eqb e.start.0 0 ≡ start_good n (before_of b) e
  unfolding start_good
  start_first q = rw q

  pub start-after : (l : LineBefore) → b ≡ Some l
      → start_fits n l.start.0 l.reach.0 e.start.0 ≡ start_good n (before_of b) e
  unfolding start_good start_fits
  start-after l q = rw q

  pub rest-first : b ≡ None → no_rest e ≡ rest_good n (before_of b) e
  unfolding rest_good
  rest-first q = rw q

  pub rest-after : (l : LineBefore) → b ≡ Some l
      → rest_stands n l.reach.0 e.start.0 e.rest.end.0 e.rest.count.0 ≡ rest_good n (before_of b) e
  unfolding rest_good no_rest rest_stands
  rest-after l q = rw q

  pub all-tests : (last start rest ending count : Bool) → start ≡ start_good n (before_of b) e → rest ≡ rest_good n (before_of b) e
      → ending ≡ ending_at last e.ending → count ≡ count_good (before_of b) e
      → start && rest && ending && leb e.reach.0 (n + 1) && count ≡ line_good n (before_of b) e last
  unfolding line_good
  all-tests last start rest ending count p q r c = rw (p, q, r, add-one n, c)
