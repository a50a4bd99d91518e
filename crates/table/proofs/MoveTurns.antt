-- One turn of the loops that move lines, from the first line on and from the last on.
-- Assumes nothing.
use Prim.Native.Nat.{ℕ, suc, ◌+◌, ◌-◌, ◌*◌, ◌≤◌, ◌<◌}
use mathlib.Core.Path.{◌≡◌, refl, sym, ap, subst, ◌∙◌}
use mathlib.Core.Bool.{true, ◌&&◌}
use mathlib.Core.List.{List}
use native.Mathlib.Nat.{sub-zero, add-zero}
use native.Mathlib.Omega.{arith}
use borrow.Author.Tests.{eqb-true}
use lib.Dec.{eqb}
use lib.ListN.{length, get_or}
use lib.Seq.{get_or-drop}
use Rattle.basis.specs.Choice.{and_true}
use Rattle.basis.specs.Order.{by_lt}
use Rattle.meaning.specs.Table.{entry_numbers}
use Rattle.table.specs.declared.edited.Shift.{Shift}
use Rattle.table.specs.Moving.{lines_moved, line_moved, Movable, Restless, Forward, line-length, behind, first-movable, rest-movable, first-moved, last-movable, before-movable, last-moved, none-moved}

-- ---- toward the front

module _ (t : List ℕ) (from to count : ℕ) (sh : Shift) where
  pub forward-start : Movable t from to count sh → Forward t from to count sh t 0
  forward-start m = record { within = omega arith; left = rw (sub-zero count, add-zero from, add-zero to) m; same = rw (sub-zero count, add-zero from, add-zero to) refl; size = refl }

  pub forward-end : (u : List ℕ) (i : ℕ) → Forward t from to count sh u i → count ≤ i → u ≡ lines_moved t from to count sh
  forward-end u i c h =
      let e : count - i ≡ 0 = omega arith in
      sym (c.same ∙ ap (λ (k : ℕ). lines_moved u (from + i) (to + i) k sh) e ∙ none-moved u (from + i) (to + i) sh)

  module _ (u : List ℕ) (i : ℕ) (c : Forward t from to count sh u i) (h : i < count) where
    abbrev n : ℕ
    n = count - (i + 1)

    more : count - i ≡ suc n
    more = omega arith

    here : Movable u (from + i) (to + i) (suc n) sh
    here = subst (λ (k : ℕ). Movable u (from + i) (to + i) k sh) more c.left

    pub forward-one : Movable u (from + i) (to + i) 1 sh
    forward-one = first-movable u (from + i) (to + i) n sh here

    pub forward-next : (v : List ℕ) → to ≤ from → v ≡ line_moved u (from + i) (to + i) sh → Forward t from to count sh v (i + 1)
    forward-next v o e =
        let room : entry_numbers * (to + i) + entry_numbers ≤ length u = omega (arith, here.to_room) in
        let w = line_moved u (from + i) (to + i) sh in
        let f : from + i + 1 ≡ from + (i + 1) = omega arith in
        let g : to + i + 1 ≡ to + (i + 1) = omega arith in
        let m = rest-movable u (from + i) (to + i) n sh (omega arith) room here in
        let s = first-moved u (from + i) (to + i) n sh (omega arith) room in
        record {
          within = omega arith;
          left =
              subst (λ (x : List ℕ). Movable x (from + (i + 1)) (to + (i + 1)) n sh) (sym e)
              (subst (λ (k : ℕ). Movable w (from + (i + 1)) k n sh) g (subst (λ (k : ℕ). Movable w k (to + i + 1) n sh) f m));
          same =
              c.same
              ∙ ap (λ (k : ℕ). lines_moved u (from + i) (to + i) k sh) more
              ∙ s
              ∙ ap (λ (k : ℕ). lines_moved w k (to + i + 1) n sh) f
              ∙ ap (λ (k : ℕ). lines_moved w (from + (i + 1)) k n sh) g
              ∙ ap (λ (x : List ℕ). lines_moved x (from + (i + 1)) (to + (i + 1)) n sh) (sym e);
          size = ap length e ∙ line-length u (from + i) (to + i) sh room ∙ c.size;
        }

-- Lines moved after others that were.
pub forward_join : (t : List ℕ) (from to count : ℕ) (sh : Shift) (u : List ℕ) (i : ℕ) → Forward t from to count sh u i
    → (v : List ℕ) (n : ℕ) → Forward u (from + i) (to + i) (count - i) sh v n → Forward t from to count sh v (i + n)
forward_join t from to count sh u i c v n d =
    let f : from + i + n ≡ from + (i + n) = omega arith in
    let g : to + i + n ≡ to + (i + n) = omega arith in
    let l : count - i - n ≡ count - (i + n) = omega arith in
    record {
      within = omega (arith, c.within, d.within);
      left = subst (λ (x : ℕ). Movable v x (to + (i + n)) (count - (i + n)) sh) f
          (subst (λ (x : ℕ). Movable v (from + i + n) x (count - (i + n)) sh) g (subst (λ (x : ℕ). Movable v (from + i + n) (to + i + n) x sh) l d.left));
      same = c.same ∙ d.same ∙ (λ j. lines_moved v (f j) (g j) (l j) sh);
      size = d.size ∙ c.size;
    }

-- ---- in their place

-- The first i lines are moved, and the next n can be and have no rest.
pub record Still (t : List ℕ) (from count : ℕ) (sh : Shift) (u : List ℕ) (i n : ℕ) : Type 0 where
  pub moved : Forward t from from count sh u i
  pub restless : Restless u (from + i) n
  pub more : i + n ≤ count

pub still-start : (t : List ℕ) (from count : ℕ) (sh : Shift) (u : List ℕ) (i n : ℕ) → Forward t from from count sh u i → Restless u (from + i) n → i + n ≤ count
    → Still t from count sh u i n
still-start t from count sh u i n c r h = record { moved = c; restless = r; more = h }

module _ (t : List ℕ) (from count : ℕ) (sh : Shift) (u : List ℕ) (i n : ℕ) (c : Still t from count sh u i n) (some : 0 < n) where
  here-more : i < count
  here-more = omega (arith, c.more)

  pub still_one : Movable u (from + i) (from + i) 1 sh × (get_or u (entry_numbers * (from + i) + 1) 0 ≡ 0)
  still_one =
      let e : from + i + 0 ≡ from + i = omega arith in
      (forward-one t from from count sh u i c.moved here-more, subst (λ (k : ℕ). get_or u (entry_numbers * k + 1) 0 ≡ 0) e (c.restless 0 some))

  -- The lines behind it are as they were.
  pub still-next : (v : List ℕ) → v ≡ line_moved u (from + i) (from + i) sh → (next m : ℕ) → next ≡ i + 1 → m + 1 ≡ n
      → Still t from count sh v next m
  still-next v e next m q l =
      let room : entry_numbers * (from + i) + entry_numbers ≤ length u = omega (arith, c.moved.left.to_room, here-more) in
      let a = entry_numbers * (from + i + 1) in
      let w = line_moved u (from + i) (from + i) sh in
      let same : (k : ℕ) → get_or w (a + k) 0 ≡ get_or u (a + k) 0
      = λ k. sym (get_or-drop a w k 0) ∙ ap (λ (x : List ℕ). get_or x k 0) (behind u (from + i) (from + i) 0 sh (omega arith) room) ∙ get_or-drop a u k 0 in
      let here : (j : ℕ) → a + (entry_numbers * j + 1) ≡ entry_numbers * (from + next + j) + 1 = λ j. omega arith in
      let there : (j : ℕ) → a + (entry_numbers * j + 1) ≡ entry_numbers * (from + i + (j + 1)) + 1 = λ j. omega arith in
      record {
        moved = subst (Forward t from from count sh v) (sym q) (forward-next t from from count sh u i c.moved here-more v (omega arith) e);
        restless =
            λ j s. ap (λ (x : List ℕ). get_or x (entry_numbers * (from + next + j) + 1) 0) e
            ∙ ap (λ (x : ℕ). get_or w x 0) (sym (here j))
            ∙ same (entry_numbers * j + 1)
            ∙ ap (λ (x : ℕ). get_or u x 0) (there j)
            ∙ c.restless (j + 1) (omega arith);
        more = omega (arith, c.more);
      }

-- What the test of four lines says.
module _ (t : List ℕ) (k : ℕ) where
  none-at : (x j : ℕ) → eqb (get_or t x 0) 0 ≡ true → x ≡ entry_numbers * (k + j) + 1 → get_or t (entry_numbers * (k + j) + 1) 0 ≡ 0
  none-at x j e q = subst (λ (y : ℕ). get_or t y 0 ≡ 0) q (eqb-true (get_or t x 0) 0 e)

  pub four-restless : eqb (get_or t (entry_numbers * k + 1) 0) 0 && eqb (get_or t (entry_numbers * k + 11 + 1) 0) 0
      && eqb (get_or t (entry_numbers * k + 22 + 1) 0) 0 && eqb (get_or t (entry_numbers * k + 33 + 1) 0) 0 ≡ true
      → Restless t k 4
  four-restless e j h =
      let first = eqb (get_or t (entry_numbers * k + 1) 0) 0 in
      let second = eqb (get_or t (entry_numbers * k + 11 + 1) 0) 0 in
      let third = eqb (get_or t (entry_numbers * k + 22 + 1) 0) 0 in
      let d = and_true (first && second && third) (eqb (get_or t (entry_numbers * k + 33 + 1) 0) 0) e in
      let c = and_true (first && second) third d.0 in
      let b = and_true first second c.0 in
      by_lt j 1 (λ l. none-at (entry_numbers * k + 1) j b.0 (omega arith))
      (λ m. by_lt j 2 (λ l. none-at (entry_numbers * k + 11 + 1) j b.1 (omega arith))
      (λ n. by_lt j 3 (λ l. none-at (entry_numbers * k + 22 + 1) j c.1 (omega arith)) (λ o. none-at (entry_numbers * k + 33 + 1) j d.1 (omega arith))))

-- ---- toward the end

-- All but the first k lines are moved.
pub record Back (t : List ℕ) (from to count : ℕ) (sh : Shift) (u : List ℕ) (k : ℕ) : Type 0 where
  pub left : Movable u from to k sh
  pub same : lines_moved t from to count sh ≡ lines_moved u from to k sh
  pub size : length u ≡ length t

module _ (t : List ℕ) (from to count : ℕ) (sh : Shift) where
  pub back_start : Movable t from to count sh → Back t from to count sh t count
  back_start m = record { left = m; same = refl; size = refl }

  pub back_end : (u : List ℕ) (k : ℕ) → Back t from to count sh u k → k ≤ 0 → u ≡ lines_moved t from to count sh
  back_end u k c h =
      let e : k ≡ 0 = omega arith in
      sym (c.same ∙ ap (λ (j : ℕ). lines_moved u from to j sh) e ∙ none-moved u from to sh)

  module _ (u : List ℕ) (k : ℕ) (c : Back t from to count sh u k) (h : 0 < k) where
    again : k ≡ suc (k - 1)
    again = omega arith

    whole : Movable u from to (suc (k - 1)) sh
    whole = subst (λ (j : ℕ). Movable u from to j sh) again c.left

    pub back_one : Movable u (from + (k - 1)) (to + (k - 1)) 1 sh
    back_one = last-movable u from to (k - 1) sh whole

    pub back-next : (v : List ℕ) → from ≤ to → v ≡ line_moved u (from + (k - 1)) (to + (k - 1)) sh
        → Back t from to count sh v (k - 1)
    back-next v o e =
        let room : entry_numbers * (to + (k - 1)) + entry_numbers ≤ length u = omega (arith, whole.to_room) in
        record {
          left = subst (λ (x : List ℕ). Movable x from to (k - 1) sh) (sym e) (before-movable u from to (k - 1) sh o room whole);
          same =
              c.same
              ∙ ap (λ (j : ℕ). lines_moved u from to j sh) again
              ∙ last-moved u from to (k - 1) sh o room
              ∙ ap (λ (x : List ℕ). lines_moved x from to (k - 1) sh) (sym e);
          size = ap length e ∙ line-length u (from + (k - 1)) (to + (k - 1)) sh room ∙ c.size;
        }
