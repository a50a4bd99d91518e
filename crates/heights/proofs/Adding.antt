-- What line ends add, line by line, and what the last two lines say is left out.
-- Assumes nothing.
use Prim.Native.Nat.{ℕ, suc, ◌+◌, ◌-◌, ◌*◌, ◌≤◌, ◌<◌}
use mathlib.Core.Path.{◌≡◌, sym, ap, ◌∙◌}
use mathlib.Core.Bool.{◌&&◌}
use mathlib.Core.List.{List}
use native.Mathlib.Omega.{arith}
use borrow.Author.Tests.{eq-eqb, ne_eqb}
use lib.Dec.{eqb}
use lib.ListN.{get_or}
use Rattle.basis.specs.Choice.{pick}
use Rattle.meaning.specs.Table.{entry_numbers, entries_in}
use Rattle.meaning.specs.Height.{end_adds, added_before}
use Rattle.meaning.specs.declared.settings.Settings.{Settings}
use Rattle.table.specs.LinesFrom.{lines_from, lines-all, lines_more, lines_end, ending_at_lem}
use Rattle.heights.specs.Heights.{not_counted, not-counted-few, not-counted-two}

module _ (s : Settings) (ending : ℕ) where
  pub end-new : ending ≡ 0 → s.spacing.0 + s.paragraph.0 ≡ end_adds s ending
  unfolding end_adds pick
  end-new e = rw e

  pub end_break : ending ≡ 3 → s.spacing.0 ≡ end_adds s ending
  unfolding end_adds pick
  end_break e = rw e

  pub end_other : (ending ≡ 0 → ⊥) → (ending ≡ 3 → ⊥) → 0 ≡ end_adds s ending
  unfolding end_adds pick
  end_other d e = rw (ne_eqb _ _ d, ne_eqb _ _ e)

pub added-start : (s : Settings) (t : List ℕ) (k : ℕ)
    → added_before s k (entries_in k t) ≡ 0 + added_before s (k - 0) (lines_from t k 0)
added-start s t k =
    let e : k - 0 ≡ k = omega arith in
    rw (e, lines-all t k) (omega arith)

-- The lines from i on, of k lines.
module _ (s : Settings) (t : List ℕ) (k i : ℕ) where
  pub added_more : i < k
      → added_before s (k - i) (lines_from t k i)
      ≡ end_adds s (get_or t (entry_numbers * i + 3) 0) + added_before s (k - (i + 1)) (lines_from t k (i + 1))
  unfolding added_before
  added_more h =
      let e : k - i ≡ suc (k - (i + 1)) = omega arith in
      rw (lines_more t k i h, e, ending_at_lem t i)

  pub added-end : k ≤ i → added_before s (k - i) (lines_from t k i) ≡ 0
  unfolding added_before
  added-end h = rw (lines_end t k i h)

module _ (s : Settings) (n lines : ℕ) (t : List ℕ) where
  pub left-few : lines < 2 → 0 ≡ not_counted s n (entries_in lines t)
  left-few h = sym (not-counted-few s n lines t h)

  module _ (h : 2 ≤ lines) where
    abbrev at : ℕ
    at = entry_numbers * (lines - 2)

    two : not_counted s n (entries_in lines t) ≡ pick (eqb (get_or t (at + 3) 0) 3 && eqb (get_or t (at + entry_numbers) 0) n) s.spacing.0 0
    two =
        let e : lines ≡ suc (suc (lines - 2)) = omega arith in
        ap (λ (l : ℕ). not_counted s n (entries_in l t)) e ∙ not-counted-two s n (lines - 2) t

    pub left-ending : (get_or t (at + 3) 0 ≡ 3 → ⊥) → 0 ≡ not_counted s n (entries_in lines t)
    unfolding pick
    left-ending d = sym (two ∙ rw (ne_eqb _ _ d))

    module _ (e : get_or t (at + 3) 0 ≡ 3) where
      pub left-start : (get_or t (at + entry_numbers) 0 ≡ n → ⊥) → 0 ≡ not_counted s n (entries_in lines t)
      unfolding pick
      left-start d = sym (two ∙ rw (eq-eqb _ _ e, ne_eqb _ _ d))

      pub left_out_lem : get_or t (at + entry_numbers) 0 ≡ n → s.spacing.0 ≡ not_counted s n (entries_in lines t)
      unfolding pick
      left_out_lem f = sym (two ∙ rw (eq-eqb _ _ e, eq-eqb _ _ f))
