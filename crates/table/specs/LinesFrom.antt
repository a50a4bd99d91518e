-- The lines of a table from a line on, as a loop over the lines meets them, and its last line.
-- Assumes nothing.
use Prim.Native.Nat.{ℕ, zero, suc, ◌+◌, ◌-◌, ◌*◌, ◌≤◌, ◌<◌}
use Rattle.std.specs.Prelude.{◌≡◌, refl, List, [], ◌∷◌, drop}
use Rattle.std.proofs.Math.Path.{ap}
use Rattle.std.proofs.Common.{◌∙◌, add-zero}
use Rattle.std.proofs.Math.Nat.{sub-zero}
use native.Mathlib.Omega.{arith}
use Rattle.std.proofs.Math.ListN.{get_or}
use Rattle.std.proofs.Math.Seq.{drop-drop, get_or-drop}
use Rattle.meaning.specs.Table.{entry_numbers, entry_in, entries_in}
use Rattle.meaning.specs.WellFormed.{last_reach}
use Rattle.meaning.specs.declared.line.Entry.{Entry}

-- The lines from line k on, of a table of so many.
unfoldable pub lines_from : List ℕ → (lines k : ℕ) → List Entry
lines_from t lines k = entries_in (lines - k) (drop (entry_numbers * k) t)

module _ (t : List ℕ) (lines : ℕ) where
  pub lines-all : lines_from t lines 0 ≡ entries_in lines t
  unfolding lines_from
  lines-all = ap (λ (n : ℕ). entries_in n t) (sub-zero lines)

  module _ (k : ℕ) where
    pub lines_more : k < lines → lines_from t lines k ≡ entry_in (drop (entry_numbers * k) t) ∷ lines_from t lines (k + 1)
    unfolding lines_from entries_in
    lines_more h =
        let e : lines - k ≡ suc (lines - (k + 1)) = omega arith in
        let f : entry_numbers * k + entry_numbers ≡ entry_numbers * (k + 1) = omega arith in
        rw (e, drop-drop entry_numbers (entry_numbers * k) t, f)

    pub lines_end : lines ≤ k → lines_from t lines k ≡ []
    unfolding lines_from entries_in
    lines_end h =
        let e : lines - k ≡ 0 = omega arith in
        rw e

-- The last line's reach is the last number but one of the lines.
pub last-reach : (m : ℕ) (t : List ℕ) → last_reach (entries_in (suc m) t) ≡ get_or t (entry_numbers * m + 9) 0
unfolding last_reach entries_in entry_in
last-reach zero t = refl
last-reach (suc m) t =
    let e : entry_numbers + (entry_numbers * m + 9) ≡ entry_numbers * suc m + 9 = omega arith in
    last-reach m (drop entry_numbers t) ∙ get_or-drop entry_numbers t (entry_numbers * m + 9) 0 ∙ ap (λ (i : ℕ). get_or t i 0) e

-- Numbers of line k, read alone.
module _ (t : List ℕ) (k : ℕ) where
  pub start-at : (entry_in (drop (entry_numbers * k) t)).start.0 ≡ get_or t (entry_numbers * k) 0
  unfolding entry_in
  start-at = get_or-drop (entry_numbers * k) t 0 0 ∙ ap (λ (i : ℕ). get_or t i 0) (add-zero (entry_numbers * k))

  pub ending_at_lem : (entry_in (drop (entry_numbers * k) t)).ending ≡ get_or t (entry_numbers * k + 3) 0
  unfolding entry_in
  ending_at_lem = get_or-drop (entry_numbers * k) t 3 0

  pub reach-at : (entry_in (drop (entry_numbers * k) t)).reach.0 ≡ get_or t (entry_numbers * k + 9) 0
  unfolding entry_in
  reach-at = get_or-drop (entry_numbers * k) t 9 0

  pub before_at : (entry_in (drop (entry_numbers * k) t)).before.0 ≡ get_or t (entry_numbers * k + 10) 0
  unfolding entry_in
  before_at = get_or-drop (entry_numbers * k) t 10 0
