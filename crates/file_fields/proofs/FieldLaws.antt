-- A number and a field read at an offset of a file, byte by byte.
-- Assumes nothing.
use Prim.Native.Nat.{ℕ, ◌+◌, ◌-◌, ◌*◌, ◌≤◌, ◌<◌}
use mathlib.Core.Path.{◌≡◌}
use mathlib.Core.Bool.{false, ◌&&◌}
use mathlib.Core.List.{List}
use native.Mathlib.Nat.{add-zero}
use native.Mathlib.Omega.{arith}
use borrow.Author.Tests.{le-leb, lt-leb}
use lib.Dec.{eqb}
use lib.ListN.{length, get_or, drop, length-drop}
use lib.Seq.{get_or-drop}
use Rattle.meaning.specs.LayoutFile.{header_bytes}
use Rattle.meaning.specs.ReadFile.{is_field, number_in}

module _ (f : List ℕ) (at : ℕ) where
  pub number_at : get_or f at 0 + 256 * get_or f (at + 1) 0 + 65536 * get_or f (at + 2) 0 + 16777216 * get_or f (at + 3) 0 ≡ number_in (drop at f)
  unfolding number_in
  number_at = simp (get_or-drop, add-zero)

  module _ (tag size : ℕ) where
    pub cut_short : length f - at < header_bytes + size → false ≡ is_field tag size (drop at f)
    unfolding is_field
    cut_short h = rw (lt-leb (header_bytes + size) (length (drop at f)) (omega (arith, length-drop at f)))

    pub told : (n : ℕ) → header_bytes + size ≤ length f - at → n ≡ get_or f (at + 1) 0 + 256 * get_or f (at + 2) 0
        → (eqb (get_or f at 0) tag && eqb n size) ≡ is_field tag size (drop at f)
    unfolding is_field
    told n h e = rw (e, le-leb (header_bytes + size) (length (drop at f)) (omega (arith, length-drop at f))) (simp (get_or-drop, add-zero))
