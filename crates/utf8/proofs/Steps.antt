-- What a loop finds at one position of a list, and what it has left to do.
-- Assumes nothing.
use mathlib.Core.Path.{◌≡◌, ap}
use mathlib.Core.Bool.{Bool, true, not}
use mathlib.Core.List.{List}
use Prim.Native.Nat.{ℕ, ◌+◌, ◌≤◌, ◌<◌}
use native.Mathlib.Numerals.{add-one}
use lib.Dec.{eqb}
use lib.ListN.{length, get_or, drop, drop_of_length-le}
use lib.Seq.{drop-cons}
use borrow.Author.Tests.{lt-ltb, le-ltb}
use Rattle.basis.specs.Choice.{pick}
use Rattle.utf8.specs.Places.{cont, boundary_at, count_chars}

module _ (s : List ℕ) (i : ℕ) where
  -- Is a position a boundary.
  pub boundary-byte : i < length s → (t : Bool) → t ≡ cont (get_or s i 0) → not t ≡ boundary_at s i
  unfolding boundary_at pick
  boundary-byte h t e = simp (lt-ltb i (length s) h) (ap not e)

  pub boundary_end : length s ≤ i → eqb i (length s) ≡ boundary_at s i
  unfolding boundary_at pick
  boundary_end h = simp (le-ltb i (length s) h)

  -- A byte that continues a sequence does not count, another does.
  pub count-pass : i < length s → cont (get_or s i 0) ≡ true → count_chars (drop i s) ≡ count_chars (drop (i + 1) s)
  unfolding count_chars pick
  count-pass h e = rw (add-one, drop-cons s i 0 h) (simp e)

  pub count-end : length s ≤ i → count_chars (drop i s) ≡ 0
  unfolding count_chars
  count-end h = rw (drop_of_length-le s h)
