-- The length of the edited whole, on each way through the tests.
-- Assumes nothing.
use Prim.Native.Nat.{ℕ, ◌+◌, ◌-◌, ◌≤◌, ◌<◌}
use Rattle.std.specs.Prelude.{None, Some}
use mathlib.Core.Path.{◌≡◌, ap}
use borrow.Author.Tests.{le-leb, lt-leb}
use Rattle.basis.specs.Choice.{pick}
use Rattle.meaning.specs.declared.edit.Edit.{Edit}
use Rattle.table.specs.EditAlone.{edited_whole}

module _ (n : ℕ) (ed : Edit) where
  pub whole_backward : ed.to.0 < ed.from.0 → None ≡ edited_whole n ed
  unfolding edited_whole pick
  whole_backward h = rw (lt-leb _ _ h)

  module _ (h : ed.from.0 ≤ ed.to.0) where
    pub whole-past : n < ed.to.0 → None ≡ edited_whole n ed
    unfolding edited_whole pick
    whole-past p = rw (le-leb _ _ h, lt-leb _ _ p)

    -- The length that the code has found.
    pub whole_is : ed.to.0 ≤ n → (l : ℕ) → l ≡ n + ed.inserted.0 - (ed.to.0 - ed.from.0) → Some l ≡ edited_whole n ed
    unfolding edited_whole pick
    whole_is p l q = rw (le-leb _ _ h, le-leb _ _ p) (ap Some q)
