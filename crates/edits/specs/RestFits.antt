-- Whether the rest of an entry fits the lent part.
-- Assumes nothing.
use Rattle.std.specs.Prelude.{ℕ, ◌-◌, ◌≡◌, true, false, List, leb}
use Rattle.basis.specs.Choice.{and_true}
use Rattle.utf8.specs.Places.{boundary}
use Rattle.meaning.specs.WellFormed.{no_rest}
use Rattle.meaning.specs.Edit.{chars_in, rest_fits}
use Rattle.meaning.specs.declared.line.Entry.{Entry}

-- Where an entry's rest ends in the part, which stands from the entry's start on.
abbrev pub rest_end : Entry → ℕ
rest_end e = e.rest.end.0 - e.start.0

module _ (e : Entry) (cs : List ℕ) where
  pub fits-none : no_rest e ≡ true → true ≡ rest_fits e cs
  unfolding rest_fits
  fits-none h = rw h

  module _ (some : no_rest e ≡ false) where
    pub fits_not : boundary cs (rest_end e) ≡ false → false ≡ rest_fits e cs
    unfolding rest_fits
    fits_not h = rw (some, h)

    pub fits_by : (n : ℕ) → n ≡ chars_in cs (rest_end e) → boundary cs (rest_end e) ≡ true → leb e.rest.count.0 n ≡ rest_fits e cs
    unfolding rest_fits
    fits_by n is h = rw (some, h, is)

    -- One that fits ends at a boundary.
    pub fits-ends : rest_fits e cs ≡ true → boundary cs (rest_end e) ≡ true
    unfolding rest_fits
    fits-ends h = (and_true (boundary cs (rest_end e)) (leb e.rest.count.0 (chars_in cs (rest_end e))) (rw some at h)).0
