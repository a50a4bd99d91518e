-- Whether a rest fits, as the code finds it: its end in the part is a number that equals `rest_end`.
-- Assumes nothing.
use Prim.Native.Nat.{ℕ}
use Rattle.std.specs.Prelude.{Ok}
use mathlib.Core.Path.{◌≡◌, sym, ap, ◌∙◌}
use mathlib.Core.Bool.{true, false}
use mathlib.Core.List.{List}
use lib.Dec.{leb}
use Rattle.utf8.specs.Decoding.{decode_all}
use Rattle.utf8.specs.Places.{boundary, boundary_at}
use Rattle.meaning.specs.Checks.{check_utf8}
use Rattle.meaning.specs.WellFormed.{no_rest}
use Rattle.meaning.specs.Edit.{chars_in, rest_fits}
use Rattle.meaning.specs.declared.line.Entry.{Entry}
use Rattle.laws.specs.PartChars.{part-boundary}
use Rattle.edits.specs.RestFits.{rest_end, fits_not, fits_by}

module _ (t : List ℕ) (e : Entry) where
  abbrev cs : List ℕ
  cs = decode_all t

  module _ (u : check_utf8 t ≡ Ok tt) (some : no_rest e ≡ false) (n : ℕ) (is : n ≡ rest_end e) where
    pub no_boundary : boundary_at t n ≡ false → false ≡ rest_fits e cs
    no_boundary h = fits_not e cs some (sym (part-boundary t u (rest_end e)) ∙ rw (← is) h)

    pub a-boundary : boundary_at t n ≡ true → boundary cs n ≡ true
    a-boundary h = sym (part-boundary t u n) ∙ h

    pub counts-few : (m : ℕ) → boundary_at t n ≡ true → m ≡ chars_in cs n → leb e.rest.count.0 m ≡ rest_fits e cs
    counts-few m h p = fits_by e cs some m (p ∙ ap (chars_in cs) is) (rw (← is) (a-boundary h))
