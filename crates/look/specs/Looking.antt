-- One look over a table: refusal 5, or else the first line that an edit at a affects.
-- Assumes nothing.
use Rattle.std.specs.Prelude.{◌≡◌, ℕ, List, length, Err, Ok, Result}
use Rattle.meaning.specs.Refusals.{Checked}
use Rattle.std.proofs.Math.Path.{refl}
use Rattle.std.proofs.Common.{sym, subst}
use Rattle.meaning.specs.Checks.{answered}
use Rattle.meaning.specs.Edit.{unaffected}
use Rattle.meaning.specs.declared.line.Entry.{Entry}
use Rattle.meaning.specs.declared.refusals.Refusal.{Refusal}

-- What is answered, by a check of the lines and the lines themselves.
unfoldable pub looked_over : (a : ℕ) → Checked → List Entry → Result ℕ Refusal
looked_over a c es = answered c (Ok (length (unaffected a es))) Err

-- What such an answer says of the check and the lines.
abbrev pub Says : (a : ℕ) → Checked → List Entry → Result ℕ Refusal → Type 0
Says a c es (Ok k) = (c ≡ Ok tt) × (k ≡ length (unaffected a es))
Says a c es (Err r) = c ≡ Err r

module _ (a : ℕ) (es : List Entry) where
  own : (c : Checked) → Says a c es (looked_over a c es)
  unfolding looked_over
  own (Ok tt) = (refl, refl)
  own (Err r) = refl

  module _ (c : Checked) where
    pub look_says : (o : Result ℕ Refusal) → o ≡ looked_over a c es → Says a c es o
    look_says o q = subst (Says a c es) (sym q) (own c)

    pub looked-line : (k : ℕ) → c ≡ Ok tt → k ≡ length (unaffected a es) → Ok k ≡ looked_over a c es
    unfolding looked_over
    looked-line k g q = rw (g, q)

    pub looked_bad : (r : Refusal) → c ≡ Err r → Err r ≡ looked_over a c es
    unfolding looked_over
    looked_bad r g = rw g
