-- How arguments are passed. C passes settings as thirteen numbers and an edit as three, before the other arguments, and nothing is left
-- behind of either.
-- Assumes nothing.
use Rattle.std.specs.Prelude.{ℕ, List, ℤ}
use Rattle.std.specs.Borrow.{Bor, MutBor}
use Rattle.meaning.specs.declared.settings.Settings.{Settings}
use Rattle.meaning.specs.declared.edit.Edit.{Edit}

-- A slice and one of signed numbers, lent to be read, as `&`.
abbrev pub Lent : Type 0
Lent = Bor (List ℕ)

abbrev pub LentYs : Type 0
LentYs = Bor (List ℤ)

-- The same, and a number, lent to be written, as `&mut`.
abbrev pub LentMut : Type 0
LentMut = MutBor (List ℕ)

abbrev pub LentYsMut : Type 0
LentYsMut = MutBor (List ℤ)

abbrev pub LentNumber : Type 0
LentNumber = MutBor ℕ

abbrev pub LentSigned : Type 0
LentSigned = MutBor ℤ

-- Any thirteen numbers are those of some settings, and any three those of some edit.
abbrev pub passed : {X : Type 0} → Settings → X
    → ℕ × (ℕ × (ℕ × (ℕ × (ℕ × (ℕ × (ℕ × (ℤ × (ℕ × (ℕ × (ℕ × (ℕ × (ℕ × X))))))))))))
passed s x = (
  s.glyph.0,
  (
    s.width.0,
    (
      s.tab.0,
      (
        s.spacing.0,
        (
          s.paragraph.0,
          (
            s.base.0,
            (
              s.height.0,
              (s.top, (s.alignment, (s.vertical, (s.leading, (s.trailing, (s.wrap, x)))))),
            ),
          ),
        ),
      ),
    ),
  ),
)

abbrev pub passed_edit : {X : Type 0} → Edit → X → ℕ × (ℕ × (ℕ × X))
passed_edit ed x = (ed.from.0, (ed.to.0, (ed.inserted.0, x)))

abbrev pub none_left : {X : Type 0} → X
    → Unit {0} × (Unit {0} × (Unit {0} × (Unit {0} × (Unit {0} × (Unit {0} × (Unit {0} × (Unit {0} × (Unit {0} × (Unit {0} × (Unit {0} × (Unit {0} × (Unit {0} × X))))))))))))
none_left x = (tt, (tt, (tt, (tt, (tt, (tt, (tt, (tt, (tt, (tt, (tt, (tt, (tt, x)))))))))))))

abbrev pub no_edit_left : {X : Type 0} → X → Unit {0} × (Unit {0} × (Unit {0} × X))
no_edit_left x = (tt, (tt, (tt, x)))
