-- Offsets and rests moved by an edit, as the code finds them.
-- Assumes nothing.
use mathlib.Core.Path.{◌≡◌}
use borrow.Author.Tests.{eq-eqb, ne_eqb}
use Rattle.basis.specs.Choice.{pick}
use Rattle.meaning.specs.Edit.{moved, moved_rest}
use Rattle.meaning.specs.declared.edit.Edit.{Edit}
use Rattle.meaning.specs.declared.line.Rest.{Rest}

module _ (ed : Edit) where
  pub end_none : (r : Rest) → r.end.0 ≡ 0 → 0 ≡ (moved_rest ed r).end.0
  unfolding moved_rest pick
  end_none r h = rw (eq-eqb r.end.0 0 h)

  pub end_moved : (r : Rest) → (r.end.0 ≡ 0 → ⊥) → moved ed r.end.0 ≡ (moved_rest ed r).end.0
  unfolding moved_rest pick
  end_moved r h = rw (ne_eqb r.end.0 0 h)
