-- An entry whose parts are moved is the moved entry.
-- Assumes nothing.
use Prim.Native.Nat.{ℕ, ◌+◌, ◌-◌}
use mathlib.Core.Path.{◌≡◌, sym, ◌∙◌}
use borrow.Author.Tests.{eq-eqb, ne_eqb}
use Rattle.basis.specs.Choice.{pick_true, pick-false}
use Rattle.meaning.specs.Edit.{moved, moved_rest, moved_entry}
use Rattle.meaning.specs.declared.counts.Chars.{Chars}
use Rattle.meaning.specs.declared.counts.Offset.{Offset}
use Rattle.meaning.specs.declared.edit.Edit.{Edit}
use Rattle.meaning.specs.declared.line.Rest.{Rest}
use Rattle.meaning.specs.declared.line.Entry.{Entry}

module _ (ed : Edit) (r : Rest) where
  pub rest-stays : r.end.0 ≡ 0 → r ≡ moved_rest ed r
  unfolding moved_rest
  rest-stays e =
      let p = e ∙ sym (pick_true _ 0 (moved ed r.end.0) (eq-eqb _ _ e)) in
      λ i. record { end = record { 0 = p i }; count = r.count }

  pub rest-moved : (end : Offset) → (r.end.0 ≡ 0 → ⊥) → end.0 ≡ moved ed r.end.0
      → ◌≡◌ {A = Rest} (record { end = end; count = r.count }) (moved_rest ed r)
  unfolding moved_rest
  rest-moved end d e =
      let p = e ∙ sym (pick-false _ 0 (moved ed r.end.0) (ne_eqb _ _ d)) in
      λ i. record { end = record { 0 = p i }; count = r.count }

pub entry-moved : (ed : Edit) (from to : ℕ) (e : Entry) (start : Offset) (rest : Rest) (reach : Offset) (before : Chars)
    → start.0 ≡ moved ed e.start.0 → rest ≡ moved_rest ed e.rest → reach.0 ≡ moved ed e.reach.0
    → before.0 ≡ to + (e.before.0 - from)
    → ◌≡◌ {A = Entry}
    (record {
      start = start;
      rest = rest;
      ending = e.ending;
      left = e.left;
      space = e.space;
      extra = e.extra;
      width = e.width;
      dropped = e.dropped;
      reach = reach;
      before = before;
    })
    (moved_entry ed from to e)
unfolding moved_entry
entry-moved ed from to e start rest reach before p q r c =
    λ i. record {
      start = record { 0 = p i };
      rest = q i;
      ending = e.ending;
      left = e.left;
      space = e.space;
      extra = e.extra;
      width = e.width;
      dropped = e.dropped;
      reach = record { 0 = r i };
      before = record { 0 = c i };
    }
