-- Every line takes a character, unless it ends the text: in a fresh layout and in laying again, whatever the settings (rule 10).
-- Assumes nothing.
use Prim.Native.Nat.{ℕ, zero, suc, ◌+◌, ◌-◌, ◌≤◌}
use Rattle.std.specs.Prelude.{◌≡◌, true, not, leb, length, take, Ok}
use mathlib.Core.List.{List, [], ◌∷◌}
use Rattle.std.proofs.Common.{arith, leb-true}
use Rattle.std.proofs.lemmas.Bool.{not-false}
use Rattle.std.proofs.Math.ListN.{drop}
use Rattle.basis.specs.Choice.{pick_cases, and_true}
use Rattle.utf8.specs.Encoding.{bytes, size}
use Rattle.utf8.specs.Places.{boundary}
use Rattle.meaning.specs.LineIter.{Held}
use Rattle.meaning.specs.Line.{lay_line, end_number, rest_of, entry_at}
use Rattle.meaning.specs.Layout.{Row, row_at, rows}
use Rattle.meaning.specs.WellFormed.{no_rest}
use Rattle.meaning.specs.Edit.{chars_in, rest_fits, check_rest, kept_from, Again, again_unless_ended, unless_kept, again_by, held_of, again}
use Rattle.meaning.specs.declared.settings.Settings.{Settings}
use Rattle.meaning.specs.declared.edit.Edit.{Edit}
use Rattle.meaning.specs.declared.line.LineEnd.{LineEnd}
use Rattle.meaning.specs.declared.line.LineEnd.TheVariants.{NewLine, CarriageReturn, EndOfText, LineBreak}
use Rattle.meaning.specs.declared.line.Entry.{Entry}
use Rattle.meaning.specs.declared.refusals.Refusal.TheVariants.{BadLine}
use Rattle.laws.specs.GoodChecks.{refuse_good}
use Rattle.laws.specs.LineBounds.{line-rest, line-held, line-takes}
use Rattle.laws.specs.LayoutBounds.{Takes, ends-take, layout-ends}
use Rattle.laws.specs.RowInduction.{FitsIn}

-- ---- the fresh layout

pub lines-take : (s : Settings) (cs : List ℕ) → Takes (rows s cs)
lines-take s cs = ends-take (rows s cs) (layout-ends s cs)

-- ---- laying again

-- There are no more characters in some bytes of a text than in all of it.
pub chars-within : (cs : List ℕ) (n : ℕ) → chars_in cs n ≤ length cs
unfolding chars_in
chars-within [] n = omega arith
chars-within (c ∷ cs) n =
    pick_cases (λ k. k ≤ suc (length cs)) (leb (bytes c) n) (λ _. omega (arith, chars-within cs (n - bytes c))) (λ _. omega arith)

-- What an entry says is held fits the text from its start on, if that is checked.
pub held_fits : (e : Entry) (cs : List ℕ) → rest_fits e cs ≡ true → FitsIn cs (held_of e cs)
unfolding rest_fits held_of
held_fits e cs h =
    let n = e.rest.end.0 - e.start.0 in
    pick_cases (FitsIn cs) (no_rest e) (λ _. (omega arith, omega arith))
    (λ q. (
      chars-within cs n,
      leb-true e.rest.count.0 (chars_in cs n) (and_true (boundary cs n) (leb e.rest.count.0 (chars_in cs n)) (rw q at h)).1,
    ))

kept-takes : (ed : Edit) (before : ℕ) (es : List Entry) (a : Again) → Takes a.laid → Takes (unless_kept ed before es a).laid
unfolding unless_kept
kept-takes ed before [] a h = h
kept-takes ed before (e ∷ es) a h = tt

ended-takes : (e : LineEnd) (a : Again) → Takes a.laid → Takes (again_unless_ended e a).laid
unfolding again_unless_ended
ended-takes EndOfText a h = tt
ended-takes NewLine a h = h
ended-takes CarriageReturn a h = h
ended-takes LineBreak a h = h

break_goes-on : (e : LineEnd) → end_number e ≡ 3 → e ≡ EndOfText → ⊥
break_goes-on e h p = let z : ◌≡◌ {A = ℕ} 2 3 = rw p at h in omega arith

module _ (s : Settings) (ed : Edit) (old : List Entry) where
  laid-take : (n start before : ℕ) (h : Held) (cs : List ℕ) → FitsIn cs h → Takes (again_by n s ed old start before h cs).laid
  unfolding again_by row_at entry_at
  laid-take zero start before h cs f = tt
  laid-take (suc n) start before h cs f =
      let l = lay_line s h cs in
      let next = start + size (take l.chars cs) in
      let rest = drop l.chars cs in
      let more = again_by n s ed old next (before + l.chars) l.held rest in
      kept-takes ed before (kept_from ed start (rest_of start h cs) old) _ (
        λ e. line-takes s h cs f.0 f.1 (break_goes-on l.ended e),
        ended-takes l.ended more
            (laid-take n next (before + l.chars) l.held rest (line-rest s h cs f.0 f.1, line-held s h cs f.0 f.1)),
      )

  -- From any entry on, as the first affected one, whose rest was checked.
  pub again-takes : (es : List Entry) (cs : List ℕ) (j : ℕ) → check_rest j es cs ≡ Ok tt → Takes (again s ed old es cs).laid
  unfolding again check_rest
  again-takes [] cs j h = tt
  again-takes (e ∷ es) cs j h =
      laid-take (suc (length cs)) e.start.0 e.before.0 (held_of e cs) cs
      (held_fits e cs (not-false (rest_fits e cs) (refuse_good (not (rest_fits e cs)) (BadLine j) h)))
