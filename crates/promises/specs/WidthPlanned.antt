-- What callers may rely on of a box width that is checked or planned, by the contracts of the calls.
-- Assumes nothing.
use Rattle.std.specs.Prelude.{ℕ, ◌≤◌, ◌<◌, ◌≡◌, refl, Bool, true, false, List, length, Err, None, Ok, Option, Result, Some}
use Rattle.meaning.specs.Refusals.{Checked}
use Rattle.meaning.specs.declared.refusals.Refusal.{Refusal}
use Rattle.std.proofs.Common.{arith, sym, ap, ◌∙◌}
use Rattle.std.proofs.Math.Bool.{false≢true}
use contract.Lifetimes.{Lfts}
use Rattle.basis.specs.Choice.{pick}
use Rattle.utf8.specs.Decoding.{decode_all}
use Rattle.meaning.specs.Settings.{settings_of}
use Rattle.meaning.specs.Checks.{answered}
use Rattle.meaning.specs.Layout.{layout}
use Rattle.meaning.specs.Columns.{fits_whole, with_width, narrowest}
use Rattle.meaning.specs.ColumnCalls.{check_columns, fitting_answer, planning_answer}
use Rattle.meaning.specs.Answers.{noLineNumber, answer_number, fittingValue, found_value}
use Rattle.meaning.specs.declared.settings.Settings.{Settings}
use Rattle.laws.specs.NothingDropped.{DropNothing}
use Rattle.widths.specs.NarrowestWidth.{fits-says, width-says, no_width-says}
use Rattle.promises.specs.Passed.{Lent, LentNumber}
use Rattle.promises.specs.CallContracts.{ColumnsFit, PlanColumns, CColumnsFit, CColumnsPlan}
use Rattle.promises.specs.Unwritten.{refusal_some}

-- ---- what an answer tells

yes_told : (c : Checked) (b : Bool) → answered c (Ok b) Err ≡ Ok true → b ≡ true
unfolding pick
yes_told (Ok tt) b e = cc
yes_told (Err r) b e = cc

no_told : (c : Checked) (b : Bool) → answered c (Ok b) Err ≡ Ok false → b ≡ false
unfolding pick
no_told (Ok tt) b e = cc
no_told (Err r) b e = cc

width-told : (c : Checked) (x : Option ℕ) (w : ℕ) → answered c (Ok x) Err ≡ Ok (Some w) → x ≡ Some w
width-told (Ok tt) x w e = cc
width-told (Err r) x w e = cc

none_told : (c : Checked) (x : Option ℕ) → answered c (Ok x) Err ≡ Ok None → x ≡ None
none_told (Ok tt) x e = cc
none_told (Err r) x e = cc

-- For C a number and a value stand for it.
yes_passed : (x : Result Bool Refusal) → answer_number x ≡ 0 → fittingValue x ≡ 1 → x ≡ Ok true
yes_passed (Ok true) e v = refl
yes_passed (Ok false) e v = absurd (omega arith)
yes_passed (Err r) e v = absurd (refusal_some r e)

no_passed : (x : Result Bool Refusal) → answer_number x ≡ 0 → fittingValue x ≡ 0 → x ≡ Ok false
no_passed (Ok true) e v = absurd (omega arith)
no_passed (Ok false) e v = refl
no_passed (Err r) e v = absurd (refusal_some r e)

width-passed : (x : Result (Option ℕ) Refusal) (w : ℕ) → answer_number x ≡ 0 → found_value x ≡ w → w ≤ 4096 → x ≡ Ok (Some w)
width-passed (Ok (Some v)) w e d small = ap (λ (k : ℕ). Ok (Some k)) d
width-passed (Ok None) w e d small = absurd (omega arith)
width-passed (Err r) w e d small = absurd (refusal_some r e)

none_passed : (x : Result (Option ℕ) Refusal) → ((w : ℕ) → x ≡ Ok (Some w) → w ≤ 4096) → answer_number x ≡ 0 → found_value x ≡ noLineNumber → x ≡ Ok None
none_passed (Ok (Some v)) small e d = let s = small v refl in absurd (omega arith)
none_passed (Ok None) small e d = refl
none_passed (Err r) small e d = absurd (refusal_some r e)

-- ---- the calls

module _ (s : Settings) (text : Lent) (h : ℕ) where
  abbrev cs : List ℕ
  cs = decode_all text.now

  -- At most h lines, of which none dropped a character.
  abbrev pub Fits : Type 0
  Fits = (length (layout s cs) ≤ h) × DropNothing (layout s cs)

  yes_says : fitting_answer s h text.now ≡ Ok true → Fits
  unfolding fitting_answer
  yes_says e = (fits-says s h cs).0 (yes_told (check_columns s h text.now) (fits_whole s h cs) e)

  no_says : fitting_answer s h text.now ≡ Ok false → Fits → ⊥
  unfolding fitting_answer
  no_says e f = false≢true (sym (no_told (check_columns s h text.now) (fits_whole s h cs) e) ∙ (fits-says s h cs).1 f)

  pub columns_fit_yes : (κs : Lfts 1) → ColumnsFit κs s text h (Ok true) → Fits
  columns_fit_yes κs p = yes_says (sym p)

  pub columns_fit_no : (κs : Lfts 1) → ColumnsFit κs s text h (Ok false) → Fits → ⊥
  columns_fit_no κs p = no_says (sym p)

  -- For C: 0 is returned, and the value is 1 or 0.
  pub c-columns_fit_yes : (κs : Lfts 2) (value : LentNumber) → CColumnsFit κs s text h value 0 1 → Fits
  unfolding settings_of
  c-columns_fit_yes κs value p = yes_says (yes_passed (fitting_answer s h text.now) (sym p.0) (sym p.1))

  pub c-columns_fit_no : (κs : Lfts 2) (value : LentNumber) → CColumnsFit κs s text h value 0 0 → Fits → ⊥
  unfolding settings_of
  c-columns_fit_no κs value p = no_says (no_passed (fitting_answer s h text.now) (sym p.0) (sym p.1))

  -- A width is good if the text fits the box of that width; the smallest good one, and that none is.
  abbrev pub Good-width : ℕ → Type 0
  Good-width w = fits_whole (with_width s w) h cs ≡ true

  abbrev pub Bad-width : ℕ → Type 0
  Bad-width w = fits_whole (with_width s w) h cs ≡ false

  abbrev pub Smallest : ℕ → Type 0
  Smallest w = (w ≤ 4096) × Good-width w × ((v : ℕ) → v < w → Bad-width v)

  smallest-says : (w : ℕ) → planning_answer s h text.now ≡ Ok (Some w) → Smallest w
  unfolding planning_answer
  smallest-says w e = width-says s h cs w (width-told (check_columns s h text.now) (narrowest s h cs) w e)

  none-says : planning_answer s h text.now ≡ Ok None → (v : ℕ) → v ≤ 4096 → Bad-width v
  unfolding planning_answer
  none-says e = no_width-says s h cs (none_told (check_columns s h text.now) (narrowest s h cs) e)

  pub plan_columns-width : (κs : Lfts 1) (w : ℕ) → PlanColumns κs s text h (Ok (Some w)) → Smallest w
  plan_columns-width κs w p = smallest-says w (sym p)

  pub plan_columns-none : (κs : Lfts 1) → PlanColumns κs s text h (Ok None) → (v : ℕ) → v ≤ 4096 → Bad-width v
  plan_columns-none κs p = none-says (sym p)

  -- For C: 0 is returned, and the value is a width, or the number that stands for none.
  pub c-columns_plan_width : (κs : Lfts 2) (value : LentNumber) (w : ℕ) → w ≤ 4096 → CColumnsPlan κs s text h value 0 w → Smallest w
  unfolding settings_of
  c-columns_plan_width κs value w small p = smallest-says w (width-passed (planning_answer s h text.now) w (sym p.0) (sym p.1) small)

  pub c-columns_plan_none : (κs : Lfts 2) (value : LentNumber) → CColumnsPlan κs s text h value 0 noLineNumber
      → (v : ℕ) → v ≤ 4096 → Bad-width v
  unfolding settings_of
  c-columns_plan_none κs value p =
      none-says (none_passed (planning_answer s h text.now) (λ w e. (smallest-says w e).0) (sym p.0) (sym p.1))
