-- The tests of the two calls, in their order, and what each leaves (refusal 1, refusal 2, refusal 3, refusal 4).
-- Assumes nothing.
use Rattle.std.specs.Prelude.{ℕ, ◌≤◌, ◌≡◌, true, false, length, Err, Ok}
use Rattle.std.proofs.Common.{ap, Bool, Result, sym, ◌∙◌}
use mathlib.Core.List.{List, [], ◌∷◌}
use Rattle.utf8.specs.Decoding.{decode_all}
use Rattle.meaning.specs.Checks.{first_of, check_limit, check_settings, check_length, check_utf8, check_text}
use Rattle.meaning.specs.Columns.{fits_whole, narrowest}
use Rattle.meaning.specs.ColumnCalls.{check_columns, fitting_answer, planning_answer}
use Rattle.meaning.specs.declared.settings.Settings.{Settings}
use Rattle.meaning.specs.declared.refusals.Refusal.{Refusal}
use Rattle.laws.specs.TestOrder.{first_alone, none_refuses, three-good}
use Rattle.checks.specs.LimitLaws.{limit-some}
use Rattle.rows.specs.RowsFrom.{TextReady}
use Rattle.rows.specs.GoodInput.{text-ready}

module _ (s : Settings) (h : ℕ) (t : List ℕ) where
  -- ---- the tests

  pub limit-refused : (r : Refusal) → check_limit h ≡ Err r → Err r ≡ check_columns s h t
  unfolding check_columns first_of
  limit-refused r e = rw e

  module _ (limit : check_limit h ≡ Ok tt) where
    pub settings-refused : (r : Refusal) → check_settings s ≡ Err r → Err r ≡ check_columns s h t
    unfolding check_columns first_of
    settings-refused r e = rw (limit, e)

    pub text_decides : check_settings s ≡ Ok tt → check_text t ≡ check_columns s h t
    unfolding check_columns first_of
    text_decides e = rw (limit, e) (sym (first_alone (check_text t)))

  -- Where they refuse nothing, lines can be laid, at least one.
  module _ (good : check_columns s h t ≡ Ok tt) where
    all-good : (check_limit h ≡ Ok tt) × (check_settings s ≡ Ok tt) × (check_text t ≡ Ok tt)
    unfolding check_columns
    all-good = three-good (check_limit h) (check_settings s) (check_text t) good

    pub good-limit : 1 ≤ h
    good-limit = limit-some h all-good.0

    pub good-ready : TextReady s t
    good-ready = text-ready s all-good.1 t all-good.2

    pub good-utf8 : check_utf8 t ≡ Ok tt
    unfolding check_text
    good-utf8 = (none_refuses (check_utf8 t) [] (none_refuses (check_length (length t)) (check_utf8 t ∷ []) all-good.2).1).0

  -- ---- the check of a width

  pub fitting-refused : (r : Refusal) → check_columns s h t ≡ Err r → Err r ≡ fitting_answer s h t
  unfolding fitting_answer
  fitting-refused r e = rw e

  pub fitting-done : check_columns s h t ≡ Ok tt → ◌≡◌ {A = Result Bool Refusal} (Ok (fits_whole s h (decode_all t))) (fitting_answer s h t)
  unfolding fitting_answer
  fitting-done e = rw e

  pub fitting_yes : check_columns s h t ≡ Ok tt → fits_whole s h (decode_all t) ≡ true → Ok true ≡ fitting_answer s h t
  fitting_yes e f = ap Ok (sym f) ∙ fitting-done e

  pub fitting_no : check_columns s h t ≡ Ok tt → fits_whole s h (decode_all t) ≡ false → Ok false ≡ fitting_answer s h t
  fitting_no e f = ap Ok (sym f) ∙ fitting-done e

  -- ---- the planned width

  pub planning-refused : (r : Refusal) → check_columns s h t ≡ Err r → Err r ≡ planning_answer s h t
  unfolding planning_answer
  planning-refused r e = rw e

  pub planning-done : check_columns s h t ≡ Ok tt → Ok (narrowest s h (decode_all t)) ≡ planning_answer s h t
  unfolding planning_answer
  planning-done e = rw e
