-- What the calls that check and plan a box width answer, from what they were lent alone. A text is a list of bytes here.
-- Refusal 1, refusal 2, refusal 3, refusal 4.
-- Assumes nothing.
use Rattle.std.specs.Prelude.{ℕ, List, [], ◌∷◌, Bool, Err, Ok, Option, Result, false, true}
use Rattle.meaning.specs.Refusals.{Checked}
use Rattle.meaning.specs.declared.refusals.Refusal.{Refusal}
use Rattle.basis.specs.Choice.{pick}
use Rattle.utf8.specs.Decoding.{decode_all}
use Rattle.meaning.specs.Checks.{first_of, answered, check_limit, check_settings, check_text}
use Rattle.meaning.specs.Columns.{fits_whole, narrowest}
use Rattle.meaning.specs.declared.settings.Settings.{Settings}

-- 1 (the limit too), 2, 3, 4. The width in the settings is checked as any, by the planner too, which does not use it.
unfoldable pub check_columns : Settings → (h : ℕ) → List ℕ → Checked
check_columns s h t = first_of (check_limit h ∷ check_settings s ∷ check_text t ∷ [])

unfoldable pub fitting_answer : Settings → (h : ℕ) → List ℕ → Result Bool Refusal
fitting_answer s h t = answered (check_columns s h t) (Ok (fits_whole s h (decode_all t))) Err

unfoldable pub planning_answer : Settings → (h : ℕ) → List ℕ → Result (Option ℕ) Refusal
planning_answer s h t = answered (check_columns s h t) (Ok (narrowest s h (decode_all t))) Err
