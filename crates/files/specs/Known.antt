-- The settings of a file, with the retired one put right, and their tests (refusal 1, refusal 2, refusal 8, refusal 12).
-- Assumes nothing.
use Rattle.std.specs.Prelude.{ℕ, ◌≡◌, List, [], ◌∷◌, ℤ, get_or, Err, Ok}
use Rattle.meaning.specs.Refusals.{Checked}
use Rattle.std.proofs.Math.Path.{sym}
use Rattle.std.proofs.Common.{◌∙◌, eq-eqb, ne_eqb}
use Rattle.basis.specs.Choice.{pick_true, pick-false}
use Rattle.meaning.specs.Checks.{first_of, check_settings, check_room}
use Rattle.meaning.specs.Settings.{settings_of}
use Rattle.meaning.specs.LayoutFile.{settings_numbers}
use Rattle.meaning.specs.ReadFile.{signed_of, settings_in, unretired, check_retired}
use Rattle.meaning.specs.declared.settings.Settings.{Settings}
use Rattle.meaning.specs.declared.refusals.Refusal.{Refusal}
use Rattle.meaning.specs.declared.refusals.Refusal.TheVariants.{RetiredSetting}
use Rattle.laws.specs.TestOrder.{first_alone}
use Rattle.files.specs.Tests.{stops, passes}

-- The settings of thirteen numbers, with the top as it was found.
pub settings-are : (xs : List ℕ) (z : ℤ) → z ≡ signed_of (get_or xs 7 0)
    → settings_of (get_or xs 0 0) (get_or xs 1 0) (get_or xs 2 0) (get_or xs 3 0) (get_or xs 4 0) (get_or xs 5 0) (get_or xs 6 0) z (get_or xs 8 0)
    (get_or xs 9 0) (get_or xs 10 0) (get_or xs 11 0) (get_or xs 12 0)
    ≡ settings_in xs
unfolding settings_in
settings-are xs z e = rw e

-- The same settings with a 0 for the trailing spaces.
abbrev pub without_trailing : Settings → Settings
without_trailing s =
    settings_of s.glyph.0 s.width.0 s.tab.0 s.spacing.0 s.paragraph.0 s.base.0 s.height.0 s.top
    s.alignment s.vertical s.leading 0 s.wrap

module _ (s : Settings) where
  pub unretired-same : (s.trailing ≡ 1 → ⊥) → s ≡ unretired s
  unfolding unretired
  unretired-same d = sym (pick-false _ _ _ (ne_eqb _ _ d))

  pub unretired_without : s.trailing ≡ 1 → without_trailing s ≡ unretired s
  unfolding unretired
  unretired_without e = sym (pick_true _ _ _ (eq-eqb _ _ e))

  module _ (room : ℕ) where
    pub not_retired : (s.trailing ≡ 1 → ⊥) → Ok tt ≡ check_retired room s
    unfolding check_retired
    not_retired d = sym (pick-false _ _ _ (ne_eqb _ _ d))

    module _ (e : s.trailing ≡ 1) where
      retired_tests : check_retired room s ≡ first_of (check_room room settings_numbers ∷ Err RetiredSetting ∷ [])
      unfolding check_retired
      retired_tests = pick_true _ _ _ (eq-eqb _ _ e)

      pub retired_no_room : (r : Refusal) → check_room room settings_numbers ≡ Err r → Err r ≡ check_retired room s
      retired_no_room r h = sym (retired_tests ∙ stops (check_room room settings_numbers) (Err RetiredSetting ∷ []) r h)

      pub is_retired_lem : check_room room settings_numbers ≡ Ok tt → Err RetiredSetting ≡ check_retired room s
      is_retired_lem h =
          sym (retired_tests ∙ passes (check_room room settings_numbers) (Err RetiredSetting ∷ []) h ∙ first_alone (Err RetiredSetting))

    abbrev pub known_tests : Checked
    known_tests = first_of (check_settings (unretired s) ∷ check_retired room s ∷ [])

    pub known-refused : (r : Refusal) → check_settings (unretired s) ≡ Err r → Err r ≡ known_tests
    known-refused r h = sym (stops (check_settings (unretired s)) (check_retired room s ∷ []) r h)

    pub known-good : check_settings (unretired s) ≡ Ok tt → check_retired room s ≡ known_tests
    known-good h = sym (passes (check_settings (unretired s)) (check_retired room s ∷ []) h ∙ first_alone (check_retired room s))
