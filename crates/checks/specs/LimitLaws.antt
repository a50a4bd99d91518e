-- What the check of a limit of lines answers in each of its two cases, and what it gives.
-- Assumes nothing.
use Rattle.std.specs.Prelude.{ℕ, ◌≤◌, ◌≡◌, eqb, Err, Ok}
use Rattle.std.proofs.Common.{arith}
use borrow.Author.Tests.{eq-eqb, ne_eqb, eqb-false}
use Rattle.basis.specs.Choice.{pick}
use Rattle.meaning.specs.Checks.{refuse_if, check_limit}
use Rattle.meaning.specs.declared.refusals.Refusal.TheVariants.{SettingOutOfRange}
use Rattle.laws.specs.GoodChecks.{refuse_good}

module _ (h : ℕ) where
  pub limit-none : h ≡ 0 → Err SettingOutOfRange ≡ check_limit h
  unfolding check_limit refuse_if pick
  limit-none e = rw (eq-eqb h 0 e)

  pub limit-good : (h ≡ 0 → ⊥) → Ok tt ≡ check_limit h
  unfolding check_limit refuse_if pick
  limit-good d = rw (ne_eqb h 0 d)

  -- A limit that is not refused lets a line in.
  pub limit-some : check_limit h ≡ Ok tt → 1 ≤ h
  unfolding check_limit
  limit-some e = let d = eqb-false h 0 (refuse_good (eqb h 0) SettingOutOfRange e) in omega (arith, d)
