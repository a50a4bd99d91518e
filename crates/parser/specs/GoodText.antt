-- A text that no check refuses is no longer than an offset can say.
-- Assumes nothing.
use Rattle.std.specs.Prelude.{◌≡◌, List, ℕ, ◌≤◌, length, Err, Ok}
use Rattle.std.proofs.Common.{◌∙◌, arith}
use Rattle.basis.specs.Order.{by_lt}
use Rattle.meaning.specs.Checks.{check_text}
use Rattle.meaning.specs.Refusals.{Checked}
use Rattle.meaning.specs.declared.refusals.Refusal.{Refusal}
use Rattle.checks.specs.TextLaws.{too_long}

refused-good : {r : Refusal} → ◌≡◌ {A = Checked} (Err r) (Ok tt) → ⊥
refused-good e = let z : ◌≡◌ {A = ℕ} 0 1 = cc in omega arith

pub good_length : (t : List ℕ) → check_text t ≡ Ok tt → length t ≤ 65535
good_length t e = by_lt 65535 (length t) (λ h. absurd (refused-good (too_long t h ∙ e))) (λ h. h)
