-- What the check of a text answers in each of its three cases.
-- Assumes nothing.
use Rattle.std.specs.Prelude.{ℕ, ◌<◌, ◌≤◌, List, ◌≡◌, length, Err, Ok}
use Rattle.std.proofs.Common.{sym, ◌∙◌, arith}
use borrow.Author.Tests.{lt-ltb, le-ltb, eq-eqb, ne_eqb}
use Rattle.basis.specs.Choice.{pick}
use Rattle.basis.specs.Order.{by_lt}
use Rattle.utf8.specs.Decoding.{valid_prefix}
use Rattle.meaning.specs.Checks.{text_limit, check_text, check_length, check_utf8, refuse_if, first_of}
use Rattle.meaning.specs.declared.refusals.Refusal.{Refusal}
use Rattle.meaning.specs.declared.refusals.Refusal.TheVariants.{TextTooLong, NotUtf8}

-- ---- a length

module _ (n : ℕ) where
  pub length-long : text_limit < n → Err (TextTooLong n) ≡ check_length n
  unfolding check_length refuse_if pick
  length-long h = rw (lt-ltb _ _ h)

  pub length-fits : n ≤ text_limit → Ok tt ≡ check_length n
  unfolding check_length refuse_if pick
  length-fits h = rw (le-ltb _ _ h)

  -- A length that is not refused is in the limit.
  pub length-within : check_length n ≡ Ok tt → n ≤ text_limit
  length-within e = by_lt text_limit n (λ h. absurd (let p = length-long h ∙ e in let z : ◌≡◌ {A = ℕ} 0 1 = cc in omega arith)) (λ h. h)

-- ---- a text

module _ (t : List ℕ) where
  pub refused-long : (r : Refusal) → check_length (length t) ≡ Err r → Err r ≡ check_text t
  unfolding check_text first_of
  refused-long r e = rw e

  pub too_long : text_limit < length t → Err (TextTooLong (length t)) ≡ check_text t
  too_long h = refused-long _ (sym (length-long (length t) h))

  -- The prefix that the code has found.
  module _ (short : check_length (length t) ≡ Ok tt) (n : ℕ) (e : n ≡ valid_prefix t) where
    pub text-good : n ≡ length t → Ok tt ≡ check_text t
    unfolding check_text check_utf8 refuse_if first_of pick
    text-good w = rw (short, eq-eqb (valid_prefix t) (length t) (sym e ∙ w))

    pub not-utf8 : (n ≡ length t → ⊥) → Err (NotUtf8 (record { 0 = n })) ≡ check_text t
    unfolding check_text check_utf8 refuse_if first_of pick
    not-utf8 w = rw (short, ne_eqb (valid_prefix t) (length t) (λ v. w (e ∙ v))) (λ i. Err (NotUtf8 (record { 0 = e i })))
