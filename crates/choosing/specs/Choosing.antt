-- The tests of the call that chooses between two texts, in their order, and what each leaves; what is chosen.
-- Rule 10, refusal 1, refusal 2, refusal 3, refusal 4.
-- Assumes nothing.
use Rattle.std.specs.Prelude.{ℕ, ◌≡◌, true, false, None, Err, Ok}
use Rattle.meaning.specs.declared.answers.Chosen.TheVariants as chosen
use Rattle.std.proofs.Math.Path.{sym, ap}
use Rattle.std.proofs.Common.{subst, ◌∙◌, arith}
use mathlib.Core.List.{List, [], ◌∷◌}
use Rattle.std.proofs.Math.ListN.{length, take}
use Rattle.std.proofs.Math.Seq.{length-take-le, take_all}
use Rattle.basis.specs.Choice.{pick, pick_true, pick-false}
use Rattle.utf8.specs.Decoding.{decode_all}
use Rattle.utf8.specs.Places.{boundary}
use Rattle.meaning.specs.Checks.{first_of, check_limit, check_settings, check_length, check_utf8, check_text}
use Rattle.meaning.specs.Frames.{onward}
use Rattle.meaning.specs.Pages.{within_lines, taken_bytes, left_out}
use Rattle.meaning.specs.PageCalls.{check_choosing, chosen_part, chosen_of, choosing_answer}
use Rattle.meaning.specs.declared.settings.Settings.{Settings}
use Rattle.meaning.specs.declared.refusals.Refusal.{Refusal}
use Rattle.choosing.specs.ChosenPart.{taken-within}
use Rattle.laws.specs.PageBoundaries.{taken-boundary}
use Rattle.laws.specs.TestOrder.{first_alone, none_refuses, three-good}
use Rattle.rows.specs.GoodInput.{text-ready}
use Rattle.choosing.specs.Taking.{Takeable, taken, all_taken}

module _ (s : Settings) (h : ℕ) (long short : List ℕ) where
  -- ---- the tests

  pub limit-refused : (r : Refusal) → check_limit h ≡ Err r → Err r ≡ check_choosing s h long short
  unfolding check_choosing first_of
  limit-refused r e = rw e

  module _ (limit : check_limit h ≡ Ok tt) where
    pub settings-refused : (r : Refusal) → check_settings s ≡ Err r → Err r ≡ check_choosing s h long short
    unfolding check_choosing first_of
    settings-refused r e = rw (limit, e)

    module _ (settings : check_settings s ≡ Ok tt) where
      pub long-refused : (r : Refusal) → check_text long ≡ Err r → Err r ≡ check_choosing s h long short
      unfolding check_choosing first_of
      long-refused r e = rw (limit, settings, e)

      pub short_decides : check_text long ≡ Ok tt → check_text short ≡ check_choosing s h long short
      unfolding check_choosing first_of
      short_decides e = sym (rw (limit, settings, e) (first_alone (check_text short)))

  pub choosing-refused : (r : Refusal) → check_choosing s h long short ≡ Err r → Err r ≡ choosing_answer s h long short
  unfolding choosing_answer
  choosing-refused r e = rw e

  -- ---- where nothing is refused

  module _ (good : check_choosing s h long short ≡ Ok tt) where
    others-good : (check_settings s ≡ Ok tt) × (check_text long ≡ Ok tt) × (check_text short ≡ Ok tt)
    unfolding check_choosing
    others-good = three-good (check_settings s) (check_text long) (check_text short) (none_refuses (check_limit h) _ good).1

    takeable : (t : List ℕ) → check_text t ≡ Ok tt → Takeable s t
    unfolding check_text
    takeable t e =
        record {
          ready = text-ready s others-good.0 t e;
          utf8 = (none_refuses (check_utf8 t) [] (none_refuses (check_length (length t)) (check_utf8 t ∷ []) e).1).0;
        }

    pub long-takeable : Takeable s long
    long-takeable = takeable long others-good.1

    pub short-takeable : Takeable s short
    short-takeable = takeable short others-good.2

  -- ---- the part

  pub part-long : true ≡ within_lines s h (decode_all long) → long ≡ chosen_part s h long short
  unfolding chosen_part
  part-long e = sym (pick_true _ _ _ (sym e))

  pub part-short : false ≡ within_lines s h (decode_all long) → (n : ℕ) → n ≡ taken_bytes s h (decode_all short) → take n short ≡ chosen_part s h long short
  unfolding chosen_part
  part-short e n is = ap (λ (k : ℕ). take k short) is ∙ sym (pick-false _ _ _ (sym e))

  -- The short text is within the limit too.
  pub part_all : false ≡ within_lines s h (decode_all long) → check_utf8 short ≡ Ok tt → None ≡ taken s h short → short ≡ chosen_part s h long short
  part_all e good none = sym (take_all (length short) short (omega arith)) ∙ part-short e (length short) (sym (all_taken s h short good none))

  -- ---- the answer

  module _ (good : check_choosing s h long short ≡ Ok tt) where
    pub chosen-long : within_lines s h (decode_all long) ≡ true → (n : ℕ) → n ≡ length (chosen_part s h long short)
        → Ok (chosen.Long n) ≡ choosing_answer s h long short
    unfolding choosing_answer chosen_of chosen_part pick
    chosen-long e n is = rw (good, e) (ap (λ (k : ℕ). Ok (chosen.Long k)) (rw e at is))

    module _ (e : within_lines s h (decode_all long) ≡ false) (n : ℕ) (is : n ≡ length (chosen_part s h long short)) where
      pub bytes-are : n ≡ taken_bytes s h (decode_all short)
      unfolding chosen_part pick
      bytes-are = (rw e at is) ∙ length-take-le _ short (taken-within s h short (short-takeable good).utf8)

      pub bytes-end : boundary (decode_all short) n ≡ true
      bytes-end = subst (λ (k : ℕ). boundary (decode_all short) k ≡ true) (sym bytes-are) (taken-boundary s (decode_all short) h)

      pub chosen-short : (m : ℕ) → m ≡ length (onward (decode_all short) n) → Ok (chosen.Short n m) ≡ choosing_answer s h long short
      unfolding choosing_answer chosen_of left_out pick
      chosen-short m left =
          rw (good, e)
          (λ i. Ok (chosen.Short (bytes-are i) ((left ∙ ap (λ (k : ℕ). length (onward (decode_all short) k)) bytes-are) i)))
