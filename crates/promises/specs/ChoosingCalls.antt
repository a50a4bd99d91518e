-- What an answer of the call that chooses a text tells its caller (rule 10).
-- Assumes nothing.
use Rattle.std.specs.Prelude.{ℕ, ◌≤◌, ◌<◌, ◌≡◌, refl, true, take, drop, Err, Ok, Result}
use Rattle.meaning.specs.declared.answers.Chosen.TheVariants as chosen
use Rattle.meaning.specs.Refusals.{Checked}
use Rattle.meaning.specs.declared.answers.Chosen.{Chosen}
use Rattle.meaning.specs.declared.refusals.Refusal.{Refusal}
use Rattle.std.proofs.Common.{◌∙◌, arith}
use mathlib.Core.List.{List, [], ◌∷◌, ◌++◌}
use Rattle.std.proofs.Math.ListN.{length}
use Rattle.utf8.specs.Decoding.{decode_all}
use Rattle.utf8.specs.Places.{boundary}
use Rattle.meaning.specs.Checks.{answered, check_limit, check_settings, check_length, check_utf8, check_text}
use Rattle.meaning.specs.Layout.{layout}
use Rattle.meaning.specs.Pages.{taken_bytes, left_out, pages_of}
use Rattle.meaning.specs.PageCalls.{check_choosing, chosen_part, chosen_of, choosing_answer}
use Rattle.meaning.specs.declared.settings.Settings.{Settings}
use Rattle.choosing.specs.ChosenPart.{long-chosen, short-chosen, long-within, short-beyond, lines_join, taken-within, taken-chars, left_out_lem}
use Rattle.laws.specs.PageBoundaries.{taken-boundary}
use Rattle.laws.specs.PageStretches.{joined}
use Rattle.laws.specs.TestOrder.{none_refuses}

-- The long text, of n bytes.
pub record LongSaid (s : Settings) (h : ℕ) (long short : List ℕ) (n : ℕ) : Type 0 where
  pub lines : length (layout s (decode_all long)) ≤ h
  pub bytes : n ≡ length long
  pub part : chosen_part s h long short ≡ long

-- The first n bytes of the short text, and k characters left out.
pub record ShortSaid (s : Settings) (h : ℕ) (long short : List ℕ) (n k : ℕ) : Type 0 where
  pub lines : h < length (layout s (decode_all long))
  pub within : n ≤ length short
  pub part : chosen_part s h long short ≡ take n short
  -- They end at a character boundary, and are what the first h lines of the short text take, one line after the other.
  pub ends : boundary (decode_all short) n ≡ true
  pub taken : joined short (take h (pages_of 1 (layout s (decode_all short)))) ≡ take n short
  -- Its characters are theirs and those that are left out.
  pub chars : decode_all short ≡ decode_all (take n short) ++ decode_all (drop n short)
  pub left : k ≡ length (decode_all (drop n short))

-- ---- why

long-answer : (c : Checked) (x : Chosen) (n : ℕ) → answered c (Ok x) Err ≡ Ok (chosen.Long n) → x ≡ chosen.Long n
long-answer (Ok tt) x n e = cc
long-answer (Err r) x n e = cc

short-answer : (c : Checked) (x : Chosen) (n k : ℕ) → answered c (Ok x) Err ≡ Ok (chosen.Short n k) → (c ≡ Ok tt) × (x ≡ chosen.Short n k)
short-answer (Ok tt) x n k e = (refl, cc)
short-answer (Err r) x n k e = (cc, cc)

module _ (s : Settings) (h : ℕ) (long short : List ℕ) where
  pub long-said : (n : ℕ) → choosing_answer s h long short ≡ Ok (chosen.Long n) → LongSaid s h long short n
  unfolding choosing_answer
  long-said n e =
      let is = long-answer (check_choosing s h long short) (chosen_of s h long short) n e in
      let within = long-within s h long short n is in
      let c = long-chosen s h long short within in
      let same : n ≡ length long = cc in
      record { lines = within; bytes = same; part = c.1 }

  -- Nothing was refused, so the short text is UTF-8.
  short-good : check_choosing s h long short ≡ Ok tt → check_utf8 short ≡ Ok tt
  unfolding check_choosing check_text
  short-good e =
      let p = none_refuses (check_limit h) (check_settings s ∷ check_text long ∷ check_text short ∷ []) e in
      let q = none_refuses (check_settings s) (check_text long ∷ check_text short ∷ []) p.1 in
      let r = none_refuses (check_text long) (check_text short ∷ []) q.1 in
      let t = none_refuses (check_text short) [] r.1 in
      (none_refuses (check_utf8 short) [] (none_refuses (check_length (length short)) (check_utf8 short ∷ []) t.0).1).0

  pub short-said : (n k : ℕ) → choosing_answer s h long short ≡ Ok (chosen.Short n k) → ShortSaid s h long short n k
  unfolding choosing_answer
  short-said n k e =
      let a = short-answer (check_choosing s h long short) (chosen_of s h long short) n k e in
      let good = short-good a.0 in
      let beyond = short-beyond s h long short n k a.1 in
      let c = short-chosen s h long short beyond in
      let bytes : n ≡ taken_bytes s h (decode_all short) = cc in
      let out : k ≡ left_out s h (decode_all short) = cc in
      record {
        lines = beyond;
        within = omega (arith, taken-within s h short good);
        part = rw bytes c.1;
        ends = rw bytes (taken-boundary s (decode_all short) h);
        taken = rw bytes (lines_join s h (decode_all short) short);
        chars = rw bytes (taken-chars s h short good);
        left = rw bytes (out ∙ left_out_lem s h short good);
      }
