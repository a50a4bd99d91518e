-- What the call that finds all tokens answers, by the check of the text and the room of the buffer.
-- Assumes nothing.
use mathlib.Core.Path.{◌≡◌, refl, ◌∙◌}
use Rattle.std.specs.Prelude.{Err, Ok}
use mathlib.Core.List.{List, [], ◌∷◌}
use Prim.Native.Nat.{ℕ, zero, suc, ◌+◌, ◌*◌, ◌/◌, ◌≤◌, ◌<◌}
use native.Mathlib.Nat.{zero-add}
use native.Mathlib.Omega.{arith}
use lib.ListN.{length}
use lib.Seq.{sets, sets-eq}
use borrow.Author.Tests.{lt-ltb, le-ltb}
use Rattle.basis.specs.Choice.{pick}
use Rattle.utf8.specs.Decoding.{decode_all, valid_prefix}
use Rattle.utf8.specs.Prefix.{prefix-within}
use Rattle.meaning.specs.Characters.{class_of}
use Rattle.meaning.specs.Tokens.{Tok, size_of, others, tokens_by, tokens, ranged}
use Rattle.meaning.specs.Table.{token_numbers, of_token, of_all, capacity_of, written}
use Rattle.meaning.specs.Checks.{refuse_if, check_length, check_utf8, check_text, check_room}
use Rattle.meaning.specs.Calls.{text_tokens, check_tokens, tokens_answer, tokens_buffer}
use Rattle.meaning.specs.declared.refusals.Refusal.{Refusal}
use Rattle.meaning.specs.declared.refusals.Refusal.TheVariants.{TooSmall}
use Rattle.laws.specs.TokenLaws.{length-size}
use Rattle.laws.specs.TestOrder.{first_alone, first-refused, first_good}
use Rattle.parser.specs.Lexing.{chars_from}
use Rattle.tokenizer.proofs.ReadingLaws.{ranged-length}
use Rattle.tokenizer.specs.Writing.{numbers_from, check_needed, room_answer, room_buffer}

-- ---- how many tokens and numbers there are

numbers-length : (at : ℕ) (ts : List Tok) → length (of_all of_token (ranged at ts)) ≡ token_numbers * length ts
unfolding ranged of_all of_token
numbers-length at [] = refl
numbers-length at (t ∷ ts) = omega (arith, numbers-length (at + size_of t) ts)

few : (n : ℕ) (cs : List ℕ) → length (tokens_by n cs) ≤ n
unfolding tokens_by
few zero cs = omega arith
few (suc n) [] = omega arith
few (suc n) (c ∷ cs) = omega (arith, few n (others (class_of c) cs))

module _ (t : List ℕ) where
  -- There are no more tokens than bytes.
  pub tokens-few : length (tokens (chars_from t 0)) ≤ length t
  unfolding chars_from tokens valid_prefix
  tokens-few = let cs = decode_all t in omega (arith, few (length cs) cs, length-size cs, prefix-within t)

  text-length : length (text_tokens t) ≡ length (tokens (chars_from t 0))
  unfolding text_tokens chars_from
  text-length = ranged-length 0 (tokens (decode_all t))

  -- ---- the room of the buffer

  module _ (b : List ℕ) (n : ℕ) (e : n ≡ length (tokens (chars_from t 0))) where
    pub no_room : length b / token_numbers < n → (Err (TooSmall n) ≡ room_answer t b) × (b ≡ room_buffer t b)
    unfolding room_answer room_buffer check_needed check_room refuse_if capacity_of pick
    no_room h =
        rw (text-length, ← e, lt-ltb _ _ h) (refl, refl)

    -- The numbers, stored one after the other, are those written to the front.
    stored : n ≤ length b / token_numbers → sets b 0 (numbers_from t 0) ≡ written b (of_all of_token (text_tokens t))
    unfolding numbers_from text_tokens chars_from written
    stored h =
        let ts = tokens (decode_all t) in
        let xs = of_all of_token (ranged 0 ts) in
        sets-eq xs b 0 (omega (arith, numbers-length 0 ts)) ∙ rw (zero-add (length xs))

    pub room : n ≤ length b / token_numbers → (Ok n ≡ room_answer t b) × (sets b 0 (numbers_from t 0) ≡ room_buffer t b)
    unfolding room_answer room_buffer check_needed check_room refuse_if capacity_of pick
    room h = rw (text-length, ← e, le-ltb _ _ h) (refl, stored h)

-- ---- the check of the text, and then that of the room

module _ (t b : List ℕ) where
  pub text-good : check_text t ≡ Ok tt → (room_answer t b ≡ tokens_answer t b) × (room_buffer t b ≡ tokens_buffer t b)
  unfolding check_text check_tokens room_answer room_buffer tokens_answer tokens_buffer check_needed
  text-good e = rw (first_good (check_length (length t)) (check_utf8 t) (check_needed t b ∷ []) e ∙ first_alone (check_needed t b)) (refl, refl)

  pub text-refused : (r : Refusal) → check_text t ≡ Err r → (Err r ≡ tokens_answer t b) × (b ≡ tokens_buffer t b)
  unfolding check_text check_tokens tokens_answer tokens_buffer check_needed
  text-refused r e = rw (first-refused (check_length (length t)) (check_utf8 t) (check_needed t b ∷ []) r e) (refl, refl)
