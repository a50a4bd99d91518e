-- The characters of a stretch, counted by its bytes.
-- Assumes nothing.
use Prim.Native.Nat.{ℕ, ◌+◌, ◌-◌, ◌≤◌}
use native.Mathlib.Omega.{arith}
use mathlib.Core.Path.{◌≡◌, sym, ap, ◌∙◌}
use mathlib.Core.List.{List, [], ◌∷◌, ◌++◌}
use lib.ListN.{length, take, drop, take-append-drop}
use lib.Seq.{take-append-le}
use Rattle.utf8.specs.Scalar.{Scalars}
use Rattle.utf8.specs.Encoding.{size, encode_all}
use Rattle.utf8.specs.Decoding.{valid_prefix, decode_all}
use Rattle.utf8.specs.Places.{count_chars}
use Rattle.utf8.specs.Sizes.{size_is, size_append, take-encoded}
use Rattle.utf8.specs.Prefix.{encode-all_decode}
use Rattle.utf8.specs.Walk.{decode_all-scalars}
use Rattle.utf8.specs.Boundaries.{count-text}
use Rattle.parser.specs.Lexing.{chars_from}
use Rattle.steps.specs.Lexed.{chars-within}
use Rattle.placing.specs.Taken.{Stretch}

-- The first of some scalar values are some.
scalars-front : (xs ys : List ℕ) → Scalars (xs ++ ys) → Scalars xs
scalars-front [] ys al = tt
scalars-front (x ∷ xs) ys al = (al.0, scalars-front xs ys al.1)

module _ (t : List ℕ) (at next : ℕ) (s : Stretch t at next) where
  abbrev xs : List ℕ
  xs = s.chars

  abbrev ys : List ℕ
  ys = chars_from t next

  bytes-all : size xs + size ys ≡ size (chars_from t at)
  bytes-all = rw s.are (sym (size_append xs ys))

  -- It lies within the text.
  pub stretch-within : at ≤ length t → next ≤ length t
  stretch-within h = omega (arith, s.ends, bytes-all, chars-within t at)

  -- Its bytes are those of its characters.
  stretch-bytes : take (size xs) (drop at t) ≡ encode_all xs
  unfolding chars_from
  stretch-bytes =
      let b = drop at t in
      let whole = encode_all (decode_all b) in
      let e : whole ++ drop (valid_prefix b) b ≡ b = ap (λ (l : List ℕ). l ++ drop (valid_prefix b) b) (encode-all_decode b) ∙ take-append-drop (valid_prefix b) b in
      let n : size (chars_from t at) ≡ length whole = size_is (decode_all b) in
      ap (take (size xs)) (sym e)
      ∙ take-append-le (size xs) whole (drop (valid_prefix b) b) (omega (arith, bytes-all))
      ∙ ap (λ (l : List ℕ). take (size xs) (encode_all l)) s.are
      ∙ take-encoded xs ys

  pub stretch-count : count_chars (take (next - at) (drop at t)) ≡ length s.chars
  unfolding chars_from
  stretch-count =
      let n : next - at ≡ size xs = omega (arith, s.ends) in
      let al : Scalars (decode_all (drop at t)) = decode_all-scalars (drop at t) in
      ap (λ (k : ℕ). count_chars (take k (drop at t))) n
      ∙ ap count_chars stretch-bytes
      ∙ count-text xs (scalars-front xs ys (rw s.are at al))
