-- A text of bytes from a character boundary on: its characters, and how many of them lie before another boundary (refusal 5).
-- Assumes nothing.
use Rattle.std.specs.Prelude.{ℕ, zero, suc, ◌+◌, ◌-◌, ◌≤◌, ◌≡◌, true, length, Ok}
use Rattle.std.proofs.Common.{arith, ◌∙◌, ne_eqb, le-ltb, take-append-drop}
use Rattle.std.proofs.Math.Path.{sym, ap}
use mathlib.Core.List.{List, [], ◌∷◌, ◌++◌}
use Rattle.std.proofs.Math.ListN.{take, drop}
use Rattle.std.proofs.Math.Seq.{length-take-le}
use Rattle.basis.specs.Choice.{pick}
use Rattle.utf8.specs.Scalar.{Scalars}
use Rattle.utf8.specs.Encoding.{bytes, size, encode_all}
use Rattle.utf8.specs.Decoding.{decode_all}
use Rattle.utf8.specs.Places.{boundary, count_chars}
use Rattle.utf8.specs.Sizes.{bytes_range, take-encoded, drop-encoded}
use Rattle.utf8.specs.Walk.{decode_all-encode, decode_all-scalars}
use Rattle.utf8.specs.Boundaries.{boundary-is, count-text}
use Rattle.meaning.specs.Checks.{check_utf8}
use Rattle.meaning.specs.Edit.{chars_in}
use Rattle.meaning.specs.Frames.{onward}
use Rattle.laws.specs.PartChars.{scalars-take, cs, encoded, cut-size}
use Rattle.laws.specs.LinesTake.{chars-within}
use Rattle.laws.specs.Suffixes.{chars_in-take}

-- A boundary behind the first k characters is one of the others.
boundary-behind : (k n : ℕ) (xs : List ℕ) → k ≤ length xs → boundary xs (size (take k xs) + n) ≡ boundary (drop k xs) n
unfolding size boundary pick
boundary-behind zero n xs h = let e : 0 + n ≡ n = omega arith in ap (boundary xs) e
boundary-behind (suc k) n [] h = absurd (omega arith)
boundary-behind (suc k) n (x ∷ xs) h =
    let m = size (take k xs) in
    let z = bytes_range x in
    let e : bytes x + m + n - bytes x ≡ m + n = omega arith in
    simp (ne_eqb (bytes x + m + n) 0 (λ f. omega arith), le-ltb (bytes x + m + n) (bytes x) (omega arith), e) (boundary-behind k n xs (omega arith))

scalars-drop : (k : ℕ) (xs : List ℕ) → Scalars xs → Scalars (drop k xs)
scalars-drop zero xs h = h
scalars-drop (suc k) [] h = tt
scalars-drop (suc k) (x ∷ xs) h = scalars-drop k xs h.1

module _ (t : List ℕ) (good : check_utf8 t ≡ Ok tt) (from : ℕ) (at : boundary (decode_all t) from ≡ true) where
  abbrev k : ℕ
  k = chars_in (cs t good) from

  -- The text is the encoding of the characters before it and of those from it on.
  both : encode_all (take k (cs t good) ++ drop k (cs t good)) ≡ t
  both = ap encode_all (take-append-drop k (cs t good)) ∙ encoded t good

  bytes-here : drop from t ≡ encode_all (onward (decode_all t) from)
  unfolding onward
  bytes-here =
      ap (drop from) (sym both)
      ∙ ap (λ (n : ℕ). drop n (encode_all (take k (cs t good) ++ drop k (cs t good)))) (cut-size t good from at)
      ∙ drop-encoded (take k (cs t good)) (drop k (cs t good))

  -- The characters from there on are those of the bytes from there on.
  pub chars-here : decode_all (drop from t) ≡ onward (decode_all t) from
  unfolding onward
  chars-here = ap decode_all bytes-here ∙ decode_all-encode (drop k (cs t good)) (scalars-drop k (cs t good) (decode_all-scalars t))

  -- A boundary n bytes further on.
  module _ (n : ℕ) (to : boundary (decode_all t) (from + n) ≡ true) where
    pub boundary-here : boundary (onward (decode_all t) from) n ≡ true
    unfolding onward
    boundary-here =
        sym (boundary-behind k n (cs t good) (chars-within (cs t good) from))
        ∙ ap (λ (m : ℕ). boundary (cs t good) (m + n)) (sym (cut-size t good from at))
        ∙ to

    pub count-between : count_chars (take n (drop from t)) ≡ chars_in (onward (decode_all t) from) n
    unfolding onward
    count-between =
        let here = drop k (cs t good) in
        let c = (boundary-is here n).0 boundary-here in
        let m = c.chars in
        let ys = take m here in
        let sc = scalars-take m here (scalars-drop k (cs t good) (decode_all-scalars t)) in
        ap (λ (x : List ℕ). count_chars (take n x)) (bytes-here ∙ ap encode_all (sym (take-append-drop m here)))
        ∙ ap (λ (j : ℕ). count_chars (take j (encode_all (ys ++ drop m here)))) c.is
        ∙ ap count_chars (take-encoded ys (drop m here))
        ∙ count-text ys sc
        ∙ length-take-le m here c.within
        ∙ sym (ap (chars_in here) c.is ∙ chars_in-take m here c.within)
