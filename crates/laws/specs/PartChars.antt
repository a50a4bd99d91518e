-- Bytes and characters of a lent text that is UTF-8: where characters begin, and how many there are up to there.
-- Assumes nothing.
use Rattle.std.specs.Prelude.{ℕ, zero, suc, ◌≤◌, ◌≡◌, true, not, List, [], ◌∷◌, ◌++◌, length, take, drop, Ok}
use Rattle.std.proofs.Common.{arith, sym, ap, ◌∙◌, take-append-drop, length-take-le}
use borrow.Author.Tests.{eqb-true, not-false}
use Rattle.std.proofs.Math.Dec.{eqb}
use Rattle.utf8.specs.Scalar.{Scalars}
use Rattle.utf8.specs.Encoding.{size, encode_all}
use Rattle.utf8.specs.Decoding.{valid_prefix, decode_all}
use Rattle.utf8.specs.Places.{boundary, boundary_at, count_chars}
use Rattle.utf8.specs.Sizes.{size_is, take-encoded}
use Rattle.utf8.specs.Prefix.{prefix-whole, text_decode}
use Rattle.utf8.specs.Walk.{decode_all-encode, decode_all-scalars}
use Rattle.utf8.specs.Boundaries.{boundary-is, boundary-bytes, count-text}
use Rattle.meaning.specs.Checks.{check_utf8}
use Rattle.meaning.specs.Edit.{chars_in}
use Rattle.meaning.specs.declared.refusals.Refusal.TheVariants.{NotUtf8}
use Rattle.laws.specs.GoodChecks.{refuse_good}
use Rattle.laws.specs.LinesTake.{chars-within}
use Rattle.laws.specs.PassBounds.{size-take}
use Rattle.laws.specs.Suffixes.{chars_in-take}

-- The first characters of a text that is one are one.
pub scalars-take : (k : ℕ) (cs : List ℕ) → Scalars cs → Scalars (take k cs)
scalars-take zero cs al = tt
scalars-take (suc k) [] al = tt
scalars-take (suc k) (c ∷ cs) al = (al.0, scalars-take k cs al.1)

module _ (t : List ℕ) (good : check_utf8 t ≡ Ok tt) where
  abbrev pub cs : List ℕ
  cs = decode_all t

  -- It is the encoding of its characters.
  pub encoded : encode_all cs ≡ t
  unfolding check_utf8
  encoded =
      let whole = eqb (valid_prefix t) (length t) in
      let e = not-false whole (refuse_good (not whole) (NotUtf8 (record { 0 = valid_prefix t })) good) in
      text_decode t ((prefix-whole t).0 (eqb-true (valid_prefix t) (length t) e))

  pub part-size : size cs ≡ length t
  part-size = size_is cs ∙ ap length encoded

  pub part-boundary : (n : ℕ) → boundary_at t n ≡ boundary cs n
  part-boundary n = ap (λ (x : List ℕ). boundary_at x n) (sym encoded) ∙ boundary-bytes cs (decode_all-scalars t) n

  -- The characters up to a boundary, and their bytes.
  module _ (n : ℕ) (at : boundary cs n ≡ true) where
    pub cut-size : n ≡ size (take (chars_in cs n) cs)
    cut-size =
        let c = (boundary-is cs n).0 at in
        let e : chars_in cs n ≡ c.chars = ap (chars_in cs) c.is ∙ chars_in-take c.chars cs c.within in
        c.is ∙ ap (λ (k : ℕ). size (take k cs)) (sym e)

    pub cut-within : n ≤ length t
    cut-within = omega (arith, cut-size, size-take (chars_in cs n) cs, part-size)

    -- The bytes up to it are those characters'.
    bytes-before : take n t ≡ encode_all (take (chars_in cs n) cs)
    bytes-before =
        let k = chars_in cs n in
        ap (take n) (sym encoded ∙ ap encode_all (sym (take-append-drop k cs)))
        ∙ ap (λ (m : ℕ). take m (encode_all (take k cs ++ drop k cs))) cut-size
        ∙ take-encoded (take k cs) (drop k cs)

    pub chars-before : decode_all (take n t) ≡ take (chars_in cs n) cs
    chars-before =
        let k = chars_in cs n in ap decode_all bytes-before ∙ decode_all-encode (take k cs) (scalars-take k cs (decode_all-scalars t))

    pub cut-count : count_chars (take n t) ≡ chars_in cs n
    cut-count =
        let k = chars_in cs n in
        ap count_chars bytes-before ∙ count-text (take k cs) (scalars-take k cs (decode_all-scalars t)) ∙ length-take-le k cs (chars-within cs n)
