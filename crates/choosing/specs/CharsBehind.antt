-- The characters of a lent text from a boundary on, counted by bytes (rule 10).
-- Assumes nothing.
use Rattle.std.specs.Prelude.{ℕ, ◌+◌, ◌-◌, ◌≡◌, true, length, take, Ok}
use Rattle.std.proofs.Common.{arith, ◌∙◌}
use Rattle.std.proofs.Math.Path.{sym, ap, subst}
use mathlib.Core.List.{List, [], ◌++◌, append-nil}
use Rattle.std.proofs.Math.ListN.{drop, take-append-drop}
use Rattle.utf8.specs.Scalar.{Scalars}
use Rattle.utf8.specs.Encoding.{size, encode_all}
use Rattle.utf8.specs.Decoding.{decode_all}
use Rattle.utf8.specs.Places.{boundary, count_chars}
use Rattle.utf8.specs.Sizes.{size_append}
use Rattle.utf8.specs.Walk.{decode_all-scalars}
use Rattle.utf8.specs.Boundaries.{count-part}
use Rattle.meaning.specs.Checks.{check_utf8}
use Rattle.meaning.specs.Edit.{chars_in}
use Rattle.meaning.specs.Frames.{onward}
use Rattle.laws.specs.PartChars.{encoded, part-size, cut-size}
use Rattle.laws.specs.Between.{chars-here}

module _ (t : List ℕ) (good : check_utf8 t ≡ Ok tt) (from : ℕ) (at : boundary (decode_all t) from ≡ true) where
  abbrev cs : List ℕ
  cs = decode_all t

  -- So many bytes stand from there on.
  behind-size : length t - from ≡ size (onward cs from)
  unfolding onward
  behind-size =
      let k = chars_in cs from in
      let both : size (take k cs) + size (drop k cs) ≡ size cs = sym (size_append (take k cs) (drop k cs)) ∙ ap size (take-append-drop k cs) in
      omega (arith, both, cut-size t good from at, part-size t good)

  -- They hold the characters from there on.
  pub count-behind : count_chars (take (length t - from) (drop from t)) ≡ length (onward cs from)
  unfolding onward
  count-behind =
      let k = chars_in cs from in
      let here = drop k cs in
      let sc : Scalars here = subst Scalars (chars-here t good from at) (decode_all-scalars (drop from t)) in
      let all : t ≡ encode_all (take k cs ++ here ++ []) = sym (rw (append-nil, take-append-drop k cs) (encoded t good)) in
      (λ i. count_chars (take (behind-size i) (drop (cut-size t good from at i) (all i)))) ∙ count-part (take k cs) here [] sc
