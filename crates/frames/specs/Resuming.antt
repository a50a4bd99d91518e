-- A start and a rest that are taken: what the tests find, and what a line there resumes (refusal 5, rule 9).
-- Assumes nothing.
use Rattle.std.specs.Prelude.{ℕ, ◌-◌, ◌≤◌, ◌<◌, ◌≡◌, true, false, ◌&&◌, List, leb, length, drop, Ok}
use Rattle.std.proofs.Common.{arith, ◌∙◌, lt-ltb, le-ltb, ltb-true, leb-true, length-drop}
use Rattle.std.proofs.Math.Dec.{ltb}
use Rattle.basis.specs.Choice.{pick, and_true}
use Rattle.utf8.specs.Decoding.{decode_all}
use Rattle.utf8.specs.Places.{boundary}
use Rattle.meaning.specs.Checks.{check_utf8}
use Rattle.meaning.specs.Edit.{chars_in}
use Rattle.meaning.specs.Frames.{is_none, onward, rest_lies, stand_good}
use Rattle.meaning.specs.declared.line.Rest.{Rest}
use Rattle.laws.specs.LinesTake.{chars-within}
use Rattle.laws.specs.PartChars.{part-size}
use Rattle.laws.specs.TokenLaws.{length-size}
use Rattle.steps.specs.Unrolled.{nothing_resumed}
use Rattle.steps.specs.declared.step.Resumed.{Resumed}

-- What a line at a start resumes, its end by the text's bytes.
unfoldable pub resumed_in : List ℕ → (start : ℕ) → Rest → Resumed
resumed_in cs start r =
    pick (is_none r) nothing_resumed (record { end = r.end; chars = record { 0 = chars_in (onward cs start) (r.end.0 - start) }; count = r.count })

-- No more characters than the text has bytes.
pub resumed-few : (t : List ℕ) (start n : ℕ) → check_utf8 t ≡ Ok tt → chars_in (onward (decode_all t) start) n ≤ length t
unfolding onward
resumed-few t start n good =
    let cs = decode_all t in
    let k = chars_in cs start in
    omega (arith, chars-within (drop k cs) n, length-drop k cs, length-size cs, part-size t good)

module _ (cs : List ℕ) (start : ℕ) (r : Rest) where
  -- ---- the tests of a rest, one by one

  pub lies-low : r.end.0 ≤ start → false ≡ rest_lies cs start r
  unfolding rest_lies
  lies-low h = rw (le-ltb start r.end.0 h)

  module _ (above : start < r.end.0) where
    pub lies-off : boundary cs r.end.0 ≡ false → false ≡ rest_lies cs start r
    unfolding rest_lies
    lies-off h = rw (lt-ltb start r.end.0 above, h)

    pub lies-by : (n : ℕ) → n ≡ chars_in (onward cs start) (r.end.0 - start) → boundary cs r.end.0 ≡ true → leb r.count.0 n ≡ rest_lies cs start r
    unfolding rest_lies
    lies-by n is h = rw (lt-ltb start r.end.0 above, h, is)

  -- ---- the tests of a stand

  pub stand-off : boundary cs start ≡ false → false ≡ stand_good cs start r
  unfolding stand_good
  stand-off h = rw h

  pub stand-none : boundary cs start ≡ true → is_none r ≡ true → true ≡ stand_good cs start r
  unfolding stand_good
  stand-none h e = rw (h, e)

  pub stand-by : boundary cs start ≡ true → is_none r ≡ false → rest_lies cs start r ≡ stand_good cs start r
  unfolding stand_good
  stand-by h e = rw (h, e)

  -- ---- what is known of one that is taken

  module _ (good : stand_good cs start r ≡ true) where
    pub good_start : boundary cs start ≡ true
    unfolding stand_good
    good_start = (and_true (boundary cs start) _ good).0

    module _ (some : is_none r ≡ false) where
      lies : rest_lies cs start r ≡ true
      lies = stand-by good_start some ∙ good

      lies-parts : (ltb start r.end.0 ≡ true) × (boundary cs r.end.0 ≡ true) × (leb r.count.0 (chars_in (onward cs start) (r.end.0 - start)) ≡ true)
      unfolding rest_lies
      lies-parts =
          let a = ltb start r.end.0 in
          let b = boundary cs r.end.0 in
          let both = and_true (a && b) _ lies in
          let first = and_true a b both.0 in
          (first.0, first.1, both.1)

      pub good-above : start < r.end.0
      good-above = ltb-true start r.end.0 lies-parts.0

      pub good-end : boundary cs r.end.0 ≡ true
      good-end = lies-parts.1

      pub good-count : r.count.0 ≤ chars_in (onward cs start) (r.end.0 - start)
      good-count = leb-true r.count.0 _ lies-parts.2

  -- ---- what is resumed

  pub resumes_none : is_none r ≡ true → nothing_resumed ≡ resumed_in cs start r
  unfolding resumed_in pick
  resumes_none e = rw e

  pub resumes_some : is_none r ≡ false → (n : ℕ) → n ≡ chars_in (onward cs start) (r.end.0 - start)
      → record { end = r.end; chars = record { 0 = n }; count = r.count } ≡ resumed_in cs start r
  unfolding resumed_in pick
  resumes_some e n is = rw (e, is)
