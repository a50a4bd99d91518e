use Rattle.std.proofs.Common.{◌≡◌, sym, ap, ◌∙◌, List, ℕ, ◌+◌, ◌≤◌, arith, length}
use Rattle.meaning.specs.Characters.{in_word}
use Rattle.parser.specs.Lexing.{chars_from}
use Rattle.parser.specs.Scanning.{glue_of, scan_from}
use Rattle.parser.specs.Letters.{GoesOn}
use Rattle.parser.specs.GlueLaws.{glue-one}
use Rattle.parser.specs.ScanLaws.{no_char, scan_more, scan_stop, scan_end, char-room}
use Rattle.parser.specs.LetterLaws.{spells-room, ends-ender}
use Rattle.parser.specs.MarkLaws.{mark-ends}
use Rattle.parser.specs.declared.scan.Scanned.{Scanned}
use Rattle.parser.proofs.scan.scan_word.Goals as goal

-- What is left to scan behind letters that go on with the word.
module _ (t : List ℕ) (at chars weight end more : ℕ) (letters : GoesOn t at end more 0) where
  bounds : chars ≤ at + 1 → weight ≤ at + 1 → (at ≤ end) × (end ≤ length t) × (chars + more ≤ end + 1) × (weight ≤ end + 1)
  bounds h l = omega (arith, letters.forward, letters.inside)

  left : (whole : Scanned) → scan_from in_word glue_of at chars weight (chars_from t at) ≡ whole → scan_from in_word glue_of end (chars + more) weight (chars_from t end) ≡ whole
  left whole e =
      let w : weight ≡ weight + 0 = omega arith in
      ap (λ (k : ℕ). scan_from in_word glue_of end (chars + more) k (chars_from t end)) w ∙ sym (letters.scans chars weight) ∙ e

-- What words mostly end with.
pub returns-then-ends_at : goal.returns-then-ends_at
returns-then-ends_at c =
    c.scanned_at.ensures ∙ sym ((ends-ender _ _ (sym c.ends_at.ensures ∙ c.if-ends_at.true)).scans _ _)
    ∙ left _ _ c.loop-from.chars c.loop-from.weight _ _ c.skip_letters-end.ensures _ c.loop-from.invariant.0

pub overflow_add-at : goal.overflow_add-at
overflow_add-at c =
    omega (arith, spells-room _ _ _ 1 c.in-Some.ensures)

pub loop-from-smaller-in-Some : goal.loop-from-smaller-in-Some
loop-from-smaller-in-Some c =
    omega (arith, spells-room _ _ _ 1 c.in-Some.ensures, c.skip_letters-end.ensures.forward, c.skip_letters-end.ensures.inside)

pub loop-from-preserved-in-Some : goal.loop-from-preserved-in-Some
loop-from-preserved-in-Some c =
    let g = c.in-Some.ensures in
    let k = bounds _ _ c.loop-from.chars c.loop-from.weight _ _ c.skip_letters-end.ensures c.loop-from.invariant.2 c.loop-from.invariant.3 in
    let r = spells-room _ _ _ 1 g in (
      ap (λ (w : ℕ). scan_from in_word glue_of (c.skip_letters-end.result.end + c.in-Some.glue) (c.loop-from.chars + c.skip_letters-end.result.chars + 1) (c.loop-from.weight + w) (chars_from c.args.text.now (c.skip_letters-end.result.end + c.in-Some.glue))) (sym g.glue)
          ∙ sym (scan_more in_word glue_of c.args.text.now _ _ _ _ _ g.is g.word)
          ∙ left _ _ c.loop-from.chars c.loop-from.weight _ _ c.skip_letters-end.ensures _ c.loop-from.invariant.0,
      r.2,
      omega (arith, k, r),
      omega (arith, k, r),
    )

pub returns-in-Some-mark_at : goal.returns-in-Some-mark_at
returns-in-Some-mark_at c =
    (rw c.mark_len.ensures at c.scanned_at-in-Some-mark_at.ensures) ∙ sym ((mark-ends _ _ _ c.in-Some-mark_at.ensures).scans _ _)
    ∙ left _ _ c.loop-from.chars c.loop-from.weight _ _ c.skip_letters-end.ensures _ c.loop-from.invariant.0

pub scanned_at-requires-then-not-in_word : goal.scanned_at-requires-then-not-in_word
scanned_at-requires-then-not-in_word c =
    omega (arith, char-room _ _ _ _ (sym c.decode.ensures ∙ c.in-Char.is))

pub returns-then-not-in_word : goal.returns-then-not-in_word
returns-then-not-in_word c =
    c.scanned_at-then-not-in_word.ensures
    ∙ sym (scan_stop in_word glue_of c.args.text.now _ _ _ _ _ (sym c.decode.ensures ∙ c.in-Char.is) (sym c.in_word.ensures ∙ c.if-not-in_word.true))
    ∙ left _ _ c.loop-from.chars c.loop-from.weight _ _ c.skip_letters-end.ensures _ c.loop-from.invariant.0

pub overflow_add-weight-in-Char : goal.overflow_add-weight-in-Char
overflow_add-weight-in-Char c =
    omega (arith, c.glue_of-weight.ensures, glue-one c.in-Char.cp)

pub loop-from-smaller : goal.loop-from-smaller
loop-from-smaller c =
    omega (arith, char-room _ _ _ _ (sym c.decode.ensures ∙ c.in-Char.is), c.skip_letters-end.ensures.forward, c.skip_letters-end.ensures.inside)

pub loop-from-preserved : goal.loop-from-preserved
loop-from-preserved c =
    let read = sym c.decode.ensures ∙ c.in-Char.is in
    let k = bounds _ _ c.loop-from.chars c.loop-from.weight _ _ c.skip_letters-end.ensures c.loop-from.invariant.2 c.loop-from.invariant.3 in
    let h = char-room _ _ _ _ read in (
      ap (λ (w : ℕ). scan_from in_word glue_of (c.skip_letters-end.result.end + c.in-Char.len) (c.loop-from.chars + c.skip_letters-end.result.chars + 1) (c.loop-from.weight + w) (chars_from c.args.text.now (c.skip_letters-end.result.end + c.in-Char.len))) c.glue_of-weight.ensures
          ∙ sym (scan_more in_word glue_of c.args.text.now _ _ _ _ _ read (sym c.in_word.ensures ∙ c.if-not-in_word.false))
          ∙ left _ _ c.loop-from.chars c.loop-from.weight _ _ c.skip_letters-end.ensures _ c.loop-from.invariant.0,
      omega (arith, h),
      omega (arith, k, h),
      omega (arith, k, h, c.glue_of-weight.ensures, glue-one c.in-Char.cp),
    )

pub returns-in-Bad : goal.returns-in-Bad
returns-in-Bad c =
    c.scanned_at-in-Bad.ensures
    ∙ sym (scan_end in_word glue_of _ _ _ _ (no_char _ _ _ c.decode.ensures c.in-Bad.is))
    ∙ left _ _ c.loop-from.chars c.loop-from.weight _ _ c.skip_letters-end.ensures _ c.loop-from.invariant.0
