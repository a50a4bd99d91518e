use Rattle.std.proofs.Common.{sym, ap, ◌∙◌, ℕ, ◌+◌, arith}
use Rattle.parser.specs.GlueLaws.{glue-one}
use Rattle.parser.specs.ScanLaws.{char-room}
use Rattle.parser.specs.LetterLaws.{spells-room}
use Rattle.parser.proofs.ShorterLaws.{less-starts, less-more}
use Rattle.parser.proofs.later.token_after.Goals as goal

pub loop-pos-init : goal.loop-pos-init
loop-pos-init c =
    (λ _. less-starts _ _ _ c.requires.1, c.if-x-at.false, omega arith, omega arith)

pub overflow_add-pos : goal.overflow_add-pos
overflow_add-pos c =
    omega (arith, spells-room _ _ _ _ c.in-Some.ensures)

pub loop-pos-smaller-in-Some : goal.loop-pos-smaller-in-Some
loop-pos-smaller-in-Some c =
    omega (arith, spells-room _ _ _ _ c.in-Some.ensures)

pub loop-pos-preserved-in-Some : goal.loop-pos-preserved-in-Some
loop-pos-preserved-in-Some c =
    let y = c.in-Some.ensures in
    let r = spells-room _ _ _ _ y in (
      λ h. less-more c.args.text.now c.loop-pos.pos c.args.x c.loop-pos.chars c.loop-pos.glues y.char _ _ c.requires.2 (c.loop-pos.invariant.0 (omega arith)) y.is (omega (arith, y.glue)) h,
      c.loop-pos.invariant.1,
      omega (arith, r),
      omega (arith, r),
    )

pub overflow_add-glues : goal.overflow_add-glues
overflow_add-glues c =
    omega (arith, c.glue_of-glues.ensures, glue-one c.in-Char.cp, char-room _ _ _ _ (sym c.decode.ensures ∙ c.in-Char.is), c.loop-pos.invariant.3, c.requires.0)

pub loop-pos-smaller : goal.loop-pos-smaller
loop-pos-smaller c =
    omega (arith, char-room _ _ _ _ (sym c.decode.ensures ∙ c.in-Char.is), c.loop-pos-test.true)

pub loop-pos-preserved : goal.loop-pos-preserved
loop-pos-preserved c =
    let read = sym c.decode.ensures ∙ c.in-Char.is in
    let r = char-room _ _ _ _ read in (
      λ h. less-more c.args.text.now c.loop-pos.pos c.args.x c.loop-pos.chars c.loop-pos.glues c.in-Char.cp c.in-Char.len _ c.requires.2 (c.loop-pos.invariant.0 (omega arith)) read (ap (λ (g : ℕ). c.loop-pos.glues + g) c.glue_of-glues.ensures) h,
      c.loop-pos.invariant.1,
      omega (arith, r, c.loop-pos.invariant.2),
      omega (arith, r, c.loop-pos.invariant.3, c.glue_of-glues.ensures, glue-one c.in-Char.cp),
    )
