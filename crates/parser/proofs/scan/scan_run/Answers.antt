use Rattle.std.proofs.Common.{sym, ap, ◌∙◌, ℕ, ◌+◌, ◌≤◌, List, arith}
use Rattle.utf8.specs.Long.{Long}
use Rattle.meaning.specs.Characters.{in_run}
use Rattle.parser.specs.Lexing.{chars_from}
use Rattle.parser.specs.Scanning.{space_of, scan_from}
use Rattle.parser.specs.ScanLaws.{no_char, scan_more, scan_stop, scan_end, space-one, char-room}
use Rattle.parser.specs.Ascii.{space-inside}
use Rattle.parser.specs.LetterLaws.{letter-plain, letter-long, run-stops, space-goes}
use Rattle.parser.proofs.scan.scan_run.Goals as goal

long-few : (t : List ℕ) (at n : ℕ) → Long t at n → n ≤ 4
long-few t at n w = (char-room t at w.char n w.is).1

-- A byte of a word ends the run.
pub returns-then-plain_at : goal.returns-then-plain_at
returns-then-plain_at c =
    let h = letter-plain c.args.text.now c.loop-from.at (sym c.plain_at.ensures ∙ c.if-plain_at.true) in
    c.scanned_at.ensures ∙ sym (run-stops c.args.text.now c.loop-from.at 1 0 h _ _) ∙ c.loop-from.invariant.0

pub loop-from-smaller-then-space_at : goal.loop-from-smaller-then-space_at
loop-from-smaller-then-space_at c =
    omega (arith, space-inside _ _ (sym c.space_at.ensures ∙ c.if-space_at.true))

pub loop-from-preserved-then-space_at : goal.loop-from-preserved-then-space_at
loop-from-preserved-then-space_at c =
    let here = sym c.space_at.ensures ∙ c.if-space_at.true in
    (sym (space-goes _ _ here _ _) ∙ c.loop-from.invariant.0, omega (arith, space-inside _ _ here), omega arith, omega arith)

pub overflow_cast-letter : goal.overflow_cast-letter
overflow_cast-letter c =
    omega (arith, long-few _ _ _ c.in-Some.ensures)

pub scanned_at-requires-in-Some : goal.scanned_at-requires-in-Some
scanned_at-requires-in-Some c =
    omega (arith, long-few _ _ _ c.in-Some.ensures)

-- A letter ends the run.
pub returns-in-Some : goal.returns-in-Some
returns-in-Some c =
    c.scanned_at-in-Some.ensures ∙ sym (run-stops _ _ _ 0 (letter-long _ _ _ c.in-Some.ensures) _ _) ∙ c.loop-from.invariant.0

pub scanned_at-requires-then-not-in_run : goal.scanned_at-requires-then-not-in_run
scanned_at-requires-then-not-in_run c =
    omega (arith, char-room _ _ _ _ (sym c.decode.ensures ∙ c.in-Char.is))

pub returns-then-not-in_run : goal.returns-then-not-in_run
returns-then-not-in_run c =
    c.scanned_at-then-not-in_run.ensures
    ∙ sym (scan_stop in_run space_of c.args.text.now _ _ _ _ _ (sym c.decode.ensures ∙ c.in-Char.is) (sym c.in_run.ensures ∙ c.if-not-in_run.true))
    ∙ c.loop-from.invariant.0

pub overflow_add-weight-in-Char : goal.overflow_add-weight-in-Char
overflow_add-weight-in-Char c =
    omega (arith, c.space_of-weight.ensures, space-one c.in-Char.cp)

pub loop-from-smaller : goal.loop-from-smaller
loop-from-smaller c =
    omega (arith, char-room _ _ _ _ (sym c.decode.ensures ∙ c.in-Char.is))

pub loop-from-preserved : goal.loop-from-preserved
loop-from-preserved c =
    let read = sym c.decode.ensures ∙ c.in-Char.is in
    let room = char-room _ _ _ _ read in (
      ap (λ (w : ℕ). scan_from in_run space_of (c.loop-from.at + c.in-Char.len) (c.loop-from.chars + 1) (c.loop-from.weight + w) (chars_from c.args.text.now (c.loop-from.at + c.in-Char.len))) c.space_of-weight.ensures
          ∙ sym (scan_more in_run space_of c.args.text.now _ _ _ _ _ read (sym c.in_run.ensures ∙ c.if-not-in_run.false))
          ∙ c.loop-from.invariant.0,
      omega (arith, room),
      omega (arith, room),
      omega (arith, room, c.space_of-weight.ensures, space-one c.in-Char.cp),
    )

pub returns-in-Bad : goal.returns-in-Bad
returns-in-Bad c =
    c.scanned_at-in-Bad.ensures
    ∙ sym (scan_end in_run space_of _ _ _ _ (no_char _ _ _ c.decode.ensures c.in-Bad.is))
    ∙ c.loop-from.invariant.0
