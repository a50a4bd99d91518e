-- `parser::lexer::token_at` meets its contract (rule 2, rule 3).
use Rattle.std.proofs.Common.{sym, ap, ◌∙◌, ◌+◌, ◌≤◌, List, ℕ, arith, length}
use Rattle.std.specs.Prelude.{Some}
use Rattle.utf8.specs.Walk.{decode_at-within}
use Rattle.utf8.specs.Long.{Long}
use Rattle.parser.specs.Scanning.{word_of, blank_of}
use Rattle.parser.specs.Ascii.{plain-inside, space-inside}
use Rattle.parser.specs.LetterLaws.{letter-plain, letter-long}
use Rattle.parser.specs.LexerLaws.{letter-lexed, space-lexed}
use Rattle.parser.specs.MarkLaws.{mark-room, mark-lexed}
use Rattle.parser.proofs.lexer.token_at.Goals as goal

long-inside : (t : List ℕ) (at n : ℕ) → Long t at n → at + n ≤ length t
long-inside t at n w = (decode_at-within t at w.char n w.is).1

pub overflow_add-at : goal.overflow_add-at
overflow_add-at c =
    omega (arith, plain-inside _ _ (sym c.plain_at.ensures ∙ c.if-plain_at.true), c.requires)

pub scan_word-requires : goal.scan_word-requires
scan_word-requires c =
    omega (arith, plain-inside _ _ (sym c.plain_at.ensures ∙ c.if-plain_at.true), c.requires)

pub returns-then-plain_at : goal.returns-then-plain_at
returns-then-plain_at c =
    ap Some (c.word.ensures ∙ ap word_of c.scan_word.ensures) ∙ letter-lexed _ _ _ (letter-plain _ _ (sym c.plain_at.ensures ∙ c.if-plain_at.true))

pub overflow_add-at-then-space_at : goal.overflow_add-at-then-space_at
overflow_add-at-then-space_at c =
    omega (arith, space-inside _ _ (sym c.space_at.ensures ∙ c.if-space_at.true), c.requires)

pub scan_run-requires : goal.scan_run-requires
scan_run-requires c =
    omega (arith, space-inside _ _ (sym c.space_at.ensures ∙ c.if-space_at.true), c.requires)

pub returns-then-space_at : goal.returns-then-space_at
returns-then-space_at c =
    ap Some (c.blank.ensures ∙ ap blank_of c.scan_run.ensures) ∙ space-lexed _ _ (sym c.space_at.ensures ∙ c.if-space_at.true)

pub overflow_add-at-in-Some : goal.overflow_add-at-in-Some
overflow_add-at-in-Some c =
    omega (arith, long-inside _ _ _ c.in-Some.ensures, c.requires)

pub scan_word-requires-in-Some : goal.scan_word-requires-in-Some
scan_word-requires-in-Some c =
    omega (arith, long-inside _ _ _ c.in-Some.ensures, c.requires)

pub returns-in-Some : goal.returns-in-Some
returns-in-Some c =
    ap Some (c.word-in-Some.ensures ∙ ap word_of c.scan_word-in-Some.ensures) ∙ letter-lexed _ _ _ (letter-long _ _ _ c.in-Some.ensures)

pub overflow_add-at-in-Some-mark_at : goal.overflow_add-at-in-Some-mark_at
overflow_add-at-in-Some-mark_at c =
    record { fits = omega (arith, c.mark_len.ensures, mark-room _ _ _ c.in-Some-mark_at.ensures, c.requires) }

pub alone-requires : goal.alone-requires
alone-requires c =
    omega (arith, c.mark_len.ensures, mark-room _ _ _ c.in-Some-mark_at.ensures, c.requires)

pub returns-in-Some-mark_at : goal.returns-in-Some-mark_at
returns-in-Some-mark_at c =
    ap Some (rw (c.from.ensures, c.mark_len.ensures) at c.alone.ensures) ∙ mark-lexed _ _ _ c.in-Some-mark_at.ensures
