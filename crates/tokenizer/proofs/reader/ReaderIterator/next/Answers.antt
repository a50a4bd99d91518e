-- The reader's `next` meets the iterator's contract (rule 3).
use Rattle.std.proofs.Common.{◌≤◌, ◌∙◌, ap, sym, arith, length}
use Rattle.parser.specs.NextLaws.{next}
use Rattle.tokenizer.proofs.ReadingLaws.{left-more, left_none}
use Rattle.tokenizer.proofs.reader.ReaderIterator.next.Goals as goal

pub returns-in_err-lexeme-clause-steps : goal.returns-in_err-lexeme-clause-steps
returns-in_err-lexeme-clause-steps c =
    rw c.from_residual.ensures (left_none c.args.self.now c.next.new.reader c.next.ensures.1 (sym c.next.ensures.0 ∙ c.in_err-lexeme.was))

pub overflow_cast-result : goal.overflow_cast-result
overflow_cast-result c =
    let s = next c.args.self.now.text.now c.args.self.now.at c.in_ok-lexeme.lexeme (sym c.next.ensures.0 ∙ c.in_ok-lexeme.was) in
    record { fits = omega (arith, s.passes, s.within, c.requires) }

pub returns-clause-steps : goal.returns-clause-steps
returns-clause-steps c =
    left-more c.args.self.now c.next.new.reader c.next.ensures.1 c.in_ok-lexeme.lexeme (sym c.next.ensures.0 ∙ c.in_ok-lexeme.was)

pub returns-clause-goes : goal.returns-clause-goes
returns-clause-goes c =
    let more = left-more c.args.self.now c.next.new.reader c.next.ensures.1 c.in_ok-lexeme.lexeme (sym c.next.ensures.0 ∙ c.in_ok-lexeme.was) in
    let can : length c.next.new.reader.text.now ≤ 65535 = rw c.next.ensures.1 c.requires in
    let fewer = ap length more in
    record { on = λ f. (can, f, omega (arith, fewer)); keeps = can; rests = λ _. tt }
