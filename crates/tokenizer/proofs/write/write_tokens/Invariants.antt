-- `tokenizer::write::write_tokens` meets its contract. The invariant: with the numbers of the rest written, the buffer is as it is
-- with all of them written.
-- Rule 3.
use Rattle.std.proofs.Common.{◌≡◌, ◌+◌, ◌-◌, ◌*◌, ◌≤◌, length}
use lib.Seq.{sets}
use Rattle.meaning.specs.Table.{token_numbers}
use Rattle.meaning.specs.Tokens.{tokens}
use Rattle.parser.specs.Lexing.{chars_from}
use Rattle.tokenizer.specs.Writing.{numbers_from}
use Rattle.tokenizer.proofs.write.write_tokens.Given as goal

abbrev pub invariant-loop-lexeme : goal.invariant-loop-lexeme
invariant-loop-lexeme l = (sets l.buffer (token_numbers * l.n) (numbers_from l.text l.at) ≡ sets l.initial.buffer 0 (numbers_from l.text 0))
    × (length (tokens (chars_from l.text 0)) ≡ l.n + length (tokens (chars_from l.text l.at)))
    × (length l.buffer ≡ length l.initial.buffer) × (l.n ≤ l.at) × (l.at ≤ length l.text)

abbrev pub decreases-loop-lexeme : goal.decreases-loop-lexeme
decreases-loop-lexeme l = length l.text - l.at
