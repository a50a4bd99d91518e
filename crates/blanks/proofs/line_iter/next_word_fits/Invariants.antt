-- `blanks::line_iter::next_word_fits` meets its contract (rule 8).
use Rattle.std.proofs.Common.{◌-◌, ◌≤◌, ◌≡◌, length}
use Rattle.meaning.specs.Tokens.{tokens}
use Rattle.meaning.specs.Lookahead.{next_fits}
use Rattle.parser.specs.Lexing.{chars_from}
use Rattle.moves.specs.Fine.{FineCursor, FineSpaces}
use Rattle.steps.specs.Stepping.{look_of}
use Rattle.steps.specs.FitsLaws.{look_from}
use Rattle.blanks.proofs.line_iter.next_word_fits.Given as goal

abbrev pub invariant-loop-x : goal.invariant-loop-x
invariant-loop-x l = (look_from l.reach (next_fits l.glyph l.cur l.left l.pos (tokens (chars_from l.text l.pos))) ≡ look_of (next_fits l.glyph l.initial.cur l.initial.left l.at (tokens (chars_from l.text l.at)))) × FineCursor l.cur × FineSpaces l.left × (l.pos ≤ length l.text)

abbrev pub decreases-loop-x : goal.decreases-loop-x
decreases-loop-x l = length l.text - l.pos
