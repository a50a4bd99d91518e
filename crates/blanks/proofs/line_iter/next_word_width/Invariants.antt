-- `blanks::line_iter::next_word_width` meets its contract (rule 8).
use Rattle.std.proofs.Common.{◌*◌, ◌-◌, ◌≤◌, ◌≡◌, length}
use Rattle.std.specs.Prelude.{None}
use Rattle.meaning.specs.Tokens.{tokens}
use Rattle.meaning.specs.Lookahead.{next_width}
use Rattle.parser.specs.Lexing.{chars_from}
use Rattle.steps.specs.Stepping.{ahead_of}
use Rattle.steps.specs.Ahead.{known_of}
use Rattle.blanks.proofs.WidthLaws.{ahead_from}
use Rattle.blanks.proofs.line_iter.next_word_width.Given as goal

abbrev pub invariant-loop-x : goal.invariant-loop-x
invariant-loop-x l = (ahead_from l.reach (next_width l.glyph l.width l.pos (tokens (chars_from l.text l.pos))) ≡ ahead_of (next_width l.glyph None l.at (tokens (chars_from l.text l.at)))) × (l.pos ≤ length l.text) × (known_of l.width ≤ 64 * l.pos)

abbrev pub decreases-loop-x : goal.decreases-loop-x
decreases-loop-x l = length l.text - l.pos
