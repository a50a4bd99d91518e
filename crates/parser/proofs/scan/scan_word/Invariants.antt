-- `parser::scan::scan_word` meets its contract. The invariant: what is left to scan gives what the whole scan gives (rule 2).
use Rattle.std.proofs.Common.{◌≡◌, ◌+◌, ◌-◌, ◌≤◌, length}
use Rattle.meaning.specs.Characters.{in_word}
use Rattle.parser.specs.Lexing.{chars_from}
use Rattle.parser.specs.Scanning.{glue_of, scan_from}
use Rattle.parser.proofs.scan.scan_word.Given as goal

abbrev pub invariant-loop-from : goal.invariant-loop-from
invariant-loop-from l = (scan_from in_word glue_of l.at l.chars l.weight (chars_from l.text l.at) ≡ scan_from in_word glue_of l.from 1 l.first (chars_from l.text l.from))
    × (l.at ≤ length l.text) × (l.chars ≤ l.at + 1) × (l.weight ≤ l.at + 1)

abbrev pub decreases-loop-from : goal.decreases-loop-from
decreases-loop-from l = length l.text - l.at
