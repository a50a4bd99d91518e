-- `ink::words::draw_word` meets its contract (rule 8, rule 13).
use Rattle.std.proofs.Common.{◌-◌, take}
use Rattle.parser.specs.Lexing.{chars_from}
use Rattle.ink.specs.Stretching.{rest_on}
use Rattle.ink.proofs.WordLoop.{Going}
use Rattle.ink.proofs.words.draw_word.Given as goal

abbrev pub invariant-loop-i : goal.invariant-loop-i
invariant-loop-i l = Going l.text l.glyph (rest_on l.glyph l.initial.events l.initial.w (take l.n (chars_from l.text l.initial.w.at))) l.events l.w (l.n - l._i)
