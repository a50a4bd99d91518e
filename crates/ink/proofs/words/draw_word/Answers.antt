use Rattle.std.proofs.Common.{◌+◌, ◌-◌, ◌≡◌, sym, ◌∙◌, arith}
use Rattle.parser.specs.ScanLaws.{no_char}
use Rattle.ink.proofs.WordLoop.{next-none, next-zero, going_first, going_fine, char-fits, going_on, going_ends, word_goal}
use Rattle.ink.proofs.words.draw_word.Goals as goal

pub loop-i-init : goal.loop-i-init
loop-i-init c =
    going_first c.args.text.now c.args.at c.args.n c.args.glyph c.args.spaces c.args.pen c.args.events.now c.requires

pub add_char-w-requires : goal.add_char-w-requires
add_char-w-requires c =
    let f = char-fits c.loop-i.invariant c.requires.short c.in-Char.cp c.in-Char.len (sym c.decode.ensures ∙ c.in-Char.is) in
    (going_fine c.loop-i.invariant c.requires.short, f.0, f.1, c.requires.glyph)

pub loop-i-preserved : goal.loop-i-preserved
loop-i-preserved c =
    let one : c.args.n - c.loop-i._i - 1 ≡ c.args.n - (c.loop-i._i + 1) = omega arith in
    rw one at (going_on c.loop-i.invariant c.requires.short c.in-Char.cp c.in-Char.len (sym c.decode.ensures ∙ c.in-Char.is) (omega arith) _ _ c.add_char-w.ensures)

pub last_stretch-requires : goal.last_stretch-requires
last_stretch-requires c =
    going_fine c.loop-i.invariant c.requires.short

pub returns-in-Bad : goal.returns-in-Bad
returns-in-Bad c =
    going_ends c.loop-i.invariant c.requires.short (next-none c.args.text.now c.loop-i.w.at (c.args.n - c.loop-i._i) (no_char _ _ _ c.decode.ensures c.in-Bad.is)) _ c.last_stretch.ensures
    ∙ word_goal c.args.glyph c.args.events.now c.args.at c.args.spaces c.args.pen _

pub last_stretch-requires-2 : goal.last_stretch-requires-2
last_stretch-requires-2 c =
    going_fine c.loop-i.invariant c.requires.short

pub returns : goal.returns
returns c =
    going_ends c.loop-i.invariant c.requires.short (next-zero c.args.text.now c.loop-i.w.at (c.args.n - c.loop-i._i) (omega arith)) _ c.last_stretch-2.ensures
    ∙ word_goal c.args.glyph c.args.events.now c.args.at c.args.spaces c.args.pen _
