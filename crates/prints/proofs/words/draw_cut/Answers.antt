-- `prints::words::draw_cut` meets its contract (rule 8, rule 13).
use Rattle.std.proofs.Common.{ℕ, ◌/◌, ◌≤◌, ◌≡◌, ap, ◌∙◌, arith}
use Rattle.std.proofs.lemmas.Bool.{not-false, not-true}
use Rattle.meaning.specs.Cursor.{room_of}
use Rattle.steps.specs.WordLaws.{WordAt, word-at}
use Rattle.ink.specs.Sheet.{sheet}
use Rattle.prints.proofs.WordEvents.{some-part, word_room, word-waits, word-unfit, part-few, word-parts}
use Rattle.prints.proofs.words.draw_cut.Goals as goal

pub returns-then-not-p : goal.returns-then-not-p
returns-then-not-p c =
    word-waits (sheet c.args.events.now c.args.pen) c.args.s c.args.p c.args.text.now c.args.at c.args.x (word-at _ _ _ c.requires.0.stands c.requires.1) c.requires.2 (not-true _ c.if-not-p.true)

pub returns-then-fitting-eq0 : goal.returns-then-fitting-eq0
returns-then-fitting-eq0 c =
    word-unfit (sheet c.args.events.now c.args.pen) c.args.s c.args.p c.args.text.now c.args.at c.args.x (word-at _ _ _ c.requires.0.stands c.requires.1) c.requires.2 (not-false _ c.if-not-p.false) _ (ap (λ (n : ℕ). n / c.args.s.glyph.0) c.room.ensures)
    c.if-fitting-eq0.true

pub draw_part-requires : goal.draw_part-requires
draw_part-requires c =
    (word_room c.requires.0 (word-at _ _ _ c.requires.0.stands c.requires.1) _ (part-few (sheet c.args.events.now c.args.pen) c.args.s c.args.p c.args.text.now c.args.at c.args.x (word-at _ _ _ c.requires.0.stands c.requires.1) c.requires.2 (not-false _ c.if-not-p.false) _ (ap (λ (n : ℕ). n / c.args.s.glyph.0) c.room.ensures)), some-part c.args.text.now c.args.at c.args.x (word-at _ _ _ c.requires.0.stands c.requires.1) _ (part-few (sheet c.args.events.now c.args.pen) c.args.s c.args.p c.args.text.now c.args.at c.args.x (word-at _ _ _ c.requires.0.stands c.requires.1) c.requires.2 (not-false _ c.if-not-p.false) _ (ap (λ (n : ℕ). n / c.args.s.glyph.0) c.room.ensures)) _ c.part_of-part.ensures)

pub returns : goal.returns
returns c =
    c.draw_part.ensures
    ∙ word-parts (sheet c.args.events.now c.args.pen) c.args.s c.args.p c.args.text.now c.args.at c.args.x (word-at _ _ _ c.requires.0.stands c.requires.1) c.requires.2 (not-false _ c.if-not-p.false) _ (ap (λ (n : ℕ). n / c.args.s.glyph.0) c.room.ensures)
    c.if-fitting-eq0.false
