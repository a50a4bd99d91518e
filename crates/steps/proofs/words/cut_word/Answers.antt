-- `steps::words::cut_word` meets its contract (rule 7, rule 8).
use Rattle.std.proofs.Common.{ℕ, ◌/◌, ◌≡◌, sym, ap, ◌∙◌, arith}
use Rattle.meaning.specs.Cursor.{room_of}
use Rattle.steps.specs.declared.step.Stepped.TheVariants.{Stop}
use Rattle.steps.specs.WordLaws.{WordAt, word-at, part_small, word-parts}
use Rattle.steps.proofs.words.cut_word.Goals as goal

pub unfit_word-requires : goal.unfit_word-requires
unfit_word-requires c =
    (c.requires.0, c.requires.1, c.requires.2, c.requires.3, sym (ap (λ (n : ℕ). n / c.args.s.glyph.0) c.room.ensures) ∙ c.if-fitting-eq0.true)

pub word_measure-after-requires : goal.word_measure-after-requires
word_measure-after-requires c =
    let few = part_small c.args.s c.args.p _ c.args.at c.args.x c.args.m (word-at _ _ _ c.requires.0.stands c.requires.1) c.requires.2 c.requires.3 _ c.part_of-part.result (omega (arith, c.requires.0.stands.within, c.requires.0.short)) (ap (λ (n : ℕ). n / c.args.s.glyph.0) c.room.ensures) c.part_of-part.ensures in
    (c.requires.0.place.1, c.requires.0.settings.1, few.0, few.1, omega (arith, c.requires.0.small, c.requires.0.stands.longer, c.requires.0.stands.within, c.requires.0.short), omega (arith, c.requires.0.small, c.requires.0.stands.longer, c.requires.0.stands.within, c.requires.0.short))

pub returns : goal.returns
returns c =
    ap Stop c.ends_before.ensures
    ∙ word-parts c.args.s c.args.p _ c.args.at c.args.x c.args.m (word-at _ _ _ c.requires.0.stands c.requires.1) c.requires.2 c.requires.3 _ c.part_of-part.result _ (ap (λ (n : ℕ). n / c.args.s.glyph.0) c.room.ensures) c.if-fitting-eq0.false c.part_of-part.ensures c.word_measure-after.ensures
