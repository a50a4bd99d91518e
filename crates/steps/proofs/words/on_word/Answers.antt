-- `steps::words::on_word` meets its contract (rule 7, rule 8).
use Rattle.std.proofs.Common.{◌≤◌, sym, ap, ◌∙◌, arith}
use Rattle.moves.specs.FineLaws.{times_bound}
use Rattle.steps.specs.declared.step.Stepped.TheVariants.{Stop}
use Rattle.steps.specs.WordLaws.{WordAt, word-at, word-goes, word-waits}
use Rattle.steps.proofs.words.on_word.Goals as goal

pub overflow_mul-x : goal.overflow_mul-x
overflow_mul-x c =
    record { fits = omega (arith, times_bound {n = 65535} {m = 64} c.args.x.chars.0 c.args.s.glyph.0 ((let few_here : c.args.x.chars.0 ≤ 65535 = omega (arith, (word-at _ _ _ c.requires.0.stands c.requires.1).few, c.requires.0.stands.within, c.requires.0.short) in few_here)) c.requires.0.settings.1) }

pub word_measure-after-requires : goal.word_measure-after-requires
word_measure-after-requires c =
    (c.requires.0.place.1, c.requires.0.settings.1, (let few_here : c.args.x.chars.0 ≤ 65535 = omega (arith, (word-at _ _ _ c.requires.0.stands c.requires.1).few, c.requires.0.stands.within, c.requires.0.short) in few_here), (word-at _ _ _ c.requires.0.stands c.requires.1).fewer, omega (arith, c.requires.0.small, c.requires.0.stands.longer, c.requires.0.stands.within, c.requires.0.short), omega (arith, c.requires.0.small, c.requires.0.stands.longer, c.requires.0.stands.within, c.requires.0.short))

pub word_place-place-requires : goal.word_place-place-requires
word_place-place-requires c =
    (c.requires.0.place, sym c.fits.ensures ∙ c.if-fits.true)

pub returns-then-fits : goal.returns-then-fits
returns-then-fits c =
    word-goes c.args.s c.args.p _ c.args.at c.args.x c.args.m (word-at _ _ _ c.requires.0.stands c.requires.1) (sym c.fits.ensures ∙ c.if-fits.true) _ _ c.word_place-place.ensures c.word_measure-after.ensures

pub cut_word-requires : goal.cut_word-requires
cut_word-requires c =
    (c.requires.0, c.requires.1, sym c.fits.ensures ∙ c.if-fits.false, c.if-p.true)

pub returns : goal.returns
returns c =
    ap Stop c.ends_before.ensures
    ∙ word-waits c.args.s c.args.p _ c.args.at c.args.x c.args.m (word-at _ _ _ c.requires.0.stands c.requires.1) (sym c.fits.ensures ∙ c.if-fits.false) c.if-p.false
