-- `drawing::past::past_word` meets its contract (rule 8, rule 13).
use Rattle.std.proofs.Common.{◌≤◌, refl, sym, ◌∙◌, arith}
use Rattle.meaning.specs.Line.{unmeasured}
use Rattle.moves.specs.FineLaws.{times_bound}
use Rattle.steps.specs.WordLaws.{word-at, word-goes}
use Rattle.drawing.proofs.PastLaws.{word-stops}
use Rattle.drawing.proofs.past.past_word.Goals as goal

pub overflow_mul-x : goal.overflow_mul-x
overflow_mul-x c =
    let few : c.args.x.chars.0 ≤ 65535 = omega (arith, (word-at _ _ _ c.requires.0.stands c.requires.2).few, c.requires.0.stands.within, c.requires.0.short) in
    record { fits = omega (arith, times_bound {n = 65535} {m = 64} c.args.x.chars.0 c.args.s.glyph.0 few c.requires.0.settings.1) }

pub returns-then-fits : goal.returns-then-fits
returns-then-fits c =
    record {
      pen_after = c.draw_whole-whole.ensures;
      went = record {
        measure = _;
        reach = _;
        is = sym (word-goes c.args.s c.args.p c.args.text.now c.args.at c.args.x unmeasured (word-at _ _ _ c.requires.0.stands c.requires.2) (sym c.fits.ensures ∙ c.if-fits.true) c.word_place-place.result _ c.word_place-place.ensures refl);
      };
    }

pub returns : goal.returns
returns c =
    record { pen_after = c.draw_cut-cut.ensures; went = word-stops c.args.s c.args.p c.args.text.now c.args.at c.args.x (word-at _ _ _ c.requires.0.stands c.requires.2) (sym c.fits.ensures ∙ c.if-fits.false) }
