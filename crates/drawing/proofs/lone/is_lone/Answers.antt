-- `drawing::lone::is_lone` meets its contract (rule 8).
use Rattle.std.proofs.Common.{◌+◌, refl, sym, ◌∙◌, arith}
use Rattle.std.proofs.lemmas.Bool.{not-false}
use Rattle.meaning.specs.Characters.{in_word}
use Rattle.parser.specs.Lexing.{chars_from}
use Rattle.parser.specs.Scanning.{glue_of, scan_from, word_of}
use Rattle.parser.specs.LexerLaws.{letter-lexed}
use Rattle.laws.specs.Asked.{some_one}
use Rattle.drawing.proofs.lone.is_lone.Goals as goal

pub returns : goal.returns
unfolding word_of
returns c =
    let from = c.args.at + 2 in
    λ e.
    let letter = some_one c.first_len.result (sym c.is_some.ensures ∙ e) c.first_len.ensures in
    record {
      none = c.if-rest-ne0.false;
      word = word_of (scan_from in_word glue_of (from + letter.0) 1 0 (chars_from c.args.text.now (from + letter.0)));
      lone = record {
        hyphen = (c.hyphen_at.ensures c.if-not-hyphen_at.false);
        word = sym (letter-lexed c.args.text.now from letter.0 letter.1);
        kind = refl;
        empty = not-false _ c.if-not-p.false;
        shown = omega (arith, c.room-left.ensures, c.if-left-glyph.false);
        over = omega (arith, c.room-left.ensures, c.if-glyph-left.false);
      };
    }
