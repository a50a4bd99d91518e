-- `rows::hyphened::hyphened_pass` meets its contract (rule 8).
use Rattle.std.proofs.Common.{arith}
use Rattle.strides.specs.GoesLaws.{rest-none}
use Rattle.rows.proofs.HyphenLaws.{resumes_none}
use Rattle.rows.proofs.hyphened.hyphened_pass.Goals as goal

pub hyphened_word-requires : goal.hyphened_word-requires
hyphened_word-requires c =
    record {
      starts = record { ready = rest-none c.requires.ready c.if-rest-ne0.false; empty = c.requires.empty; stays = c.requires.stays };
      hyphen = c.hyphen_at.ensures c.if-not-hyphen_at.false;
      shown = omega (arith, c.room-left.ensures, c.if-left-glyph.false);
      over = omega (arith, c.room-left.ensures, c.if-glyph-left.false);
    }

pub returns : goal.returns
returns c =
    resumes_none c.args.s c.args.p c.args.text.now c.args.at c.args.rest c.requires.ready c.if-rest-ne0.false c.hyphened_word.result c.hyphened_word.ensures
