-- `parser::lexer::lexeme_at` meets its contract (rule 2, rule 3).
use Rattle.std.proofs.Common.{sym, ap, ◌∙◌, ℕ, ◌+◌, arith}
use Rattle.meaning.specs.Characters.{in_word}
use Rattle.parser.specs.Lexing.{chars_from}
use Rattle.parser.specs.Scanning.{glue_of, scan_from, word_of, blank_of}
use Rattle.parser.specs.GlueLaws.{glue-one}
use Rattle.parser.specs.LexerLaws.{new_line, carriage_return, tabulator, soft_hyphen, zero-width, Left, word-is, blank-is}
use Rattle.parser.proofs.lexer.lexeme_at.Goals as goal

pub scan_word-requires : goal.scan_word-requires
scan_word-requires c =
    omega (arith, c.glue_of.ensures, glue-one c.args.c)

pub returns-then-in_word : goal.returns-then-in_word
returns-then-in_word c =
    let cs = chars_from c.args.text.now (c.args.at + c.args.len) in
    let w = c.scan_word.ensures ∙ ap (λ (n : ℕ). scan_from in_word glue_of (c.args.at + c.args.len) 1 n cs) c.glue_of.ensures in
    c.word.ensures ∙ ap word_of w
    ∙ word-is c.args.at c.args.len c.args.c cs c.requires.2 (sym c.in_word.ensures ∙ c.if-in_word.true)

pub returns-then-c-eq10 : goal.returns-then-c-eq10
returns-then-c-eq10 c =
    c.alone.ensures ∙ new_line _ _ _ _ c.requires.2 c.if-c-eq10.true

pub returns-then-c-eq13 : goal.returns-then-c-eq13
returns-then-c-eq13 c =
    c.alone-then-c-eq13.ensures ∙ carriage_return _ _ _ _ c.requires.2 c.if-c-eq13.true

pub returns-then-c-eq9 : goal.returns-then-c-eq9
returns-then-c-eq9 c =
    c.alone-then-c-eq9.ensures ∙ tabulator _ _ _ _ c.requires.2 c.if-c-eq9.true

pub returns-then-c-eq173 : goal.returns-then-c-eq173
returns-then-c-eq173 c =
    c.alone-then-c-eq173.ensures ∙ soft_hyphen _ _ _ _ c.requires.2 c.if-c-eq173.true

pub returns-then-c-eq8203 : goal.returns-then-c-eq8203
returns-then-c-eq8203 c =
    c.alone-then-c-eq8203.ensures ∙ zero-width _ _ _ _ c.requires.2 c.if-c-eq8203.true

pub returns : goal.returns
returns c =
    let l : Left c.args.c = record {
      word = sym c.in_word.ensures ∙ c.if-in_word.false;
      lf = c.if-c-eq10.false;
      cr = c.if-c-eq13.false;
      ht = c.if-c-eq9.false;
      shy = c.if-c-eq173.false;
      zwsp = c.if-c-eq8203.false;
    } in
    c.blank.ensures ∙ ap blank_of c.scan_run.ensures ∙ blank-is _ _ _ _ c.requires.2 l
