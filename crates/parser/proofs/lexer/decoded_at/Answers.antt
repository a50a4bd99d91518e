-- `parser::lexer::decoded_at` meets its contract (rule 2, rule 3).
use Rattle.std.proofs.Common.{sym, ◌∙◌}
use Rattle.utf8.specs.Walk.{decode_at-bytes}
use Rattle.parser.specs.ScanLaws.{no_char, char-room}
use Rattle.parser.specs.LexerLaws.{lexed-char, lexed-none}
use Rattle.parser.proofs.lexer.decoded_at.Goals as goal

pub lexeme_at-requires : goal.lexeme_at-requires
lexeme_at-requires c =
    let e = sym c.decode.ensures ∙ c.in-Char.is in
    (c.requires, (char-room _ _ _ _ e).2, decode_at-bytes _ _ _ _ e)

pub returns-in-Char : goal.returns-in-Char
returns-in-Char c =
    lexed-char _ _ _ _ (sym c.decode.ensures ∙ c.in-Char.is) _ c.lexeme_at.ensures

pub returns-in-Bad : goal.returns-in-Bad
returns-in-Bad c =
    lexed-none _ _ (no_char _ _ _ c.decode.ensures c.in-Bad.is)
