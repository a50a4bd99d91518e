-- What a reader finds, and where it then stands, from the text that it holds and its offset.
-- Assumes nothing.
use Rattle.std.specs.Prelude.{ℕ, List, None, Option, Some}
use Rattle.parser.specs.declared.lexeme.Lexeme.{Lexeme}
use Rattle.meaning.specs.Tokens.{tokens, ranged}
use Rattle.meaning.specs.declared.tokens.Token.{Token}
use Rattle.parser.specs.Lexing.{chars_from, lexed_at}
use Rattle.tokenizer.specs.declared.reader.Reader.{Reader}

-- The offset after what was found at an offset.
abbrev pub end_of : ℕ → Option Lexeme → ℕ
end_of at None = at
end_of at (Some l) = l.end.0

-- The token at which a reader stands.
abbrev pub next_of : Reader → Option Lexeme
next_of r = lexed_at r.at (tokens (chars_from r.text.now r.at))

-- The reader after it, with the same text.
abbrev pub read_on : Reader → Reader
read_on r = record { text = r.text; at = end_of r.at (next_of r) }

-- The tokens from where it stands on.
abbrev pub tokens_left : Reader → List Token
tokens_left r = ranged r.at (tokens (chars_from r.text.now r.at))
