-- The numbers of tokens in a lent buffer.
-- Assumes nothing.
use Rattle.std.specs.Prelude.{ℕ, List, [], ◌∷◌, length, Err, Ok, Result}
use Rattle.meaning.specs.Refusals.{Checked}
use Rattle.meaning.specs.declared.refusals.Refusal.{Refusal}
use Rattle.meaning.specs.Tokens.{tokens, ranged}
use Rattle.meaning.specs.Table.{token_numbers, token_number, of_token, of_all, capacity_of, written}
use Rattle.meaning.specs.Checks.{answered, afterwards, check_room}
use Rattle.meaning.specs.Calls.{text_tokens}
use Rattle.parser.specs.Lexing.{chars_from}
use Rattle.parser.specs.declared.lexeme.Lexeme.{Lexeme}

-- Of a token that starts at an offset.
unfoldable pub numbers_of : (start : ℕ) → Lexeme → List ℕ
numbers_of start l = token_number l.kind ∷ start ∷ l.end.0 ∷ l.count.0 ∷ []

-- Of all tokens from an offset of a text on.
unfoldable pub numbers_from : List ℕ → (at : ℕ) → List ℕ
numbers_from t at = of_all of_token (ranged at (tokens (chars_from t at)))

-- Refusal 8 by itself: what a text that the other tests let through has answered, and what the buffer holds then.
unfoldable pub check_needed : List ℕ → (buffer : List ℕ) → Checked
check_needed t buffer = check_room (capacity_of token_numbers buffer) (length (text_tokens t))

unfoldable pub room_answer : List ℕ → (buffer : List ℕ) → Result ℕ Refusal
room_answer t buffer = answered (check_needed t buffer) (Ok (length (text_tokens t))) Err

unfoldable pub room_buffer : List ℕ → (buffer : List ℕ) → List ℕ
room_buffer t buffer = afterwards (check_needed t buffer) (written buffer (of_all of_token (text_tokens t))) buffer
