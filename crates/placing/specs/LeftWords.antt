-- A word, or what is left of it, from an offset on: the lines that it is cut into are found from its end and how many characters it has.
-- Assumes nothing.
use Rattle.std.specs.Prelude.{ℕ, ◌+◌, ◌≤◌, ◌<◌, ◌≡◌, List, ◌++◌, length}
use Rattle.utf8.specs.Encoding.{size}
use Rattle.meaning.specs.Characters.{in_word}
use Rattle.meaning.specs.Tokens.{ender}
use Rattle.meaning.specs.Words.{glues}
use Rattle.laws.specs.Runs.{Pass, Stops}
use Rattle.parser.specs.Lexing.{chars_from}
use Rattle.parser.specs.declared.scan.Scanned.{Scanned}

-- So many characters of a word stand from one offset up to another, where it ends; of them no more than that glue, and so far was looked.
pub record LeftWord (t : List ℕ) (at end chars gluing reach : ℕ) : Type 0 where
  pub letters : List ℕ
  pub are : chars_from t at ≡ letters ++ chars_from t end
  pub word : Pass in_word letters
  pub stops : Stops in_word (chars_from t end)
  pub count : chars ≡ length letters
  pub ends : end ≡ at + size letters
  pub weight : glues letters ≤ gluing
  pub reached : reach ≡ end + ender (chars_from t end)

-- The word has more characters than a box that holds some.
pub record LongWord (t : List ℕ) (at most : ℕ) (w : Scanned) : Type 0 where
  pub some : 1 ≤ most
  pub long : most < w.chars.0
  pub left : LeftWord t at w.end.0 w.chars.0 w.weight.0 w.reach.0
