-- Soft hyphens that do not show, with the words behind them, and zero width spaces (rule 8).
-- Assumes nothing.
use Rattle.std.specs.Prelude.{ℕ, ◌+◌, ◌*◌, ◌≤◌, ◌≡◌, false, List, Some, Option, None}
use Rattle.meaning.specs.Tokens.{tokens}
use Rattle.meaning.specs.Cursor.{room_of}
use Rattle.meaning.specs.declared.settings.Settings.{Settings}
use Rattle.meaning.specs.declared.cursor.Place.{Place}
use Rattle.meaning.specs.declared.line.Measure.{Measure}
use Rattle.parser.specs.Lexing.{chars_from, lexed_at}
use Rattle.parser.specs.Scanning.{word_of}
use Rattle.parser.specs.Marks.{Mark}
use Rattle.parser.specs.declared.scan.Scanned.{Scanned}
use Rattle.steps.specs.Stopping.{word_place}
use Rattle.steps.specs.Running.{PassReady}
use Rattle.steps.specs.Unrolled.{nothing_resumed}
use Rattle.strides.specs.Strides.{Onward}
use Rattle.strides.specs.declared.marks.Joined.{Joined}

-- A soft hyphen, a word and a soft hyphen again, with room for the word and a "-".
pub record Joining (s : Settings) (p : Place) (t : List ℕ) (at : ℕ) (w : Scanned) (q : Place) : Type 0 where
  pub hyphen : Mark t at 2
  pub word : lexed_at (at + 2) (tokens (chars_from t (at + 2))) ≡ Some (word_of w)
  pub behind : Mark t w.end.0 2
  pub empty : p.empty ≡ false
  pub fits : w.chars.0 * s.glyph.0 + s.glyph.0 ≤ room_of p.cursor
  pub place : q ≡ word_place s.glyph.0 p w.chars.0 w.weight.0

abbrev pub JoinedIs : Settings → Place → List ℕ → ℕ → Option Joined → Type 0
JoinedIs s p t at None = Unit {0}
JoinedIs s p t at (Some j) = Joining s p t at j.word j.place

-- Two zero width spaces.
abbrev pub Zeros : List ℕ → ℕ → Type 0
Zeros t at = Mark t at 3 × Mark t (at + 3) 3

-- Whatever line that is not empty comes to the one position stands as well at the other.
abbrev pub Idle : List ℕ → (at to : ℕ) → Type 0
Idle t at to =
    (s : Settings) (p : Place) (m : Measure) → p.empty ≡ false → PassReady s p t at nothing_resumed m → Onward s p t at nothing_resumed m p to m
