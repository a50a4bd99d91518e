-- What laying a line answers: the line that the characters at an offset of a text begin with, after a resumed rest.
-- Assumes nothing.
use Rattle.std.specs.Prelude.{ℕ, ◌+◌, List, take}
use Rattle.utf8.specs.Encoding.{size}
use Rattle.meaning.specs.LineIter.{Held}
use Rattle.meaning.specs.Line.{Line, lay_line, entry_at}
use Rattle.meaning.specs.declared.settings.Settings.{Settings}
use Rattle.meaning.specs.declared.counts.Chars.{Chars}
use Rattle.meaning.specs.declared.counts.Offset.{Offset}
use Rattle.meaning.specs.declared.line.LineEnd.{LineEnd}
use Rattle.meaning.specs.declared.line.Entry.{Entry}
use Rattle.parser.specs.Lexing.{chars_from}
use Rattle.steps.specs.Stepping.{resumed_at}
use Rattle.steps.specs.declared.step.Resumed.{Resumed}

-- A laid line: its entry, how it ended, where the next line starts, how many characters it took up to there and what the next line
-- resumes.
pub record LineAt : Type 0 where
  pub entry : Entry
  pub ended : LineEnd
  pub next : Offset
  pub chars : Chars
  pub rest : Resumed

-- What a rest that a line resumes stands for.
abbrev pub held_in : Resumed → Held
held_in r = record { chars = r.chars.0; count = r.count.0 }

-- A line that starts at an offset, behind so many characters and before the characters cs.
unfoldable pub line_at_of : (at before : ℕ) → Held → List ℕ → Line → LineAt
line_at_of at before h cs l =
    record {
      entry = entry_at at before h cs l;
      ended = l.ended;
      next = record { 0 = at + size (take l.chars cs) };
      chars = record { 0 = l.chars };
      rest = resumed_at (at + size (take (l.chars + l.held.chars) cs)) l.held;
    }

unfoldable pub line_from : Settings → List ℕ → (at before : ℕ) → Resumed → LineAt
line_from s t at before r = line_at_of at before (held_in r) (chars_from t at) (lay_line s (held_in r) (chars_from t at))
