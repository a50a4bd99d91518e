-- What drawing a line puts into a lent event buffer. Offsets are the text's.
-- Assumes nothing.
use Rattle.std.specs.Prelude.{ℕ, List}
use Rattle.meaning.specs.Words.{Drawn}
use Rattle.meaning.specs.LineIter.{process}
use Rattle.meaning.specs.Line.{held_tokens, events_at}
use Rattle.meaning.specs.declared.settings.Settings.{Settings}
use Rattle.meaning.specs.declared.cursor.Place.{Place}
use Rattle.meaning.specs.declared.line.Event.{Event}
use Rattle.parser.specs.Lexing.{chars_from}

-- What a pass draws, from a place and an offset on, after a rest of so many characters and spaces.
unfoldable pub drawn_from : Settings → Place → List ℕ → (at chars count : ℕ) → List Drawn
drawn_from s p t at chars count = (process s p at (held_tokens chars count (chars_from t at))).drawn

-- Its events, the pen standing at x before the first.
unfoldable pub events_from : Settings → Place → List ℕ → (at chars count x : ℕ) → List Event
events_from s p t at chars count x = events_at 0 x (drawn_from s p t at chars count)
