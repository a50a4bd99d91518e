-- What the running steps and passes answer, from the definitions of a step and a pass. Offsets are the text's.
-- Assumes nothing.
use Rattle.std.specs.Prelude.{ℕ, ◌+◌, ◌-◌, List, eqb, take}
use Rattle.basis.specs.Choice.{pick}
use Rattle.utf8.specs.Encoding.{size}
use Rattle.meaning.specs.Tokens.{Tok, newLine, carriageReturn, tab, softHyphen, space, word, size_of}
use Rattle.meaning.specs.Lookahead as meant
use Rattle.meaning.specs.LineIter.{Held, Step, go, stop, Ran, process}
use Rattle.meaning.specs.Line.{measured, held_tokens}
use Rattle.meaning.specs.declared.tokens.TokenKind.{TokenKind}
use Rattle.meaning.specs.declared.tokens.TokenKind.TheVariants.{NewLine, CarriageReturn, Tab, Whitespace, Word, Break}
use Rattle.meaning.specs.declared.settings.Settings.{Settings}
use Rattle.meaning.specs.declared.cursor.Place.{Place}
use Rattle.meaning.specs.declared.line.Measure.{Measure}
use Rattle.laws.specs.Spell.{text_of}
use Rattle.parser.specs.Lexing.{chars_from}
use Rattle.parser.specs.declared.lexeme.Lexeme.{Lexeme}
use Rattle.steps.specs.declared.foreseen.Look.{Look}
use Rattle.steps.specs.declared.foreseen.WidthAhead.{WidthAhead}
use Rattle.steps.specs.declared.step.Resumed.{Resumed}
use Rattle.steps.specs.declared.step.Ended.{Ended}
use Rattle.steps.specs.declared.step.Stepped.{Stepped}
use Rattle.steps.specs.declared.step.Stepped.TheVariants.{Go, Stop}

-- A lookahead's answer.
abbrev pub look_of : meant.Looked → Look
look_of l = record { fits = l.fits; reach = record { 0 = l.reach } }

abbrev pub ahead_of : meant.Ahead → WidthAhead
ahead_of a = record { width = a.width; reach = record { 0 = a.reach } }

-- What is held of a run that ends at an offset.
unfoldable pub resumed_at : (end : ℕ) → Held → Resumed
resumed_at end h =
    record { end = record { 0 = pick (eqb h.chars 0) 0 end }; chars = record { 0 = h.chars }; count = record { 0 = h.count } }

-- A step of the token t at an offset, after what was measured before it.
unfoldable pub stepped_at : Measure → (at : ℕ) → Tok → Step → Stepped
stepped_at m at t (go q ds r) = Go q (measured m ds) (record { 0 = r })
stepped_at m at t (stop e ds k h d r) =
    Stop
    (record {
      ended = e;
      measure = measured m ds;
      next = record { 0 = at + size (take k (text_of t)) };
      rest = resumed_at (at + size_of t) h;
      dropped = record { 0 = d };
      reach = record { 0 = r };
    })

-- A pass over the characters cs from an offset on, after what was measured before it.
unfoldable pub ended_at : Measure → (at : ℕ) → List ℕ → Ran → Ended
ended_at m at cs r =
    record {
      ended = r.ended;
      measure = measured m r.drawn;
      next = record { 0 = at + size (take r.chars cs) };
      rest = resumed_at (at + size (take (r.chars + r.held.chars) cs)) r.held;
      dropped = record { 0 = r.dropped };
      reach = record { 0 = r.reach };
    }

-- The pass that a text, a place, and a rest at an offset give.
unfoldable pub ran_from : Settings → Place → List ℕ → (at chars count : ℕ) → Measure → Ended
ran_from s p t at chars count m =
    let cs = chars_from t at in
    ended_at m at cs (process s p at (held_tokens chars count cs))

-- A token by its kind, characters, count and the bytes of what ends it.
abbrev pub tok_by : TokenKind → List ℕ → (count ender : ℕ) → Tok
tok_by NewLine cs n e = newLine
tok_by CarriageReturn cs n e = carriageReturn
tok_by Tab cs n e = tab
tok_by Break cs n e = softHyphen
tok_by Whitespace cs n e = space cs n e
tok_by Word cs n e = word cs e

-- The token that a lexeme at an offset of a text stands for.
unfoldable pub tok_of : List ℕ → (at : ℕ) → Lexeme → Tok
tok_of t at x = tok_by x.kind (take x.chars.0 (chars_from t at)) x.count.0 (x.reach.0 - x.end.0)
