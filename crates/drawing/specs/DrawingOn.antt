-- How the drawing of a line goes on: where it stands, and that what is drawn from there on makes the same sheet.
-- Assumes nothing.
use Rattle.std.specs.Prelude.{ℕ, ◌+◌, ◌*◌, ◌≤◌, ◌≡◌, List}
use Rattle.meaning.specs.Line.{unmeasured}
use Rattle.meaning.specs.declared.settings.Settings.{Settings}
use Rattle.meaning.specs.declared.cursor.Place.{Place}
use Rattle.steps.specs.Running.{PassReady}
use Rattle.pairs.specs.PlainWords.{Found}
use Rattle.strides.specs.Strides.{waiting_at, Waits}
use Rattle.steps.specs.declared.step.Resumed.{Resumed}
use Rattle.drawing.specs.Drawn.{drawn_from}
use Rattle.ink.specs.Sheet.{sheet, drawn_on}
use Rattle.ink.specs.declared.pen.Pen.{Pen}
use Rattle.drawing.specs.declared.inked.Inked.{Inked}

-- What drawing takes for granted between two tokens: the pass can run from there, and the pen has room for all bytes of a text.
pub record PenReady (s : Settings) (p : Place) (t : List ℕ) (at : ℕ) (r : Resumed) (o : Pen) : Type 0 where
  pub pass : PassReady s p t at r unmeasured
  pub few : o.next ≤ 500000000 + at
  pub narrow : o.x.0 ≤ 100000000 + 8192 * at

-- From a place and a pen to others at a later offset, the buffer ev becoming u.
pub record Drew (s : Settings) (t : List ℕ) (r : Resumed) (ev : List ℕ) (p : Place) (at : ℕ) (o : Pen) (u : List ℕ) (q : Place) (to : ℕ) (v : Pen) : Type 0 where
  pub same : drawn_on (sheet u v) (drawn_from s q t to r.chars.0 r.count.0) ≡ drawn_on (sheet ev o) (drawn_from s p t at r.chars.0 r.count.0)
  pub ready : PenReady s q t to r v
  pub forward : at ≤ to

-- Where it stands, and nothing waits there.
unfoldable pub inked_at : Place → (at : ℕ) → Pen → Inked
inked_at p at o = record { place = p; at = at; pen = o; waits = waiting_at 0 0 0 }

-- How far the drawing came, and that a word waits there if one was found.
pub record Strode (s : Settings) (t : List ℕ) (r : Resumed) (ev : List ℕ) (p : Place) (at : ℕ) (o : Pen) (u : List ℕ) (g : Inked) : Type 0 where
  pub onward : Drew s t r ev p at o u g.place g.at g.pen
  pub waits : Found g.waits.next.0 (Waits s g.place t g.at g.waits × (r.chars.0 ≡ 0) × (r.count.0 ≡ 0))
