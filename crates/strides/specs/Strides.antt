-- A pass that goes on over words: what is left of it from there is the whole pass.
-- Assumes nothing.
use Rattle.std.specs.Prelude.{◌≡◌, false, List, ℕ, ◌+◌, ◌*◌, ◌≤◌, ◌<◌}
use Rattle.meaning.specs.Cursor.{placed_at}
use Rattle.meaning.specs.SpaceConfig.{spaces_width}
use Rattle.meaning.specs.declared.settings.Settings.{Settings}
use Rattle.meaning.specs.declared.cursor.Place.{Place}
use Rattle.meaning.specs.declared.line.Measure.{Measure}
use Rattle.pairs.specs.Pairs.{PairAt}
use Rattle.parser.specs.declared.lexeme.Lexeme.{Lexeme}
use Rattle.steps.specs.Stepping.{ran_from}
use Rattle.steps.specs.Unrolled.{nothing_resumed}
use Rattle.steps.specs.Running.{PassReady}
use Rattle.pairs.specs.PlainWords.{Found}
use Rattle.steps.specs.declared.step.Resumed.{Resumed}
use Rattle.strides.specs.declared.going.Waiting.{Waiting}
use Rattle.strides.specs.declared.going.Going.{Going}

unfoldable pub waiting_at : (next looked reach : ℕ) → Waiting
waiting_at next looked reach = record { next = record { 0 = next }; looked = record { 0 = looked }; reach = record { 0 = reach } }

-- Where a pass stands, and what waits there.
unfoldable pub going_at : Place → Measure → (at : ℕ) → Waiting → Going
going_at p m at waits = record { place = p; measure = m; at = record { 0 = at }; waits = waits }

-- The same place after a word, with its cursor and its extra pixels elsewhere.
abbrev pub strode_place : Place → (position extra : ℕ) → Place
strode_place p position extra =
    record {
      cursor = placed_at p.cursor position;
      spaces = record { width = p.spaces.width; extra = record { 0 = extra } };
      empty = false;
    }

-- From a place at a later offset a pass gives the same.
pub record Onward (s : Settings) (p : Place) (t : List ℕ) (at : ℕ) (r : Resumed) (m : Measure) (q : Place) (to : ℕ) (n : Measure) : Type 0 where
  pub same : ran_from s q t to r.chars.0 r.count.0 n ≡ ran_from s p t at r.chars.0 r.count.0 m
  pub ready : PassReady s q t to r n
  pub forward : at ≤ to

-- A word waits for the next line: after one space and the word the cursor would stand outside its box.
pub record Waits (s : Settings) (p : Place) (t : List ℕ) (at : ℕ) (w : Waiting) : Type 0 where
  pub word : Lexeme
  pub pair : PairAt t at w.next.0 w.looked.0 word
  pub reach : word.reach.0 ≡ w.reach.0
  pub empty : p.empty ≡ false
  pub over : p.cursor.width.0 < p.cursor.position.0 + spaces_width p.spaces 1 + word.chars.0 * s.glyph.0

-- How far a pass came, and that a word waits there if one was found.
pub record Goes (s : Settings) (p : Place) (t : List ℕ) (at : ℕ) (r : Resumed) (m : Measure) (g : Going) : Type 0 where
  pub onward : Onward s p t at r m g.place g.at.0 g.measure
  pub waits : Found g.waits.next.0 (Waits s g.place t g.at.0 g.waits × (r.chars.0 ≡ 0) × (r.count.0 ≡ 0))

-- What the end before a waiting word takes for granted.
abbrev pub WaitReady : Settings → List ℕ → Going → Type 0
WaitReady s t g = PassReady s g.place t g.at.0 nothing_resumed g.measure × Waits s g.place t g.at.0 g.waits
