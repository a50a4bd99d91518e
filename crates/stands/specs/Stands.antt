-- Where a line is to be laid, and what standing on the next one takes for granted.
-- Assumes nothing.
use Rattle.std.specs.Prelude.{ℕ, ◌+◌, ◌≤◌, ◌≡◌, List, length}
use Rattle.meaning.specs.Checks.{text_limit}
use Rattle.meaning.specs.declared.counts.Offset.{Offset}
use Rattle.parser.specs.Shorter.{Between}
use Rattle.steps.specs.Knowing.{KnownFits}
use Rattle.steps.specs.declared.step.Resumed.{Resumed}
use Rattle.stands.specs.declared.stand.Stand.{Stand}
use Rattle.stands.specs.declared.row.LaidRow.{LaidRow}

-- Before the line at an offset, behind so many characters, which resumes a rest: a word that is known there stands in the text.
pub record StandsAt (t : List ℕ) (at : Offset) (before : ℕ) (r : Resumed) (p : Stand) : Type 0 where
  pub at-is : p.at ≡ at
  pub before-is : p.before.0 ≡ before
  pub rest-is : p.rest ≡ r
  pub known : KnownFits t p.known

abbrev pub text_front : Offset
text_front = record { 0 = 0 }

-- What standing on the next line takes for granted.
pub record NextReady (t : List ℕ) (p : Stand) (x : LaidRow) : Type 0 where
  pub short : length t ≤ text_limit
  pub inside : x.next.0 ≤ length t
  pub few : p.before.0 + x.chars.0 ≤ x.next.0 + text_limit
  pub known : KnownFits t p.known
  pub between : Between t p.at.0 x.next.0 x.chars.0
