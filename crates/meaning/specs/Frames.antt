-- One line of a text from any start: where a line may be laid, the line that is laid there, and what comes after it (rule 10, refusal 5).
-- Assumes nothing.
use Rattle.std.specs.Prelude.{ℕ, zero, suc, ◌+◌, ◌-◌, Bool, ◌&&◌, ◌||◌, List, [], ◌∷◌, leb, ltb, eqb, take, drop}
use Rattle.basis.specs.Choice.{pick}
use Rattle.utf8.specs.Encoding.{size}
use Rattle.utf8.specs.Places.{boundary}
use Rattle.meaning.specs.LineIter.{Held, nothing_held}
use Rattle.meaning.specs.Line.{lay_line, rest_of, entry_at}
use Rattle.meaning.specs.Edit.{chars_in}
use Rattle.meaning.specs.declared.settings.Settings.{Settings}
use Rattle.meaning.specs.declared.line.Rest.{Rest}
use Rattle.meaning.specs.declared.line.Entry.{Entry}

-- Nothing is resumed.
unfoldable pub is_none : Rest → Bool
is_none r = eqb r.end.0 0 && eqb r.count.0 0

abbrev pub none_resumed : Rest
none_resumed = record { end = record { 0 = 0 }; count = record { 0 = 0 } }

-- The characters of a text from an offset on.
unfoldable pub onward : List ℕ → (start : ℕ) → List ℕ
onward cs start = drop (chars_in cs start) cs

-- A rest that a line at an offset may resume: it ends above the line's start at a character boundary of the text, and counts no more
-- than its characters.
unfoldable pub rest_lies : List ℕ → (start : ℕ) → Rest → Bool
rest_lies cs start r =
    ltb start r.end.0 && boundary cs r.end.0 && leb r.count.0 (chars_in (onward cs start) (r.end.0 - start))

-- A start lies at a character boundary, the text's end among them.
unfoldable pub stand_good : List ℕ → (start : ℕ) → Rest → Bool
stand_good cs start r = boundary cs start && (is_none r || rest_lies cs start r)

-- What a rest holds, of the characters from its line's start on.
unfoldable pub held_by : (start : ℕ) → Rest → List ℕ → Held
held_by start r cs = pick (is_none r) nothing_held (record { chars = chars_in cs (r.end.0 - start); count = r.count.0 })

-- A line's entry, where the next line starts, and what that line resumes.
pub record OneLine : Type 0 where
  pub entry : Entry
  pub next : ℕ
  pub rest : Rest

-- The line at a start, which need be no line's of the layout.
unfoldable pub one_line : Settings → List ℕ → (start : ℕ) → Rest → OneLine
one_line s cs start r =
    let here = onward cs start in
    let h = held_by start r here in
    let l = lay_line s h here in
    let next = start + size (take l.chars here) in
    record {
      entry = entry_at start (chars_in cs start) h here l;
      next = next;
      rest = rest_of next l.held (drop l.chars here);
    }

-- Line after line, at most k of them, until one ends the text (2).
unfoldable pub first_lines : (k : ℕ) → Settings → List ℕ → (start : ℕ) → Rest → List Entry
first_lines zero s cs start r = []
first_lines (suc k) s cs start r =
    let o = one_line s cs start r in
    let more = first_lines k s cs o.next o.rest in
    o.entry ∷ pick (eqb o.entry.ending 2) [] more
