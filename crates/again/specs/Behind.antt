-- A lent part of a text stands behind so many bytes of it: what is laid in the part is moved by them.
-- Assumes nothing.
use Rattle.std.specs.Prelude.{ℕ, ◌+◌, ◌-◌, ◌≤◌, ◌≡◌, List, eqb, length, take}
use Rattle.std.proofs.Common.{arith, sym, ap, ◌∙◌, eq-eqb, ne_eqb}
use Rattle.basis.specs.Choice.{pick}
use Rattle.basis.specs.Order.{by_eq}
use Rattle.utf8.specs.Encoding.{size}
use Rattle.meaning.specs.LineIter.{Held}
use Rattle.meaning.specs.Line.{Line, lay_line, rest_of, entry_at}
use Rattle.meaning.specs.Layout.{row_at}
use Rattle.meaning.specs.Edit.{moved}
use Rattle.meaning.specs.declared.settings.Settings.{Settings}
use Rattle.table.specs.Moving.{moved_by}
use Rattle.table.specs.declared.edited.Shift.{Shift}
use Rattle.meaning.specs.declared.line.Rest.{Rest}
use Rattle.again.specs.Moved.{entry-moved}
use Rattle.laws.specs.Rests.{rest-none, rest_some}
use Rattle.parser.specs.Lexing.{chars_from}
use Rattle.placing.specs.LineFrom.{held_in, line_at_of, line_from}
use Rattle.steps.specs.Pending.{RestFits}
use Rattle.steps.specs.declared.step.Resumed.{Resumed}
use Rattle.rows.specs.Standing.{StandReady, laid_row, entry-is}
use Rattle.rows.specs.RowsFrom.{row_here}
use Rattle.stands.specs.declared.stand.Stand.{Stand}
use Rattle.stands.specs.declared.row.LaidRow.{LaidRow}

-- Bytes put in front of everything, and no characters counted: the stand counts them.
abbrev pub behind : ℕ → Shift
behind base =
    record {
      edit = record { from = record { 0 = 0 }; to = record { 0 = 0 }; inserted = record { 0 = base } };
      from = record { 0 = 0 };
      to = record { 0 = 0 };
    }

moved-behind : (base at : ℕ) → moved (behind base).edit at ≡ base + at
unfolding moved
moved-behind base at = omega arith

-- The line that is laid at an offset of the part, as a line of the whole.
entry-behind : (base at before : ℕ) (h : Held) (cs : List ℕ) (l : Line) → h.chars ≤ length cs
    → entry_at (base + at) before h cs l ≡ moved_by (behind base) (entry_at at before h cs l)
entry-behind base at before h cs l k =
    let same : 0 + (before - 0) ≡ before = omega arith in
    rw (moved-behind base at, same) at (entry-moved (behind base).edit 0 0 at before h cs l (omega arith) k)

-- Such a line is the first of those from its stand on.
pub row-behind : (s : Settings) (t : List ℕ) (base : ℕ) (p : Stand) → StandReady s t p → (x : LaidRow) → x ≡ laid_row s t p
    → moved_by (behind base) x.entry ≡ (row_here s t base p).entry
unfolding row_here row_at line_from line_at_of
row-behind s t base p c x is =
    let h = held_in p.rest in
    let cs = chars_from t p.at.0 in
    ap (moved_by (behind base)) (entry-is s t p c x is)
    ∙ sym (entry-behind base p.at.0 p.before.0 h cs (lay_line s h cs) c.line.rest.within)

-- What is held before such a line, as an entry of the whole says it.
unfoldable pub rest_behind : (base : ℕ) → Resumed → Rest
rest_behind base r =
    pick (eqb r.chars.0 0) (record { end = record { 0 = 0 }; count = record { 0 = 0 } })
    (record { end = record { 0 = base + r.end.0 }; count = r.count })

-- It is no large number.
abbrev pub RestLow : (base : ℕ) → Resumed → Type 0
RestLow base r = (r.chars.0 ≡ 0 → ⊥) → base + r.end.0 ≤ 131071

pub rest-behind : (t : List ℕ) (base at : ℕ) (r : Resumed) → RestFits t at r
    → rest_of (base + at) (held_in r) (chars_from t at) ≡ rest_behind base r
unfolding rest_behind pick
rest-behind t base at r f =
    let h = held_in r in
    let cs = chars_from t at in
    by_eq r.chars.0 0 (λ e. rw (rest-none (base + at) h cs e, eq-eqb r.chars.0 0 e))
    (λ d.
    let e : base + at + size (take r.chars.0 cs) ≡ base + r.end.0 = omega (arith, f.ends d) in
    rw (rest_some (base + at) h cs d, ne_eqb r.chars.0 0 d, e))
