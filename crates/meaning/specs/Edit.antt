-- Laying again after an edit: the first affected line, refusal 3, refusal 5 and refusal 6 of an edit, and the lines afterwards.
-- Assumes nothing.
use Rattle.std.specs.Prelude.{ℕ, zero, suc, ◌+◌, ◌-◌, Bool, ◌&&◌, ◌||◌, not, List, [], ◌∷◌, ◌++◌, map, leb, eqb, length, take, drop, Err, Ok}
use Rattle.meaning.specs.Refusals.{Checked}
use Rattle.basis.specs.Choice.{pick}
use Rattle.utf8.specs.Encoding.{bytes, size}
use Rattle.utf8.specs.Places.{boundary}
use Rattle.meaning.specs.Checks.{refuse_if, check_length}
use Rattle.meaning.specs.LineIter.{Held, nothing_held}
use Rattle.meaning.specs.Line.{lay_line, rest_of}
use Rattle.meaning.specs.Layout.{Row, row_at, entry_of_row}
use Rattle.meaning.specs.WellFormed.{text_length, no_rest}
use Rattle.meaning.specs.declared.settings.Settings.{Settings}
use Rattle.meaning.specs.declared.edit.Edit.{Edit}
use Rattle.meaning.specs.declared.line.LineEnd.{LineEnd}
use Rattle.meaning.specs.declared.line.LineEnd.TheVariants.{NewLine, CarriageReturn, EndOfText, LineBreak}
use Rattle.meaning.specs.declared.line.Rest.{Rest}
use Rattle.meaning.specs.declared.line.Entry.{Entry}
use Rattle.meaning.specs.declared.refusals.Refusal.TheVariants.{BadLine, BadEdit}

-- The lines before the first one with reach > a, and the lines from it on.
unfoldable pub unaffected : (a : ℕ) → List Entry → List Entry
unaffected a [] = []
unaffected a (e ∷ es) =
    let more = e ∷ unaffected a es in
    pick (leb e.reach.0 a) more []

unfoldable pub affected : (a : ℕ) → List Entry → List Entry
affected a [] = []
affected a (e ∷ es) =
    let more = affected a es in
    pick (leb e.reach.0 a) more (e ∷ es)

-- The edit replaces bytes of the old text: a <= b <= old length.
unfoldable pub in_order : List Entry → Edit → Bool
in_order es ed = leb ed.from.0 ed.to.0 && leb ed.to.0 (text_length es)

-- The length of the edited whole.
unfoldable pub new_length : List Entry → Edit → ℕ
new_length es ed = text_length es + ed.inserted.0 - (ed.to.0 - ed.from.0)

-- 3: the edited whole is too long, if the table is well formed and the edit replaces bytes of the old text.
unfoldable pub check_whole : (table : Checked) → List Entry → Edit → Checked
check_whole (Err r) es ed = Ok tt
check_whole (Ok tt) es ed = pick (in_order es ed) (check_length (new_length es ed)) (Ok tt)

-- How many characters the first n bytes hold.
unfoldable pub chars_in : List ℕ → ℕ → ℕ
chars_in [] n = 0
chars_in (c ∷ cs) n =
    let more = suc (chars_in cs (n - bytes c)) in
    pick (leb (bytes c) n) more 0

-- 5, of the first affected line, numbered k, and the lent part's characters: its rest ends at no character boundary of the part,
-- or counts more than the characters up to there.
unfoldable pub rest_fits : Entry → List ℕ → Bool
rest_fits e cs =
    let n = e.rest.end.0 - e.start.0 in
    no_rest e || (boundary cs n && leb e.rest.count.0 (chars_in cs n))

unfoldable pub check_rest : (k : ℕ) → List Entry → List ℕ → Checked
check_rest k [] cs = Ok tt
check_rest k (e ∷ es) cs = refuse_if (not (rest_fits e cs)) (BadLine k)

-- 6, of an edit alone.
unfoldable pub check_order : List Entry → Edit → Checked
check_order es ed = refuse_if (not (in_order es ed)) BadEdit

-- 6, with a lent part of so many bytes, whose characters are cs and which stands from the first affected line's start on.
unfoldable pub part_fits : List Entry → Edit → Entry → (length : ℕ) → List ℕ → Bool
part_fits es ed e n cs =
    in_order es ed
    && eqb n (new_length es ed - e.start.0)
    && boundary cs (ed.from.0 - e.start.0)
    && boundary cs (ed.from.0 + ed.inserted.0 - e.start.0)

unfoldable pub check_edit : List Entry → Edit → List Entry → (length : ℕ) → List ℕ → Checked
check_edit es ed [] n cs = Err BadEdit
check_edit es ed (e ∷ more) n cs = refuse_if (not (part_fits es ed e n cs)) BadEdit

-- An offset behind the replaced bytes, moved by the change of length.
unfoldable pub moved : Edit → ℕ → ℕ
moved ed x = x + ed.inserted.0 - (ed.to.0 - ed.from.0)

-- The old lines that follow have start, non-zero rest end and reach moved. Where there were `from` characters before the first
-- of them there are now `to`.
unfoldable pub moved_rest : Edit → Rest → Rest
moved_rest ed r = record { end = record { 0 = pick (eqb r.end.0 0) 0 (moved ed r.end.0) }; count = r.count }

unfoldable pub moved_entry : Edit → (from to : ℕ) → Entry → Entry
moved_entry ed from to e =
    record {
      start = record { 0 = moved ed e.start.0 };
      rest = moved_rest ed e.rest;
      ending = e.ending;
      left = e.left;
      space = e.space;
      extra = e.extra;
      width = e.width;
      dropped = e.dropped;
      reach = record { 0 = moved ed e.reach.0 };
      before = record { 0 = to + (e.before.0 - from) };
    }

-- Does a new line, by its start and rest, stand where an old line with start >= b has come to stand.
unfoldable pub meets : Edit → (start : ℕ) → Rest → Entry → Bool
meets ed start rest e =
    leb ed.to.0 e.start.0
    && eqb (moved ed e.start.0) start
    && eqb (moved_rest ed e.rest).end.0 rest.end.0
    && eqb e.rest.count.0 rest.count.0

-- The old lines from such a one on; none if there is none.
unfoldable pub kept_from : Edit → (start : ℕ) → Rest → List Entry → List Entry
kept_from ed start rest [] = []
kept_from ed start rest (e ∷ es) =
    let more = kept_from ed start rest es in
    pick (meets ed start rest e) (e ∷ es) more

-- The lines laid, and the old lines that follow them, moved.
pub record Again : Type 0 where
  pub laid : List Row
  pub kept : List Entry

unfoldable pub again_unless_ended : LineEnd → Again → Again
again_unless_ended EndOfText more = record { laid = []; kept = [] }
again_unless_ended NewLine more = more
again_unless_ended CarriageReturn more = more
again_unless_ended LineBreak more = more

abbrev pub one_more : Row → Again → Again
one_more r more = record { laid = r ∷ more.laid; kept = more.kept }

-- Where old lines follow, laying stops, with so many characters before it.
unfoldable pub unless_kept : Edit → (before : ℕ) → List Entry → Again → Again
unless_kept ed before [] more = more
unless_kept ed before (e ∷ es) more = record { laid = []; kept = map (moved_entry ed e.before.0 before) (e ∷ es) }

-- Laying again from an offset on: before each line, and at most n times, the old lines are looked at.
unfoldable pub again_by : ℕ → Settings → Edit → (old : List Entry) → (start before : ℕ) → Held → List ℕ → Again
again_by zero s ed old start before h cs = record { laid = []; kept = [] }
again_by (suc n) s ed old start before h cs =
    let l = lay_line s h cs in
    let rest = again_by n s ed old (start + size (take l.chars cs)) (before + l.chars) l.held (drop l.chars cs) in
    let more = one_more (row_at start before h cs l) (again_unless_ended l.ended rest) in
    unless_kept ed before (kept_from ed start (rest_of start h cs) old) more

-- What an old line's entry says is held before it, in the characters from its start on.
unfoldable pub held_of : Entry → List ℕ → Held
held_of e cs =
    pick (no_rest e) nothing_held (record { chars = chars_in cs (e.rest.end.0 - e.start.0); count = e.rest.count.0 })

-- From the first affected line on, with the characters of the lent part.
unfoldable pub again : Settings → Edit → (old : List Entry) → List Entry → List ℕ → Again
again s ed old [] cs = record { laid = []; kept = [] }
again s ed old (e ∷ es) cs = again_by (suc (length cs)) s ed old e.start.0 e.before.0 (held_of e cs) cs

-- All lines afterwards.
unfoldable pub lines_again : Settings → Edit → (old : List Entry) → List ℕ → List Entry
lines_again s ed old cs =
    let r = again s ed old (affected ed.from.0 old) cs in
    unaffected ed.from.0 old ++ (map entry_of_row r.laid ++ r.kept)
