-- Lines that are found, written one after the other.
-- Assumes nothing.
use Rattle.std.specs.Prelude.{ℕ, suc, ◌+◌, ◌*◌, ◌/◌, ◌≤◌, ◌≡◌, refl, true, false, List, map, length, Option, Some}
use Rattle.std.proofs.Common.{le-div_iff_mul-le, subst, arith}
use Rattle.std.proofs.Math.Path.{sym, ap}
use Rattle.std.proofs.lemmas.Bool.{false≢true}
use Rattle.meaning.specs.Table.{entry_numbers, of_entry}
use Rattle.meaning.specs.Layout.{rows_by, entry_of_row}
use Rattle.meaning.specs.declared.settings.Settings.{Settings}
use Rattle.meaning.specs.declared.line.LineEnd.{LineEnd}
use Rattle.meaning.specs.declared.line.LineEnd.TheVariants.{NewLine, CarriageReturn, EndOfText, LineBreak}
use Rattle.meaning.specs.declared.line.Entry.{Entry}
use Rattle.parser.specs.Lexing.{chars_from}
use Rattle.table.specs.Numbers.{put_numbers}
use Rattle.steps.specs.Knowing.{nothing_known, nothing-fits}
use Rattle.steps.specs.Unrolled.{nothing_resumed}
use Rattle.placing.specs.LayLaws.{rested}
use Rattle.placing.specs.Plain.{ended_entry, ended_line_at, EndedRow}
use Rattle.placing.specs.Told.{taken_by, RowIn}
use Rattle.placing.specs.declared.told.ToldRow.{ToldRow}
use Rattle.rows.specs.Standing.{StandReady, is_last, row_of, laid_row}
use Rattle.stands.specs.Stands.{StandsAt}
use Rattle.rows.specs.RowsFrom.{rows_from, entries_from}
use Rattle.rows.specs.Going.{Went, AllWritten, Reaches, RoomFrom, went_line, went-last}
use Rattle.stands.specs.declared.stand.Stand.{Stand}
use Rattle.stands.specs.declared.row.LaidRow.{LaidRow}
use Rattle.rows.specs.declared.plain.Passed.{Passed}
use Rattle.rows.specs.declared.found.Reached.{Reached}

-- Before a line that resumes nothing, where no word is known.
abbrev pub plain_stand : (at before : ℕ) → Stand
plain_stand at before = record { at = record { 0 = at }; before = record { 0 = before }; rest = nothing_resumed; known = nothing_known }

abbrev pub reached_at : Passed → Reached
reached_at p = record { lines = p.lines; events = p.events; stand = Some (plain_stand p.at.0 p.before.0) }

-- ---- one such line

module _ (s : Settings) (t : List ℕ) (at before most : ℕ) (c : StandReady s t (plain_stand at before)) (is : most ≡ s.width.0 / s.glyph.0)
    (plain : s.alignment ≤ 2) (ended : LineEnd) (columns next taken reach : ℕ) (row : EndedRow ended t at most columns next taken reach)
  where
    -- The step that every loop over lines takes, and where it leads.
    abbrev pub found_row : LaidRow
    found_row = row_of (ended_line_at ended s at before columns next taken reach)

    pub found-step : found_row ≡ laid_row s t (plain_stand at before)
    unfolding laid_row
    found-step = ap row_of (row.laid s c.line is plain before)

    pub found-next : StandsAt t found_row.next (before + found_row.chars.0) found_row.rest (plain_stand next (before + taken))
    found-next = record { at-is = refl; before-is = refl; rest-is = refl; known = nothing-fits t nothing_known refl }

-- Any line but the last takes what ends it, too.
goes-taken : (ended : LineEnd) (columns : ℕ) → is_last ended ≡ false → taken_by ended columns ≡ columns + 1
goes-taken EndOfText columns e = absurd (false≢true (sym e))
goes-taken NewLine columns e = refl
goes-taken CarriageReturn columns e = refl
goes-taken LineBreak columns e = refl

pub found-more : (t : List ℕ) (at most : ℕ) (r : ToldRow) → RowIn t at most r → is_last r.ended ≡ false
    → EndedRow r.ended t at most r.columns.0 r.next.0 (r.columns.0 + 1) r.reach.0
found-more t at most r row e =
    subst (λ (k : ℕ). EndedRow r.ended t at most r.columns.0 r.next.0 k r.reach.0) (goes-taken r.ended r.columns.0 e) row

-- So many characters fit the box.
pub found-fits : (s : Settings) (t : List ℕ) (at most : ℕ) (ended : LineEnd) (columns next taken reach : ℕ) → EndedRow ended t at most columns next taken reach
    → 1 ≤ s.glyph.0 → most ≡ s.width.0 / s.glyph.0 → columns * s.glyph.0 ≤ s.width.0
found-fits s t at most ended columns next taken reach row some is =
    let few : columns ≤ s.width.0 / s.glyph.0 = rw is at row.few in
    (le-div_iff_mul-le some).0 few

-- It is written, and the next one is to be laid; or it ends the text.
module _ (s : Settings) (t u : List ℕ) (n : ℕ) (p : Stand) (v : List ℕ) (m at before : ℕ) (g : Went s t u n p v m (plain_stand at before))
    (room : RoomFrom s t u n p) (most : ℕ) (is : most ≡ s.width.0 / s.glyph.0) (plain : s.alignment ≤ 2) (ended : LineEnd) (columns next taken reach : ℕ)
    (row : EndedRow ended t at most columns next taken reach) (e : Entry) (e-is : e ≡ ended_entry ended s at columns reach before) (w : List ℕ)
    (put : w ≡ put_numbers v (entry_numbers * m) (of_entry e)) (kept : length w ≡ length v)
  where
    abbrev laid : LaidRow
    laid = found_row s t at before most g.ready is plain ended columns next taken reach row

    step : laid ≡ laid_row s t (plain_stand at before)
    step = found-step s t at before most g.ready is plain ended columns next taken reach row

    written : w ≡ put_numbers v (entry_numbers * m) (of_entry laid.entry)
    written = subst (λ (x : Entry). w ≡ put_numbers v (entry_numbers * m) (of_entry x)) e-is put

    pub found-went : is_last ended ≡ false → Went s t u n p w (m + 1) (plain_stand next (before + taken))
    found-went goes =
        went_line s t u n p v m (plain_stand at before) g room laid step w written kept (plain_stand next (before + taken))
        (found-next s t at before most g.ready is plain ended columns next taken reach row) goes

    pub found-last : is_last ended ≡ true → AllWritten s t u n p w (m + 1)
    found-last ends = went-last s t u n p v m (plain_stand at before) g room laid step w written kept ends

-- ---- from any stand that resumes nothing

module _ (s : Settings) (t : List ℕ) (p : Stand) (c : StandReady s t p) (none : p.rest.chars.0 ≡ 0) where
  abbrev here : Stand
  here = plain_stand p.at.0 p.before.0

  -- It does not matter what is known there.
  pub rows-here : rows_from s t 0 here ≡ rows_from s t 0 p
  unfolding rows_from
  rows-here =
      let count : p.rest.count.0 ≡ 0 = omega (arith, c.line.rest.counts) in
      let cs = chars_from t p.at.0 in
      λ i. rows_by (suc (length cs)) s (0 + p.at.0) p.before.0 (record { chars = sym none i; count = sym count i }) cs

  entries_here : entries_from s t 0 here ≡ entries_from s t 0 p
  unfolding entries_from
  entries_here = ap (map entry_of_row) rows-here

  pub ready-here : StandReady s t here
  ready-here = record { line = rested c.line none; few = c.few; known = nothing-fits t nothing_known refl }

  pub room-here : (u : List ℕ) (n : ℕ) → RoomFrom s t u n p → RoomFrom s t u n here
  room-here u n room = rw entries_here room

  went-here : (u : List ℕ) (n : ℕ) (v : List ℕ) (m : ℕ) (q : Stand) → Went s t u n here v m q → Went s t u n p v m q
  went-here u n v m q g =
      record {
        ready = g.ready;
        count = rw (sym entries_here) g.count;
        same = g.same;
        left = rw (sym entries_here) g.left;
        forward = g.forward;
      }

  all_here : (u : List ℕ) (n : ℕ) (v : List ℕ) (m : ℕ) → AllWritten s t u n here v m → AllWritten s t u n p v m
  all_here u n v m a = record { count = rw (sym entries_here) a.count; put = rw (sym entries_here) a.put }

  pub reaches_here : (u : List ℕ) (n : ℕ) (v : List ℕ) (m : ℕ) (q : Option Stand) → Reaches s t u n here v m q → Reaches s t u n p v m q
  reaches_here u n v m q r =
      record { same = r.same; on = λ next e. went-here u n v m next (r.on next e); all = λ e. all_here u n v m (r.all e) }
