-- Lines that are found, drawn one after the other.
-- Assumes nothing.
use Rattle.std.specs.Prelude.{ℕ, ◌+◌, ◌-◌, ◌*◌, ◌/◌, ◌≤◌, ◌≡◌, refl, true, false, List, ◌++◌, length, eqb, Option, Some, None}
use native.Mathlib.Omega.{arith}
use Rattle.std.proofs.Common.{sym, subst, ◌∙◌, length-append}
use Rattle.std.proofs.Math.Path.{ap}
use Rattle.std.proofs.lemmas.Option.{none-some, same_Some}
use Rattle.basis.specs.Choice.{pick_cases}
use Rattle.meaning.specs.Checks.{text_limit}
use Rattle.meaning.specs.Alignment.{plain_spaces}
use Rattle.meaning.specs.Line.{start_place}
use Rattle.meaning.specs.Layout.{all_events}
use Rattle.meaning.specs.declared.settings.Settings.{Settings}
use Rattle.meaning.specs.declared.line.Entry.{Entry}
use Rattle.meaning.specs.declared.line.LineEnd.{LineEnd}
use Rattle.meaning.specs.declared.line.LineEnd.TheVariants.{LineBreak}
use Rattle.table.specs.Numbers.{put_events}
use Rattle.ink.specs.Sheet.{put_append}
use Rattle.steps.specs.Unrolled.{nothing_resumed}
use Rattle.drawing.specs.Drawn.{drawn_from, events_from}
use Rattle.drawing.specs.PassDrawn.{DrawRoom}
use Rattle.drawing.specs.PlainDrawn.{plain_start, PlainToDraw}
use Rattle.placing.specs.Plain.{left_of, ended_entry, plain_entry, EndedRow, FoundRow, PlainRow}
use Rattle.placing.specs.declared.told.ToldRow.{ToldRow}
use Rattle.rows.specs.Standing.{StandReady, is_last, line_at, laid_row}
use Rattle.rows.specs.Found.{plain_stand, found_row, found-step, found-next, found-fits, rows-here}
use Rattle.stands.specs.declared.stand.Stand.{Stand}
use Rattle.stands.specs.declared.row.LaidRow.{LaidRow}
use Rattle.layout.specs.EventsFrom.{events_of, events_after, line_events, DrawReady, one-drawn, more-drawn, place-room, place-events, place-length}
use Rattle.layout.specs.DrawTurns.{Drew, line-room}
use Rattle.layout.specs.DrawGoing.{DrewTo, FewFrom}

-- All lines from the stand p on are drawn, behind n events in the buffer u: it is v now, and has m events.
pub record AllDrawn (s : Settings) (t u : List ℕ) (n : ℕ) (p : Stand) (v : List ℕ) (m : ℕ) : Type 0 where
  pub count : m ≡ n + length (events_after s t p)
  pub put : v ≡ put_events u n (events_after s t p)

-- They are, or those from the stand q on are left.
pub record DrawReaches (s : Settings) (t u : List ℕ) (n : ℕ) (p : Stand) (v : List ℕ) (m : ℕ) (q : Option Stand) : Type 0 where
  pub same : length v ≡ length u
  pub on : (next : Stand) → q ≡ Some next → DrewTo s t u n p v m next
  pub all : q ≡ None → AllDrawn s t u n p v m

module _ (s : Settings) (t u : List ℕ) (n : ℕ) (p : Stand) (v : List ℕ) (m : ℕ) where
  pub draws-on : (q : Stand) → DrewTo s t u n p v m q → DrawReaches s t u n p v m (Some q)
  draws-on q g = record { same = g.same; on = λ next e. subst (DrewTo s t u n p v m) (same_Some q next e) g; all = λ e. absurd (none-some q (sym e)) }

  pub draws-all : length v ≡ length u → AllDrawn s t u n p v m → DrawReaches s t u n p v m None
  draws-all same a = record { same = same; on = λ next e. absurd (none-some next e); all = λ _. a }

-- Where all lines are drawn the loop over them is done.
pub drew-all : (s : Settings) (t ev₀ u : List ℕ) (n : ℕ) (p : Stand) (v : List ℕ) (m : ℕ) → Drew s t ev₀ u n p → AllDrawn s t u n p v m
    → (m ≡ length (events_of s t)) × (v ≡ put_events ev₀ 0 (events_of s t))
drew-all s t ev₀ u n p v m d a = (a.count ∙ d.left, a.put ∙ d.puts)

-- ---- one such line

abbrev pub row_entry : Settings → (at before : ℕ) → ToldRow → Entry
row_entry s at before r = ended_entry r.ended s at r.columns.0 r.reach.0 before

module _ (s : Settings) (t : List ℕ) (at before most : ℕ) (c : StandReady s t (plain_stand at before)) (is : most ≡ s.width.0 / s.glyph.0)
    (plain : s.alignment ≤ 2) (ended : LineEnd) (columns next taken reach : ℕ) (row : EndedRow ended t at most columns next taken reach) (e : Entry)
    (e-is : e ≡ ended_entry ended s at columns reach before)
  where
    abbrev here : Stand
    here = plain_stand at before

    abbrev after : Stand
    after = plain_stand next (before + taken)

    abbrev laid : LaidRow
    laid = found_row s t at before most c is plain ended columns next taken reach row

    step : laid ≡ laid_row s t here
    step = found-step s t at before most c is plain ended columns next taken reach row

    entered : e ≡ (line_at s t here).entry
    unfolding laid_row
    entered = e-is ∙ ap (λ (x : LaidRow). x.entry) step

    pub found-ready : (k : ℕ) → k ≤ text_limit → DrawReady s t here e k
    found-ready k few = record { room = line-room s t here k e c.line few entered; known = c.known }

    -- What is left to draw is its events, and those of the lines from the next stand on, if it is not the last.
    off-front : is_last ended ≡ false → events_after s t here ≡ line_events s t here e ++ events_after s t after
    off-front goes =
        more-drawn s t here c laid step after (found-next s t at before most c is plain ended columns next taken reach row) goes
        ∙ ap (λ (x : Entry). line_events s t here x ++ events_after s t after) (sym e-is)

    only : is_last ended ≡ true → events_after s t here ≡ line_events s t here e
    only ends = one-drawn s t here c laid step ends ∙ ap (line_events s t here) (sym e-is)

    module _ (u : List ℕ) (n : ℕ) (p : Stand) (v : List ℕ) (m : ℕ) (g : DrewTo s t u n p v m here) (w : List ℕ) (k : ℕ)
        (put : w ≡ put_events v m (line_events s t here e)) (count : k ≡ m + length (line_events s t here e)) (kept : length w ≡ length v)
      where
        pub found-drew : is_last ended ≡ false → DrewTo s t u n p w k after
        found-drew goes =
            let es = line_events s t here e in
            let more = events_after s t after in
            record {
              left = omega (arith, count, g.left, ap length (off-front goes), length-append es more);
              same = kept ∙ g.same;
              puts =
                  ap (λ (y : List ℕ). put_events y k more) put
                  ∙ ap (λ (j : ℕ). put_events (put_events v m es) j more) count
                  ∙ sym (put_append v m es more)
                  ∙ ap (put_events v m) (sym (off-front goes))
                  ∙ g.puts;
            }

        pub found-drawn : is_last ended ≡ true → AllDrawn s t u n p w k
        found-drawn ends =
            record {
              count = omega (arith, count, g.left, ap length (only ends));
              put = put ∙ ap (put_events v m) (sym (only ends)) ∙ g.puts;
            }

-- ---- one that is drawn with plain spaces, from its left on

left-within : (alignment room : ℕ) → left_of alignment room ≤ room
unfolding left_of
left-within alignment room =
    pick_cases (λ n. n ≤ room) (eqb alignment 0) (λ _. omega arith) λ _. pick_cases (λ n. n ≤ room) (eqb alignment 1) (λ _. omega arith) (λ _. omega arith)

module _ (s : Settings) (t : List ℕ) (at before most : ℕ) (c : StandReady s t (plain_stand at before)) (is : most ≡ s.width.0 / s.glyph.0)
    (plain : s.alignment ≤ 2) (columns next taken reach : ℕ) (row : FoundRow t at most columns next taken reach) (e : Entry)
    (e-is : e ≡ plain_entry s at columns reach before)
  where
    abbrev left : ℕ
    left = e.left.0

    -- It stays in the box.
    pub left-fits : left + columns * s.glyph.0 ≤ s.width.0
    unfolding ended_entry
    left-fits =
        let wide = found-fits s t at most LineBreak columns next taken reach row c.line.settings.0 is in
        let inside : left ≤ s.width.0 - columns * s.glyph.0 = rw e-is (left-within s.alignment (s.width.0 - columns * s.glyph.0)) in
        omega arith

    -- It is drawn from where its entry places it.
    pub place_is : plain_start s left ≡ start_place s left (record { width = e.space; extra = e.extra })
    unfolding ended_entry plain_spaces
    place_is = rw e-is

    abbrev stand : Stand
    stand = plain_stand at before

    pub placed-room : (k : ℕ) → k ≤ text_limit → DrawRoom s (plain_start s left) t at nothing_resumed left k
    placed-room k few =
        place-room s t stand e (plain_start s left) place_is k (found-ready s t at before most c is plain LineBreak columns next taken reach row e e-is k few).room

    module _ (u : List ℕ) (n : ℕ) (p : Stand) (v : List ℕ) (m : ℕ) (g : DrewTo s t u n p v m stand) where
      pub placed-drew : (w : List ℕ) (k : ℕ) → w ≡ put_events v m (events_from s (plain_start s left) t at 0 0 left)
          → k ≡ m + length (drawn_from s (plain_start s left) t at 0 0) → length w ≡ length v → DrewTo s t u n p w k (plain_stand next (before + taken))
      placed-drew w k put count kept =
          found-drew s t at before most c is plain LineBreak columns next taken reach row e e-is u n p v m g w k
          (put ∙ ap (put_events v m) (place-events s t stand e (plain_start s left) place_is))
          (count ∙ ap (λ (j : ℕ). m + j) (place-length s t stand e (plain_start s left) place_is)) kept refl

-- One of plain words.
pub plain-to-draw : (s : Settings) (t : List ℕ) (at before most : ℕ) → StandReady s t (plain_stand at before) → most ≡ s.width.0 / s.glyph.0
    → s.alignment ≤ 2 → (end reach : ℕ) → PlainRow t at most end reach → (e : Entry) → e ≡ plain_entry s at (end - at) reach before
    → PlainToDraw s t at end e.left.0
plain-to-draw s t at before most c is plain end reach row e e-is =
    let fits = left-fits s t at before most c is plain (end - at) (end + 1) (end - at + 1) reach row.row e e-is in
    record { reach = reach; line = rw is at row.line; fits = fits }

-- ---- from any stand that resumes nothing

module _ (s : Settings) (t : List ℕ) (p : Stand) (c : StandReady s t p) (none : p.rest.chars.0 ≡ 0) where
  abbrev from : Stand
  from = plain_stand p.at.0 p.before.0

  pub events-here : events_after s t from ≡ events_after s t p
  unfolding events_after
  events-here = ap all_events (rows-here s t p c none)

  pub few-here : (n : ℕ) → FewFrom s t n p → FewFrom s t n from
  few-here n few = rw events-here few

  drew-here : (u : List ℕ) (n : ℕ) (v : List ℕ) (m : ℕ) (q : Stand) → DrewTo s t u n from v m q → DrewTo s t u n p v m q
  drew-here u n v m q g = record { left = rw (sym events-here) g.left; same = g.same; puts = rw (sym events-here) g.puts }

  all_here : (u : List ℕ) (n : ℕ) (v : List ℕ) (m : ℕ) → AllDrawn s t u n from v m → AllDrawn s t u n p v m
  all_here u n v m a = record { count = rw (sym events-here) a.count; put = rw (sym events-here) a.put }

  pub draws-here : (u : List ℕ) (n : ℕ) (v : List ℕ) (m : ℕ) (q : Option Stand) → DrawReaches s t u n from v m q
      → DrawReaches s t u n p v m q
  draws-here u n v m q r =
      record { same = r.same; on = λ next e. drew-here u n v m next (r.on next e); all = λ e. all_here u n v m (r.all e) }
