-- Lines that are written, and their events put: those that are found, and all lines of a text.
-- Assumes nothing.
use Rattle.std.specs.Prelude.{ℕ, ◌+◌, ◌*◌, ◌-◌, ◌≤◌, ◌<◌, ◌≡◌, true, false, List, [], length, Option, Some, None}
use Rattle.std.proofs.Common.{arith, sym, subst, ◌∙◌}
use Rattle.std.proofs.Math.Path.{ap}
use Rattle.meaning.specs.Table.{entry_numbers, of_entry, of_all, written}
use Rattle.meaning.specs.declared.counts.Offset.{Offset}
use Rattle.meaning.specs.declared.settings.Settings.{Settings}
use Rattle.meaning.specs.declared.line.LineEnd.{LineEnd}
use Rattle.meaning.specs.declared.line.Entry.{Entry}
use Rattle.meaning.specs.declared.line.Event.{Event}
use Rattle.table.specs.Numbers.{put_numbers, put_events}
use Rattle.parser.specs.Shorter.{Between}
use Rattle.steps.specs.Unrolled.{nothing_resumed}
use Rattle.steps.specs.declared.step.Resumed.{Resumed}
use Rattle.placing.specs.LeftWords.{LeftWord}
use Rattle.placing.specs.Plain.{ended_entry, plain_entry, EndedRow, FoundRow, PlainRow}
use Rattle.rows.specs.Standing.{is_last, laid_row, entry-is}
use Rattle.stands.specs.Stands.{StandsAt, text_front}
use Rattle.stands.specs.declared.stand.Stand.{Stand}
use Rattle.stands.specs.declared.row.LaidRow.{LaidRow}
use Rattle.rows.specs.RowsFrom.{TextReady, entries_of}
use Rattle.rows.specs.Turns.{Counted, Wrote, start-ready, count-start, count-last, count-more}
use Rattle.rows.specs.Going.{went_nowhere, reaches_on, reaches_all, wrote_on, wrote_room, wrote_all}
use Rattle.rows.specs.Found.{plain_stand, found_row, found-step, found-next, found-went, found-last, ready-here, room-here, reaches_here}
use Rattle.rows.specs.Drawers.{Puts, Few, puts_nothing, puts_then, few_left, puts_all, AlikeHere, FewOfText, left_from, ToDraw, LineDrawn, CanGo, Gone, GoneOn}
use Rattle.rows.specs.declared.plain.Passed.{Passed}
use Rattle.rows.specs.declared.ragged.Ragged.{Ragged}

-- Where the next line is to be laid, which resumes nothing.
abbrev pub passed_stand : Passed → Stand
passed_stand p = plain_stand p.at.0 p.before.0

abbrev pub CanPass : (Stand → List Event) → Settings → (t u : List ℕ) → Passed → Type 0
CanPass d s t u p = CanGo d s t u p.lines p.events (passed_stand p)

abbrev pub PassedTo : (Stand → List Event) → Settings → (t u ev : List ℕ) → Passed → (v by : List ℕ) → Passed → Type 0
PassedTo d s t u ev p v by q = Gone d s t u ev p.lines p.events (passed_stand p) v by q.lines q.events (passed_stand q)

-- ---- a line that is found

-- One of plain words stands there, and has this entry.
pub record PlainHere (r : Ragged) (t : List ℕ) (p : Passed) (end : ℕ) (e : Entry) : Type 0 where
  pub reach : ℕ
  pub row : PlainRow t p.at.0 r.most end reach
  pub entry : e ≡ plain_entry r.settings p.at.0 (end - p.at.0) reach p.before.0

-- So much of a word stands there as fits, up to the next line, and has this entry.
pub record PartHere (r : Ragged) (t : List ℕ) (p : Passed) (next gluing : ℕ) (e : Entry) : Type 0 where
  pub end : ℕ
  pub chars : ℕ
  pub reach : ℕ
  pub left : LeftWord t p.at.0 end chars gluing reach
  pub some : 1 ≤ r.most
  pub long : r.most < chars
  pub between : Between t p.at.0 next r.most
  pub row : FoundRow t p.at.0 r.most r.most next r.most reach
  pub entry : e ≡ plain_entry r.settings p.at.0 r.most reach p.before.0

module _ (r : Ragged) {d : Stand → List Event} {t u : List ℕ} {n k at before : ℕ} (c : CanGo d r.settings t u n k (plain_stand at before))
    {ended : LineEnd} {columns next taken reach : ℕ} (row : EndedRow ended t at r.most columns next taken reach)
    {e : Entry} (e-is : e ≡ ended_entry ended r.settings at columns reach before)
  where
    abbrev s : Settings
    s = r.settings

    abbrev here : Stand
    here = plain_stand at before

    abbrev laid : LaidRow
    laid = found_row s t at before r.most c.ready r.holds r.unjustified ended columns next taken reach row

    step : laid ≡ laid_row s t here
    step = found-step s t at before r.most c.ready r.holds r.unjustified ended columns next taken reach row

    pub found-to-draw : ToDraw d s t here e k
    found-to-draw = record { ready = c.ready; few = c.few; entry = e-is ∙ entry-is s t here c.ready laid step }

    module _ {ev w by : List ℕ} {j : ℕ} (put : w ≡ put_numbers u (entry_numbers * n) (of_entry e)) (kept : length w ≡ length u)
        (drawn : LineDrawn d s t here ev k by j)
      where
        pub found-gone : is_last ended ≡ false → Gone d s t u ev n k here w by (n + 1) j (plain_stand next (before + taken))
        found-gone goes =
            record {
              went =
                  found-went s t u n here u n at before (went_nowhere s t u n here c.ready) c.room r.most r.holds r.unjustified ended columns next
                  taken reach row e e-is w put kept goes;
              puts =
                  drawn.on laid step goes (plain_stand next (before + taken))
                  (found-next s t at before r.most c.ready r.holds r.unjustified ended columns next taken reach row);
            }

        pub found-all : is_last ended ≡ true → GoneOn d s t u ev n k here w by (n + 1) j None
        found-all ends =
            record {
              reaches =
                  reaches_all s t u n here w (n + 1) kept
                  (found-last s t u n here u n at before (went_nowhere s t u n here c.ready) c.room r.most r.holds r.unjustified ended columns next
                  taken reach row e e-is w put kept ends);
              puts = drawn.last laid step ends;
            }

module _ {d : Stand → List Event} {s : Settings} {t u ev : List ℕ} {n k : ℕ} {p : Stand} {v by : List ℕ} {m j : ℕ} where
  pub gone_on : {q : Stand} → Gone d s t u ev n k p v by m j q → GoneOn d s t u ev n k p v by m j (Some q)
  gone_on {q = q} g = record { reaches = reaches_on s t u n p v m q g.went; puts = g.puts }

-- ---- from any stand that resumes nothing

module _ {d : Stand → List Event} {s : Settings} {t u : List ℕ} {n k : ℕ} {p : Stand} (alike : AlikeHere s t d) (c : CanGo d s t u n k p)
    (none : p.rest.chars.0 ≡ 0)
  where
    pub can_here : CanGo d s t u n k (plain_stand p.at.0 p.before.0)
    can_here =
        record {
          ready = ready-here s t p c.ready none;
          room = room-here s t p c.ready none u n c.room;
          few = rw (alike p c.ready none) c.few;
        }

    pub gone_here : {ev v by : List ℕ} {m j : ℕ} {q : Option Stand} → GoneOn d s t u ev n k (plain_stand p.at.0 p.before.0) v by m j q
        → GoneOn d s t u ev n k p v by m j q
    gone_here {ev = ev} {v = v} {by = by} {m = m} {j = j} {q = q} g =
        record {
          reaches = reaches_here s t p c.ready none u n v m q g.reaches;
          puts = rw (sym (alike p c.ready none)) g.puts;
        }

-- ---- the one, or the other

module _ {d : Stand → List Event} {s : Settings} {t u ev : List ℕ} {n k : ℕ} {p : Stand} {v by : List ℕ} {m j : ℕ} {q : Option Stand}
    (g : GoneOn d s t u ev n k p v by m j q)
  where
    pub gone_some : (next : Stand) → q ≡ Some next → Gone d s t u ev n k p v by m j next
    gone_some next e =
        record { went = g.reaches.on next e; puts = subst (λ (x : Option Stand). Puts ev k (d p) by j (left_from d x)) e g.puts }

    pub none-left : q ≡ None → Puts ev k (d p) by j []
    none-left e = subst (λ (x : Option Stand). Puts ev k (d p) by j (left_from d x)) e g.puts

-- ---- all lines of a text

-- So far n lines are passed, and k events are put into the buffer ev₀, which is ev now.
pub record SoFar (d : Stand → List Event) (s : Settings) (t : List ℕ) (n : ℕ) (ev₀ ev : List ℕ) (k : ℕ) (p : Stand) : Type 0 where
  pub counted : Counted s t n p
  pub few : Few 0 (d (plain_stand 0 0))
  pub puts : Puts ev₀ 0 (d (plain_stand 0 0)) ev k (d p)

-- All lines are passed, and all events are put.
pub record AllPut (d : Stand → List Event) (s : Settings) (t : List ℕ) (n : ℕ) (ev₀ ev : List ℕ) (k : ℕ) : Type 0 where
  pub lines : n ≡ length (entries_of s t)
  pub events : k ≡ length (d (plain_stand 0 0))
  pub buffer : ev ≡ put_events ev₀ 0 (d (plain_stand 0 0))

all_put : {d : Stand → List Event} {s : Settings} {t : List ℕ} {n : ℕ} {ev₀ ev : List ℕ} {k : ℕ} → n ≡ length (entries_of s t)
    → Puts ev₀ 0 (d (plain_stand 0 0)) ev k [] → AllPut d s t n ev₀ ev k
all_put is g =
    let all = puts_all g in
    record { lines = is; events = omega (arith, all.0); buffer = all.1 }

pub far-start : {d : Stand → List Event} {s : Settings} {t : List ℕ} → AlikeHere s t d → FewOfText s t d → TextReady s t → (ev : List ℕ) {p : Stand}
    → StandsAt t text_front 0 nothing_resumed p → SoFar d s t 0 ev ev 0 p
far-start {d = d} {s = s} {t = t} alike few ready ev {p = p} f =
    let at : p.at.0 ≡ 0 = ap (λ (o : Offset). o.0) f.at-is in
    let none : p.rest.chars.0 ≡ 0 = ap (λ (x : Resumed). x.chars.0) f.rest-is in
    let front : d p ≡ d (plain_stand 0 0) = sym (alike p (start-ready s t p ready f) none) ∙ (λ i. d (plain_stand (at i) (f.before-is i))) in
    record { counted = count-start s t p ready f; few = few ready; puts = rw front (puts_nothing ev 0 (d (plain_stand 0 0))) }

module _ {d : Stand → List Event} {s : Settings} {t : List ℕ} {n : ℕ} {ev₀ ev : List ℕ} {k : ℕ} {p : Stand} (f : SoFar d s t n ev₀ ev k p) where
  -- The line of the step.
  module _ {x : LaidRow} (is : x ≡ laid_row s t p) where
    pub far-to-draw : ToDraw d s t p x.entry k
    far-to-draw = record { ready = f.counted.ready; few = few_left f.puts f.few; entry = entry-is s t p f.counted.ready x is }

    module _ {by : List ℕ} {j : ℕ} (drawn : LineDrawn d s t p ev k by j) where
      pub far-next : {q : Stand} → StandsAt t x.next (p.before.0 + x.chars.0) x.rest q → x.last ≡ false → SoFar d s t (n + 1) ev₀ by j q
      far-next {q = q} at goes =
          record {
            counted = count-more s t n p f.counted x is q at goes;
            few = f.few;
            puts = puts_then f.puts (drawn.on x is goes q at);
          }

      pub far-last : x.last ≡ true → AllPut d s t (n + 1) ev₀ by j
      far-last ends = all_put (count-last s t n p f.counted x is ends) (puts_then f.puts (drawn.last x is ends))

  -- Lines that are found.
  module _ {t₀ u : List ℕ} (w : Wrote s t t₀ u n p) where
    pub far-can : entry_numbers * length (entries_of s t) ≤ length t₀ → CanGo d s t u n k p
    far-can room = record { ready = f.counted.ready; room = wrote_room s t t₀ u n p w room; few = few_left f.puts f.few }

    module _ {v by : List ℕ} {m j : ℕ} where
      pub far-wrote : {q : Stand} → Gone d s t u ev n k p v by m j q → Wrote s t t₀ v m q
      far-wrote {q = q} g = wrote_on s t t₀ u n p v m q w g.went

      pub far-on : {q : Stand} → Gone d s t u ev n k p v by m j q → SoFar d s t m ev₀ by j q
      far-on g = record { counted = (far-wrote g).counted; few = f.few; puts = puts_then f.puts g.puts }

      pub far-written : {q : Option Stand} → GoneOn d s t u ev n k p v by m j q → q ≡ None → v ≡ written t₀ (of_all of_entry (entries_of s t))
      far-written g e = (wrote_all s t t₀ u n p v m w (g.reaches.all e)).1

      pub far-all : {q : Option Stand} → GoneOn d s t u ev n k p v by m j q → q ≡ None → AllPut d s t m ev₀ by j
      far-all g e = all_put (wrote_all s t t₀ u n p v m w (g.reaches.all e)).0 (puts_then f.puts (none-left g e))

      pub far-both : {q : Stand} → Gone d s t u ev n k p v by m j q → Wrote s t t₀ v m q × SoFar d s t m ev₀ by j q
      far-both g = (far-wrote g, far-on g)

-- What is kept of a table, a buffer, two counts and a stand is kept of the same.
pub far-same : {d : Stand → List Event} {s : Settings} {t t₀ u v : List ℕ} {n m : ℕ} {ev₀ ev by : List ℕ} {k j : ℕ} {p q : Stand} → u ≡ v → n ≡ m → ev ≡ by → k ≡ j
    → p ≡ q → Wrote s t t₀ v m q × SoFar d s t m ev₀ by j q → Wrote s t t₀ u n p × SoFar d s t n ev₀ ev k p
far-same table lines buffer events stand f = rw (table, lines, buffer, events, stand) f
