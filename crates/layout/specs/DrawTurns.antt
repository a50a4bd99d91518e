-- One turn of the loops that draw lines.
-- Assumes nothing.
use Rattle.std.specs.Prelude.{ℕ, ◌+◌, ◌≤◌, ◌≡◌, refl, true, false, List, length}
use Rattle.std.proofs.Common.{arith, sym, ap, ◌∙◌, length-append}
use Rattle.meaning.specs.Checks.{text_limit}
use Rattle.meaning.specs.Line.{lay_line, entry_at}
use Rattle.meaning.specs.declared.settings.Settings.{Settings}
use Rattle.meaning.specs.declared.line.Entry.{Entry}
use Rattle.table.specs.Numbers.{put_events}
use Rattle.parser.specs.Lexing.{chars_from}
use Rattle.moves.specs.FineSteps.{start_fine}
use Rattle.steps.specs.Unrolled.{nothing_resumed}
use Rattle.placing.specs.Laying.{LineReady}
use Rattle.placing.specs.LineFrom.{held_in, line_at_of, line_from}
use Rattle.placing.specs.LineLaws.{placed_fine}
use Rattle.ink.specs.Sheet.{put_append}
use Rattle.drawing.specs.PassDrawn.{DrawRoom}
use Rattle.rows.specs.Standing.{StandReady, line_at, laid_row, entry-is, ready-next}
use Rattle.stands.specs.Stands.{StandsAt, text_front}
use Rattle.rows.specs.RowsFrom.{TextReady}
use Rattle.rows.specs.Turns.{start-ready}
use Rattle.stands.specs.declared.stand.Stand.{Stand}
use Rattle.stands.specs.declared.row.LaidRow.{LaidRow}
use Rattle.layout.specs.EventsFrom.{events_of, events_after, place_in, line_events, DrawReady, all-events, few-events, one-drawn, more-drawn}

-- So far k events are put into the buffer ev₀, which is ev now: what is put when those that are left are put stays the same.
pub record Drew (s : Settings) (t ev₀ ev : List ℕ) (k : ℕ) (p : Stand) : Type 0 where
  pub ready : StandReady s t p
  pub left : k + length (events_after s t p) ≡ length (events_of s t)
  pub same : length ev ≡ length ev₀
  pub puts : put_events ev k (events_after s t p) ≡ put_events ev₀ 0 (events_of s t)

pub draw-start : (s : Settings) (t ev₀ : List ℕ) (p : Stand) → TextReady s t → StandsAt t text_front 0 nothing_resumed p → Drew s t ev₀ ev₀ 0 p
draw-start s t ev₀ p h f =
    record {
      ready = start-ready s t p h f;
      left = omega (arith, ap length (all-events s t p f));
      same = refl;
      puts = ap (put_events ev₀ 0) (all-events s t p f);
    }

-- A line that can be laid can be drawn.
pub line-room : (s : Settings) (t : List ℕ) (p : Stand) (k : ℕ) (e : Entry) → LineReady s t p.at.0 p.rest → k ≤ text_limit
    → e ≡ (line_at s t p).entry → DrawRoom s (place_in s e) t p.at.0 p.rest e.left.0 k
unfolding place_in line_from line_at_of entry_at
line-room s t p k e c h is =
    let q = placed_fine s t p.at.0 p.rest c.rest c.settings c.short c.inside in
    let placed = (lay_line s (held_in p.rest) (chars_from t p.at.0)).placed in
    rw is
    (record {
      pass =
          record {
            settings = c.settings;
            place = start_fine s placed.left.0 placed.spaces c.settings q.1 q.0;
            short = c.short;
            inside = c.inside;
            rest = c.rest;
            small = omega arith;
          };
      narrow = omega (arith, q.1, c.settings);
      few = omega arith;
    })

module _ (s : Settings) (t ev₀ ev : List ℕ) (k : ℕ) (p : Stand) (d : Drew s t ev₀ ev k p) (x : LaidRow) (is : x ≡ laid_row s t p) where
  abbrev c : StandReady s t p
  c = d.ready

  pub draw-ready : DrawReady s t p x.entry k
  draw-ready =
      record {
        room = line-room s t p k x.entry c.line (omega (arith, d.left, few-events s t, c.line.short)) (entry-is s t p c x is);
        known = c.known;
      }

  -- The step's line is drawn too.
  module _ (v : List ℕ) (n : ℕ) (put : v ≡ put_events ev k (line_events s t p x.entry)) (count : n ≡ k + length (line_events s t p x.entry))
      (kept : length v ≡ length ev)
    where
      pub draw-last : x.last ≡ true → (n ≡ length (events_of s t)) × (v ≡ put_events ev₀ 0 (events_of s t))
      draw-last h =
          let f = one-drawn s t p c x is h in
          (omega (arith, count, d.left, ap length f), put ∙ ap (put_events ev k) (sym f) ∙ d.puts)

      pub draw-next : (q : Stand) → StandsAt t x.next (p.before.0 + x.chars.0) x.rest q → x.last ≡ false → Drew s t ev₀ v n q
      draw-next q on h =
          let f = more-drawn s t p c x is q on h in
          let es = line_events s t p x.entry in
          let more = events_after s t q in
          record {
            ready = ready-next s t p c x is q on;
            left = omega (arith, count, d.left, ap length f, length-append es more);
            same = kept ∙ d.same;
            puts = ap (λ (y : List ℕ). put_events y n more) put ∙ ap (λ (m : ℕ). put_events (put_events ev k es) m more) count
                ∙ sym (put_append ev k es more) ∙ ap (put_events ev k) (sym f) ∙ d.puts;
          }
