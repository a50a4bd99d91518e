-- A line whose events are drawn as it is written.
-- Assumes nothing.
use Rattle.std.specs.Prelude.{ℕ, ◌+◌, ◌*◌, ◌≤◌, ◌≡◌, refl, List, ◌++◌, length}
use Rattle.std.proofs.Common.{arith, sym, ap, ◌∙◌, length-append}
use Rattle.meaning.specs.Line.{start_place}
use Rattle.meaning.specs.declared.settings.Settings.{Settings}
use Rattle.meaning.specs.declared.line.Entry.{Entry}
use Rattle.table.specs.Numbers.{put_events}
use Rattle.ink.specs.Sheet.{put_append}
use Rattle.steps.specs.Knowing.{nothing_known, nothing-fits}
use Rattle.steps.specs.Unrolled.{nothing_resumed}
use Rattle.drawing.specs.Drawn.{drawn_from, events_from}
use Rattle.drawing.specs.PassDrawn.{DrawRoom}
use Rattle.drawing.specs.PlainDrawn.{plain_start, PlainToDraw}
use Rattle.placing.specs.Plain.{plain_entry, FoundRow}
use Rattle.rows.specs.Standing.{entry-is}
use Rattle.rows.specs.Found.{plain_stand}
use Rattle.rows.specs.Drawers.{AlikeHere, FewOfText, ToDraw, LineDrawn}
use Rattle.rows.specs.DrawnLines.{passed_stand, PlainHere, AllPut}
use Rattle.rows.specs.declared.plain.Passed.{Passed}
use Rattle.rows.specs.declared.ragged.Ragged.{Ragged}
use Rattle.stands.specs.declared.stand.Stand.{Stand}
use Rattle.layout.specs.EventsFrom.{events_of, events_after, line_events, DrawReady, all-events, few-events, one-drawn, more-drawn, place-room, place-events, place-length}
use Rattle.layout.specs.DrawTurns.{line-room}
use Rattle.layout.specs.DrawFound.{events-here, left-fits, place_is, plain-to-draw}

-- The events of the lines from a stand on are those of a drawer's.
pub seen-alike : (s : Settings) (t : List ℕ) → AlikeHere s t (events_after s t)
seen-alike s t p ready none = events-here s t p ready none

-- At a text's front they are all.
pub seen-all : (s : Settings) (t : List ℕ) → events_after s t (plain_stand 0 0) ≡ events_of s t
seen-all s t = all-events s t (plain_stand 0 0) (record { at-is = refl; before-is = refl; rest-is = refl; known = nothing-fits t nothing_known refl })

pub seen-few : (s : Settings) (t : List ℕ) → FewOfText s t (events_after s t)
seen-few s t ready = omega (arith, ap length (seen-all s t), few-events s t, ready.short)

module _ {s : Settings} {t : List ℕ} {p : Stand} {e : Entry} {n : ℕ} (d : ToDraw (events_after s t) s t p e n) where
  pub seen-ready : DrawReady s t p e n
  seen-ready = record { room = line-room s t p n e d.ready.line (omega (arith, d.few)) d.entry; known = d.ready.known }

  -- Its events are put: they come off the front of those that are left.
  module _ {u w : List ℕ} {k : ℕ} (put : w ≡ put_events u n (line_events s t p e)) (count : k ≡ n + length (line_events s t p e)) (kept : length w ≡ length u) where
    pub seen-line : LineDrawn (events_after s t) s t p u n w k
    unfolding put_events
    seen-line =
        let es = line_events s t p e in
        record {
          same = kept;
          last = λ x is ends. (
              let f : events_after s t p ≡ es = one-drawn s t p d.ready x is ends ∙ ap (line_events s t p) (entry-is s t p d.ready x is ∙ sym d.entry) in
              record { left = omega (arith, count, ap length f); same = kept; puts = put ∙ ap (put_events u n) (sym f) });
          on = λ x is goes q at. (
              let more = events_after s t q in
              let f : events_after s t p ≡ es ++ more =
              more-drawn s t p d.ready x is q at goes ∙ ap (λ (y : Entry). line_events s t p y ++ more) (entry-is s t p d.ready x is ∙ sym d.entry) in
              record {
                left = omega (arith, count, ap length f, length-append es more);
                same = kept;
                puts =
                    ap (λ (y : List ℕ). put_events y k more) put
                    ∙ ap (λ (j : ℕ). put_events (put_events u n es) j more) count
                    ∙ sym (put_append u n es more)
                    ∙ ap (put_events u n) (sym f);
              });
        }

-- ---- one that is found, drawn from where its entry places it

module _ (r : Ragged) {t : List ℕ} (p : Passed) {e : Entry} (d : ToDraw (events_after r.settings t) r.settings t (passed_stand p) e p.events)
    {columns next taken reach : ℕ} (row : FoundRow t p.at.0 r.most columns next taken reach) (is : e ≡ plain_entry r.settings p.at.0 columns reach p.before.0)
  where
    abbrev s : Settings
    s = r.settings

    placed : plain_start s e.left.0 ≡ start_place s e.left.0 (record { width = e.space; extra = e.extra })
    placed = place_is s t p.at.0 p.before.0 r.most d.ready r.holds r.unjustified columns next taken reach row e is

    pub seen-room : DrawRoom s (plain_start s e.left.0) t p.at.0 nothing_resumed e.left.0 p.events
    seen-room = place-room s t (passed_stand p) e (plain_start s e.left.0) placed p.events (seen-ready d).room

    pub seen-fits : e.left.0 + columns * s.glyph.0 ≤ s.width.0
    seen-fits = left-fits s t p.at.0 p.before.0 r.most d.ready r.holds r.unjustified columns next taken reach row e is

    pub seen-found : {u w : List ℕ} {k : ℕ} → w ≡ put_events u p.events (events_from s (plain_start s e.left.0) t p.at.0 0 0 e.left.0)
        → k ≡ p.events + length (drawn_from s (plain_start s e.left.0) t p.at.0 0 0) → length w ≡ length u
        → LineDrawn (events_after s t) s t (passed_stand p) u p.events w k
    seen-found {u = u} put count kept =
        seen-line d (put ∙ ap (put_events u p.events) (place-events s t (passed_stand p) e (plain_start s e.left.0) placed))
        (count ∙ ap (λ (j : ℕ). p.events + j) (place-length s t (passed_stand p) e (plain_start s e.left.0) placed)) kept

module _ {r : Ragged} {t : List ℕ} {p : Passed} {e : Entry} (d : ToDraw (events_after r.settings t) r.settings t (passed_stand p) e p.events) where
  pub seen-plain : {end : ℕ} (h : PlainHere r t p end e) → PlainToDraw r.settings t p.at.0 end e.left.0
  seen-plain {end = end} h = plain-to-draw r.settings t p.at.0 p.before.0 r.most d.ready r.holds r.unjustified end h.reach h.row e h.entry

-- What all of them are put to, from a text's front on, is what the events of the text are put to.
pub all-seen : {s : Settings} {t : List ℕ} {n : ℕ} {ev₀ ev : List ℕ} {k : ℕ} → AllPut (events_after s t) s t n ev₀ ev k
    → (k ≡ length (events_of s t)) × (ev ≡ put_events ev₀ 0 (events_of s t))
all-seen {s = s} {t = t} {ev₀ = ev₀} a = (a.events ∙ ap length (seen-all s t), a.buffer ∙ ap (put_events ev₀ 0) (seen-all s t))
