-- What the library's calls have written where they refuse nothing.
-- Assumes nothing.
use Prim.Native.Nat.{ℕ, ◌*◌}
use Rattle.std.specs.Prelude.{Err, Ok, ℕ}
use Rattle.meaning.specs.Refusals.{Checked}
use Rattle.meaning.specs.declared.answers.Drawing.{Drawing}
use mathlib.Core.Path.{◌≡◌, refl, sym, ap, ◌∙◌}
use mathlib.Core.Bool.{true}
use mathlib.Core.List.{List, [], ◌∷◌, ◌++◌, append_assoc}
use native.Mathlib.Omega.{arith}
use lib.ListN.{length, take, drop}
use lib.Seq.{take_at, drop_at, take-append-le}
use Rattle.meaning.specs.Table.{entry_numbers, event_numbers, token_numbers, of_entry, of_event, of_token, of_all, capacity_of, written}
use Rattle.meaning.specs.Checks.{first_of, answered, check_settings, check_length, check_utf8, check_text, check_room}
use Rattle.meaning.specs.Calls.{text_tokens, check_tokens, tokens_answer, tokens_buffer}
use Rattle.meaning.specs.Calls.{text_entries, text_events, check_layout}
use Rattle.meaning.specs.Calls.{check_drawing, drawing_answer, drawing_table, drawing_events}
use Rattle.meaning.specs.declared.settings.Settings.{Settings}
use Rattle.meaning.specs.declared.line.Entry.{Entry}
use Rattle.laws.specs.TableLaws.{tokens-numbers, events-numbers, entry-numbers}
use Rattle.replay.specs.Same.{equal, equal-true, eights}
use Rattle.replay.specs.Record.{first_eight, Laid}

-- A call that answers refused nothing.
answer-good : {X : Type 0} (c : Checked) {m n : X} → answered c (Ok m) Err ≡ Ok n → (c ≡ (Ok tt)) × (m ≡ n)
answer-good (Ok tt) e = (refl, cc)
answer-good (Err r) e = (cc, cc)

-- The numbers of the tokens, at the front of the buffer.
tokens-told : (t b : List ℕ) (n : ℕ) → Ok n ≡ tokens_answer t b → take (token_numbers * n) (tokens_buffer t b) ≡ of_all of_token (text_tokens t)
unfolding tokens_answer tokens_buffer written
tokens-told t b n e =
    let good = answer-good (check_tokens t b) (sym e) in
    let xs = of_all of_token (text_tokens t) in
    rw good.0 (take_at xs (drop (length xs) b) (token_numbers * n) (tokens-numbers (text_tokens t) ∙ ap (λ (k : ℕ). token_numbers * k) good.1))

-- Recorded numbers that are the same as those at the front of the buffer are those of the text's tokens.
pub tokens_agreed : (t b after recorded : List ℕ) (n : ℕ) → Ok n ≡ tokens_answer t b → after ≡ tokens_buffer t b
    → equal (take (token_numbers * n) after) recorded ≡ true → recorded ≡ of_all of_token (text_tokens t)
tokens_agreed t b after recorded n told leaves e =
    sym (equal-true (take (token_numbers * n) after) recorded e) ∙ ap (λ (l : List ℕ). take (token_numbers * n) l) leaves ∙ tokens-told t b n told

-- The first eight numbers of each entry that was written.
pub eights-told : (es : List Entry) (rest : List ℕ) → eights (length es) (of_all of_entry es ++ rest) ≡ of_all first_eight es
unfolding eights of_all first_eight
eights-told [] rest = refl
eights-told (e ∷ es) rest =
    let more = of_all of_entry es ++ rest in
    rw (
      append_assoc,
      take-append-le 8 (of_entry e) more (omega (arith, entry-numbers e)),
      drop_at (of_entry e) more entry_numbers (entry-numbers e),
      eights-told es rest,
    )

-- ---- the layout with events

-- Where no test of several refuses, the first does not and the others do not.
first-both : (c : Checked) (cs : List Checked) → first_of (c ∷ cs) ≡ (Ok tt) → (c ≡ (Ok tt)) × (first_of cs ≡ (Ok tt))
unfolding first_of
first-both (Ok tt) cs e = (refl, e)
first-both (Err r) cs e = (cc, cc)

module _ (s : Settings) (t table : List ℕ) (e : check_layout s t table ≡ (Ok tt)) where
  tests : (check_settings s ≡ (Ok tt)) × (check_length (length t) ≡ (Ok tt)) × (check_utf8 t ≡ (Ok tt))
  unfolding check_layout
  tests =
      let room = check_room (capacity_of entry_numbers table) (length (text_entries s t)) ∷ [] in
      let settings = first-both (check_settings s) (check_length (length t) ∷ check_utf8 t ∷ room) e in
      let long = first-both (check_length (length t)) (check_utf8 t ∷ room) settings.1 in
      (settings.0, long.0, (first-both (check_utf8 t) room long.1).0)

  good-text : check_text t ≡ (Ok tt)
  unfolding check_text first_of
  good-text = rw (tests.1, tests.2)

-- Recorded numbers that are the same as those that the call has written are those of the text's lines and events.
module _ (s : Settings) (t table events : List ℕ) (d : Drawing) (told : Ok d ≡ drawing_answer s t table events) where
  good : (check_drawing s t table events ≡ (Ok tt)) × (length (text_entries s t) ≡ d.lines) × (length (text_events s t) ≡ d.events)
  unfolding drawing_answer
  good =
      let both = answer-good (check_drawing s t table events) (sym told) in
      (both.0, ap (λ (k : Drawing). k.lines) both.1, ap (λ (k : Drawing). k.events) both.1)

  good-layout : check_layout s t table ≡ (Ok tt)
  unfolding check_drawing
  good-layout = (first-both (check_layout s t table) (check_room (capacity_of event_numbers events) (length (text_events s t)) ∷ []) good.0).0

  lines-told : eights d.lines (drawing_table s t table events) ≡ of_all first_eight (text_entries s t)
  unfolding drawing_table written
  lines-told =
      let es = text_entries s t in
      rw (good.0, ← good.1) (eights-told es (drop (length (of_all of_entry es)) table))

  events-told : take (event_numbers * d.events) (drawing_events s t table events) ≡ of_all of_event (text_events s t)
  unfolding drawing_events written
  events-told =
      let xs = of_all of_event (text_events s t) in
      rw good.0 (take_at xs (drop (length xs) events) (event_numbers * d.events) (events-numbers (text_events s t) ∙ ap (λ (k : ℕ). event_numbers * k) good.2))

  layout-told : (lines drawn : List ℕ) → equal (eights d.lines (drawing_table s t table events)) lines ≡ true
      → equal (take (event_numbers * d.events) (drawing_events s t table events)) drawn ≡ true → Laid s t lines drawn
  layout-told lines drawn p q =
      record {
        settings-good = (tests s t table good-layout).0;
        text-good = good-text s t table good-layout;
        lines_are = sym (equal-true (eights d.lines (drawing_table s t table events)) lines p) ∙ lines-told;
        events-are = sym (equal-true (take (event_numbers * d.events) (drawing_events s t table events)) drawn q) ∙ events-told;
      }

pub layout_agreed : (s : Settings) (t table events table_after events_after lines drawn : List ℕ) (d : Drawing)
    → Ok d ≡ drawing_answer s t table events → table_after ≡ drawing_table s t table events → events_after ≡ drawing_events s t table events
    → equal (eights d.lines table_after) lines ≡ true → equal (take (event_numbers * d.events) events_after) drawn ≡ true → Laid s t lines drawn
layout_agreed s t table events table_after events_after lines drawn d told leaves-table leaves-events p q =
    layout-told s t table events d told lines drawn
    (ap (λ (l : List ℕ). equal (eights d.lines l) lines) (sym leaves-table) ∙ p)
    (ap (λ (l : List ℕ). equal (take (event_numbers * d.events) l) drawn) (sym leaves-events) ∙ q)
