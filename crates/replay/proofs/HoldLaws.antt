-- A case whose parts are those that the definitions give holds.
-- Assumes nothing.
use Prim.Native.Nat.{ℕ, ◌*◌}
use mathlib.Core.Path.{◌≡◌, sym, ap, subst, ◌∙◌}
use mathlib.Core.List.{List, ◌∷◌, ◌++◌, append-nil}
use native.Mathlib.Omega.{arith}
use lib.ListN.{length, get_or, take, drop, take-append-drop}
use lib.Seq.{drop-length, length-take-le}
use Rattle.meaning.specs.Table.{event_numbers, token_numbers, of_entry, of_event, of_token, of_all}
use Rattle.meaning.specs.Calls.{text_tokens, text_entries, text_events}
use Rattle.meaning.specs.declared.line.Entry.{Entry}
use Rattle.laws.specs.TableLaws.{entry-numbers, all-numbers, tokens-numbers, events-numbers}
use Rattle.replay.specs.Shape.{part, Parts}
use Rattle.replay.specs.Numbers.{line_numbers}
use Rattle.replay.specs.Record.{settings_in, first_eight, record_of, Laid, Holds, Judged, Told}
use Rattle.replay.specs.declared.judge.Verdict.{Verdict}
use Rattle.replay.specs.declared.judge.Verdict.TheVariants.{Comment, Agrees, Differs}
use Rattle.replay.specs.declared.shape.Case.{Case}
use Rattle.replay.proofs.PartLaws.{part_length, part_cut}

eight_numbers : (e : Entry) → length (first_eight e) ≡ 8
unfolding first_eight
eight_numbers e = length-take-le 8 (of_entry e) (omega (arith, entry-numbers e))

eights-numbers : (es : List Entry) → length (of_all first_eight es) ≡ 8 * length es
eights-numbers = all-numbers first_eight 8 eight_numbers

module _ (ns : List ℕ) (c : Case) (p : Parts ns c) (t : List ℕ) (text : t ≡ part ns 6 c.tokens)
    (tokens : part ns c.tokens c.lines ≡ of_all of_token (text_tokens t))
    (laid : Laid (settings_in ns) t (part ns c.lines c.events) (part ns c.events (length ns)))
  where
    -- The four counts are right.
    bytes_counted : get_or ns 6 0 ≡ length t
    bytes_counted = let e : length t ≡ 1 * get_or ns 6 0 = ap length text ∙ part_length p.text in omega arith

    tokens-counted : get_or ns c.tokens 0 ≡ length (text_tokens t)
    tokens-counted =
        let e : token_numbers * length (text_tokens t) ≡ token_numbers * get_or ns c.tokens 0 =
        sym (tokens-numbers (text_tokens t)) ∙ ap length (sym tokens) ∙ part_length p.tokens
        in
        omega arith

    lines-counted : get_or ns c.lines 0 ≡ length (text_entries (settings_in ns) t)
    lines-counted =
        let e : 8 * length (text_entries (settings_in ns) t) ≡ 8 * get_or ns c.lines 0 =
        sym (eights-numbers (text_entries (settings_in ns) t)) ∙ ap length (sym laid.lines_are) ∙ part_length p.lines
        in
        omega arith

    events-counted : get_or ns c.events 0 ≡ length (text_events (settings_in ns) t)
    events-counted =
        let e : event_numbers * length (text_events (settings_in ns) t) ≡ event_numbers * get_or ns c.events 0 =
        sym (events-numbers (text_events (settings_in ns) t)) ∙ ap length (sym laid.events-are) ∙ part_length p.events
        in
        omega arith

    -- What follows the settings, part by part, from the last.
    from-events : drop c.events ns ≡ length (text_events (settings_in ns) t) ∷ of_all of_event (text_events (settings_in ns) t)
    from-events =
        part_cut p.events ∙ ap (λ (l : List ℕ). (get_or ns c.events 0 ∷ part ns c.events (length ns)) ++ l) (drop-length ns)
        ∙ append-nil _ ∙ (λ i. events-counted i ∷ laid.events-are i)

    from-lines : drop c.lines ns
        ≡ (length (text_entries (settings_in ns) t) ∷ of_all first_eight (text_entries (settings_in ns) t))
        ++ (length (text_events (settings_in ns) t) ∷ of_all of_event (text_events (settings_in ns) t))
    from-lines = part_cut p.lines ∙ (λ i. (lines-counted i ∷ laid.lines_are i) ++ from-events i)

    follows : drop 6 ns ≡ record_of (settings_in ns) t
    unfolding record_of
    follows =
        let bytes = sym text in
        let more = part_cut p.tokens ∙ (λ i. (tokens-counted i ∷ tokens i) ++ from-lines i) in
        part_cut p.text ∙ (λ i. (bytes_counted i ∷ bytes i) ++ more i)

    pub holds : Holds ns
    holds =
        record {
          text = t;
          settings-good = laid.settings-good;
          text-good = laid.text-good;
          whole = sym (take-append-drop 6 ns) ∙ ap (λ (l : List ℕ). take 6 ns ++ l) follows;
        }

-- What was judged of a line's numbers is told of the line.
pub judged-told : (line ns : List ℕ) (v : Verdict) → ns ≡ line_numbers 4096 line → Judged ns v → Told line v
judged-told line ns Comment e j = absurd j
judged-told line ns Agrees e j = subst Holds e j
judged-told line ns Differs e j = tt
