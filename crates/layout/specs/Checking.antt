-- The tests of a fresh layout, as the running calls make them, and what they give.
-- Assumes nothing.
use Rattle.std.specs.Prelude.{ℕ, ◌*◌, ◌≤◌, ◌<◌, ◌≡◌, refl, length, Err, Ok}
use Rattle.meaning.specs.Refusals.{Checked}
use Rattle.std.proofs.Common.{arith, sym, ◌∙◌}
use mathlib.Core.List.{List, [], ◌∷◌}
use Rattle.meaning.specs.Checks.{first_of, check_settings, check_length, check_utf8, check_text, check_room}
use Rattle.meaning.specs.Table.{entry_numbers, event_numbers, capacity_of}
use Rattle.meaning.specs.Calls.{text_rows, text_entries, check_layout}
use Rattle.meaning.specs.declared.settings.Settings.{Settings}
use Rattle.meaning.specs.declared.refusals.Refusal.{Refusal}
use Rattle.laws.specs.TableLaws.{capacity_is}
use Rattle.laws.specs.GoodChecks.{has_room, room-is}
use Rattle.laws.specs.TestOrder.{first_alone, first-refused, first_good}
use Rattle.rows.specs.RowsFrom.{TextReady, entries_of, entries_are, few_entries}
use Rattle.layout.specs.EventsFrom.{events_of, few-events}
use Rattle.rows.specs.GoodInput.{text-ready}

-- ---- the room of a buffer (8)

-- A table with a line more than the text has bytes has room, and so has an event buffer with an event for each byte.
pub lines_fit_lem : (s : Settings) (t table : List ℕ) → length t < capacity_of entry_numbers table
    → Ok tt ≡ check_room (capacity_of entry_numbers table) (length (entries_of s t))
lines_fit_lem s t table h = has_room _ _ (omega (arith, few_entries s t))

pub events_fit : (s : Settings) (t events : List ℕ) → length t ≤ capacity_of event_numbers events
    → Ok tt ≡ check_room (capacity_of event_numbers events) (length (events_of s t))
events_fit s t events h = has_room _ _ (omega (arith, few-events s t))

-- A buffer that has room is long enough.
pub long-enough : (n k : ℕ) (buffer : List ℕ) → 0 < n → check_room (capacity_of n buffer) k ≡ Ok tt → n * k ≤ length buffer
long-enough n k buffer h e = (capacity_is n k buffer h).0 (room-is (capacity_of n buffer) k e)

-- ---- all tests

module _ (s : Settings) (t table : List ℕ) where
  -- Refusal 1 and refusal 2.
  pub settings-refused : (r : Refusal) → check_settings s ≡ Err r → Err r ≡ check_layout s t table
  unfolding check_layout first_of
  settings-refused r e = rw e

  module _ (good : check_settings s ≡ Ok tt) where
    -- Refusal 3 and refusal 4.
    pub text-refused : (r : Refusal) → check_text t ≡ Err r → Err r ≡ check_layout s t table
    unfolding check_layout first_of check_text
    text-refused r e =
        let more = check_room (capacity_of entry_numbers table) (length (text_entries s t)) ∷ [] in
        rw good (sym (first-refused (check_length (length t)) (check_utf8 t) more r e))

    -- Where settings and text are good, the room decides.
    pub room_decides : check_text t ≡ Ok tt → check_layout s t table ≡ check_room (capacity_of entry_numbers table) (length (entries_of s t))
    unfolding check_layout first_of check_text text_rows
    room_decides text =
        let room = check_room (capacity_of entry_numbers table) (length (text_entries s t)) in
        rw (good, entries_are s t)
        (first_good (check_length (length t)) (check_utf8 t) (room ∷ []) text
        ∙ first_alone room)

-- ---- where nothing is refused

refused-not-good : {X : Type 0} (r : Refusal) → ◌≡◌ {A = Checked} (Err r) (Ok tt) → X
refused-not-good r e = absurd (let z : ◌≡◌ {A = ℕ} 0 1 = cc in omega arith)

module _ (s : Settings) (t table : List ℕ) (h : check_layout s t table ≡ Ok tt) where
  good-settings : check_settings s ≡ Ok tt
  good-settings = known (check_settings s) refl
    where
      known : (c : Checked) → check_settings s ≡ c → check_settings s ≡ Ok tt
      known (Ok tt) e = e
      known (Err r) e = refused-not-good r (settings-refused s t table r e ∙ h)

  good-text : check_text t ≡ Ok tt
  good-text = known (check_text t) refl
    where
      known : (c : Checked) → check_text t ≡ c → check_text t ≡ Ok tt
      known (Ok tt) e = e
      known (Err r) e = refused-not-good r (text-refused s t table good-settings r e ∙ h)

  pub good-ready : TextReady s t
  good-ready = text-ready s good-settings t good-text

  pub good-room : entry_numbers * length (entries_of s t) ≤ length table
  good-room = long-enough entry_numbers (length (entries_of s t)) table (omega arith) (sym (room_decides s t table good-settings good-text) ∙ h)
