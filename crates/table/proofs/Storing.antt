-- An event's six stores.
-- Assumes nothing.
use Prim.Native.Nat.{ℕ, ◌+◌, ◌*◌, ◌≤◌}
use mathlib.Core.Path.{◌≡◌, sym, ap, ◌∙◌}
use mathlib.Core.List.{List, [], ◌∷◌}
use lib.ListN.{length}
use Rattle.meaning.specs.Table.{event_numbers, event_number, of_event}
use Rattle.meaning.specs.declared.line.Event.{Event}
use Rattle.table.specs.Numbers.{put_numbers, put_if_room, stored, stored-are, room}

module _ (t : List ℕ) (k : ℕ) (e : Event) (number : ℕ) where
  abbrev numbers : List ℕ
  numbers = number ∷ e.start.0 ∷ e.end.0 ∷ e.count.0 ∷ e.width.0 ∷ e.x.0 ∷ []

  pub event_stored : number ≡ event_number e.kind → event_numbers * k + event_numbers ≤ length t
      → stored t (event_numbers * k) numbers ≡ put_if_room event_numbers t k (of_event e)
  unfolding of_event
  event_stored q h =
      stored-are numbers t (event_numbers * k) h
      ∙ ap (λ (m : ℕ). put_numbers t (event_numbers * k) (m ∷ e.start.0 ∷ e.end.0 ∷ e.count.0 ∷ e.width.0 ∷ e.x.0 ∷ [])) q
      ∙ sym (room event_numbers t k (of_event e) h)
