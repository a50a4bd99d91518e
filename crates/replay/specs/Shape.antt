-- Where the parts of a case stand among its numbers.
-- Assumes nothing.
use Rattle.std.specs.Prelude.{ℕ, ◌+◌, ◌-◌, ◌*◌, ◌≤◌, ◌≡◌, List, length, get_or, take, drop, Result, Ok, Err}
use Rattle.meaning.specs.Table.{event_numbers, token_numbers}
use Rattle.replay.specs.declared.shape.Case.{Case}

-- A place comes after the count at another one, which is at most so much, and after what that counts, so many numbers each.
pub record After (ns : List ℕ) (at each most next : ℕ) : Type 0 where
  pub few : get_or ns at 0 ≤ most
  pub next-is : next ≡ at + 1 + each * get_or ns at 0
  pub within : next ≤ length ns

abbrev pub Past : {E : Type 0} → List ℕ → (at each most : ℕ) → Result ℕ E → Type 0
Past ns at each most (Ok k) = After ns at each most k
Past ns at each most (Err e) = Unit {0}

-- What is counted at a place: the numbers after the count, up to another place.
abbrev pub part : List ℕ → (at next : ℕ) → List ℕ
part ns at next = take (next - (at + 1)) (drop (at + 1) ns)

-- Six settings, the bytes of a text, its tokens, lines and events, and nothing else.
pub record Parts (ns : List ℕ) (c : Case) : Type 0 where
  pub text : After ns 6 1 128 c.tokens
  pub tokens : After ns c.tokens token_numbers 128 c.lines
  pub lines : After ns c.lines 8 130 c.events
  pub events : After ns c.events event_numbers 400 (length ns)

abbrev pub Shaped : {E : Type 0} → List ℕ → Result Case E → Type 0
Shaped ns (Ok c) = Parts ns c
Shaped ns (Err e) = Unit {0}
