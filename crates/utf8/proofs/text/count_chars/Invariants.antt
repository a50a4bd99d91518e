-- `utf8::text::count_chars` meets its contract. The invariant: what is counted, and what the rest counts, make the whole.
-- Refusal 4, refusal 6.
use Rattle.std.proofs.Common.{◌≡◌, ◌+◌, ◌≤◌, drop}
use Rattle.utf8.specs.Places.{count_chars}
use Rattle.utf8.proofs.text.count_chars.Given as goal

abbrev pub invariant-loop-b : goal.invariant-loop-b
invariant-loop-b l = (count_chars l.text ≡ l.n + count_chars (drop l.b-index l.text)) × (l.n ≤ l.b-index)
