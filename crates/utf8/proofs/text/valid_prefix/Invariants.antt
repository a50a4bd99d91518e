-- `utf8::text::valid_prefix` meets its contract. The invariant: what is passed, and the valid prefix of the rest, make the whole.
-- Refusal 4, refusal 6.
use Rattle.std.proofs.Common.{◌≡◌, ◌+◌, ◌-◌, ◌≤◌, length, drop}
use Rattle.utf8.specs.Decoding.{valid_prefix}
use Rattle.utf8.proofs.text.valid_prefix.Given as goal

abbrev pub invariant-loop-len : goal.invariant-loop-len
invariant-loop-len l = (valid_prefix l.text ≡ l.at + valid_prefix (drop l.at l.text)) × (l.at ≤ length l.text)

abbrev pub decreases-loop-len : goal.decreases-loop-len
decreases-loop-len l = length l.text - l.at
