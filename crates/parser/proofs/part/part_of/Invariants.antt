-- `parser::part::part_of` meets its contract. The invariant: what is passed, and the first characters of the rest, make the part.
-- Rule 2.
use Rattle.std.proofs.Common.{◌≡◌, ◌+◌, ◌-◌, ◌≤◌}
use Rattle.parser.proofs.PartLaws.{size_to, glues_to}
use Rattle.parser.proofs.part.part_of.Given as goal

abbrev pub invariant-loop-i : goal.invariant-loop-i
invariant-loop-i l = (l.at + size_to l.text l.at l.k ≡ l.end + size_to l.text l.end (l.k - l._i)) × (glues_to l.text l.at l.k ≡ l.glues + glues_to l.text l.end (l.k - l._i)) × (l.end ≤ 65535) × (l.glues ≤ l.end)
