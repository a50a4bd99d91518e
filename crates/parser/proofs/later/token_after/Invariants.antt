-- `parser::later::token_after` meets its contract. The invariant: as long as the word goes on, what is left of it stands at the position.
-- Rule 2, rule 8.
use Rattle.std.proofs.Common.{◌-◌, ◌≤◌, ◌<◌}
use Rattle.parser.proofs.ShorterLaws.{Less}
use Rattle.parser.proofs.later.token_after.Given as goal

abbrev pub invariant-loop-pos : goal.invariant-loop-pos
invariant-loop-pos l = (l.pos < l.x.end.0 → Less l.text l.pos l.x l.chars l.glues) × (l.at < l.x.end.0) × (l.chars ≤ l.pos) × (l.glues ≤ l.pos)

abbrev pub decreases-loop-pos : goal.decreases-loop-pos
decreases-loop-pos l = l.at - l.pos
