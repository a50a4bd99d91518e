-- `replay::input::next_line` meets its contract.
use Rattle.replay.proofs.LineLaws.{found_within}
use Rattle.replay.proofs.input.next_line.Goals as goal

pub returns-in-Some : goal.returns-in-Some
returns-in-Some g c =
    let w = found_within _ _ _ _ c.requires.end_in_bounds c.in-Some.ensures in
    (w.0, w.1, c.requires.end_in_bounds)
