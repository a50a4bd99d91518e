-- `layout::checked::check_events` meets its contract (refusal 1, refusal 2, refusal 3, refusal 4, refusal 8).
use Rattle.std.proofs.Common.{ap, ◌∙◌, arith}
use Rattle.meaning.specs.Checks.{check_room}
use Rattle.meaning.specs.Table.{event_numbers, capacity_of}
use Rattle.layout.specs.Checking.{events_fit}
use Rattle.layout.proofs.checked.check_events.Goals as goal

pub returns-then-text-room : goal.returns-then-text-room
unfolding capacity_of
returns-then-text-room c =
    events_fit c.args.s c.args.text.now c.args.events.now (omega arith)

pub returns : goal.returns
unfolding capacity_of
returns c =
    c.check_room.ensures ∙ ap (check_room (capacity_of event_numbers c.args.events.now)) c.count_events.ensures
