-- `table::events::put_event` meets its contract (rule 13).
use Rattle.std.proofs.Common.{sym, arith, length-set}
use Rattle.meaning.specs.Table.{event_numbers, of_event}
use Rattle.table.specs.Numbers.{no_room}
use Rattle.table.proofs.Storing.{event_stored}
use Rattle.table.proofs.events.put_event.Goals as goal

pub returns-then-events-at : goal.returns-then-events-at
returns-then-events-at c =
    sym (no_room event_numbers c.args.events.now c.args.k (of_event c.args.e) c.if-events-at.true)

pub bounds-events-at-2 : goal.bounds-events-at-2
bounds-events-at-2 c =
    simp length-set (omega arith)

pub bounds-events-at-3 : goal.bounds-events-at-3
bounds-events-at-3 c =
    simp length-set (omega arith)

pub bounds-events-at-4 : goal.bounds-events-at-4
bounds-events-at-4 c =
    simp length-set (omega arith)

pub bounds-events-at-5 : goal.bounds-events-at-5
bounds-events-at-5 c =
    simp length-set (omega arith)

pub bounds-events-at-6 : goal.bounds-events-at-6
bounds-events-at-6 c =
    simp length-set (omega arith)

pub returns : goal.returns
returns c =
    event_stored c.args.events.now c.args.k c.args.e _ c.from.ensures c.if-events-at.false
