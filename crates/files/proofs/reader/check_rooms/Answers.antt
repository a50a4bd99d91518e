-- `files::reader::check_rooms` meets its contract (refusal 1, refusal 2, refusal 3, refusal 5, refusal 8, refusal 9, refusal 11, refusal 12).
use Rattle.std.proofs.Common.{sym, ◌∙◌}
use Rattle.meaning.specs.Table.{capacity_of}
use Rattle.files.specs.ReadingCalls.{rooms_refused, rooms_good}
use Rattle.laws.specs.Asked.{asked}
use Rattle.files.proofs.reader.check_rooms.Goals as goal

pub returns-in_err-check_room : goal.returns-in_err-check_room
returns-in_err-check_room c =
    asked _ c.from_residual.ensures.1 ∙ rooms_refused c.args.settings.now c.args.table.now c.args.lines _ (sym c.check_room.ensures ∙ c.in_err-check_room.was)

pub returns : goal.returns
unfolding capacity_of
returns c =
    c.check_room-2.ensures ∙ rooms_good c.args.settings.now c.args.table.now c.args.lines (sym c.check_room.ensures ∙ c.in_ok-check_room.was)
