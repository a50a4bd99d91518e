-- `layout::checked::check_lines` meets its contract (refusal 1, refusal 2, refusal 3, refusal 4, refusal 8).
use Rattle.std.proofs.Common.{ap, ◌∙◌, arith}
use Rattle.meaning.specs.Checks.{check_room}
use Rattle.meaning.specs.Table.{entry_numbers, capacity_of}
use Rattle.layout.specs.Checking.{lines_fit_lem}
use Rattle.layout.proofs.checked.check_lines.Goals as goal

pub returns-then-text-room : goal.returns-then-text-room
unfolding capacity_of
returns-then-text-room c =
    lines_fit_lem c.args.s c.args.text.now c.args.table.now (omega arith)

pub returns : goal.returns
unfolding capacity_of
returns c =
    c.check_room.ensures ∙ ap (check_room (capacity_of entry_numbers c.args.table.now)) c.count_lines.ensures
