-- `files::settings::check_retired` meets its contract (refusal 1, refusal 2, refusal 8, refusal 12).
use Rattle.std.proofs.Common.{sym, ◌∙◌}
use Rattle.files.specs.Known.{not_retired, retired_no_room, is_retired_lem}
use Rattle.laws.specs.Asked.{asked}
use Rattle.files.proofs.settings.check_retired.Goals as goal

pub returns-then-s-ne1 : goal.returns-then-s-ne1
returns-then-s-ne1 c =
    not_retired c.args.s c.args.room c.if-s-ne1.true

pub returns-in_err-check_room : goal.returns-in_err-check_room
returns-in_err-check_room c =
    asked _ c.from_residual.ensures.1 ∙ retired_no_room c.args.s c.args.room c.if-s-ne1.false _ (sym c.check_room.ensures ∙ c.in_err-check_room.was)

pub returns : goal.returns
returns c =
    is_retired_lem c.args.s c.args.room c.if-s-ne1.false (sym c.check_room.ensures ∙ c.in_ok-check_room.was)
