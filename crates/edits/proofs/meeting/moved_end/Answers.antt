-- `edits::meeting::moved_end` meets its contract (laying again).
use Rattle.std.proofs.Common.{◌∙◌}
use Rattle.edits.proofs.MeetLaws.{end_none, end_moved}
use Rattle.edits.proofs.meeting.moved_end.Goals as goal

pub returns-then-rest-eq0 : goal.returns-then-rest-eq0
returns-then-rest-eq0 c =
    end_none c.args.edit c.args.rest c.if-rest-eq0.true

pub returns : goal.returns
returns c =
    c.moved_to.ensures ∙ end_moved c.args.edit c.args.rest c.if-rest-eq0.false
