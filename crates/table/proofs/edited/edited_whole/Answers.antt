-- `table::edited::edited_whole` meets its contract (refusal 3, refusal 6, laying again).
use Rattle.table.proofs.EditLaws.{whole_backward, whole-past, whole_is}
use Rattle.table.proofs.edited.edited_whole.Goals as goal

pub returns-then-edit : goal.returns-then-edit
returns-then-edit c =
    whole_backward c.args.bytes.0 c.args.edit c.if-edit.true

pub returns-then-bytes-edit : goal.returns-then-bytes-edit
returns-then-bytes-edit c =
    whole-past c.args.bytes.0 c.args.edit c.if-edit.false c.if-bytes-edit.true

pub returns : goal.returns
returns c =
    whole_is c.args.bytes.0 c.args.edit c.if-edit.false c.if-bytes-edit.false _ c.whole_length.ensures
