-- `blanks::line_iter::white_width` meets its contract (rule 8).
use Rattle.std.proofs.Common.{sym, ◌∙◌}
use Rattle.steps.specs.Ahead.{white_width}
use Rattle.steps.specs.KindLaws.{no_tab_lem}
use borrow.Enum.Refused.{opened}
use Rattle.blanks.proofs.line_iter.white_width.Goals as goal

pub returns-in-Tab : goal.returns-in-Tab
unfolding white_width
returns-in-Tab c =
    rw c.in-Tab.is c.tab_width.ensures

pub returns-in_default : goal.returns-in_default
returns-in_default c =
    c.spaces_width.ensures ∙ sym (no_tab_lem c.args.kind (opened c.in_default.in_default-own.keys2) c.args.count c.args.cursor c.args.spaces)
