-- `again::stop::meets_first` meets its contract (laying again).
use Rattle.std.proofs.Common.{◌∙◌}
use Rattle.again.proofs.SkipLaws.{met-none, met-line}
use Rattle.again.proofs.stop.meets_first.Goals as goal

pub returns-then-lines-j : goal.returns-then-lines-j
returns-then-lines-j c =
    met-none c.args.edit c.args.start.0 c.args.table.now c.args.lines c.args.j c.args.rest c.if-lines-j.true

pub returns : goal.returns
returns c =
    c.meets_line.ensures
    ∙ met-line c.args.edit c.args.start.0 c.args.table.now c.args.lines c.args.j c.args.rest c.read_entry.result c.if-lines-j.false c.read_entry.ensures
