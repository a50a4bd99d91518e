-- `files::lines::last_reach` meets its contract (refusal 3, refusal 5).
use Rattle.std.proofs.Common.{◌∙◌, drop}
use Rattle.meaning.specs.LayoutFile.{lines_at}
use Rattle.files.specs.Reading.{reach-none, reach-last}
use Rattle.files.proofs.lines.last_reach.Goals as goal

pub returns-then-lines-eq0 : goal.returns-then-lines-eq0
returns-then-lines-eq0 c =
    reach-none (drop lines_at c.args.file.now) c.args.lines c.if-lines-eq0.true

pub returns : goal.returns
returns c =
    c.read_number.ensures ∙ reach-last c.args.file.now c.args.lines c.if-lines-eq0.false
