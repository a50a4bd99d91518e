-- `files::lines::check_rows` meets its contract (refusal 3, refusal 5).
use Rattle.std.proofs.Common.{◌∙◌, arith, drop}
use Rattle.meaning.specs.LayoutFile.{lines_at}
use Rattle.meaning.specs.ReadFile.{lines_in}
use Rattle.files.specs.Reading.{reach_bad, length_bad, rows_decide}
use Rattle.files.proofs.lines.check_rows.Goals as goal

pub returns-then-reach-lt1 : goal.returns-then-reach-lt1
returns-then-reach-lt1 c =
    reach_bad (lines_in c.args.lines (drop lines_at c.args.file.now)) c.args.bytes c.last_reach-reach.result c.last_reach-reach.ensures (λ p q. omega arith)

pub returns-then-reach-gt-REACH_LIMIT : goal.returns-then-reach-gt-REACH_LIMIT
returns-then-reach-gt-REACH_LIMIT c =
    reach_bad (lines_in c.args.lines (drop lines_at c.args.file.now)) c.args.bytes c.last_reach-reach.result c.last_reach-reach.ensures (λ p q. omega arith)

pub returns-then-reach-bytes : goal.returns-then-reach-bytes
returns-then-reach-bytes c =
    length_bad (lines_in c.args.lines (drop lines_at c.args.file.now)) c.args.bytes c.last_reach-reach.result c.last_reach-reach.ensures (λ e. omega arith)

pub returns : goal.returns
returns c =
    c.check_each.ensures ∙ rows_decide (lines_in c.args.lines (drop lines_at c.args.file.now)) c.args.bytes c.last_reach-reach.result c.last_reach-reach.ensures (omega arith) (omega arith) (omega arith)
