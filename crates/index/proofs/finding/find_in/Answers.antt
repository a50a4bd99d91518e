-- `index::finding::find_in` meets its contract (rule 11).
use Rattle.std.proofs.Common.{◌∙◌, length, rules}
use Rattle.laws.specs.Indexes.{y_at}
use Rattle.index.specs.Stretch.{whole-stretch, none_left_lem}
use Rattle.index.proofs.ReadYs.{read-most, passed-stretch, passed-found}
use Rattle.index.proofs.finding.find_in.Goals as goal

pub last_under-requires : goal.last_under-requires
last_under-requires c =
    passed-stretch c.args.y c.ranges.y c.args.index.now 0 (length c.args.index.now)
    (whole-stretch c.args.y c.args.index.now c.requires.0 c.requires.1
    (read-most (y_at c.args.index.now 0) c.args.y _ (search rules) c.ranges.y c.if-index-y.true))

pub returns-then-index-y : goal.returns-then-index-y
returns-then-index-y c =
    c.last_under.ensures ∙ passed-found c.args.y c.ranges.y c.args.index.now

pub returns : goal.returns
returns c =
    none_left_lem c.args.y c.args.index.now c.requires.1 (read-most (y_at c.args.index.now 0) c.args.y _ (search rules) c.ranges.y c.if-index-y.false)
