-- `index::making::make_from` meets its contract (rule 11).
use Rattle.std.proofs.Common.{sym, ◌∙◌, length}
use Rattle.laws.specs.Asked.{asked}
use Rattle.index.proofs.Answering.{indexing_gives, index_made, index-refused}
use Rattle.index.proofs.making.make_from.Goals as goal

pub returns-in_err-check_indexing : goal.returns-in_err-check_indexing
returns-in_err-check_indexing c =
    let r = index-refused c.args.s c.args.table.now c.args.lines c.args.kept c.args.index.now _ (sym c.check_indexing.ensures ∙ c.in_err-check_indexing.was) in
    record { value = asked _ c.from_residual.ensures.1 ∙ r.0; index_after = r.1 }

pub write_ys-requires : goal.write_ys-requires
write_ys-requires c =
    indexing_gives c.args.s c.args.table.now c.args.lines (length c.args.index.now) (sym c.check_indexing.ensures ∙ c.in_ok-check_indexing.was)

pub returns : goal.returns
returns c =
    let m = index_made c.args.s c.args.table.now c.args.lines c.args.kept c.args.index.now (sym c.check_indexing.ensures ∙ c.in_ok-check_indexing.was) in
    record { value = m.0; index_after = c.write_ys.ensures ∙ m.1 }
