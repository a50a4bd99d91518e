-- `heights::ys::write_ys` meets its contract (rule 11).
use Rattle.std.proofs.Common.{◌≡◌, length}
use Rattle.meaning.specs.Table.{entries_in}
use Rattle.meaning.specs.Height.{added_before}
use Rattle.meaning.specs.YIndex.{index_of, written_from}
use Rattle.heights.proofs.ys.write_ys.Given as goal

abbrev pub invariant-loop-k : goal.invariant-loop-k
invariant-loop-k l = (written_from l.k l.index (index_of l.s (entries_in l.lines l.table)) ≡ written_from l.from l.initial.index (index_of l.s (entries_in l.lines l.table)))
    × (length l.index ≡ length l.initial.index)
    × (l.added ≡ added_before l.s l.k (entries_in l.k l.table))
