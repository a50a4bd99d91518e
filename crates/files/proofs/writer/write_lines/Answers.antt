use Rattle.std.proofs.Common.{refl, sym, ◌∙◌, arith}
use Rattle.meaning.specs.LayoutFile.{lines_at}
use Rattle.meaning.specs.Table.{of_all, entries_in}
use Rattle.table.specs.Stretches.{put-none}
use Rattle.files.specs.Writing.{lines_next}
use Rattle.files.proofs.writer.write_lines.Goals as goal

pub loop-k-init : goal.loop-k-init
unfolding of_all entries_in
loop-k-init c =
    (sym (put-none c.args.file.now lines_at), refl)

pub loop-k-preserved : goal.loop-k-preserved
loop-k-preserved c =
    (c.write_line.ensures ∙ lines_next c.args.file.now c.loop-k.file c.args.table.now c.loop-k.k c.loop-k.invariant.0 (omega arith), omega (arith, c.write_line.auto.file))
