use Rattle.std.proofs.Common.{ℕ, ◌≡◌, refl, sym, ap, ◌∙◌, arith, drop}
use Rattle.meaning.specs.LayoutFile.{lines_at}
use Rattle.meaning.specs.ReadFile.{lines_in}
use Rattle.meaning.specs.Table.{of_entry, of_all}
use Rattle.table.specs.Numbers.{put_numbers}
use Rattle.table.specs.Stretches.{put-none}
use Rattle.file_fields.specs.Putting.{put_written}
use Rattle.files.specs.Reading.{table-next}
use Rattle.files.proofs.lines.write_table.Goals as goal

pub loop-k-init : goal.loop-k-init
unfolding of_all lines_in
loop-k-init c =
    (sym (put-none c.args.table.now 0), refl)

pub loop-k-preserved : goal.loop-k-preserved
loop-k-preserved c =
    (c.read_numbers.ensures ∙ table-next c.args.table.now c.loop-k.table c.args.file.now c.loop-k.k c.loop-k.invariant.0, omega (arith, c.read_numbers.auto.buffer))

pub returns : goal.returns
returns c =
    let e : c.loop-k.k ≡ c.args.lines = omega arith in
    c.loop-k.invariant.0 ∙ ap (λ (j : ℕ). put_numbers c.args.table.now 0 (of_all of_entry (lines_in j (drop lines_at c.args.file.now)))) e ∙ put_written c.args.table.now (of_all of_entry (lines_in c.args.lines (drop lines_at c.args.file.now)))
