use Rattle.std.proofs.Common.{ℕ, refl, ◌≡◌, sym, ap, ◌∙◌, arith, take, drop}
use Rattle.meaning.specs.LayoutFile.{bytes_of}
use Rattle.meaning.specs.Table.{of_all}
use Rattle.table.specs.Numbers.{put_numbers}
use Rattle.table.specs.Stretches.{put-none}
use Rattle.file_fields.specs.Putting.{write_next}
use Rattle.file_fields.proofs.numbers.write_numbers.Goals as goal

pub loop-i-init : goal.loop-i-init
unfolding of_all
loop-i-init c =
    (sym (put-none c.args.file.now c.args.at), refl)

pub loop-i-preserved : goal.loop-i-preserved
loop-i-preserved c =
    (c.write_number.ensures ∙ write_next c.args.file.now c.loop-i.file c.args.at c.args.buffer.now c.args.place c.loop-i.i c.loop-i.invariant.0 (omega arith) (omega arith), omega (arith, c.write_number.auto.file))

pub shape_of-file : goal.shape_of-file
shape_of-file c =
    c.loop-i.invariant.1

pub returns : goal.returns
returns c =
    let e : c.loop-i.i ≡ c.args.count = omega arith in
    c.loop-i.invariant.0 ∙ ap (λ (k : ℕ). put_numbers c.args.file.now c.args.at (of_all bytes_of (take k (drop c.args.place c.args.buffer.now)))) e
