use Rattle.std.proofs.Common.{ℕ, refl, sym, ap, ◌∙◌, arith, length-set, drop}
use Rattle.meaning.specs.ReadFile.{numbers_in}
use Rattle.table.specs.Numbers.{put_numbers}
use Rattle.table.specs.Stretches.{put-none}
use Rattle.file_fields.specs.Putting.{read_next}
use Rattle.file_fields.proofs.numbers.read_numbers.Goals as goal

pub loop-i-init : goal.loop-i-init
unfolding numbers_in
loop-i-init c =
    (sym (put-none c.args.buffer.now c.args.place), refl)

pub loop-i-preserved : goal.loop-i-preserved
loop-i-preserved c =
    (read_next c.args.buffer.now c.loop-i.buffer c.args.place c.args.file.now c.args.at c.loop-i.i _ c.loop-i.invariant.0 c.loop-i.invariant.1 c.read_number.ensures (omega arith), simp length-set c.loop-i.invariant.1)

pub shape_of-buffer : goal.shape_of-buffer
shape_of-buffer c =
    c.loop-i.invariant.1

pub returns : goal.returns
returns c =
    c.loop-i.invariant.0 ∙ ap (λ (k : ℕ). put_numbers c.args.buffer.now c.args.place (numbers_in k (drop c.args.at c.args.file.now))) (omega arith)
