-- `files::reader::lines_of` meets its contract (refusal 1, refusal 2, refusal 3, refusal 5, refusal 8, refusal 9, refusal 11, refusal 12).
use Rattle.std.proofs.Common.{refl, arith}
use Rattle.meaning.specs.ReadFile.{file_lines}
use Rattle.files.specs.ReadingCalls.{file_framed}
use Rattle.files.proofs.reader.lines_of.Goals as goal

pub overflow_sub-result : goal.overflow_sub-result
overflow_sub-result c =
    omega (arith, file_framed c.args.file.now c.requires)

pub returns : goal.returns
unfolding file_lines
returns c =
    refl
