-- `tokenizer::write::put_token` meets its contract (rule 3).
use Rattle.std.proofs.Common.{arith, length-set}
use Rattle.tokenizer.proofs.WriteLaws.{four-sets}
use Rattle.tokenizer.proofs.write.put_token.Goals as goal

pub bounds-buffer-place-2 : goal.bounds-buffer-place-2
bounds-buffer-place-2 c =
    simp length-set (omega arith)

pub bounds-buffer-place-3 : goal.bounds-buffer-place-3
bounds-buffer-place-3 c =
    simp length-set (omega arith)

pub bounds-buffer-place-4 : goal.bounds-buffer-place-4
bounds-buffer-place-4 c =
    simp length-set (omega arith)

pub returns : goal.returns
returns c =
    four-sets _ _ _ _ _ c.from.ensures
