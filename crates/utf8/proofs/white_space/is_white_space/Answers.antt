-- `utf8::white_space::is_white_space` meets its contract (rule 1).
use Rattle.std.proofs.Common.{sym, inl, inr, arith, ltb-true}
use Rattle.basis.specs.Choice.{and_true}
use Rattle.utf8.specs.Members.{above-all, between-spaces, between-breaks}
use Rattle.utf8.proofs.Ranges.{in_single, in_controls, in_quads, in_separators, below_controls, below_quads, past_separators}
use Rattle.utf8.proofs.white_space.is_white_space.Goals as goal

-- The early answers.
pub returns-then-c-gt12288 : goal.returns-then-c-gt12288
returns-then-c-gt12288 c =
    sym (above-all _ (omega arith))

pub returns-then-c : goal.returns-then-c
returns-then-c c =
    let b = and_true _ _ c.if-c.true in
    sym (between-spaces _ (ltb-true _ _ b.0) (ltb-true _ _ b.1))

-- In none of the ranges.
pub returns-in_default : goal.returns-in_default
returns-in_default c =
    sym (below_controls _ (omega arith))

pub returns-in_default-2 : goal.returns-in_default-2
returns-in_default-2 c =
    sym (below_quads _ (omega arith) (omega arith) (search (inl, inr, c.in_default.in_default-own.rest.1)))

pub returns-in_default-3 : goal.returns-in_default-3
returns-in_default-3 c =
    sym (between-breaks _ (omega arith) (omega arith))

pub returns-in_default-4 : goal.returns-in_default-4
returns-in_default-4 c =
    sym (past_separators _ (omega arith) (omega arith) (search (inl, inr, c.in_default.in_default-own.rest.1) depth 8))

-- In a range.
pub returns-in-9-to-13 : goal.returns-in-9-to-13
returns-in-9-to-13 c =
    sym (in_single _ c.in-9-to-13.in-9-to-13-own.keys1)

pub returns-in-9-to-13-2 : goal.returns-in-9-to-13-2
returns-in-9-to-13-2 c =
    sym (in_controls _ (omega arith) (omega arith))

pub returns-in-9-to-13-3 : goal.returns-in-9-to-13-3
returns-in-9-to-13-3 c =
    sym (in_quads _ (omega arith) (omega arith))

pub returns-in-9-to-13-4 : goal.returns-in-9-to-13-4
returns-in-9-to-13-4 c =
    sym (in_separators _ (omega arith) (omega arith))
