-- `edits::checking::check_whole` meets its contract (refusal 1, refusal 2, refusal 3, refusal 4, refusal 5, refusal 6).
use Rattle.std.proofs.Common.{◌≡◌, sym, ◌∙◌}
use Rattle.std.specs.Prelude.{Ok}
use Rattle.meaning.specs.WellFormed.{check_table}
use Rattle.look.specs.GoodTable.{table-room}
use Rattle.look.specs.Looking.{look_says}
use Rattle.edits.proofs.CheckLaws.{whole-none, whole-some}
use Rattle.edits.proofs.checking.check_whole.Goals as goal

pub text_length-requires : goal.text_length-requires
text_length-requires c =
    table-room _ _ ((look_says _ _ _ _ (sym c.in-Ok.is ∙ c.requires)).0)

pub returns-in-Ok : goal.returns-in-Ok
returns-in-Ok c =
    c.whole_of.ensures ∙ whole-some _ _ _ ((look_says _ _ _ _ (sym c.in-Ok.is ∙ c.requires)).0) _ c.text_length.ensures

pub returns-in-Err : goal.returns-in-Err
returns-in-Err c =
    whole-none _ _ _ _ (look_says _ _ _ _ (sym c.in-Err.is ∙ c.requires))
