-- `edits::checking::whole_of` meets its contract (refusal 1, refusal 2, refusal 3, refusal 4, refusal 5, refusal 6).
use Rattle.std.proofs.Common.{sym, ap, ◌∙◌}
use Rattle.edits.specs.Checking.{whole_checked, whole_of}
use Rattle.edits.proofs.checking.whole_of.Goals as goal

pub returns-in-Some : goal.returns-in-Some
unfolding whole_of
returns-in-Some c =
    c.check_length.ensures ∙ ap whole_checked (sym c.in-Some.is ∙ c.edited_whole.ensures)

pub returns-in-None : goal.returns-in-None
unfolding whole_of
returns-in-None c =
    ap whole_checked (sym c.in-None.is ∙ c.edited_whole.ensures)
