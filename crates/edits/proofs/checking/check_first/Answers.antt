-- `edits::checking::check_first` meets its contract (refusal 1, refusal 2, refusal 3, refusal 4, refusal 5, refusal 6).
use Rattle.std.proofs.Common.{sym, ◌∙◌, arith}
use Rattle.look.specs.GoodTable.{table-room}
use Rattle.look.specs.Looking.{looked-line, looked_bad}
use Rattle.edits.specs.Checking.{no_line, bad_rest}
use Rattle.edits.proofs.CheckLaws.{edit-length, edit-ends, edit-fits}
use Rattle.edits.proofs.checking.check_first.Goals as goal

pub returns-then-lines-k : goal.returns-then-lines-k
returns-then-lines-k c =
    looked_bad _ _ _ _ (sym (no_line _ _ _ _ c.requires.2 _ c.if-lines-k.true))

pub read_entry-e-requires : goal.read_entry-e-requires
read_entry-e-requires c =
    omega (arith, c.if-lines-k.false, table-room _ _ c.requires.1)

pub returns-then-not-rest_fits : goal.returns-then-not-rest_fits
returns-then-not-rest_fits c =
    looked_bad _ _ _ _ (sym (bad_rest _ _ _ _ c.requires.2 _ c.if-lines-k.false _ c.read_entry-e.ensures
    (sym c.rest_fits.ensures ∙ c.if-not-rest_fits.true)))

pub text_length-requires : goal.text_length-requires
text_length-requires c =
    table-room _ _ c.requires.1

pub returns-then-not-length_fits : goal.returns-then-not-length_fits
returns-then-not-length_fits c =
    looked_bad _ _ _ _ (sym (edit-length _ _ _ _ c.requires.2 _ c.if-lines-k.false _ c.read_entry-e.ensures
    (sym c.rest_fits.ensures ∙ c.if-not-rest_fits.false) _ c.text_length.ensures
    (sym c.length_fits.ensures ∙ c.if-not-length_fits.true)))

pub returns-then-not-ends_fit : goal.returns-then-not-ends_fit
returns-then-not-ends_fit c =
    looked_bad _ _ _ _ (sym (edit-ends _ _ _ _ c.requires.2 _ c.if-lines-k.false _ c.read_entry-e.ensures
    (sym c.rest_fits.ensures ∙ c.if-not-rest_fits.false) _ c.text_length.ensures
    (sym c.length_fits.ensures ∙ c.if-not-length_fits.false)
    (sym c.ends_fit.ensures ∙ c.if-not-ends_fit.true)))

pub returns : goal.returns
returns c =
    looked-line _ _ _ _ (sym (edit-fits _ _ _ _ c.requires.2 _ c.if-lines-k.false _ c.read_entry-e.ensures
    (sym c.rest_fits.ensures ∙ c.if-not-rest_fits.false) _ c.text_length.ensures
    (sym c.length_fits.ensures ∙ c.if-not-length_fits.false)
    (sym c.ends_fit.ensures ∙ c.if-not-ends_fit.false))) c.requires.2
