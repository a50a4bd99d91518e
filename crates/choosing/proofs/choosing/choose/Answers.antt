-- `choosing::choosing::choose` meets its contract (rule 10, refusal 1, refusal 2, refusal 3, refusal 4).
use Rattle.std.proofs.Common.{sym, ap, ◌∙◌, length}
use Rattle.choosing.specs.Choosing.{choosing-refused, long-takeable, short-takeable, chosen-long, bytes-end, chosen-short}
use Rattle.choosing.specs.Taking.{whole_is}
use Rattle.laws.specs.Asked.{asked}
use Rattle.choosing.proofs.choosing.choose.Goals as goal

pub returns-in_err-check_choosing : goal.returns-in_err-check_choosing
returns-in_err-check_choosing c =
    asked _ c.from_residual.ensures.1 ∙ choosing-refused _ _ _ _ _ (sym c.check_choosing.ensures ∙ c.in_err-check_choosing.was)

pub take_lines-requires : goal.take_lines-requires
take_lines-requires c =
    long-takeable _ _ _ _ (sym c.check_choosing.ensures ∙ c.in_ok-check_choosing.was)

pub chosen_part-part-requires : goal.chosen_part-part-requires
chosen_part-part-requires c =
    (whole_is _ _ _ _ c.take_lines.ensures _ c.is_none-fits.ensures, short-takeable _ _ _ _ (sym c.check_choosing.ensures ∙ c.in_ok-check_choosing.was))

pub returns-then-fits : goal.returns-then-fits
returns-then-fits c =
    chosen-long _ _ _ _ (sym c.check_choosing.ensures ∙ c.in_ok-check_choosing.was) (sym (whole_is _ _ _ _ c.take_lines.ensures _ c.is_none-fits.ensures) ∙ c.if-fits.true) _ (ap length c.chosen_part-part.ensures)

pub chars_behind-left_out-requires : goal.chars_behind-left_out-requires
chars_behind-left_out-requires c =
    let good = sym c.check_choosing.ensures ∙ c.in_ok-check_choosing.was in
    let e = sym (whole_is _ _ _ _ c.take_lines.ensures _ c.is_none-fits.ensures) ∙ c.if-fits.false in
    ((short-takeable _ _ _ _ good).utf8, bytes-end _ _ _ _ good e _ (ap length c.chosen_part-part.ensures))

pub returns : goal.returns
returns c =
    let e = sym (whole_is _ _ _ _ c.take_lines.ensures _ c.is_none-fits.ensures) ∙ c.if-fits.false in
    chosen-short _ _ _ _ (sym c.check_choosing.ensures ∙ c.in_ok-check_choosing.was) e _ (ap length c.chosen_part-part.ensures) _ c.chars_behind-left_out.ensures
