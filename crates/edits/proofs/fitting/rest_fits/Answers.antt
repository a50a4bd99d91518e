-- `edits::fitting::rest_fits` meets its contract (refusal 5).
use Rattle.std.proofs.Common.{sym, ◌∙◌}
use Rattle.edits.specs.RestFits.{fits-none}
use Rattle.edits.proofs.FitLaws.{no_boundary, a-boundary, counts-few}
use Rattle.edits.proofs.fitting.rest_fits.Goals as goal

pub returns-then-has_no_rest : goal.returns-then-has_no_rest
returns-then-has_no_rest c =
    fits-none _ _ (sym c.has_no_rest.ensures ∙ c.if-has_no_rest.true)

pub returns-then-not-is_boundary : goal.returns-then-not-is_boundary
returns-then-not-is_boundary c =
    no_boundary _ _ c.requires (sym c.has_no_rest.ensures ∙ c.if-has_no_rest.false) _ c.rest_end-end.ensures
    (sym c.is_boundary.ensures ∙ c.if-not-is_boundary.true)

pub chars_before-requires : goal.chars_before-requires
chars_before-requires c = (
  c.requires,
  a-boundary _ _ c.requires (sym c.has_no_rest.ensures ∙ c.if-has_no_rest.false) _ c.rest_end-end.ensures
      (sym c.is_boundary.ensures ∙ c.if-not-is_boundary.false),
)

pub returns : goal.returns
returns c =
    counts-few _ _ c.requires (sym c.has_no_rest.ensures ∙ c.if-has_no_rest.false) _ c.rest_end-end.ensures _
    (sym c.is_boundary.ensures ∙ c.if-not-is_boundary.false) c.chars_before.ensures
