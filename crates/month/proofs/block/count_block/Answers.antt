-- `month::block::count_block` meets its contract.
use Rattle.std.proofs.Common.{refl, sym}
use Rattle.std.proofs.lemmas.Bool.{not_from_true, not_from_false}
use Rattle.month.specs.Going.{went-short, went-still, went-ended, went-sums}
use Rattle.month.proofs.block.count_block.Goals as goal

pub returns-then-is_some-clause-went_on : goal.returns-then-is_some-clause-went_on
returns-then-is_some-clause-went_on c =
    went-short _ _ _ _ _ _ (not_from_true _ (sym c.if-is_some.ensures)) c.requires.held_le_end _ _ _ c.count_from.ensures.went_from

pub returns-then-is_some-clause-sums_went_on : goal.returns-then-is_some-clause-sums_went_on
returns-then-is_some-clause-sums_went_on c =
    went-short _ _ _ _ _ _ (not_from_true _ (sym c.if-is_some.ensures)) c.requires.held_le_end _ _ _ c.count_from.ensures.sums_went_from

pub returns-in-None-clause-went_on : goal.returns-in-None-clause-went_on
returns-in-None-clause-went_on c =
    went-still _ _ _ _ _ _ (not_from_false _ (sym c.if-is_some.ensures)) _ c.in-None.ensures _ refl refl

pub returns-in-None-clause-sums_went_on : goal.returns-in-None-clause-sums_went_on
returns-in-None-clause-sums_went_on c =
    went-sums _ _ _ _ _ _ _ c.requires.counts.room c.in-None.ensures.counts.room _ _
    (went-still _ _ _ _ _ _ (not_from_false _ (sym c.if-is_some.ensures)) _ c.in-None.ensures _ refl refl)

pub returns-in-Some-clause-went_on : goal.returns-in-Some-clause-went_on
returns-in-Some-clause-went_on c =
    went-ended _ _ _ _ _ _ (not_from_false _ (sym c.if-is_some.ensures)) _ _ c.in-Some.ensures _ _ _ c.count_from-in-Some.ensures.went_from

pub returns-in-Some-clause-sums_went_on : goal.returns-in-Some-clause-sums_went_on
returns-in-Some-clause-sums_went_on c =
    went-sums _ _ _ _ _ _ _ c.requires.counts.room c.count_from-in-Some.ensures.stepped.counts.room _ _
    (went-ended _ _ _ _ _ _ (not_from_false _ (sym c.if-is_some.ensures)) _ _ c.in-Some.ensures _ _ _ c.count_from-in-Some.ensures.went_from)
