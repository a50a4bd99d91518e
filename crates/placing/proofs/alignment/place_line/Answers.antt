-- `placing::alignment::place_line` meets its contract (rule 6).
use Rattle.std.proofs.Common.{sym, ◌∙◌, arith}
use Rattle.meaning.specs.Alignment.{ends_paragraph}
use Rattle.placing.specs.PlaceLaws.{counts, at_left, in_centre, at_right, last-plain, in_block}
use Rattle.placing.proofs.alignment.place_line.Goals as goal

pub returns-then-s-eq0 : goal.returns-then-s-eq0
returns-then-s-eq0 c =
    at_left _ _ _ _ _ _ c.saturating_sub-room.ensures c.plain_spaces-spaces.ensures c.if-s-eq0.true

pub returns-then-s-eq1 : goal.returns-then-s-eq1
returns-then-s-eq1 c =
    in_centre _ _ _ _ _ _ c.saturating_sub-room.ensures c.plain_spaces-spaces.ensures c.if-s-eq1.true

pub returns-then-s-eq2 : goal.returns-then-s-eq2
returns-then-s-eq2 c =
    at_right _ _ _ _ _ _ c.saturating_sub-room.ensures c.plain_spaces-spaces.ensures c.if-s-eq2.true

pub returns-then-stays_plain : goal.returns-then-stays_plain
returns-then-stays_plain c =
    last-plain _ _ _ _ _ _ c.saturating_sub-room.ensures c.plain_spaces-spaces.ensures
    c.if-s-eq0.false c.if-s-eq1.false c.if-s-eq2.false
    (sym c.stays_plain.ensures ∙ c.if-stays_plain.true)

pub shared_out-wide-requires : goal.shared_out-wide-requires
shared_out-wide-requires c = (
  c.requires.0,
  omega (arith, c.saturating_sub-room.ensures),
  counts (ends_paragraph c.args.ended) c.args.n.0 (sym c.stays_plain.ensures ∙ c.if-stays_plain.false),
  c.requires.1,
)

pub returns : goal.returns
returns c =
    in_block _ _ _ _ _ _ c.saturating_sub-room.ensures c.plain_spaces-spaces.ensures
    c.if-s-eq0.false c.if-s-eq1.false c.if-s-eq2.false _
    (sym c.stays_plain.ensures ∙ c.if-stays_plain.false) c.shared_out-wide.ensures
