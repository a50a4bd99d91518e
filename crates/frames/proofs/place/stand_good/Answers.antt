-- `frames::place::stand_good` meets its contract (refusal 5).
use Rattle.std.proofs.Common.{◌≡◌, sym, ◌∙◌, true}
use Rattle.utf8.specs.Decoding.{decode_all}
use Rattle.utf8.specs.Places.{boundary}
use Rattle.laws.specs.PartChars.{part-boundary}
use Rattle.frames.specs.Resuming.{stand-off, stand-none, stand-by}
use Rattle.frames.proofs.place.stand_good.Goals as goal

pub returns-then-not-is_boundary : goal.returns-then-not-is_boundary
returns-then-not-is_boundary c =
    stand-off _ _ _ (sym (part-boundary _ c.requires _) ∙ sym c.is_boundary.ensures ∙ c.if-not-is_boundary.true)

pub returns-then-is_none : goal.returns-then-is_none
returns-then-is_none c =
    stand-none _ _ _ ((let starts_here : boundary (decode_all c.args.text.now) c.args.start ≡ true = sym (part-boundary _ c.requires _) ∙ sym c.is_boundary.ensures ∙ c.if-not-is_boundary.false in starts_here)) (sym c.is_none.ensures ∙ c.if-is_none.true)

pub rest_lies-requires : goal.rest_lies-requires
rest_lies-requires c =
    (c.requires, (let starts_here : boundary (decode_all c.args.text.now) c.args.start ≡ true = sym (part-boundary _ c.requires _) ∙ sym c.is_boundary.ensures ∙ c.if-not-is_boundary.false in starts_here))

pub returns : goal.returns
returns c =
    c.rest_lies.ensures ∙ stand-by _ _ _ ((let starts_here : boundary (decode_all c.args.text.now) c.args.start ≡ true = sym (part-boundary _ c.requires _) ∙ sym c.is_boundary.ensures ∙ c.if-not-is_boundary.false in starts_here)) (sym c.is_none.ensures ∙ c.if-is_none.false)
