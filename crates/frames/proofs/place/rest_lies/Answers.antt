-- `frames::place::rest_lies` meets its contract (refusal 5).
use Rattle.std.proofs.Common.{arith, ◌≡◌, sym, ◌∙◌, true}
use Rattle.utf8.specs.Decoding.{decode_all}
use Rattle.utf8.specs.Places.{boundary}
use Rattle.laws.specs.PartChars.{part-boundary}
use Rattle.frames.specs.Resuming.{lies-low, lies-off, lies-by}
use Rattle.frames.proofs.place.rest_lies.Goals as goal

pub returns-then-end-start : goal.returns-then-end-start
returns-then-end-start c =
    lies-low _ _ _ c.if-end-start.true

pub returns-then-not-is_boundary : goal.returns-then-not-is_boundary
returns-then-not-is_boundary c =
    lies-off _ _ _ c.if-end-start.false (sym (part-boundary _ c.requires.0 _) ∙ sym c.is_boundary.ensures ∙ c.if-not-is_boundary.true)

pub chars_between-requires : goal.chars_between-requires
chars_between-requires c =
    (c.requires.0, c.requires.1, (let ends_here : boundary (decode_all c.args.text.now) c.args.rest.end.0 ≡ true = sym (part-boundary _ c.requires.0 _) ∙ sym c.is_boundary.ensures ∙ c.if-not-is_boundary.false in ends_here), omega (arith, c.if-end-start.false))

pub returns : goal.returns
returns c =
    lies-by _ _ _ c.if-end-start.false _ c.chars_between.ensures ((let ends_here : boundary (decode_all c.args.text.now) c.args.rest.end.0 ≡ true = sym (part-boundary _ c.requires.0 _) ∙ sym c.is_boundary.ensures ∙ c.if-not-is_boundary.false in ends_here))
