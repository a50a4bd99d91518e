-- `frames::place::chars_before` meets its contract (refusal 5).
use Rattle.std.proofs.Common.{ℕ, arith, ◌≡◌, refl, sym, ap, ◌∙◌, List, [], ◌∷◌, leb, length-take-le}
use borrow.Author.Tests.{lt-leb}
use Rattle.basis.specs.Choice.{pick-false}
use Rattle.utf8.specs.Decoding.{decode_all}
use Rattle.utf8.specs.Encoding.{bytes}
use Rattle.utf8.specs.Sizes.{bytes_range}
use Rattle.meaning.specs.Edit.{chars_in}
use Rattle.laws.specs.PartChars.{cut-within, cut-count}
use Rattle.frames.proofs.place.chars_before.Goals as goal

-- No bytes hold no character.
none_before : (cs : List ℕ) → chars_in cs 0 ≡ 0
unfolding chars_in
none_before [] = refl
none_before (c ∷ cs) = pick-false (leb (bytes c) 0) _ _ (lt-leb (bytes c) 0 (omega (arith, bytes_range c)))

pub returns-then-start-eq0 : goal.returns-then-start-eq0
returns-then-start-eq0 c =
    sym (ap (chars_in (decode_all c.args.text.now)) c.if-start-eq0.true ∙ none_before _)

pub slice_bounds-count_long-end : goal.slice_bounds-count_long-end
slice_bounds-count_long-end c =
    sym (length-take-le c.args.start c.args.text.now (cut-within _ c.requires.0 _ c.requires.1))

pub returns : goal.returns
returns c =
    c.count_long.ensures ∙ cut-count _ c.requires.0 _ c.requires.1
