-- `frames::place::chars_between` meets its contract (refusal 5).
use Rattle.std.proofs.Common.{ℕ, ◌+◌, ◌-◌, arith, ◌≡◌, subst, ◌∙◌, true}
use Rattle.utf8.specs.Decoding.{decode_all}
use Rattle.utf8.specs.Places.{boundary}
use Rattle.laws.specs.PartChars.{cut-within}
use Rattle.laws.specs.Between.{count-between}
use Rattle.frames.proofs.place.chars_between.Goals as goal

pub slice_bounds-count_chars-end : goal.slice_bounds-count_chars-end
slice_bounds-count_chars-end c =
    cut-within _ c.requires.0 _ c.requires.2

pub returns : goal.returns
returns c =
    let cs = decode_all c.args.text.now in
    let e : c.args.to ≡ c.args.from + (c.args.to - c.args.from) = omega (arith, c.requires.3) in
    let to : boundary cs (c.args.from + (c.args.to - c.args.from)) ≡ true = subst (λ (n : ℕ). boundary cs n ≡ true) e c.requires.2 in
    c.count_chars.ensures ∙ count-between c.args.text.now c.requires.0 c.args.from c.requires.1 (c.args.to - c.args.from) to
