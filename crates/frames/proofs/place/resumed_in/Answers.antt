-- `frames::place::resumed_in` meets its contract (refusal 5, rule 9).
use Rattle.std.proofs.Common.{◌-◌, arith, sym, ◌∙◌}
use Rattle.frames.specs.Resuming.{good_start, good-above, good-end, resumed-few, resumes_none, resumes_some}
use Rattle.frames.proofs.place.resumed_in.Goals as goal

pub returns-then-is_none : goal.returns-then-is_none
returns-then-is_none c =
    c.nothing_left.ensures ∙ resumes_none _ _ _ (sym c.is_none.ensures ∙ c.if-is_none.true)

pub chars_between-chars-requires : goal.chars_between-chars-requires
chars_between-chars-requires c =
    let some = sym c.is_none.ensures ∙ c.if-is_none.false in
    (c.requires.0, good_start _ _ _ c.requires.2, good-end _ _ _ c.requires.2 some, omega (arith, good-above _ _ _ c.requires.2 some))

pub overflow_cast-result : goal.overflow_cast-result
overflow_cast-result c =
    let few = resumed-few c.args.text.now c.args.start (c.args.rest.end.0 - c.args.start) c.requires.0 in
    record { fits = omega (arith, c.chars_between-chars.ensures, few, c.requires.1) }

pub returns : goal.returns
returns c =
    resumes_some _ _ _ (sym c.is_none.ensures ∙ c.if-is_none.false) _ c.chars_between-chars.ensures
