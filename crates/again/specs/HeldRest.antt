-- The rest that the first affected line resumes, from its entry and the lent part.
-- Assumes nothing.
use Rattle.std.specs.Prelude.{ℕ, ◌≡◌, true, List, leb, Ok}
use Rattle.std.proofs.Common.{arith, leb-true}
use Rattle.basis.specs.Choice.{pick, pick_true, pick-false, by_test, and_true}
use Rattle.utf8.specs.Decoding.{decode_all}
use Rattle.utf8.specs.Places.{boundary}
use Rattle.meaning.specs.Checks.{check_utf8}
use Rattle.meaning.specs.WellFormed.{no_rest}
use Rattle.meaning.specs.Edit.{chars_in, rest_fits, held_of}
use Rattle.meaning.specs.declared.line.Entry.{Entry}
use Rattle.laws.specs.LinesTake.{chars-within}
use Rattle.parser.specs.Lexing.{chars_from}
use Rattle.steps.specs.Unrolled.{nothing_resumed}
use Rattle.steps.specs.Running.{none-fits}
use Rattle.placing.specs.LineFrom.{held_in}
use Rattle.steps.specs.Pending.{RestFits}
use Rattle.steps.specs.declared.step.Resumed.{Resumed}
use Rattle.laws.specs.PartChars.{cut-size}
use Rattle.edits.specs.RestFits.{rest_end}

unfoldable pub resumed_of : Entry → List ℕ → Resumed
resumed_of e cs =
    pick (no_rest e) nothing_resumed
    (record { end = record { 0 = rest_end e }; chars = record { 0 = chars_in cs (rest_end e) }; count = e.rest.count })

-- It stands for what the definition says is held.
pub resumed-held : (e : Entry) (cs : List ℕ) → held_in (resumed_of e cs) ≡ held_of e cs
unfolding resumed_of held_of pick
resumed-held e cs = by_test (no_rest e) (λ t. rw t) (λ t. rw t)

-- One that fits is the part's first characters.
pub resumed-fits : (t : List ℕ) (e : Entry) → check_utf8 t ≡ Ok tt → rest_fits e (decode_all t) ≡ true → RestFits t 0 (resumed_of e (decode_all t))
unfolding chars_from resumed_of rest_fits
resumed-fits t e u f =
    let cs = decode_all t in
    let n = rest_end e in
    by_test (no_rest e) (λ none. none-fits t 0 (resumed_of e cs) (pick_true _ _ _ none))
    (λ some.
    let both = and_true (boundary cs n) (leb e.rest.count.0 (chars_in cs n)) (rw some at f) in
    rw (pick-false (no_rest e) nothing_resumed (record { end = record { 0 = n }; chars = record { 0 = chars_in cs n }; count = e.rest.count }) some)
    (record {
      within = chars-within cs n;
      counts = leb-true e.rest.count.0 (chars_in cs n) both.1;
      ends = λ _. omega (arith, cut-size t u n both.0);
    }))
