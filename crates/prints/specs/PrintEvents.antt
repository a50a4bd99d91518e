-- The one event of a word in which nothing glues, and of its first characters.
-- Assumes nothing.
use Rattle.std.specs.Prelude.{ℕ, ◌+◌, ◌*◌, ◌≡◌, refl, List, [], ◌∷◌, length, take}
use Rattle.std.proofs.Common.{sym, ap, ◌∙◌, arith}
use Rattle.basis.specs.Choice.{pick, by_test}
use Rattle.utf8.specs.Encoding.{size}
use Rattle.meaning.specs.Characters.{glue}
use Rattle.meaning.specs.Words.{drawn, last, grow, stretches, glues, drawn_stretches, drawn_word}
use Rattle.meaning.specs.declared.cursor.Spaces.{Spaces}
use Rattle.meaning.specs.declared.line.EventKind.TheVariants.{Printed}
use Rattle.parser.specs.Lexing.{chars_from, part_of}
use Rattle.parser.specs.declared.part.Part.{Part}
use Rattle.prints.specs.TokenDrawn.{PartIs}

stretches-one : (cs : List ℕ) → glues cs ≡ 0 → stretches cs ≡ last cs
unfolding stretches glues grow pick
stretches-one [] h = refl
stretches-one (c ∷ cs) h =
    by_test (glue c) (λ e. absurd (let z = rw e at h in omega (arith, z))) (λ e. rw (e, stretches-one cs (rw e at h)))

pub one_print : (g : ℕ) (sp : Spaces) (at : ℕ) (cs : List ℕ) → glues cs ≡ 0
    → drawn_word g sp at cs ≡ drawn Printed at (at + size cs) 0 (length cs * g) ∷ []
unfolding drawn_word drawn_stretches
one_print g sp at cs h = rw (stretches-one cs h)

-- Of so many characters none glues.
pub part_print : (g : ℕ) (sp : Spaces) (t : List ℕ) (at n : ℕ) (part : Part) → PartIs t at n part → part.glues.0 ≡ 0
    → drawn Printed at part.end.0 0 (n * g) ∷ [] ≡ drawn_word g sp at (take n (chars_from t at))
unfolding part_of
part_print g sp t at n part h z =
    let cs = take n (chars_from t at) in
    let none : glues cs ≡ 0 = sym (ap (λ (q : Part). q.glues.0) h.0) ∙ z in
    let end : part.end.0 ≡ at + size cs = ap (λ (q : Part). q.end.0) h.0 in
    (λ i. drawn Printed at (end i) 0 (sym h.1 i * g) ∷ []) ∙ sym (one_print g sp at cs none)
