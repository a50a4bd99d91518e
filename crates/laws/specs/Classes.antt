-- What a character of each class is (rule 2).
-- Assumes nothing.
use Rattle.std.specs.Prelude.{ℕ, ◌≡◌, true, false, ◌&&◌, not, eqb}
use Rattle.std.proofs.Common.{eqb-true}
use Rattle.basis.specs.Choice.{pick_cases}
use Rattle.utf8.specs.WhiteSpace.{is_white}
use Rattle.meaning.specs.Characters.{glue, Class, lf, cr, ht, shy, zwsp, blank, letter, class_of, in_word, in_run}

-- The character of a class that has one, and whether the others are white space that does not glue.
abbrev pub Classed : Class → ℕ → Type 0
Classed lf c = c ≡ 0x000A
Classed cr c = c ≡ 0x000D
Classed ht c = c ≡ 0x0009
Classed shy c = c ≡ 0x00AD
Classed zwsp c = c ≡ 0x200B
Classed blank c = is_white c && not (glue c) ≡ true
Classed letter c = is_white c && not (glue c) ≡ false

-- A character by its class: a lemma by clauses on a class `k`, with `class_of c ≡ k` and `Classed k c`, is used at `class_of c`,
-- `refl` and `classed c`.
pub classed : (c : ℕ) → Classed (class_of c) c
unfolding class_of
classed c =
    let P : Class → Type 0 = λ k. Classed k c in
    pick_cases P (eqb c 0x000A) (λ e. eqb-true c 0x000A e) λ _.
    pick_cases P (eqb c 0x000D) (λ e. eqb-true c 0x000D e) λ _.
    pick_cases P (eqb c 0x0009) (λ e. eqb-true c 0x0009 e) λ _.
    pick_cases P (eqb c 0x00AD) (λ e. eqb-true c 0x00AD e) λ _.
    pick_cases P (eqb c 0x200B) (λ e. eqb-true c 0x200B e) λ _.
    pick_cases P (is_white c && not (glue c)) (λ e. e) (λ e. e)

pub word_class_lem : (c : ℕ) → class_of c ≡ letter → in_word c ≡ true
unfolding in_word
word_class_lem c e = rw e

pub run_class_lem : (c : ℕ) → class_of c ≡ blank → in_run c ≡ true
unfolding in_run
run_class_lem c e = rw e
