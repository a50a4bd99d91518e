-- Which class a character has, by tests of its number, below U+0080 and from there on.
-- Assumes nothing.
use Rattle.std.specs.Prelude.{◌≡◌, refl, Bool, true, false, not, ℕ, ◌≤◌, ◌<◌, ltb, eqb}
use Rattle.std.proofs.Math.Path.{sym}
use Rattle.std.proofs.Common.{◌∙◌, arith}
use Rattle.std.proofs.lemmas.Bool.{false≢true}
use borrow.Author.Tests.{ne_eqb}
use Rattle.basis.specs.Choice.{pick, by_test}
use Rattle.basis.specs.Order.{by_eq}
use Rattle.basis.specs.Tables.{agree-below}
use Rattle.utf8.specs.WhiteSpace.{white_spaces, member, is_white}
use Rattle.meaning.specs.Characters.{glue, Class, lf, cr, ht, shy, zwsp, blank, letter, class_of, word_class, in_word, in_run}

-- ---- classes

pub letter_of : (k : Class) → word_class k ≡ true → k ≡ letter
letter_of letter e = refl
letter_of lf e = absurd (false≢true e)
letter_of cr e = absurd (false≢true e)
letter_of ht e = absurd (false≢true e)
letter_of shy e = absurd (false≢true e)
letter_of zwsp e = absurd (false≢true e)
letter_of blank e = absurd (false≢true e)

-- A character of words is none of space runs.
pub word_no_run : (c : ℕ) → in_word c ≡ true → in_run c ≡ false
unfolding in_word in_run
word_no_run c e = rw (letter_of (class_of c) e)

-- ---- ASCII: every number is tried

abbrev pub ascii_word : ℕ → Bool
ascii_word c = pick (ltb 0x20 c) true (pick (eqb c 0x20) false (pick (ltb 0x0D c) true (ltb c 0x09)))

abbrev pub ascii_run : ℕ → Bool
ascii_run c = pick (eqb c 0x20) true (pick (ltb c 0x0B) false (ltb c 0x0D))

pub ascii_word_lem : (c : ℕ) → c < 0x80 → in_word c ≡ ascii_word c
unfolding in_word class_of glue is_white member white_spaces pick
ascii_word_lem c h = agree-below in_word ascii_word 0x80 tt c h

pub ascii_run_lem : (c : ℕ) → c < 0x80 → in_run c ≡ ascii_run c
unfolding in_run class_of glue is_white member white_spaces pick
ascii_run_lem c h = agree-below in_run ascii_run 0x80 tt c h

-- ---- from U+0080 on: what glues, U+00AD and U+200B by themselves, and every other by whether it is white space

pub soft_hyphen : (in_word 0x00AD ≡ false) × (in_run 0x00AD ≡ false) × (is_white 0x00AD ≡ false)
unfolding in_word in_run class_of glue is_white member white_spaces pick
soft_hyphen = (refl, refl, refl)

pub zero-width : (in_word 0x200B ≡ false) × (in_run 0x200B ≡ true)
unfolding in_word in_run class_of pick
zero-width = (refl, refl)

module _ (c : ℕ) (h : 0x80 ≤ c) (z : c ≡ 0x200B → ⊥) (g : glue c ≡ false) where
  high_class : (c ≡ 0x00AD → ⊥) → class_of c ≡ pick (is_white c) blank letter
  unfolding class_of pick
  high_class s =
      rw (ne_eqb c 0x000A (omega arith), ne_eqb c 0x000D (omega arith), ne_eqb c 0x0009 (omega arith), ne_eqb c 0x00AD s, ne_eqb c 0x200B z, g)
      (by_test (is_white c) (λ e. rw e) (λ e. rw e))

  pub high_word : (c ≡ 0x00AD → ⊥) → in_word c ≡ not (is_white c)
  unfolding in_word pick
  high_word s = rw (high_class s) (by_test (is_white c) (λ e. rw e) (λ e. rw e))

  pub high-run : in_run c ≡ is_white c
  unfolding in_run pick
  high-run =
      by_eq c 0x00AD (λ e. rw e (soft_hyphen.1 ∙ sym soft_hyphen.2))
      (λ s. rw (high_class s) (by_test (is_white c) (λ e. rw e) (λ e. rw e)))
