-- Which characters glue, and what is so of each of them. All else asks here.
-- Assumes nothing.
use Rattle.std.specs.Prelude.{◌≡◌, true, false, ◌||◌, ℕ, ◌≤◌, ◌<◌, eqb}
use Rattle.std.proofs.Math.Path.{refl}
use Rattle.std.proofs.Common.{sym, subst, ◌∙◌, arith, eqb-true}
use Rattle.std.proofs.lemmas.Bool.{false≢true}
use Rattle.basis.specs.Choice.{pick, pick_cases, by_test, by-either}
use Rattle.utf8.specs.WhiteSpace.{white_spaces, member, is_white}
use Rattle.meaning.specs.Characters.{glue, class_of, in_word, in_run}
use Rattle.parser.specs.Scanning.{glue_of}

-- What holds of U+00A0, of U+2007 and of U+202F holds of every character that glues.
pub by-glue : (P : ℕ → Type 0) → P 0x00A0 → P 0x2007 → P 0x202F → (c : ℕ) → glue c ≡ true → P c
unfolding glue
by-glue P p q r c e =
    by-either (eqb c 0x00A0 || eqb c 0x2007) (eqb c 0x202F) e
    (λ f.
    by-either (eqb c 0x00A0) (eqb c 0x2007) f
    (λ g. subst P (sym (eqb-true c 0x00A0 g)) p)
    (λ g. subst P (sym (eqb-true c 0x2007 g)) q))
    (λ f. subst P (sym (eqb-true c 0x202F f)) r)

module _ (c : ℕ) where
  -- It is of words and of no space run, white space, and not of ASCII.
  pub glue-word : glue c ≡ true → (in_word c ≡ true) × (in_run c ≡ false)
  unfolding in_word in_run class_of glue is_white member white_spaces pick
  glue-word = by-glue (λ x. (in_word x ≡ true) × (in_run x ≡ false)) (refl, refl) (refl, refl) (refl, refl) c

  glue-white : glue c ≡ true → is_white c ≡ true
  unfolding is_white member white_spaces pick
  glue-white = by-glue (λ x. is_white x ≡ true) refl refl refl c

  glue-high : glue c ≡ true → 0x80 ≤ c
  glue-high = by-glue (λ x. 0x80 ≤ x) (omega arith) (omega arith) (omega arith) c

  -- What does not glue.
  pub low-glue : c < 0x80 → glue c ≡ false
  low-glue h = by_test (glue c) (λ e. absurd (omega (arith, glue-high e))) (λ e. e)

  pub black-glue : is_white c ≡ false → glue c ≡ false
  black-glue w = by_test (glue c) (λ e. absurd (false≢true (sym w ∙ glue-white e))) (λ e. e)

  -- How many glue of the one character.
  pub glue-one : glue_of c ≤ 1
  unfolding glue_of
  glue-one = pick_cases (λ n. n ≤ 1) _ (λ _. omega arith) (λ _. omega arith)

  pub glue-some : glue c ≡ true → glue_of c ≡ 1
  unfolding glue_of pick
  glue-some e = rw e

  pub glue-none : glue c ≡ false → glue_of c ≡ 0
  unfolding glue_of pick
  glue-none e = rw e
