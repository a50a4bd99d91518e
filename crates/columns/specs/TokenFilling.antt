-- What the characters of a token fill: a space behind a word takes a glyph, a character of a word does, and a tab goes to the next stop or
-- to the edge (rule 2, rule 4).
-- Assumes nothing.
use Prim.Native.Nat.{ℕ, suc, ◌+◌, ◌*◌, ◌≤◌}
use Rattle.std.specs.Prelude.{◌≡◌, true, false, eqb, leb, None}
use Rattle.std.proofs.Math.Path.{refl, ap, subst}
use Rattle.std.proofs.Common.{sym, ◌∙◌, mul-le-mul_right}
use Rattle.std.proofs.lemmas.Bool.{false≢true}
use mathlib.Core.List.{List, [], ◌∷◌}
use Rattle.std.proofs.Math.Nat.{zero-mul}
use native.Mathlib.Omega.{arith}
use borrow.Author.Tests.{le-leb, eqb-true, ne_eqb}
use Rattle.std.proofs.Math.ListN.{length}
use Rattle.basis.specs.Choice.{pick, pick_cases, pick_true, pick-false, pick_same}
use Rattle.utf8.specs.WhiteSpace.{is_white, member, white_spaces}
use Rattle.meaning.specs.Tokens.{counted}
use Rattle.meaning.specs.Characters.{Class, lf, cr, ht, shy, zwsp, blank, letter, word_class, run_class, glue, class_of, in_word, in_run}
use Rattle.laws.specs.Runs.{Pass}
use Rattle.widths.specs.LineParts.{breaks, other_than, others_break}
use Rattle.widths.specs.TabStops.{next_stop}
use Rattle.columns.specs.Filling.{moves, along_of, grown, grown_moves, apart_none, apart_moves, empty_line, fill_word, fill_to, fill_other, fill_blank, fill_by, fill_all}
use Rattle.columns.specs.declared.filling.Fill.{Fill}

-- ---- the characters of a run

no_letter : (k : Class) → run_class k ≡ true → word_class k ≡ false
no_letter blank e = refl
no_letter zwsp e = refl
no_letter lf e = refl
no_letter cr e = refl
no_letter ht e = refl
no_letter shy e = refl
no_letter letter e = absurd (false≢true e)

-- A space counts, and no character takes a count away.
counted-space : (c : ℕ) (cs : List ℕ) → eqb c 0x0020 ≡ true → counted (c ∷ cs) ≡ suc (counted cs)
unfolding counted pick
counted-space c cs e = rw (ne_eqb c 0x200B (λ is. omega (arith, eqb-true c 0x0020 e)))

counted-more : (c : ℕ) (cs : List ℕ) → counted cs ≤ counted (c ∷ cs)
unfolding counted
counted-more c cs = pick_cases (λ n. counted cs ≤ n) (eqb c 0x200B) (λ _. omega arith) (λ _. omega arith)

-- ---- what is filled by runs, words, tabs and soft hyphens

module _ (g t w : ℕ) where
  abbrev filled : Fill → List ℕ → Fill
  filled = fill_all in_word g t w

  -- A space behind a word takes a glyph, and nothing else of a run does.
  abbrev after_run : Fill → ℕ → Fill
  after_run x c = pick x.begun (pick (eqb c 0x0020) (fill_to w x (x.at + g)) (fill_other x)) (fill_other x)

  run-char : (x : Fill) (c : ℕ) → in_run c ≡ true → fill_by in_word g t w x c ≡ after_run x c
  unfolding fill_by fill_blank in_word in_run class_of pick
  run-char x c h =
      rw (no_letter (class_of c) h, others_break in_run refl refl c h, ne_eqb c 0x0009 (other_than in_run c 0x0009 h refl)) refl

  -- Before the first word it goes no further.
  pub run-still : (cs : List ℕ) (x : Fill) → Pass in_run cs → x.begun ≡ false → (filled x cs).at ≡ x.at
  unfolding fill_all
  run-still [] x h e = refl
  run-still (c ∷ cs) x h e =
      let here : fill_by in_word g t w x c ≡ fill_other x = run-char x c h.0 ∙ pick-false x.begun _ _ e in
      ap (λ (z : Fill). (filled z cs).at) here ∙ run-still cs (fill_other x) h.1 e

  -- Nothing of a word moves along, and the next one may.
  abbrev pub Rested : Fill → Type 0
  Rested z = (along_of z ≡ 0) × (moves z ≡ true → z.begun ≡ true)

  rested-char : (x : Fill) (c : ℕ) → in_run c ≡ true → Rested (fill_by in_word g t w x c)
  rested-char x c h =
      subst Rested (sym (run-char x c h))
      (pick_cases Rested x.begun
      (λ _. pick_cases Rested (eqb c 0x0020) (λ _. (apart_none x.begun, λ e. sym (apart_moves x.begun) ∙ e)) (λ _. (refl, λ e. absurd (false≢true e)))) (λ _. (refl, λ e. absurd (false≢true e))))

  rested-on : (cs : List ℕ) (x : Fill) → Pass in_run cs → Rested x → Rested (filled x cs)
  unfolding fill_all
  rested-on [] x h r = r
  rested-on (c ∷ cs) x h r = rested-on cs (fill_by in_word g t w x c) h.1 (rested-char x c h.0)

  pub run-rested : (cs : List ℕ) (x : Fill) → 1 ≤ length cs → Pass in_run cs → Rested (filled x cs)
  unfolding fill_all
  run-rested [] x some h = absurd (omega arith)
  run-rested (c ∷ cs) x some h = rested-on cs (fill_by in_word g t w x c) h.1 (rested-char x c h.0)

  -- No line ends by a run, and it goes on by no more glyphs than it counts.
  pub record RunFills (x z : Fill) (n : ℕ) : Type 0 where
    pub lines : z.lines ≡ x.lines
    pub begun : z.begun ≡ x.begun
    pub at : z.at ≤ x.at + n * g

  run_step : (c : ℕ) (cs : List ℕ) (x : Fill) → in_run c ≡ true → (y : Fill) → RunFills (fill_by in_word g t w x c) y (counted cs) → RunFills x y (counted (c ∷ cs))
  run_step c cs x h y =
      let P : Fill → Type 0 = λ (z : Fill). RunFills z y (counted cs) → RunFills x y (counted (c ∷ cs)) in
      let still : P (fill_other x) = λ r. record { lines = r.lines; begun = r.begun; at = omega (arith, r.at, mul-le-mul_right g (counted-more c cs)) } in
      subst P (sym (run-char x c h))
      (pick_cases P x.begun
      (λ _.
      pick_cases P (eqb c 0x0020)
      (λ e r.
      let more : counted (c ∷ cs) * g ≡ suc (counted cs) * g = ap (λ (n : ℕ). n * g) (counted-space c cs e) in
      let one : suc (counted cs) * g ≡ g + counted cs * g = omega arith in
      record { lines = r.lines; begun = r.begun; at = omega (arith, r.at, more, one) }) (λ _. still))
      (λ _. still))

  pub run_fills : (cs : List ℕ) (x : Fill) → Pass in_run cs → RunFills x (filled x cs) (counted cs)
  unfolding fill_all
  run_fills [] x h = record { lines = refl; begun = refl; at = omega arith }
  run_fills (c ∷ cs) x h = run_step c cs x h.0 _ (run_fills cs (fill_by in_word g t w x c) h.1)

  -- A character of a word that fits.
  abbrev in_line : Fill → Fill
  in_line x = record { lines = x.lines; at = x.at + g; begun = true; part = grown g x.part }

  word-char : (x : Fill) (c : ℕ) → in_word c ≡ true → x.at + g ≤ w → fill_by in_word g t w x c ≡ in_line x
  unfolding fill_by fill_word
  word-char x c h f = pick_true (in_word c) _ _ h ∙ pick_true (leb (x.at + g) w) _ _ (le-leb (x.at + g) w f)

  -- Those of a word that fit; where nothing moved along, nothing does.
  pub record WordFills (x z : Fill) (n : ℕ) : Type 0 where
    pub lines : z.lines ≡ x.lines
    pub at : z.at ≡ x.at + n * g
    pub moved : moves z ≡ moves x
    pub part : x.part ≡ None → z.part ≡ None

  pub word_fills : (cs : List ℕ) (x : Fill) → Pass in_word cs → x.at + length cs * g ≤ w → WordFills x (filled x cs) (length cs)
  unfolding fill_all
  word_fills [] x h f = record { lines = refl; at = omega (arith, zero-mul g); moved = refl; part = λ e. e }
  word_fills (c ∷ cs) x h f =
      let one : suc (length cs) * g ≡ g + length cs * g = omega arith in
      let r = word_fills cs (in_line x) h.1 (omega (arith, f, one)) in
      subst (λ (z : Fill). WordFills x (filled z cs) (suc (length cs))) (sym (word-char x c h.0 (omega (arith, f, one))))
      (record { lines = r.lines; at = omega (arith, r.at, one); moved = r.moved ∙ grown_moves g x.part; part = λ e. r.part (ap (grown g) e) })

  -- ---- the tokens of one character

  pub tab_fills : (x : Fill) → filled x (0x0009 ∷ []) ≡ pick x.begun (fill_to w x (next_stop t x.at)) (fill_other x)
  unfolding fill_all fill_by fill_blank breaks in_word class_of pick
  tab_fills x = refl

  pub hyphen_fills : (x : Fill) → filled x (0x00AD ∷ []) ≡ fill_other x
  unfolding fill_all fill_by fill_blank breaks in_word class_of is_white member white_spaces glue pick
  hyphen_fills x = pick_same x.begun (fill_other x)

  pub new-line_fills : (x : Fill) → filled x (0x000A ∷ []) ≡ empty_line (x.lines + 1)
  unfolding fill_all fill_by breaks in_word class_of pick
  new-line_fills x = refl

  pub return_fills : (x : Fill) → filled x (0x000D ∷ []) ≡ empty_line (x.lines + 1)
  unfolding fill_all fill_by breaks in_word class_of pick
  return_fills x = refl
