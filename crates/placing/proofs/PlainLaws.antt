-- A line of plain words, told by its bytes, is the line at its offset (rule 8, rule 10).
-- Assumes nothing.
use mathlib.Core.Path.{◌≡◌, refl, subst}
use mathlib.Core.List.{List}
use Prim.Native.Nat.{ℕ, ◌+◌, ◌-◌, ◌≤◌}
use native.Mathlib.Omega.{arith}
use Rattle.basis.specs.Order.{by_lt}
use Rattle.meaning.specs.Characters.{in_word}
use Rattle.parser.specs.Lexing.{chars_from}
use Rattle.parser.specs.Scanning.{glue_of, scanned_at, scan_from, word_of}
use Rattle.parser.specs.LetterLaws.{letter-plain}
use Rattle.pairs.specs.Pairs.{PairAt}
use Rattle.pairs.specs.PlainWords.{PlainWord, Stride}
use Rattle.pairs.specs.Stretches.{PlainLine}
use Rattle.pairs.specs.StretchedWords.{stretched_words}
use Rattle.pairs.specs.PairLaws.{blank-space, pair_is}
use Rattle.pairs.specs.WithinLaws.{scanned_pair, first_plain}
use Rattle.placing.specs.Quick.{Counting}
use Rattle.placing.specs.Plain.{FoundRow, PlainRow}
use Rattle.placing.specs.Told.{WordsTo}
use Rattle.placing.proofs.CountingLaws.{counting-first, counting_more}
use Rattle.placing.proofs.FoundLaws.{wait_row}

module _ (t : List ℕ) (at most : ℕ) where
  -- ---- the words, counted

  abbrev Fitting : ℕ → Type 0
  Fitting to = to ≤ at + most → WordsTo t at most to (to - at)

  first_fits : (e : ℕ) → PlainWord t at e → Fitting e
  unfolding scanned_at
  first_fits e w h =
      let l = w.letters in
      record {
        forward = omega (arith, l.forward);
        inside = l.inside;
        some = omega (arith, l.forward);
        spaces = 0;
        counting = counting-first (scanned_at e (e - at) 0 1) (first_plain t at most e w (omega arith) (scanned_at e (e - at) 0 1) refl);
      }

  one-fits : (m e : ℕ) → Fitting m → Stride t m e → Fitting e
  unfolding scanned_at
  one-fits m e f d h =
      let l = d.word.letters in
      let far : m + 2 ≤ e = omega (arith, l.forward) in
      let c = f (omega arith) in
      let w = scanned_at e (e - (m + 1)) 0 1 in
      let all : m - at + (1 + (e - (m + 1))) ≡ e - at = omega (arith, c.forward) in
      record {
        forward = omega (arith, c.forward);
        inside = l.inside;
        some = omega (arith, c.forward);
        spaces = c.spaces + (1 + 0);
        counting = subst (λ (k : ℕ). Counting t at most e k (c.spaces + (1 + 0))) all
            (counting_more w (scanned_pair t m e d w refl) c.counting (omega (arith, c.forward)));
      }

  module _ (end reach : ℕ) (p : PlainLine t at most end reach) where
    counted : WordsTo t at most end (end - at)
    counted = stretched_words t at end p.words Fitting first_fits one-fits p.few

    -- ---- and the word that waits behind them

    two : end + 1 + 1 ≡ end + 2
    two = omega arith

    found : FoundRow t at most (end - at) (end + 1) (end - at + 1) reach
    unfolding scanned_at
    found =
        by_lt end (at + most)
        (λ less.
        let x = p.longer less in
        let w = scanned_at x.far (x.far - (end + 1)) 0 1 in
        let d = scanned_pair t end x.far (record { space = p.words.space; word = x.word }) w refl in
        wait_row counted (end + 2) w (subst (λ (k : ℕ). PairAt t end (end + 1) k (word_of w)) two d) (omega (arith, x.over, counted.forward)) reach
        (λ _. x.is) (λ all. absurd (omega (arith, counted.forward))))
        (λ beyond.
        let same : end ≡ at + most = omega (arith, p.few) in
        let x = p.full same in
        let w = scan_from in_word glue_of (end + 1 + 1) 1 0 (chars_from t (end + 1 + 1)) in
        let d = pair_is t end 1 1 (blank-space t end p.words.space) (letter-plain t (end + 1) x.0) w refl in
        wait_row counted (end + 2) w (subst (λ (k : ℕ). PairAt t end (end + 1) k (word_of w)) two d) (omega (arith, counted.forward)) reach
        (λ less. absurd (omega (arith, counted.forward))) (λ _. x.1))

    pub plain_row : PlainRow t at most end reach
    plain_row = record { line = p; row = found }
