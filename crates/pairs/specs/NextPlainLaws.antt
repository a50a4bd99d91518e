-- From plain word to plain word: where the next one ends, and what stands behind it.
-- Assumes nothing.
use Rattle.std.specs.Prelude.{ℕ, ◌+◌, ◌-◌, ◌≤◌, ◌<◌, ◌≡◌, true, List, length, get_or}
use Rattle.std.proofs.Common.{ap, ◌∙◌, arith}
use Rattle.parser.specs.Ascii.{space-inside, plain-inside}
use Rattle.parser.specs.Letters.{Lettered}
use Rattle.parser.specs.LetterLaws.{lettered_none, lettered_more}
use Rattle.pairs.specs.Stretches.{smooth, Stretched}
use Rattle.pairs.specs.StretchLaws.{plain-smooth, smooth-apart, plain_here, space-here, space-byte, space-ends}
use Rattle.pairs.specs.NextPlain.{Stretching, NextPlain}

-- ---- within a word

-- Letters go on from behind the first one up to a position, and no stretch ends before it.
abbrev pub Lasting : List ℕ → (from at : ℕ) → Type 0
Lasting t from at = Lettered t (from + 1) at × ((end : ℕ) → Stretched t from end → at ≤ end)

module _ {t : List ℕ} {from : ℕ} (w : Stretching t from) where
  pub lasting_first : Lasting t from (from + 1)
  lasting_first =
      let h = plain-inside t from w.words.first in
      (lettered_none t (from + 1) (omega arith), λ end x. omega (arith, x.forward))

  module _ {at : ℕ} (l : Lasting t from at) where
    pub lasting_inside : at < length t
    lasting_inside = omega (arith, l.1 w.end w.words, space-inside t w.end w.words.space)

    pub lasting_more : (get_or t at 0 ≡ 0x20 → ⊥) → Lasting t from (at + 1)
    lasting_more d =
        let here = lasting_inside in
        let smooth = w.words.smooth at (omega (arith, l.0.forward)) (omega (arith, l.1 w.end w.words)) in (
          lettered_more t (from + 1) at l.0 here (plain-smooth (get_or t (at - 1) 0) (get_or t at 0) smooth d),
          λ end x.
              let apart : at ≡ end → ⊥ = λ q. d (ap (λ (i : ℕ). get_or t i 0) q ∙ space-byte t end (space-inside t end x.space) x.space) in
              omega (arith, l.1 end x, apart),
        )

    pub lasting_ends : get_or t at 0 ≡ 0x20 → NextPlain t from at
    lasting_ends e =
        let here = lasting_inside in
        record {
          word = record { first = w.words.first; letters = l.0; ends = space-ends t at here e };
          space = space-here t at here e;
          nearest = l.1;
        }

-- ---- behind it

module _ {t : List ℕ} {from to end : ℕ} (w : Stretched t from end) (x : NextPlain t from to) (h : to < end) where
  -- A letter stands behind the space, and it is not the last one.
  abbrev behind : smooth (get_or t (to + 1 - 1) 0) (get_or t (to + 1) 0) ≡ true
  behind = w.smooth (to + 1) (omega (arith, x.word.letters.forward)) (omega arith)

  no_space : get_or t (to + 1) 0 ≡ 0x20 → ⊥
  no_space =
      let back : to + 1 - 1 ≡ to = omega arith in
      smooth-apart (get_or t (to + 1 - 1) 0) (get_or t (to + 1) 0) behind
      (ap (λ (i : ℕ). get_or t i 0) back ∙ space-byte t to (space-inside t to x.space) x.space)

  pub stretched_on : Stretched t (to + 1) end
  stretched_on =
      let far = space-inside t end w.space in
      let apart : to + 1 ≡ end → ⊥ = λ q. no_space (ap (λ (i : ℕ). get_or t i 0) q ∙ space-byte t end far w.space) in
      record {
        forward = omega (arith, apart);
        first = plain_here t (to + 1) (omega arith) (plain-smooth (get_or t (to + 1 - 1) 0) (get_or t (to + 1) 0) behind no_space);
        smooth = λ i low high. w.smooth i (omega (arith, x.word.letters.forward)) high;
        space = w.space;
      }
