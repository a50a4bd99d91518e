-- Words with one space between any two, from the bytes that tell them: the first word, then stride after stride.
-- Assumes nothing.
use Rattle.std.specs.Prelude.{◌≡◌, true, List, ℕ, zero, suc, ◌+◌, ◌-◌, ◌≤◌, ◌<◌, length, get_or}
use Rattle.std.proofs.Common.{sym, subst, arith}
use Rattle.basis.specs.Order.{by_eq}
use Rattle.parser.specs.Ascii.{plain_at, space-inside}
use Rattle.parser.specs.Letters.{Lettered}
use Rattle.parser.specs.LetterLaws.{lettered_none, lettered_more}
use Rattle.pairs.specs.PlainWords.{PlainWord, Stride}
use Rattle.pairs.specs.Stretches.{smooth, Stretched}
use Rattle.pairs.specs.StretchLaws.{plain-smooth, smooth-apart, plain_here, space-here, space-byte, space-ends}

-- What holds where a first word ends, and one stride further on wherever it held, holds where the words end.
module _ (t : List ℕ) (at end : ℕ) (w : Stretched t at end) (P : ℕ → Type 0) (first : (e : ℕ) → PlainWord t at e → P e)
    (more : (m e : ℕ) → P m → Stride t m e → P e)
  where
    -- A word goes on up to a position; where it ends P holds.
    record Begun (i : ℕ) : Type 0 where
      from : ℕ
      letter : plain_at t from ≡ true
      letters : Lettered t (from + 1) i
      ends : (e : ℕ) → PlainWord t from e → P e

    inside : end < length t
    inside = space-inside t end w.space

    smooth-here : (i : ℕ) → at + 1 ≤ i → i ≤ end → smooth (get_or t (i - 1) 0) (get_or t i 0) ≡ true
    smooth-here i low high = w.smooth i low (omega arith)

    closed : (i : ℕ) → i ≤ end → get_or t i 0 ≡ 0x20 → Begun i → P i
    closed i high e b =
        b.ends i (record { first = b.letter; letters = b.letters; ends = space-ends t i (omega (arith, inside)) e })

    -- Behind a space that ends words a letter begins the next one.
    behind : (i : ℕ) → at + 1 ≤ i → i + 1 ≤ end → get_or t i 0 ≡ 0x20 → get_or t (i + 1) 0 ≡ 0x20 → ⊥
    behind i low high e =
        let back : i + 1 - 1 ≡ i = omega arith in
        smooth-apart (get_or t (i + 1 - 1) 0) (get_or t (i + 1) 0) (smooth-here (i + 1) (omega arith) high) (subst (λ (k : ℕ). get_or t k 0 ≡ 0x20) (sym back) e)

    letter-behind : (i : ℕ) → at + 1 ≤ i → i + 1 ≤ end → get_or t i 0 ≡ 0x20 → plain_at t (i + 1) ≡ true
    letter-behind i low high e =
        plain_here t (i + 1) (omega (arith, inside))
        (plain-smooth (get_or t (i + 1 - 1) 0) (get_or t (i + 1) 0) (smooth-here (i + 1) (omega arith) high) (behind i low high e))

    begins : (i : ℕ) → at + 1 ≤ i → i + 1 ≤ end → get_or t i 0 ≡ 0x20 → P i → Begun (i + 2)
    begins i low high e p =
        record {
          from = i + 1;
          letter = letter-behind i low high e;
          letters = subst (λ (k : ℕ). Lettered t k (i + 2)) two (lettered_none t (i + 2) (omega (arith, inside)));
          ends = λ x d. more i x p (record { space = space-here t i (omega (arith, inside)) e; word = d });
        }
      where
        two : i + 2 ≡ i + 1 + 1
        two = omega arith

    goes : (i : ℕ) → at + 1 ≤ i → i ≤ end → (get_or t i 0 ≡ 0x20 → ⊥) → Begun i → Begun (i + 1)
    goes i low high d b =
        let here : i < length t = omega (arith, inside) in
        record {
          from = b.from;
          letter = b.letter;
          letters = lettered_more t (b.from + 1) i b.letters here (plain-smooth (get_or t (i - 1) 0) (get_or t i 0) (smooth-here i low high) d);
          ends = b.ends;
        }

    walk : (k i : ℕ) → i + k ≡ end → at + 1 ≤ i → Begun i → P end
    walk zero i e low b =
        let here : i ≡ end = omega arith in
        subst P here (closed i (omega arith) (subst (λ (j : ℕ). get_or t j 0 ≡ 0x20) (sym here) (space-byte t end inside w.space)) b)
    walk (suc zero) i e low b =
        by_eq (get_or t i 0) 0x20
        (λ q.
        let last : i + 1 ≡ end = omega arith in
        absurd (behind i low (omega arith) q (subst (λ (j : ℕ). get_or t j 0 ≡ 0x20) (sym last) (space-byte t end inside w.space))))
        (λ d. walk zero (i + 1) (omega arith) (omega arith) (goes i low (omega arith) d b))
    walk (suc (suc k)) i e low b =
        by_eq (get_or t i 0) 0x20
        (λ q. walk k (i + 2) (omega arith) (omega arith) (begins i low (omega arith) q (closed i (omega arith) q b)))
        (λ d. walk (suc k) (i + 1) (omega arith) (omega arith) (goes i low (omega arith) d b))

    pub stretched_words : P end
    stretched_words =
        walk (end - (at + 1)) (at + 1) (omega (arith, w.forward)) (omega arith)
        (record { from = at; letter = w.first; letters = lettered_none t (at + 1) (omega (arith, inside, w.forward)); ends = first })
