-- A line of plain words, from its stretch, the last space in it, and the word that waits behind that space.
-- Assumes nothing.
use Rattle.std.specs.Prelude.{◌≡◌, true, List, ℕ, ◌+◌, ◌<◌, length}
use Rattle.std.proofs.Common.{sym, subst, arith}
use Rattle.parser.specs.Ascii.{plain_at, ender_at}
use Rattle.parser.specs.Letters.{Lettered}
use Rattle.pairs.specs.Stretches.{Smooth, Plains, LastSpace, Farther, Waits, PlainLine}
use Rattle.pairs.specs.StretchLaws.{smooth-part, plain_here, lettered_plains, lettered_on}

module _ (t : List ℕ) (end limit reach : ℕ) where
  -- The words fill the line.
  pub waits-full : end ≡ limit → plain_at t (end + 1) ≡ true → reach ≡ end + 1 + 1 → Waits t end limit reach
  waits-full q e r = record { full = λ _. (e, omega arith); longer = λ h. absurd (omega arith) }

  module _ (far : ℕ) (h : end < limit) (inside : limit < length t) (p : Plains t (end + 1) (limit + 1)) (l : Lettered t (limit + 1) far) where
    -- The word behind the space, of plain bytes up to the limit and of those that go on behind it.
    farther : ender_at t far ≡ true → reach ≡ far + 1 → Farther t end limit reach
    farther e r =
        let next = end + 1 + 1 in
        let near = lettered_plains t next (limit + 1) (omega arith) (omega arith) (λ i a b. p i (omega arith) b) in
        record {
          far = far;
          word = record {
            first = plain_here t (end + 1) (omega arith) (p (end + 1) (omega arith) (omega arith));
            letters = lettered_on t next (limit + 1) far near l;
            ends = e;
          };
          over = omega (arith, l.forward);
          is = r;
        }

    pub waits-farther : ender_at t far ≡ true → reach ≡ far + 1 → Waits t end limit reach
    waits-farther e r = record { full = λ q. absurd (omega arith); longer = λ _. farther e r }

-- The line, and where it is said to end.
pub line-found : (t : List ℕ) (at most end reach said : ℕ) → plain_at t at ≡ true → Smooth t (at + 1) (at + most + 1)
    → LastSpace t at (at + most) end → (end ≡ at → ⊥) → said ≡ end → Waits t end (at + most) reach → PlainLine t at most said reach
line-found t at most end reach said e s l n q w =
    let h : at < end = omega (arith, n, l.low) in
    let near = smooth-part t (at + 1) (at + most + 1) (end + 1) s (omega (arith, l.high)) in
    subst (λ (k : ℕ). PlainLine t at most k reach) (sym q)
    (record {
      words = record { forward = h; first = e; smooth = near; space = l.found h };
      few = l.high;
      full = w.full;
      longer = w.longer;
    })
