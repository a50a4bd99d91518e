-- A word that is told by its bytes to its end, and one space before it, as they are read.
-- Assumes nothing.
use Rattle.std.specs.Prelude.{◌≡◌, true, List, ℕ, ◌+◌, ◌-◌, ◌≤◌, length}
use Rattle.std.proofs.Common.{sym, subst, ◌∙◌, arith}
use Rattle.parser.specs.Scanning.{scanned_at, word_of}
use Rattle.parser.specs.Ascii.{space_at, ender_at}
use Rattle.parser.specs.Letters.{Spells, Letter, GoesOn, Lettered}
use Rattle.parser.specs.LetterLaws.{goes_none, goes_on_lem, goes-more, spells-room, ends-ender}
use Rattle.parser.specs.declared.scan.Scanned.{Scanned}
use Rattle.pairs.specs.Pairs.{PairAt}
use Rattle.pairs.specs.PairLaws.{blank-space, pair_is}

-- From one position to another a word goes on, by letters of which so many bytes continue a character and so many characters that glue.
pub record Goes (t : List ℕ) (from to conts glues : ℕ) : Type 0 where
  pub on : GoesOn t from to (to - from - conts) glues
  pub few : from + conts ≤ to

pub record ToldWord (t : List ℕ) (from end conts glues : ℕ) : Type 0 where
  pub goes : Goes t from end conts glues
  pub ends : ender_at t end ≡ true

module _ (t : List ℕ) (from : ℕ) where
  pub goes-letters : (to chars glues next : ℕ) → GoesOn t from to chars glues → Lettered t to next → GoesOn t from next (chars + (next - to)) glues
  goes-letters to chars glues next l x =
      let z : glues + 0 ≡ glues = omega arith in
      subst (GoesOn t from next (chars + (next - to))) z (goes_on_lem t from to chars glues l next (next - to) 0 x)

  pub told_none : from ≤ length t → Goes t from from 0 0
  told_none h = let e : 0 ≡ from - from - 0 = omega arith in record { on = subst (λ (k : ℕ). GoesOn t from from k 0) e (goes_none t from h); few = omega arith }

  module _ (at conts glues : ℕ) (l : Goes t from at conts glues) where
    -- Letters of one byte more.
    pub told-letters : (end : ℕ) → Lettered t at end → Goes t from end conts glues
    told-letters end x =
        let a : at - from - conts + (end - at) ≡ end - from - conts = omega (arith, l.few, x.forward) in
        record {
          on = subst (λ (k : ℕ). GoesOn t from end k glues) a (goes-letters at (at - from - conts) glues end l.on x);
          few = omega (arith, l.few, x.forward);
        }

    -- One character more, of so many bytes.
    pub told_more : (n g : ℕ) → Spells t at n g → Goes t from (at + n) (conts + (n - 1)) (glues + g)
    told_more n g x =
        let r = spells-room t at n g x in
        let a : at - from - conts + 1 ≡ at + n - from - (conts + (n - 1)) = omega (arith, l.few) in
        record {
          on = subst (λ (k : ℕ). GoesOn t from (at + n) k (glues + g)) a (goes-more t from at (at - from - conts) glues l.on n g x);
          few = omega (arith, l.few);
        }

    pub told-letter : (n : ℕ) → Letter t at n → Goes t from (at + n) (conts + (n - 1)) glues
    told-letter n x = let z : glues + 0 ≡ glues = omega arith in subst (Goes t from (at + n) (conts + (n - 1))) z (told_more n 0 x)

-- A space, and behind it a letter of k bytes and the rest of a word.
pub told-read : (t : List ℕ) (at k end conts glues : ℕ) → space_at t at ≡ true → Letter t (at + 1) k → ToldWord t (at + 1 + k) end conts glues → (w : Scanned)
    → w ≡ scanned_at end (end - (at + 1 + k) - conts + 1) glues 1 → PairAt t at (at + 1) (at + 1 + k) (word_of w)
told-read t at k end conts glues s l x w e =
    let m = end - (at + 1 + k) - conts in
    let a : 1 + m ≡ m + 1 = omega arith in
    let b : 0 + glues ≡ glues = omega arith in
    pair_is t at 1 k (blank-space t at s) l w
    (e ∙ sym (x.goes.on.scans 1 0 ∙ (ends-ender t end x.ends).scans (1 + m) (0 + glues) ∙ (λ i. scanned_at end (a i) (b i) 1)))
