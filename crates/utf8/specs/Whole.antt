-- Texts that are UTF-8 as a whole, told byte by byte: each by the two before it.
-- Assumes nothing.
use Rattle.std.specs.Prelude.{◌≡◌, refl, Bool, true, ◌&&◌, ◌||◌, not, List, ℕ, zero, suc, ◌+◌, ◌≤◌, ◌<◌, leb, ltb, eqb, length, get_or}
use Rattle.std.proofs.Common.{sym, ◌∙◌, subst, inl, inr, arith, ltb-true, leb-true, leb-false}
use Rattle.std.proofs.lemmas.Bool.{false≢true, not-true, eqb-false}
use Rattle.std.proofs.Math.ListN.{get_or-eq_default}
use Rattle.basis.specs.Choice.{and_true, by-either, neither}
use Rattle.basis.specs.Order.{by_lt, within, within-true, within-is}
use Rattle.utf8.specs.Decoding.{value2, value3, decode_at}
use Rattle.utf8.specs.Rows.{Cont, Three}
use Rattle.utf8.specs.Ascii.{Passed, pass-none, pass-char, pass_on_lem, decode_ascii}
use Rattle.utf8.specs.Long.{decode_two, decode_three}
use Rattle.utf8.specs.declared.sequence.Decoded.TheVariants.{Char}

-- A byte that is told: no C0 and C1, no lead that asks more of the next byte than to continue, and none from F0 on.
abbrev pub told : ℕ → Bool
told c = ltb c 0xC0 || (leb 0xC2 c && ltb c 0xF0 && not (eqb c 0xE0) && not (eqb c 0xED))

abbrev asks : ℕ → ℕ → Bool
asks a b = leb 0xC0 b || leb 0xE0 a

-- It is told, and continues a sequence exactly if one of the two bytes before it asks for that.
abbrev pub follow : ℕ → ℕ → ℕ → Bool
follow a b c = ((asks a b && within 0x80 0xBF c) || not (asks a b || within 0x80 0xBF c)) && told c

-- So are all, each behind the two from a position of a stretch on. Past the text's end stands a 0.
abbrev pub Follows : List ℕ → (from to : ℕ) → Type 0
Follows t from to = (i : ℕ) → from ≤ i → i < to → follow (get_or t i 0) (get_or t (i + 1) 0) (get_or t (i + 2) 0) ≡ true

pub follows-none : (t : List ℕ) (from : ℕ) → Follows t from from
follows-none t from i low high = absurd (omega arith)

pub follows-one : (t : List ℕ) (from to : ℕ) → Follows t from to → follow (get_or t to 0) (get_or t (to + 1) 0) (get_or t (to + 2) 0) ≡ true → Follows t from (to + 1)
follows-one t from to f e i low high =
    by_lt i to (λ h. f i low h)
    (λ h. let q : to ≡ i = omega arith in subst (λ (k : ℕ). follow (get_or t k 0) (get_or t (k + 1) 0) (get_or t (k + 2) 0) ≡ true) q e)

-- The same of a stretch that is tested byte by byte.
pub follows-tested : (t : List ℕ) (from i : ℕ) (all r : Bool) → (all ≡ true → Follows t from i) → r ≡ follow (get_or t i 0) (get_or t (i + 1) 0) (get_or t (i + 2) 0)
    → all && r ≡ true → Follows t from (i + 1)
follows-tested t from i all r f q e =
    let both = and_true all r e in
    follows-one t from i (f both.0) (sym q ∙ both.1)

-- Two stretches that meet or overlap.
pub follows_on : (t : List ℕ) (from to next end : ℕ) → next ≤ to → Follows t from to → Follows t next end → Follows t from end
follows_on t from to next end h f g i low high = by_lt i to (λ l. f i low l) (λ l. g i (omega arith) high)

-- ---- what that says of three bytes

record Follow (a b c : ℕ) : Type 0 where
  second : 0xC0 ≤ b → Cont c
  third : 0xE0 ≤ a → Cont c
  free : a < 0xE0 → b < 0xC0 → Cont c → ⊥
  lead : 0xC0 ≤ c → (0xC2 ≤ c) × (c < 0xF0) × (c ≡ 0xE0 → ⊥) × (c ≡ 0xED → ⊥)

module _ (a b c : ℕ) where
  told-lead : told c ≡ true → 0xC0 ≤ c → (0xC2 ≤ c) × (c < 0xF0) × (c ≡ 0xE0 → ⊥) × (c ≡ 0xED → ⊥)
  told-lead e h =
      let p = leb 0xC2 c in
      let q = ltb c 0xF0 in
      let r = not (eqb c 0xE0) in
      let s = not (eqb c 0xED) in
      by-either (ltb c 0xC0) (p && q && r && s) e (λ l. absurd (omega (arith, ltb-true c 0xC0 l)))
      (λ f.
      let three = and_true (p && q && r) s f in
      let two = and_true (p && q) r three.0 in
      let one = and_true p q two.0 in
      (leb-true 0xC2 c one.0, ltb-true c 0xF0 one.1, eqb-false c 0xE0 (not-true (eqb c 0xE0) two.1), eqb-false c 0xED (not-true (eqb c 0xED) three.1)))

  follow-true : follow a b c ≡ true → Follow a b c
  follow-true e =
      let ask = asks a b in
      let on = within 0x80 0xBF c in
      let p = and_true ((ask && on) || not (ask || on)) (told c) e in
      by-either (ask && on) (not (ask || on)) p.0
      (λ q.
      let r = and_true ask on q in
      let k = within-true 0x80 0xBF c r.1 in
      record {
        second = λ _. k;
        third = λ _. k;
        free = λ l h _. by-either (leb 0xC0 b) (leb 0xE0 a) r.0 (λ x. absurd (omega (arith, leb-true 0xC0 b x))) (λ x. absurd (omega (arith, leb-true 0xE0 a x)));
        lead = told-lead p.1;
      })
      (λ q.
      let r = neither ask on (not-true (ask || on) q) in
      let s = neither (leb 0xC0 b) (leb 0xE0 a) r.0 in
      record {
        second = λ h. absurd (omega (arith, leb-false 0xC0 b s.0));
        third = λ h. absurd (omega (arith, leb-false 0xE0 a s.1));
        free = λ _ _ k. false≢true (sym r.1 ∙ within-is 0x80 0xBF c k.0 k.1);
        lead = told-lead p.1;
      })

  -- Bytes that ask for nothing are as none.
  behind-one : a < 0xE0 → Follow a b c → Follow 0 b c
  behind-one h f = record { second = f.second; third = λ l. absurd (omega arith); free = λ _ l. f.free h l; lead = f.lead }

  behind-none : a < 0xE0 → b < 0xC0 → Follow a b c → Follow 0 0 c
  behind-none h l f = record { second = λ x. absurd (omega arith); third = λ x. absurd (omega arith); free = λ _ _. f.free h l; lead = f.lead }

-- ---- character by character

module _ (t : List ℕ) where
  abbrev B : ℕ → ℕ
  B i = get_or t i 0

  -- Nothing before a position asks for its byte or the next one.
  pub record Starts (p : ℕ) : Type 0 where
    first : Follow 0 0 (B p)
    next : Follow 0 (B p) (B (p + 1))

  pub starts_so : (p : ℕ) → follow 0 0 (B p) && follow 0 (B p) (B (p + 1)) ≡ true → Starts p
  starts_so p e =
      let f = and_true (follow 0 0 (B p)) (follow 0 (B p) (B (p + 1))) e in
      record { first = follow-true 0 0 (B p) f.0; next = follow-true 0 (B p) (B (p + 1)) f.1 }

  -- A byte that is not 0 stands in the text.
  stands : (i : ℕ) → 0 < B i → i < length t
  stands i h = by_lt i (length t) (λ l. l) (λ l. absurd (omega (arith, get_or-eq_default t 0 {n = i} l)))

module _ (t : List ℕ) (from : ℕ) (all : Follows t from (length t)) where
  abbrev A : ℕ → ℕ
  A i = get_or t i 0

  seen : (i j k : ℕ) → from ≤ i → i < length t → j ≡ i + 1 → k ≡ i + 2 → Follow (A i) (A j) (A k)
  seen i j k low high e f = rw (e, f) (follow-true (A i) (A (i + 1)) (A (i + 2)) (all i low high))

  -- What follows a character of one byte, of two and of three is right behind it, and starts the next one.
  module _ (p : ℕ) (low : from ≤ p) (inside : p < length t) (s : Starts t p) where
    after_one : A p < 0x80 → Starts t (p + 1)
    after_one h =
        record {
          first = behind-none 0 (A p) (A (p + 1)) (omega arith) (omega arith) s.next;
          next = behind-one (A p) (A (p + 1)) (A (p + 1 + 1)) (omega arith) (seen p (p + 1) (p + 1 + 1) low inside refl (omega arith));
        }

    after_two : A p < 0xE0 → Cont (A (p + 1)) → p + 1 < length t → Starts t (p + 2)
    after_two h c i =
        record {
          first = behind-none (A p) (A (p + 1)) (A (p + 2)) h (omega arith) (seen p (p + 1) (p + 2) low inside refl refl);
          next = behind-one (A (p + 1)) (A (p + 2)) (A (p + 2 + 1)) (omega arith) (seen (p + 1) (p + 2) (p + 2 + 1) (omega arith) i (omega arith) (omega arith));
        }

    after-three : Cont (A (p + 1)) → Cont (A (p + 2)) → p + 2 < length t → Starts t (p + 3)
    after-three c d i =
        record {
          first = behind-none (A (p + 1)) (A (p + 2)) (A (p + 3)) (omega arith) (omega arith) (seen (p + 1) (p + 2) (p + 3) (omega arith) (omega arith) (omega arith) (omega arith));
          next = behind-one (A (p + 2)) (A (p + 3)) (A (p + 3 + 1)) (omega arith) (seen (p + 2) (p + 3) (p + 3 + 1) (omega arith) i (omega arith) (omega arith));
        }

    three : 0xE1 ≤ A p → A p < 0xF0 → (A p ≡ 0xED → ⊥) → Cont (A (p + 1)) → Cont (A (p + 2)) → Three (A p) (A (p + 1)) (A (p + 2))
    three lo hi n c d =
        record {
          lead = omega arith;
          second = c;
          third = d;
          long = omega arith;
          scalar = by_lt (A p) 0xED (λ h. inl (omega arith)) (λ h. let g : 0xED < A p = omega (arith, n) in inr (omega arith));
        }

    -- The character at the position, and what is passed behind it.
    module _ (rest : (q : ℕ) → p < q → q ≤ length t → Starts t q → Passed t q (length t)) where
      past : (c n : ℕ) → decode_at t p ≡ Char c n → 0 < n → p + n ≤ length t → Starts t (p + n) → Passed t p (length t)
      past c n e o h q = pass_on_lem t p (p + n) (length t) (pass-char t p p c n e h (pass-none t p (omega arith))) (rest (p + n) (omega arith) h q)

      long-passed : 0xC0 ≤ A p → Passed t p (length t)
      long-passed g =
          let l = s.first.lead g in
          let c = s.next.second g in
          let i = stands t (p + 1) (omega arith) in
          by_lt (A p) 0xE0
          (λ h. past (value2 (A p) (A (p + 1))) 2 (decode_two t p (omega arith) (record { lead = omega arith; second = c })) (omega arith) (omega arith) (after_two h c i))
          (λ h.
          let d = (seen p (p + 1) (p + 2) low inside refl refl).third h in
          let j = stands t (p + 2) (omega arith) in
          let lo : 0xE1 ≤ A p = omega (arith, l.2) in
          past (value3 (A p) (A (p + 1)) (A (p + 2))) 3 (decode_three t p (omega arith) (three lo l.1 l.3 c d)) (omega arith) (omega arith) (after-three c d j))

      step : Passed t p (length t)
      step =
          by_lt (A p) 0x80 (λ h. past (A p) 1 (decode_ascii t p inside h) (omega arith) (omega arith) (after_one h))
          (λ h. by_lt (A p) 0xC0 (λ l. absurd (s.first.free (omega arith) (omega arith) (omega arith))) long-passed)

  walk : (k p : ℕ) → from ≤ p → p ≤ length t → length t ≤ p + k → Starts t p → Passed t p (length t)
  walk zero p low h l s = let e : p ≡ length t = omega arith in subst (Passed t p) e (pass-none t p h)
  walk (suc k) p low h l s =
      let again : (q : ℕ) → p < q → q ≤ length t → Starts t q → Passed t q (length t) = λ q g i r. walk k q (omega arith) i (omega arith) r in
      by_lt p (length t) (λ i. step p low i s again) (λ o. let e : p ≡ length t = omega arith in subst (Passed t p) e (pass-none t p h))

  -- A text that is so told from a position on is UTF-8 from there on.
  whole-passed : from ≤ length t → Starts t from → Passed t from (length t)
  whole-passed h s = walk (length t) from (omega arith) h (omega arith) s

-- The same of a text whose last two bytes are told to end it.
pub told-passed : (t : List ℕ) (from last : ℕ) → from ≤ last → last + 18 ≡ length t
    → follow 0 0 (get_or t from 0) && follow 0 (get_or t from 0) (get_or t (from + 1) 0) ≡ true
    → follow (get_or t (last + 16) 0) (get_or t (last + 17) 0) 0 && follow (get_or t (last + 17) 0) 0 0 ≡ true
    → Follows t from (last + 16) → Passed t from (length t)
told-passed t from last h q s e f =
    let past : (i : ℕ) → last + 18 ≤ i → get_or t i 0 ≡ 0 = λ i g. get_or-eq_default t 0 {n = i} (omega arith) in
    let both = and_true (follow (get_or t (last + 16) 0) (get_or t (last + 17) 0) 0) (follow (get_or t (last + 17) 0) 0 0) e in
    let a : last + 16 + 1 ≡ last + 17 = omega arith in
    let b : last + 17 + 1 ≡ length t = omega arith in
    let x : Follows t from (last + 16 + 1)
    = follows-one t from (last + 16) f (rw (a, past (last + 16 + 2) (omega arith)) both.0) in
    let y : Follows t from (last + 17 + 1)
    = follows-one t from (last + 17) (rw a at x) (rw (past (last + 17 + 1) (omega arith), past (last + 17 + 2) (omega arith)) both.1) in
    whole-passed t from (rw b at y) (omega arith) (starts_so t from s)
