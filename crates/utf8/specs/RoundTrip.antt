-- Writing and reading UTF-8 are inverse: a sequence is well-formed (Table 3-7) exactly if it is the encoding of a scalar value
-- (Table 3-6), and it is read as that value.
-- Assumes nothing.
use Rattle.std.specs.Prelude.{◌≡◌, refl, ◌↔◌, true, List, [], ◌∷◌, ◌++◌, ℕ, zero, suc, ◌+◌, ◌/◌, ◌%◌, ◌≤◌, ◌<◌, length, take, drop}
use Rattle.std.proofs.Common.{sym, ap, ◌∙◌, subst, inl, inr, ⊎_elim, arith, take_all, lt-ltb, le-ltb}
use Rattle.std.proofs.lemmas.Bool.{false≢true}
use Rattle.std.proofs.Math.Seq.{take-append_seam}
use Rattle.basis.specs.Choice.{pick, pick_true, pick-false, pick_cases, by_test}
use Rattle.utf8.specs.Scalar.{Scalar}
use Rattle.utf8.specs.Encoding.{encode}
use Rattle.utf8.specs.WellFormed.{rows, fits, some_fits, well_formed}
use Rattle.utf8.specs.Decoding.{seq_len, value2, value3, value4, value, char_of, decode_head}
use Rattle.utf8.specs.Sizes.{encode_one, encode-two, encode-three, encode-four, encode_cases}
use Rattle.utf8.specs.Rows.{one-true, one-is, two-true, two_is, three-true, three-is, four-true, four_is, five_false}
use Rattle.utf8.specs.declared.sequence.Decoded.{Decoded}
use Rattle.utf8.specs.declared.sequence.Decoded.TheVariants.{Char, Bad, End}

-- A sequence is the encoding of a scalar value.
pub record Encoded (s : List ℕ) : Type 0 where
  pub scalar : ℕ
  pub is-scalar : Scalar scalar
  pub is : s ≡ encode scalar

-- ---- a well-formed sequence is the encoding of its value

-- The first byte of a sequence says how many there are.
abbrev Leads : List ℕ → Type 0
Leads [] = ⊥
Leads (a ∷ s) = seq_len a ≡ length (a ∷ s)

record Sequence (s : List ℕ) : Type 0 where
  scalar : Scalar (value s)
  is : encode (value s) ≡ s
  leads : Leads s

sequence : (s : List ℕ) → well_formed s ≡ true → Sequence s
unfolding well_formed rows some_fits fits value seq_len pick
sequence [] e = absurd (false≢true e)
sequence (a ∷ []) e =
    let h = one-true a e in
    record { scalar = inl (omega arith); is = encode_one a h; leads = simp (lt-ltb a 0x80 h) }
sequence (a ∷ b ∷ []) e =
    let t = two-true a b e in
    let v = value2 a b in
    let p : 0xC0 + v / 64 ≡ a = omega arith in
    let q : 0x80 + v % 64 ≡ b = omega arith in
    record {
      scalar = inl (omega arith);
      is = encode-two v (omega arith) (omega arith) ∙ (λ i. p i ∷ q i ∷ []);
      leads = simp (le-ltb a 0x80 (omega arith), le-ltb a 0xC0 (omega arith), lt-ltb a 0xE0 (omega arith));
    }
sequence (a ∷ b ∷ c ∷ []) e =
    let t = three-true a b c e in
    let v = value3 a b c in
    let p : 0xE0 + v / 4096 ≡ a = omega arith in
    let q : 0x80 + v / 64 % 64 ≡ b = omega arith in
    let r : 0x80 + v % 64 ≡ c = omega arith in
    record {
      scalar = t.scalar;
      is = encode-three v t.long (omega arith) ∙ (λ i. p i ∷ q i ∷ r i ∷ []);
      leads = simp (le-ltb a 0x80 (omega arith), le-ltb a 0xC0 (omega arith), le-ltb a 0xE0 (omega arith), lt-ltb a 0xF0 (omega arith));
    }
sequence (a ∷ b ∷ c ∷ d ∷ []) e =
    let t = four-true a b c d e in
    let v = value4 a b c d in
    let p : 0xF0 + v / 262144 ≡ a = omega arith in
    let q : 0x80 + v / 4096 % 64 ≡ b = omega arith in
    let r : 0x80 + v / 64 % 64 ≡ c = omega arith in
    let u : 0x80 + v % 64 ≡ d = omega arith in
    record {
      scalar = inr (omega arith);
      is = encode-four v t.long ∙ (λ i. p i ∷ q i ∷ r i ∷ u i ∷ []);
      leads = simp (le-ltb a 0x80 (omega arith), le-ltb a 0xC0 (omega arith), le-ltb a 0xE0 (omega arith), le-ltb a 0xF0 (omega arith), lt-ltb a 0xF8 (omega arith));
    }
sequence (a ∷ b ∷ c ∷ d ∷ f ∷ s) e = absurd (false≢true (sym (five_false a b c d f s) ∙ e))

-- ---- the encoding of a scalar value is well-formed, and its value is that one

-- Shifts by twelve and eighteen bits are repeated shifts by six.
by_12 : (c : ℕ) → c / 4096 ≡ c / 64 / 64
by_12 c = omega arith

by_18 : (c : ℕ) → c / 262144 ≡ c / 4096 / 64
by_18 c = omega arith

low_6 : (x : ℕ) → (0x80 + x % 64) % 64 ≡ x % 64
low_6 x = omega arith

low_3 : (x : ℕ) → x < 8 → (0xF0 + x) % 8 ≡ x
low_3 x h = omega arith

value-four : (c : ℕ) → c ≤ 0x10FFFF → value4 (0xF0 + c / 262144) (0x80 + c / 4096 % 64) (0x80 + c / 64 % 64) (0x80 + c % 64) ≡ c
value-four c h = simp (low_6, low_3 (c / 262144) (omega arith)) (rw (by_18, by_12) (omega arith))

record Written (c : ℕ) (s : List ℕ) : Type 0 where
  well : well_formed s ≡ true
  back : value s ≡ c

written : (c : ℕ) → Scalar c → Written c (encode c)
unfolding value
written c sc =
    encode_cases (λ l n. Written c l) c
    (λ h. record { well = one-is c h; back = refl })
    (λ g h. record { well = two_is _ _ (record { lead = omega arith; second = omega arith }); back = omega arith })
    (λ g h.
    let e : value3 (0xE0 + c / 4096) (0x80 + c / 64 % 64) (0x80 + c % 64) ≡ c = omega arith in
    record {
      well = three-is _ _ _ (record { lead = omega arith; second = omega arith; third = omega arith; long = rw e g; scalar = rw e sc });
      back = e;
    })
    (λ g.
    let h : c ≤ 0x10FFFF = ⊎_elim (λ l. omega arith) (λ l. l.1) sc in
    let e = value-four c h in
    record {
      well = four_is _ _ _ _ (record { lead = omega arith; second = omega arith; third = omega arith; fourth = omega arith; long = rw e g; scalar = rw e h });
      back = e;
    })

-- Tables 3-6 and 3-7 agree.
pub well_formed-is : (s : List ℕ) → (well_formed s ≡ true) ↔ Encoded s
well_formed-is s = (
  (λ e. let w = sequence s e in record { scalar = value s; is-scalar = w.scalar; is = sym w.is }),
  (λ d. subst (λ (l : List ℕ). well_formed l ≡ true) (sym d.is) (written d.scalar d.is-scalar).well),
)

-- ---- reading

-- A sequence that is not well-formed is read as none.
pub char_bad : (s : List ℕ) → (well_formed s ≡ true → ⊥) → char_of s ≡ Bad
unfolding char_of
char_bad s n = by_test (well_formed s) (λ e. absurd (n e)) (λ e. pick-false (well_formed s) _ _ e)

pub char_is : (s : List ℕ) → well_formed s ≡ true → char_of s ≡ Char (value s) (length s)
unfolding char_of
char_is s e = pick_true (well_formed s) _ _ e

-- A well-formed sequence at the front is read, whatever follows.
head_is : (q s : List ℕ) → well_formed q ≡ true → decode_head (q ++ s) ≡ Char (value q) (length q)
unfolding well_formed rows some_fits fits decode_head
head_is [] s e = absurd (false≢true e)
head_is (a ∷ r) s e = rw ((sequence (a ∷ r) e).leads, take-append_seam (a ∷ r) s) (char_is (a ∷ r) e)

pub decode_encode : (c : ℕ) → Scalar c → (s : List ℕ) → decode_head (encode c ++ s) ≡ Char c (length (encode c))
decode_encode c sc s =
    let w = written c sc in
    head_is (encode c) s w.well ∙ ap (λ (x : ℕ). Char x (length (encode c))) w.back

-- Fewer bytes than the first one says are no sequence.
pub head_cut : (a : ℕ) (s : List ℕ) → length (a ∷ s) < seq_len a → decode_head (a ∷ s) ≡ Bad
unfolding decode_head
head_cut a s h = rw (take_all (seq_len a) (a ∷ s) (omega arith)) (char_bad (a ∷ s) (λ e. omega (arith, (sequence (a ∷ s) e).leads)))

-- What is read is a scalar value, and the list starts with its encoding.
abbrev Found : List ℕ → Decoded → Type 0
Found s (Char c n) = Scalar c × (n ≡ length (encode c)) × (s ≡ encode c ++ drop n s)
Found s Bad = Unit {0}
Found s End = Unit {0}

front : (n : ℕ) (s : List ℕ) → take n s ++ drop (length (take n s)) s ≡ s
front zero s = refl
front (suc n) [] = refl
front (suc n) (a ∷ s) = ap (λ (l : List ℕ). a ∷ l) (front n s)

found : (s : List ℕ) → Found s (decode_head s)
unfolding decode_head char_of
found [] = tt
found (a ∷ s) =
    let q = take (seq_len a) (a ∷ s) in
    pick_cases (Found (a ∷ s)) (well_formed q)
    (λ e. let w = sequence q e in (w.scalar, sym (ap length w.is), sym (front (seq_len a) (a ∷ s)) ∙ ap (λ (l : List ℕ). l ++ drop (length q) (a ∷ s)) (sym w.is)))
    (λ e. tt)

pub encode_decode : (s : List ℕ) (c n : ℕ) → decode_head s ≡ Char c n → Scalar c × (n ≡ length (encode c)) × (s ≡ encode c ++ drop n s)
encode_decode s c n e = subst (Found s) e (found s)
