-- Where the characters of a text begin: the count by characters and the look at single bytes agree.
-- Assumes nothing.
use Rattle.std.specs.Prelude.{◌≡◌, refl, ◌↔◌, true, false, List, [], ◌∷◌, ◌++◌, ℕ, zero, suc, ◌+◌, ◌-◌, ◌/◌, ◌≤◌, ◌<◌, length, get_or, take, drop}
use Rattle.std.proofs.Common.{sym, ap, ◌∙◌, append_assoc, arith, length-append, get_or-append-add, eq-eqb, ne_eqb, lt-ltb, le-ltb, eqb-true}
use Rattle.std.proofs.lemmas.Bool.{false≢true}
use Rattle.std.proofs.Math.ListN.{get_or-append}
use Rattle.basis.specs.Choice.{pick}
use Rattle.basis.specs.Order.{by_lt, by_eq, within-is, within-not}
use Rattle.utf8.specs.Scalar.{Scalars}
use Rattle.utf8.specs.Encoding.{trail, encode, bytes, size, encode_all}
use Rattle.utf8.specs.Places.{cont, boundary, boundary_at, count_chars}
use Rattle.utf8.specs.Sizes.{encode_cases, bytes-is, bytes_range, take-encoded, drop-encoded}
use Rattle.utf8.specs.Rows.{Cont}

-- ---- by characters

-- A position is where some characters of a list end.
pub record Cut (cs : List ℕ) (i : ℕ) : Type 0 where
  pub chars : ℕ
  pub within : chars ≤ length cs
  pub is : i ≡ size (take chars cs)

-- The three cases of `boundary`.
boundary-front : (c : ℕ) (cs : List ℕ) (i : ℕ) → i ≡ 0 → boundary (c ∷ cs) i ≡ true
unfolding boundary pick
boundary-front c cs i e = simp (eq-eqb i 0 e)

boundary-inside : (c : ℕ) (cs : List ℕ) (i : ℕ) → (i ≡ 0 → ⊥) → i < bytes c → boundary (c ∷ cs) i ≡ false
unfolding boundary pick
boundary-inside c cs i n h = simp (ne_eqb i 0 n, lt-ltb i (bytes c) h)

boundary-after : (c : ℕ) (cs : List ℕ) (i : ℕ) → bytes c ≤ i → boundary (c ∷ cs) i ≡ boundary cs (i - bytes c)
unfolding boundary pick
boundary-after c cs i h = let r = bytes_range c in simp (ne_eqb i 0 (λ e. omega arith), le-ltb i (bytes c) h)

cut_of : (cs : List ℕ) (i : ℕ) → boundary cs i ≡ true → Cut cs i
unfolding boundary size
cut_of [] i e = record { chars = 0; within = omega arith; is = eqb-true i 0 e }
cut_of (c ∷ cs) i e =
    by_eq i 0 (λ z. record { chars = 0; within = omega arith; is = z })
    λ n. by_lt i (bytes c) (λ h. absurd (false≢true (sym (boundary-inside c cs i n h) ∙ e)))
    λ h.
    let t = cut_of cs (i - bytes c) (sym (boundary-after c cs i h) ∙ e) in
    record { chars = suc t.chars; within = omega arith; is = omega arith }

of_cut : (cs : List ℕ) (k : ℕ) → boundary cs (size (take k cs)) ≡ true
unfolding boundary size
of_cut [] zero = refl
of_cut [] (suc k) = refl
of_cut (c ∷ cs) zero = boundary-front c cs 0 refl
of_cut (c ∷ cs) (suc k) =
    let e : bytes c + size (take k cs) - bytes c ≡ size (take k cs) = omega arith in
    boundary-after c cs (bytes c + size (take k cs)) (omega arith) ∙ rw e (of_cut cs k)

pub boundary-is : (cs : List ℕ) (i : ℕ) → (boundary cs i ≡ true) ↔ Cut cs i
boundary-is cs i = (cut_of cs i, λ t. rw t.is (of_cut cs t.chars))

-- ---- the bytes of a character

abbrev Conts : List ℕ → Type 0
Conts [] = Unit {0}
Conts (b ∷ s) = Cont b × Conts s

-- A sequence: its first byte continues none, and each other byte does.
abbrev Shape : List ℕ → Type 0
Shape [] = ⊥
Shape (a ∷ s) = (cont a ≡ false) × Conts s

trail-cont : (x : ℕ) → Cont (trail x)
trail-cont x = omega arith

lead-not : (a : ℕ) → 0xC0 ≤ a → cont a ≡ false
lead-not a h = within-not 0x80 0xBF a (λ p q. omega arith)

shape : (c : ℕ) → Shape (encode c)
shape c =
    encode_cases (λ l n. Shape l) c (λ h. (within-not 0x80 0xBF c (λ p q. omega arith), tt))
    (λ g h. (lead-not (0xC0 + c / 64) (omega arith), (trail-cont c, tt)))
    (λ g h. (lead-not (0xE0 + c / 4096) (omega arith), (trail-cont (c / 64), (trail-cont c, tt))))
    (λ g. (lead-not (0xF0 + c / 262144) (omega arith), (trail-cont (c / 4096), (trail-cont (c / 64), (trail-cont c, tt)))))

conts-at : (s : List ℕ) → Conts s → (i : ℕ) → i < length s → cont (get_or s i 0) ≡ true
conts-at [] cs i h = absurd (omega arith)
conts-at (b ∷ s) cs zero h = within-is 0x80 0xBF b cs.0.0 cs.0.1
conts-at (b ∷ s) cs (suc i) h = conts-at s cs.1 i (omega arith)

-- ---- by bytes

byte-start : (q s : List ℕ) → Shape q → boundary_at (q ++ s) 0 ≡ true
unfolding boundary_at pick
byte-start [] s h = absurd h
byte-start (a ∷ r) s h = simp (lt-ltb 0 (suc (length (r ++ s))) (omega arith), h.0)

byte_inside : (q s : List ℕ) → Shape q → (i : ℕ) → (i ≡ 0 → ⊥) → i < length q → boundary_at (q ++ s) i ≡ false
unfolding boundary_at pick
byte_inside [] s h i n l = absurd h
byte_inside (a ∷ r) s h zero n l = absurd (n refl)
byte_inside (a ∷ r) s h (suc i) n l =
    simp (lt-ltb (suc i) (suc (length (r ++ s))) (simp length-append (omega arith)), get_or-append r s 0 i (omega arith), conts-at r h.1 i (omega arith))

byte-after : (q s : List ℕ) (j : ℕ) → boundary_at (q ++ s) (length q + j) ≡ boundary_at s j
unfolding boundary_at pick
byte-after q s j =
    rw (length-append, get_or-append-add)
    (by_lt j (length s)
    (λ h. simp (lt-ltb (length q + j) (length q + length s) (omega arith), lt-ltb j (length s) h))
    λ g. by_eq j (length s)
    (λ e. simp (le-ltb (length q + j) (length q + length s) (omega arith), le-ltb j (length s) g, eq-eqb (length q + j) (length q + length s) (omega arith), eq-eqb j (length s) e))
    (λ n. simp (le-ltb (length q + j) (length q + length s) (omega arith), le-ltb j (length s) g, ne_eqb (length q + j) (length q + length s) (λ e. n (omega arith)), ne_eqb j (length s) n)))

pub boundary-bytes : (cs : List ℕ) → Scalars cs → (i : ℕ) → boundary_at (encode_all cs) i ≡ boundary cs i
unfolding encode_all boundary boundary_at pick
boundary-bytes [] al i = simp (le-ltb i 0 (omega arith))
boundary-bytes (c ∷ cs) al i =
    let q = encode c in
    let s = encode_all cs in
    let b = bytes-is c in
    by_eq i 0 (λ e. ap (boundary_at (q ++ s)) e ∙ byte-start q s (shape c) ∙ sym (boundary-front c cs i e))
    λ n. by_lt i (bytes c) (λ h. byte_inside q s (shape c) i n (omega arith) ∙ sym (boundary-inside c cs i n h))
    λ h.
    let e : i ≡ length q + (i - bytes c) = omega arith in
    ap (boundary_at (q ++ s)) e ∙ byte-after q s (i - bytes c) ∙ boundary-bytes cs al.1 (i - bytes c) ∙ sym (boundary-after c cs i h)

-- ---- how many characters there are

count-rest : (r s : List ℕ) → Conts r → count_chars (r ++ s) ≡ count_chars s
unfolding count_chars pick
count-rest [] s h = refl
count-rest (b ∷ r) s h = simp (within-is 0x80 0xBF b h.0.0 h.0.1) (count-rest r s h.1)

count-one : (q s : List ℕ) → Shape q → count_chars (q ++ s) ≡ suc (count_chars s)
unfolding count_chars pick
count-one [] s h = absurd h
count-one (a ∷ r) s h = simp h.0 (ap suc (count-rest r s h.1))

pub count-text : (cs : List ℕ) → Scalars cs → count_chars (encode_all cs) ≡ length cs
unfolding encode_all count_chars
count-text [] al = refl
count-text (c ∷ cs) al = count-one (encode c) (encode_all cs) (shape c) ∙ ap suc (count-text cs al.1)

-- The characters of a stretch.
pub count-part : (xs ys zs : List ℕ) → Scalars ys → count_chars (take (size ys) (drop (size xs) (encode_all (xs ++ ys ++ zs)))) ≡ length ys
count-part xs ys zs al = rw (append_assoc, drop-encoded, take-encoded) (count-text ys al)
