-- How many bytes a scalar value and a list of them take, and where a list's parts lie in its bytes.
-- Assumes nothing.
use Rattle.std.specs.Prelude.{◌≡◌, refl, List, [], ◌∷◌, ◌++◌, ℕ, ◌+◌, ◌/◌, ◌≤◌, ◌<◌, length, take, drop}
use Rattle.std.proofs.Common.{sym, append_assoc, arith, length-append, take_at, drop_at, lt-ltb, le-ltb}
use Rattle.basis.specs.Choice.{pick}
use Rattle.basis.specs.Order.{by_lt}
use Rattle.utf8.specs.Encoding.{trail, encode, bytes, size, encode_all}

-- The four rows of Table 3-6.
pub encode_one : (c : ℕ) → c < 0x80 → encode c ≡ c ∷ []
unfolding encode pick
encode_one c h = simp (lt-ltb c 0x80 h)

pub encode-two : (c : ℕ) → 0x80 ≤ c → c < 0x800 → encode c ≡ (0xC0 + c / 64) ∷ trail c ∷ []
unfolding encode pick
encode-two c g h = simp (le-ltb c 0x80 g, lt-ltb c 0x800 h)

pub encode-three : (c : ℕ) → 0x800 ≤ c → c < 0x10000 → encode c ≡ (0xE0 + c / 4096) ∷ trail (c / 64) ∷ trail c ∷ []
unfolding encode pick
encode-three c g h = simp (le-ltb c 0x80 (omega arith), le-ltb c 0x800 g, lt-ltb c 0x10000 h)

pub encode-four : (c : ℕ) → 0x10000 ≤ c
    → encode c ≡ (0xF0 + c / 262144) ∷ trail (c / 4096) ∷ trail (c / 64) ∷ trail c ∷ []
unfolding encode pick
encode-four c g = simp (le-ltb c 0x80 (omega arith), le-ltb c 0x800 (omega arith), le-ltb c 0x10000 g)

-- What holds of each row holds of the bytes of every number, and of how many they are.
pub encode_cases : (P : List ℕ → ℕ → Type 0) (c : ℕ)
    → (c < 0x80 → P (c ∷ []) 1)
    → (0x80 ≤ c → c < 0x800 → P ((0xC0 + c / 64) ∷ trail c ∷ []) 2)
    → (0x800 ≤ c → c < 0x10000 → P ((0xE0 + c / 4096) ∷ trail (c / 64) ∷ trail c ∷ []) 3)
    → (0x10000 ≤ c → P ((0xF0 + c / 262144) ∷ trail (c / 4096) ∷ trail (c / 64) ∷ trail c ∷ []) 4)
    → P (encode c) (bytes c)
unfolding bytes pick
encode_cases P c one two three four =
    by_lt c 0x80 (λ h. rw (encode_one c h) (simp (lt-ltb c 0x80 h) (one h))) λ g.
    by_lt c 0x800 (λ h. rw (encode-two c g h) (simp (le-ltb c 0x80 g, lt-ltb c 0x800 h) (two g h))) λ g2.
    by_lt c 0x10000
    (λ h. rw (encode-three c g2 h) (simp (le-ltb c 0x80 g, le-ltb c 0x800 g2, lt-ltb c 0x10000 h) (three g2 h)))
    (λ g3. rw (encode-four c g3) (simp (le-ltb c 0x80 g, le-ltb c 0x800 g2, le-ltb c 0x10000 g3) (four g3)))

pub bytes-is : (c : ℕ) → bytes c ≡ length (encode c)
bytes-is c = encode_cases (λ l n. n ≡ length l) c (λ _. refl) (λ _ _. refl) (λ _ _. refl) (λ _. refl)

pub bytes_range : (c : ℕ) → (1 ≤ bytes c) × (bytes c ≤ 4)
bytes_range c = encode_cases (λ l n. (1 ≤ n) × (n ≤ 4)) c (λ _. omega arith) (λ _ _. omega arith) (λ _ _. omega arith) (λ _. omega arith)

pub size_is : (cs : List ℕ) → size cs ≡ length (encode_all cs)
unfolding size encode_all
size_is [] = refl
size_is (c ∷ cs) = simp length-append (omega (arith, bytes-is c, size_is cs))

-- One list after another.
pub encode_append : (xs ys : List ℕ) → encode_all (xs ++ ys) ≡ encode_all xs ++ encode_all ys
unfolding encode_all
encode_append [] ys = refl
encode_append (x ∷ xs) ys = rw (encode_append xs ys, append_assoc)

pub size_append : (xs ys : List ℕ) → size (xs ++ ys) ≡ size xs + size ys
unfolding size
size_append [] ys = omega arith
size_append (x ∷ xs) ys = omega (arith, size_append xs ys)

-- The bytes of the first part, and of what follows it.
pub take-encoded : (xs ys : List ℕ) → take (size xs) (encode_all (xs ++ ys)) ≡ encode_all xs
take-encoded xs ys = rw (encode_append xs ys) (take_at (encode_all xs) (encode_all ys) (size xs) (sym (size_is xs)))

pub drop-encoded : (xs ys : List ℕ) → drop (size xs) (encode_all (xs ++ ys)) ≡ encode_all ys
drop-encoded xs ys = rw (encode_append xs ys) (drop_at (encode_all xs) (encode_all ys) (size xs) (sym (size_is xs)))
