-- Numbers as four bytes and back, signed numbers as 32 bits and back (the layout file).
-- Assumes nothing.
use Rattle.std.specs.Prelude.{ℕ, zero, suc, ◌+◌, ◌-◌, ◌*◌, ◌/◌, ◌%◌, ◌≤◌, ◌<◌, ◌≡◌, refl, List, [], ◌∷◌, ◌++◌, ℤ, pos, negsuc, length, get_or, take, drop}
use Rattle.std.proofs.Common.{ap, append_assoc, arith, lt-ltb, le-ltb, length-drop, take-add, drop_at}
use Rattle.std.specs.Int.Signed.{mag}
use Rattle.basis.specs.Choice.{pick}
use Rattle.basis.specs.Order.{by_lt}
use Rattle.meaning.specs.Table.{of_all}
use Rattle.meaning.specs.LayoutFile.{number_bytes, bytes_of, bits_of}
use Rattle.meaning.specs.ReadFile.{number_in, numbers_in, signed_of}
use Rattle.laws.specs.TableLaws.{all-numbers}

-- Every number is below a bound: bytes below 256, numbers of 32 bits below 4,294,967,296.
abbrev pub Below : (bound : ℕ) → List ℕ → Type 0
Below b [] = Unit {0}
Below b (x ∷ xs) = (x < b) × Below b xs

abbrev pub Bytes : List ℕ → Type 0
Bytes = Below 256

abbrev pub Words : List ℕ → Type 0
Words = Below 4294967296

-- ---- one number

-- One byte off a number, and put before one.
last_byte : (n : ℕ) → n ≡ n % 256 + 256 * (n / 256)
last_byte n = omega arith

low_byte : (x m : ℕ) → x < 256 → (x + 256 * m) % 256 ≡ x
low_byte x m h = omega arith

high-bytes : (x m : ℕ) → x < 256 → (x + 256 * m) / 256 ≡ m
high-bytes x m h = omega arith

two_down : (n : ℕ) → n / 65536 ≡ n / 256 / 256
two_down n = omega arith

three_down : (n : ℕ) → n / 16777216 ≡ n / 256 / 256 / 256
three_down n = omega arith

joined : (n a b c r q p d : ℕ) → n ≡ r + 256 * a → a ≡ q + 256 * b → b ≡ p + 256 * c → c ≡ d
    → r + 256 * q + 65536 * p + 16777216 * d ≡ n
joined n a b c r q p d e f g h = omega arith

small-byte : (n : ℕ) → n < 4294967296 → n / 256 / 256 / 256 ≡ n / 256 / 256 / 256 % 256
small-byte n h = omega arith

digits : (n : ℕ) → n < 4294967296
    → n % 256 + 256 * (n / 256 % 256) + 65536 * (n / 65536 % 256) + 16777216 * (n / 16777216 % 256) ≡ n
digits n h =
    rw (two_down n, three_down n)
    (joined n (n / 256) (n / 256 / 256) (n / 256 / 256 / 256) _ _ _ _ (last_byte n) (last_byte (n / 256)) (last_byte (n / 256 / 256)) (small-byte n h))

module _ (x y z w : ℕ) (hx : x < 256) (hy : y < 256) (hz : z < 256) (hw : w < 256) where
  abbrev four : ℕ
  four = x + 256 * y + 65536 * z + 16777216 * w

  four_is : four ≡ x + 256 * (y + 256 * (z + 256 * w))
  four_is = omega arith

  first : four % 256 ≡ x
  first = rw four_is (low_byte x (y + 256 * (z + 256 * w)) hx)

  behind : four / 256 ≡ y + 256 * (z + 256 * w)
  behind = rw four_is (high-bytes x (y + 256 * (z + 256 * w)) hx)

  second : four / 256 % 256 ≡ y
  second = rw behind (low_byte y (z + 256 * w) hy)

  behind-two : four / 65536 ≡ z + 256 * w
  behind-two = rw (two_down four, behind) (high-bytes y (z + 256 * w) hy)

  third : four / 65536 % 256 ≡ z
  third = rw behind-two (low_byte z w hz)

  fourth : four / 16777216 % 256 ≡ w
  fourth = rw (three_down four, behind, high-bytes y (z + 256 * w) hy, high-bytes z w hz) (omega arith)

pub number_read : (n : ℕ) (t : List ℕ) → n < 4294967296 → number_in (bytes_of n ++ t) ≡ n
unfolding number_in bytes_of
number_read n t h = digits n h

pub number_bytes_lem : (n : ℕ) → length (bytes_of n) ≡ number_bytes
unfolding bytes_of
number_bytes_lem n = refl

pub bytes_read : (f : List ℕ) → number_bytes ≤ length f → Bytes f → bytes_of (number_in f) ≡ take number_bytes f
unfolding number_in bytes_of
bytes_read [] h b = absurd (omega arith)
bytes_read (x ∷ []) h b = absurd (omega arith)
bytes_read (x ∷ y ∷ []) h b = absurd (omega arith)
bytes_read (x ∷ y ∷ z ∷ []) h b = absurd (omega arith)
bytes_read (x ∷ y ∷ z ∷ w ∷ f) h (bx, (by, (bz, (bw, b)))) =
    λ i. first x y z w bx by bz bw i ∷ second x y z w bx by bz bw i ∷ third x y z w bx by bz bw i ∷ fourth x y z w bx by bz bw i ∷ []

pub number_small : (f : List ℕ) → Bytes f → number_in f < 4294967296
unfolding number_in
number_small [] b = omega arith
number_small (x ∷ []) b = omega (arith, b.0)
number_small (x ∷ y ∷ []) b = omega (arith, b.0, b.1.0)
number_small (x ∷ y ∷ z ∷ []) b = omega (arith, b.0, b.1.0, b.1.1.0)
number_small (x ∷ y ∷ z ∷ w ∷ f) b = omega (arith, b.0, b.1.0, b.1.1.0, b.1.1.1.0)

-- ---- one number after the other

pub words-bytes : (xs : List ℕ) → length (of_all bytes_of xs) ≡ number_bytes * length xs
words-bytes = all-numbers bytes_of number_bytes number_bytes_lem

pub words-read : (xs t : List ℕ) → Words xs → numbers_in (length xs) (of_all bytes_of xs ++ t) ≡ xs
unfolding numbers_in of_all
words-read [] t b = refl
words-read (x ∷ xs) t b =
    let more = of_all bytes_of xs ++ t in
    rw (append_assoc, number_read x more b.0, drop_at (bytes_of x) more number_bytes (number_bytes_lem x), words-read xs t b.1)

pub below-drop : (bound n : ℕ) (f : List ℕ) → Below bound f → Below bound (drop n f)
below-drop bound zero f b = b
below-drop bound (suc n) [] b = tt
below-drop bound (suc n) (x ∷ f) b = below-drop bound n f b.1

pub below-take : (bound n : ℕ) (f : List ℕ) → Below bound f → Below bound (take n f)
below-take bound zero f b = tt
below-take bound (suc n) [] b = tt
below-take bound (suc n) (x ∷ f) b = (b.0, below-take bound n f b.1)

pub below_at : (bound i : ℕ) (f : List ℕ) → 0 < bound → Below bound f → get_or f i 0 < bound
below_at bound i [] h b = h
below_at bound zero (x ∷ f) h b = b.0
below_at bound (suc i) (x ∷ f) h b = below_at bound i f h b.1

pub numbers-count : (n : ℕ) (f : List ℕ) → length (numbers_in n f) ≡ n
unfolding numbers_in
numbers-count zero f = refl
numbers-count (suc n) f = ap suc (numbers-count n (drop number_bytes f))

pub numbers-small : (n : ℕ) (f : List ℕ) → Bytes f → Words (numbers_in n f)
unfolding numbers_in
numbers-small zero f b = tt
numbers-small (suc n) f b = (number_small f b, numbers-small n (drop number_bytes f) (below-drop 256 number_bytes f b))

pub numbers-written : (n : ℕ) (f : List ℕ) → number_bytes * n ≤ length f → Bytes f → of_all bytes_of (numbers_in n f) ≡ take (number_bytes * n) f
unfolding numbers_in of_all
numbers-written zero f h b = refl
numbers-written (suc n) f h b =
    let e : number_bytes * suc n ≡ number_bytes + number_bytes * n = omega arith in
    rw (e, take-add number_bytes (number_bytes * n) f, bytes_read f (omega arith) b, numbers-written n (drop number_bytes f) (omega (arith, length-drop number_bytes f)) (below-drop 256 number_bytes f b))

-- ---- signed numbers

pub signed_bits : (n : ℕ) → n < 4294967296 → bits_of (signed_of n) ≡ n
unfolding bits_of signed_of pick
signed_bits n h =
    by_lt n 2147483648 (λ l. rw (lt-ltb n 2147483648 l)) (λ l. rw (le-ltb n 2147483648 l) (omega arith))

pub bits_signed : (z : ℤ) → mag z < 2147483648 → signed_of (bits_of z) ≡ z
unfolding bits_of signed_of pick
bits_signed (pos n) h = rw (lt-ltb n 2147483648 h)
bits_signed (negsuc n) h = rw (le-ltb (4294967295 - n) 2147483648 (omega arith)) (ap negsuc (omega arith))

pub bits_small : (z : ℤ) → mag z < 2147483648 → bits_of z < 4294967296
unfolding bits_of
bits_small (pos n) h = omega arith
bits_small (negsuc n) h = omega arith
