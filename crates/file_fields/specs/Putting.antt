-- Numbers and bytes put one after the other, as the loops over them do.
-- Assumes nothing.
use Rattle.std.specs.Prelude.{ℕ, zero, suc, ◌+◌, ◌-◌, ◌*◌, ◌/◌, ◌%◌, ◌≤◌, ◌<◌, ◌≡◌, refl, List, [], ◌∷◌, ◌++◌, length, get_or, take, drop, set}
use Rattle.std.proofs.Common.{sym, ap, ◌∙◌, append_assoc, append-nil, zero-add, add-one, arith, length-drop, drop_of_length-le, drop-drop, get_or-drop, take-suc, length-take-le}
use borrow.Rule.Slice.PartMut.{put_mid}
use Rattle.meaning.specs.Table.{of_all, written}
use Rattle.meaning.specs.LayoutFile.{header_bytes, number_bytes, bytes_of, field}
use Rattle.meaning.specs.ReadFile.{number_in, numbers_in}
use Rattle.laws.specs.TableLaws.{all_append}
use Rattle.file_fields.specs.FileNumbers.{words-bytes, numbers-count}
use Rattle.table.specs.Numbers.{put_numbers, stored-are}
use Rattle.table.specs.Stretches.{join_behind}

pub store_is : (t : List ℕ) (i v : ℕ) → i < length t → set t i v ≡ put_numbers t i (v ∷ [])
store_is t i v h = stored-are (v ∷ []) t i (omega arith)

-- ---- numbers read

numbers-last : (n : ℕ) (f : List ℕ) → numbers_in (suc n) f ≡ numbers_in n f ++ (number_in (drop (number_bytes * n) f) ∷ [])
unfolding numbers_in
numbers-last zero f = refl
numbers-last (suc n) f =
    let e : number_bytes + number_bytes * n ≡ number_bytes * suc n = omega arith in
    ap (λ (l : List ℕ). number_in f ∷ l)
    (numbers-last n (drop number_bytes f)
    ∙ ap (λ (l : List ℕ). numbers_in n (drop number_bytes f) ++ (number_in l ∷ [])) (drop-drop (number_bytes * n) number_bytes f ∙ ap (λ (k : ℕ). drop k f) e))

-- One number more, stored behind those that were put.
pub read_next : (t u : List ℕ) (place : ℕ) (f : List ℕ) (at i v : ℕ) → u ≡ put_numbers t place (numbers_in i (drop at f)) → length u ≡ length t
    → v ≡ number_in (drop (at + number_bytes * i) f) → place + i < length t
    → set u (place + i) v ≡ put_numbers t place (numbers_in (i + 1) (drop at f))
read_next t u place f at i v put k e h =
    let g = drop at f in
    let w : v ≡ number_in (drop (number_bytes * i) g) = e ∙ ap number_in (sym (drop-drop (number_bytes * i) at f)) in
    let p : place + i ≡ place + length (numbers_in i g) = ap (λ (n : ℕ). place + n) (sym (numbers-count i g)) in
    store_is u (place + i) v (omega arith)
    ∙ ap (λ (l : List ℕ). put_numbers l (place + i) (v ∷ [])) put
    ∙ ap (λ (j : ℕ). put_numbers (put_numbers t place (numbers_in i g)) j (v ∷ [])) p
    ∙ join_behind t place (numbers_in i g) (omega arith) (v ∷ [])
    ∙ ap (λ (n : ℕ). put_numbers t place (numbers_in i g ++ (n ∷ []))) w
    ∙ ap (put_numbers t place) (sym (numbers-last i g) ∙ ap (λ (n : ℕ). numbers_in n g) (sym (add-one i)))

-- ---- numbers written

bytes-last : (n : ℕ) (xs : List ℕ) → n < length xs → of_all bytes_of (take (n + 1) xs) ≡ of_all bytes_of (take n xs) ++ bytes_of (get_or xs n 0)
unfolding of_all
bytes-last n xs h =
    ap (λ (m : ℕ). of_all bytes_of (take m xs)) (add-one n)
    ∙ ap (of_all bytes_of) (take-suc xs n 0 h)
    ∙ all_append bytes_of (take n xs) (get_or xs n 0 ∷ [])
    ∙ ap (λ (l : List ℕ). of_all bytes_of (take n xs) ++ l) (append-nil (bytes_of (get_or xs n 0)))

pub write_next : (t u : List ℕ) (at : ℕ) (b : List ℕ) (place i : ℕ) → u ≡ put_numbers t at (of_all bytes_of (take i (drop place b)))
    → at ≤ length t → place + i < length b
    → put_numbers u (at + number_bytes * i) (bytes_of (get_or b (place + i) 0)) ≡ put_numbers t at (of_all bytes_of (take (i + 1) (drop place b)))
write_next t u at b place i put h k =
    let xs = drop place b in
    let done = of_all bytes_of (take i xs) in
    let long : i < length xs = omega (arith, length-drop place b) in
    let p : at + number_bytes * i ≡ at + length done = omega (arith, words-bytes (take i xs), length-take-le i xs (omega arith)) in
    ap (λ (l : List ℕ). put_numbers l (at + number_bytes * i) (bytes_of (get_or b (place + i) 0))) put
    ∙ ap (λ (j : ℕ). put_numbers (put_numbers t at done) j (bytes_of (get_or b (place + i) 0))) p
    ∙ join_behind t at done h (bytes_of (get_or b (place + i) 0))
    ∙ ap (λ (n : ℕ). put_numbers t at (done ++ bytes_of n)) (sym (get_or-drop place b i 0))
    ∙ ap (put_numbers t at) (sym (bytes-last i xs long))

-- ---- a field

pub put-field : (t : List ℕ) (at tag size : ℕ) (body : List ℕ) → length body ≡ size → at ≤ length t
    → put_numbers (put_numbers t at (tag ∷ size % 256 ∷ size / 256 ∷ [])) (at + header_bytes) body ≡ put_numbers t at (field tag body)
unfolding field
put-field t at tag size body e h =
    join_behind t at (tag ∷ size % 256 ∷ size / 256 ∷ []) h body
    ∙ ap (λ (n : ℕ). put_numbers t at (tag ∷ n % 256 ∷ n / 256 ∷ body)) (sym e)

-- Bytes put at the front are written.
pub put_written : (t xs : List ℕ) → put_numbers t 0 xs ≡ written t xs
unfolding put_numbers written
put_written t xs = rw (zero-add (length xs))

-- ---- a list put to a buffer's front

pub front-next : (t u xs : List ℕ) (i v : ℕ) → u ≡ put_numbers t 0 (take i xs) → length u ≡ length t → v ≡ get_or xs i 0 → i < length xs
    → length xs ≤ length t → set u i v ≡ put_numbers t 0 (take (i + 1) xs)
front-next t u xs i v put k e h l =
    let p : i ≡ 0 + length (take i xs) = omega (arith, length-take-le i xs (omega arith)) in
    store_is u i v (omega arith)
    ∙ ap (λ (m : List ℕ). put_numbers m i (v ∷ [])) put
    ∙ ap (λ (j : ℕ). put_numbers (put_numbers t 0 (take i xs)) j (v ∷ [])) p
    ∙ join_behind t 0 (take i xs) (omega arith) (v ∷ [])
    ∙ ap (λ (n : ℕ). put_numbers t 0 (take i xs ++ (n ∷ []))) e
    ∙ ap (put_numbers t 0) (sym (take-suc xs i 0 h) ∙ ap (λ (n : ℕ). take n xs) (sym (add-one i)))

-- A buffer that is filled whole.
pub filled : (t xs : List ℕ) → length t ≡ length xs → put_numbers t 0 xs ≡ xs
unfolding put_numbers
filled t xs e =
    let h : length t ≤ 0 + length xs = omega arith in
    ap (λ (l : List ℕ). xs ++ l) (drop_of_length-le t h) ∙ append-nil xs

-- Numbers copied to a stretch of a buffer are put there.
pub copied_put : (t : List ℕ) (i e : ℕ) (ys xs : List ℕ) → ys ≡ xs → e ≡ i + length xs → put_mid i (e - i) t ys ≡ put_numbers t i xs
unfolding put_numbers
copied_put t i e ys xs s h =
    let k : i + (e - i) ≡ i + length xs = omega arith in
    rw s
    (ap (λ (l : List ℕ). take i t ++ (xs ++ l)) (drop-drop (e - i) i t ∙ ap (λ (j : ℕ). drop j t) k)
    ∙ sym (append_assoc (take i t) xs (drop (i + length xs) t)))
