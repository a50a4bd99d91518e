-- Numbers put at two places of a buffer, one beside the other or where lines are still to be read.
-- Assumes nothing.
use Rattle.std.specs.Prelude.{ℕ, zero, suc, ◌+◌, ◌-◌, ◌*◌, ◌≤◌, ◌≡◌, refl, take}
use Rattle.std.proofs.Common.{sym, ap, ◌∙◌, add-zero, arith, length-drop, take-append-drop, take_at, drop-drop, take-add}
use mathlib.Core.List.{List, [], ◌∷◌, ◌++◌, append_assoc, append-nil}
use Rattle.std.proofs.Math.ListN.{length, drop, length-append}
use Rattle.std.proofs.Math.Seq.{length-take-le, take-append-le, take-take, drop_at}
use Rattle.meaning.specs.Table.{entry_numbers, entry_in, entries_in}
use Rattle.laws.specs.TableLaws.{entries_length, entries_read, all-numbers-read}
use Rattle.table.specs.Numbers.{put_numbers, put-length}

-- ---- before and behind what was put

module _ (t : List ℕ) (i : ℕ) (xs : List ℕ) (h : i ≤ length t) where
  abbrev past : List ℕ
  past = drop (i + length xs) t

  -- All that stands up to the end of what was put.
  up_to : length (take i t ++ xs) ≡ i + length xs
  up_to = length-append (take i t) xs ∙ ap (λ (n : ℕ). n + length xs) (length-take-le i t h)

  pub put-before : (n : ℕ) → n ≤ i → take n (put_numbers t i xs) ≡ take n t
  unfolding put_numbers
  put-before n k =
      take-append-le n (take i t ++ xs) past (omega (arith, up_to))
      ∙ take-append-le n (take i t) xs (omega (arith, length-take-le i t h))
      ∙ take-take n i t k

  -- From its place on.
  put-from : drop i (put_numbers t i xs) ≡ xs ++ past
  unfolding put_numbers
  put-from = rw (append_assoc (take i t) xs past) (drop_at (take i t) (xs ++ past) i (length-take-le i t h))

  put-end : drop (i + length xs) (put_numbers t i xs) ≡ past
  unfolding put_numbers
  put-end = drop_at (take i t ++ xs) past (i + length xs) up_to

  pub put-past : (n : ℕ) → i + length xs ≤ n → drop n (put_numbers t i xs) ≡ drop n t
  put-past n k =
      let m = n - (i + length xs) in
      let e : i + length xs + m ≡ n = omega arith in
      ap (λ (j : ℕ). drop j (put_numbers t i xs)) (sym e)
      ∙ sym (drop-drop m (i + length xs) (put_numbers t i xs))
      ∙ ap (drop m) put-end
      ∙ drop-drop m (i + length xs) t
      ∙ ap (λ (j : ℕ). drop j t) e

  -- Numbers put just behind those that were put are put with them.
  pub join_behind : (ys : List ℕ) → put_numbers (put_numbers t i xs) (i + length xs) ys ≡ put_numbers t i (xs ++ ys)
  unfolding put_numbers
  join_behind ys =
      let n = i + length xs in
      let e : n + length ys ≡ i + length (xs ++ ys) = omega (arith, length-append xs ys) in
      rw (take_at (take i t ++ xs) past n up_to, put-past (n + length ys) (omega arith), e)
      (ap (λ (l : List ℕ). l ++ drop (i + length (xs ++ ys)) t) (append_assoc (take i t) xs ys))

-- And so are those just before them.
pub join_ahead : (t : List ℕ) (i : ℕ) (xs ys : List ℕ) → i + length xs ≤ length t
    → put_numbers (put_numbers t (i + length xs) ys) i xs ≡ put_numbers t i (xs ++ ys)
unfolding put_numbers
join_ahead t i xs ys h =
    let n = i + length xs in
    let e : n + length ys ≡ i + length (xs ++ ys) = omega (arith, length-append xs ys) in
    ap (λ (l : List ℕ). l ++ xs ++ drop n (put_numbers t n ys)) (put-before t n ys h i (omega arith))
    ∙ ap (λ (l : List ℕ). take i t ++ xs ++ l) (put-from t n ys h ∙ ap (λ (m : ℕ). ys ++ drop m t) e)
    ∙ sym (append_assoc (take i t ++ xs) ys (drop (i + length (xs ++ ys)) t))
    ∙ ap (λ (l : List ℕ). l ++ drop (i + length (xs ++ ys)) t) (append_assoc (take i t) xs ys)

pub put-none : (t : List ℕ) (i : ℕ) → put_numbers t i [] ≡ t
unfolding put_numbers
put-none t i = rw (append-nil (take i t), add-zero i) (take-append-drop i t)

-- ---- lines read

-- Lines are the same where their numbers are.
pub entries_same : (n : ℕ) (t u : List ℕ) → entry_numbers * n ≤ length t → take (entry_numbers * n) u ≡ take (entry_numbers * n) t → entries_in n u ≡ entries_in n t
entries_same n t u h e =
    let es = entries_in n t in
    let past = drop (entry_numbers * n) u in
    ap (λ (k : ℕ). entries_in k u) (sym (entries_length n t))
    ∙ ap (entries_in (length es)) (sym (take-append-drop (entry_numbers * n) u) ∙ ap (λ (l : List ℕ). l ++ past) (e ∙ sym (all-numbers-read n t h)))
    ∙ entries_read es past

drop-take : (m n : ℕ) (t : List ℕ) → m ≤ length t → drop m (take (m + n) t) ≡ take n (drop m t)
drop-take m n t h = ap (drop m) (take-add m n t) ∙ drop_at (take m t) (take n (drop m t)) m (length-take-le m t h)

-- Numbers put behind lines leave these as they were.
pub entries_before : (n m i : ℕ) (t xs : List ℕ) → m + entry_numbers * n ≤ i → i + length xs ≤ length t
    → entries_in n (drop m (put_numbers t i xs)) ≡ entries_in n (drop m t)
entries_before n m i t xs h k =
    let u = put_numbers t i xs in
    entries_same n (drop m t) (drop m u) (omega (arith, length-drop m t))
    (sym (drop-take m (entry_numbers * n) u (omega (arith, put-length t i xs k)))
    ∙ ap (drop m) (put-before t i xs (omega arith) (m + entry_numbers * n) h)
    ∙ drop-take m (entry_numbers * n) t (omega arith))

-- One line more is read last.
pub entries_last : (n : ℕ) (t : List ℕ) → entries_in (suc n) t ≡ entries_in n t ++ (entry_in (drop (entry_numbers * n) t) ∷ [])
unfolding entries_in
entries_last zero t = refl
entries_last (suc n) t =
    let e : entry_numbers + entry_numbers * n ≡ entry_numbers * suc n = omega arith in
    ap (◌∷◌ (entry_in t)) (entries_last n (drop entry_numbers t))
    ∙ ap (λ (l : List ℕ). entry_in t ∷ entries_in n (drop entry_numbers t) ++ (entry_in l ∷ [])) (drop-drop (entry_numbers * n) entry_numbers t ∙ ap (λ (k : ℕ). drop k t) e)
