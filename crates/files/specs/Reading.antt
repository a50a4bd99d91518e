-- The lines of a file as the loops over them meet them, and their check (refusal 5).
-- Assumes nothing.
use Prim.Native.Nat.{ℕ, zero, suc, ◌+◌, ◌-◌, ◌*◌, ◌≤◌, ◌<◌}
use Rattle.meaning.specs.Refusals.{Checked}
use Rattle.std.specs.Prelude.{◌≡◌, refl, true, false, List, [], ◌∷◌, ◌++◌, eqb, length, get_or, drop, Err, Ok}
use Rattle.std.proofs.Math.Path.{sym, ap}
use Rattle.std.proofs.Common.{◌∙◌, append-nil, add-one, eq-eqb, ne_eqb, take_all}
use Rattle.std.proofs.Math.Nat.{sub-zero}
use native.Mathlib.Omega.{arith}
use Rattle.std.proofs.Math.Seq.{drop-drop}
use Rattle.basis.specs.Choice.{pick_true, pick-false}
use Rattle.basis.specs.Order.{by_eq, within-is, within-not}
use Rattle.meaning.specs.Checks.{first_of, check_length}
use Rattle.meaning.specs.Table.{entry_numbers, of_entry, of_all, entry_in}
use Rattle.meaning.specs.WellFormed.{last_reach, text_length, Before, nothing, line, entry_good, check_lines, check_entries}
use Rattle.meaning.specs.LayoutFile.{header_bytes, number_bytes, line_bytes, lines_at}
use Rattle.meaning.specs.ReadFile.{number_in, numbers_in, lines_in, check_lines_read}
use Rattle.meaning.specs.declared.line.Entry.{Entry}
use Rattle.meaning.specs.declared.refusals.Refusal.{Refusal}
use Rattle.meaning.specs.declared.refusals.Refusal.TheVariants.{BadLine}
use Rattle.laws.specs.TableLaws.{numbers-read, all_append, entries_numbers}
use Rattle.laws.specs.TestOrder.{first_alone}
use Rattle.file_fields.specs.FileNumbers.{numbers-count}
use Rattle.table.specs.Numbers.{put_numbers}
use Rattle.table.specs.Stretches.{join_behind}
use Rattle.look.specs.OneLine.{line_good, is_last, line-good}
use Rattle.files.specs.Tests.{stops, passes}

-- ---- the lines from a line on

unfoldable pub rows_from : List ℕ → (lines k : ℕ) → List Entry
rows_from f lines k = lines_in (lines - k) (drop (lines_at + line_bytes * k) f)

-- A line's numbers stand behind its header.
abbrev pub row_at : List ℕ → (k : ℕ) → Entry
row_at f k = entry_in (numbers_in entry_numbers (drop (lines_at + line_bytes * k + header_bytes) f))

module _ (f : List ℕ) (lines : ℕ) where
  pub rows_all : rows_from f lines 0 ≡ lines_in lines (drop lines_at f)
  unfolding rows_from
  rows_all = ap (λ (n : ℕ). lines_in n (drop lines_at f)) (sub-zero lines)

  module _ (k : ℕ) where
    pub rows_more : k < lines → rows_from f lines k ≡ row_at f k ∷ rows_from f lines (k + 1)
    unfolding rows_from lines_in
    rows_more h =
        let at = lines_at + line_bytes * k in
        let e : lines - k ≡ suc (lines - (k + 1)) = omega arith in
        let g : at + line_bytes ≡ lines_at + line_bytes * (k + 1) = omega arith in
        rw (e, drop-drop header_bytes at f, drop-drop line_bytes at f, g)

    pub rows_end : lines ≤ k → rows_from f lines k ≡ []
    unfolding rows_from lines_in
    rows_end h =
        let e : lines - k ≡ 0 = omega arith in
        rw e

    last-is : k < lines → is_last (rows_from f lines k) ≡ false
    last-is h = rw (rows_more h)

-- ---- the check, line by line

module _ (f : List ℕ) (lines k : ℕ) (n : ℕ) (b : Before) where
  abbrev rest : List Entry
  rest = rows_from f lines (k + 1)

  pub rows-done : lines ≤ k → check_lines n k b (rows_from f lines k) ≡ Ok tt
  unfolding check_lines
  rows-done h = rw (rows_end f lines k h)

  module _ (h : k < lines) (e : Entry) (q : e ≡ row_at f k) where
    here : rows_from f lines k ≡ e ∷ rest
    here = rows_more f lines k h ∙ ap (λ (x : Entry). x ∷ rest) (sym q)

    ends : is_last rest ≡ eqb (k + 1) lines
    ends =
        by_eq (k + 1) lines (λ o. rw (rows_end f lines (k + 1) (omega arith), eq-eqb _ _ o))
        (λ o. rw (last-is f lines (k + 1) (omega arith), ne_eqb _ _ o))

    tested : entry_good n b e rest ≡ line_good n b e (eqb (k + 1) lines)
    tested = sym (line-good n b e rest) ∙ ap (line_good n b e) ends

    pub row-good : line_good n b e (eqb (k + 1) lines) ≡ true
        → check_lines n k b (rows_from f lines k) ≡ check_lines n (k + 1) (line e.start.0 e.reach.0 e.before.0) rest
    unfolding check_lines
    row-good g =
        ap (check_lines n k b) here
        ∙ pick_true _ _ _ (tested ∙ g)
        ∙ ap (λ (j : ℕ). check_lines n j (line e.start.0 e.reach.0 e.before.0) rest) (sym (add-one k))

    pub row_bad : line_good n b e (eqb (k + 1) lines) ≡ false → check_lines n k b (rows_from f lines k) ≡ Err (BadLine k)
    unfolding check_lines
    row_bad g = ap (check_lines n k b) here ∙ pick-false _ _ _ (tested ∙ g)

-- ---- the last reach

number_nth : (n i : ℕ) (f : List ℕ) → i < n → get_or (numbers_in n f) i 0 ≡ number_in (drop (number_bytes * i) f)
unfolding numbers_in
number_nth zero i f h = absurd (omega arith)
number_nth (suc n) zero f h = refl
number_nth (suc n) (suc i) f h =
    let e : number_bytes + number_bytes * i ≡ number_bytes * suc i = omega arith in
    number_nth n i (drop number_bytes f) (omega arith)
    ∙ ap number_in (drop-drop (number_bytes * i) number_bytes f ∙ ap (λ (j : ℕ). drop j f) e)

last_row : (m : ℕ) (f : List ℕ) → last_reach (lines_in (suc m) f) ≡ number_in (drop (line_bytes * m + (header_bytes + number_bytes * 9)) f)
unfolding last_reach lines_in entry_in
last_row zero f =
    number_nth entry_numbers 9 (drop header_bytes f) (omega arith)
    ∙ ap number_in (drop-drop (number_bytes * 9) header_bytes f)
last_row (suc m) f =
    let e : line_bytes + (line_bytes * m + (header_bytes + number_bytes * 9)) ≡ line_bytes * suc m + (header_bytes + number_bytes * 9) = omega arith in
    last_row m (drop line_bytes f)
    ∙ ap number_in (drop-drop (line_bytes * m + (header_bytes + number_bytes * 9)) line_bytes f ∙ ap (λ (j : ℕ). drop j f) e)

pub reach-none : (f : List ℕ) (lines : ℕ) → lines ≡ 0 → 0 ≡ last_reach (lines_in lines f)
unfolding last_reach lines_in
reach-none f lines e = rw e

pub reach-last : (f : List ℕ) (lines : ℕ) → (lines ≡ 0 → ⊥)
    → number_in (drop (lines_at + line_bytes * (lines - 1) + (header_bytes + number_bytes * 9)) f) ≡ last_reach (lines_in lines (drop lines_at f))
reach-last f zero d = absurd (d refl)
reach-last f (suc m) d =
    let e : lines_at + line_bytes * (suc m - 1) + (header_bytes + number_bytes * 9) ≡ lines_at + (line_bytes * m + (header_bytes + number_bytes * 9)) = omega arith in
    ap number_in (ap (λ (j : ℕ). drop j f) e ∙ sym (drop-drop (line_bytes * m + (header_bytes + number_bytes * 9)) lines_at f))
    ∙ sym (last_row m (drop lines_at f))

-- ---- refusal 5 as a whole

module _ (es : List Entry) (n r : ℕ) (q : r ≡ last_reach es) where
  pub reach_bad : (1 ≤ r → r ≤ 65536 → ⊥) → Err (BadLine 0) ≡ check_lines_read n es
  unfolding check_lines_read check_entries
  reach_bad d =
      by_eq (text_length es) n
      (λ e. sym (pick_true _ _ _ (eq-eqb _ _ e) ∙ pick-false _ _ _ (within-not 1 65536 (last_reach es) (λ a b. d (rw q a) (rw q b)))))
      (λ e. sym (pick-false _ _ _ (ne_eqb _ _ e)))

  pub length_bad : (r - 1 ≡ n → ⊥) → Err (BadLine 0) ≡ check_lines_read n es
  unfolding check_lines_read text_length
  length_bad d = sym (pick-false _ _ _ (ne_eqb (last_reach es - 1) n (λ e. d (ap (λ (m : ℕ). m - 1) q ∙ e))))

  pub rows_decide : 1 ≤ r → r ≤ 65536 → r - 1 ≡ n → check_lines n 0 nothing es ≡ check_lines_read n es
  unfolding check_lines_read check_entries text_length
  rows_decide a b e =
      let t : last_reach es - 1 ≡ n = ap (λ (m : ℕ). m - 1) (sym q) ∙ e in
      ap (λ (m : ℕ). check_lines m 0 nothing es) (sym t)
      ∙ sym (pick_true _ _ _ (eq-eqb (last_reach es - 1) n t) ∙ pick_true _ _ _ (within-is 1 65536 (last_reach es) (rw q at a) (rw q at b)))

-- ---- one line more written to a table

pub row-numbers : (f : List ℕ) (k : ℕ) → of_entry (row_at f k) ≡ numbers_in entry_numbers (drop (lines_at + line_bytes * k + header_bytes) f)
row-numbers f k =
    let xs = numbers_in entry_numbers (drop (lines_at + line_bytes * k + header_bytes) f) in
    let c = numbers-count entry_numbers (drop (lines_at + line_bytes * k + header_bytes) f) in
    numbers-read xs (omega arith) ∙ take_all entry_numbers xs (omega arith)

last-from : (k : ℕ) (g : List ℕ)
    → lines_in (suc k) g ≡ lines_in k g ++ (entry_in (numbers_in entry_numbers (drop (line_bytes * k + header_bytes) g)) ∷ [])
unfolding lines_in
last-from zero g = refl
last-from (suc k) g =
    let e : line_bytes + (line_bytes * k + header_bytes) ≡ line_bytes * suc k + header_bytes = omega arith in
    let h = entry_in (numbers_in entry_numbers (drop header_bytes g)) in
    ap (◌∷◌ h) (last-from k (drop line_bytes g))
    ∙ ap (λ (l : List ℕ). h ∷ lines_in k (drop line_bytes g) ++ (entry_in (numbers_in entry_numbers l) ∷ []))
    (drop-drop (line_bytes * k + header_bytes) line_bytes g ∙ ap (λ (j : ℕ). drop j g) e)

pub lines-last : (k : ℕ) (f : List ℕ) → lines_in (suc k) (drop lines_at f) ≡ lines_in k (drop lines_at f) ++ (row_at f k ∷ [])
lines-last k f =
    let e : lines_at + (line_bytes * k + header_bytes) ≡ lines_at + line_bytes * k + header_bytes = omega arith in
    last-from k (drop lines_at f)
    ∙ ap (λ (l : List ℕ). lines_in k (drop lines_at f) ++ (entry_in (numbers_in entry_numbers l) ∷ []))
    (drop-drop (line_bytes * k + header_bytes) lines_at f ∙ ap (λ (j : ℕ). drop j f) e)

pub lines-count : (n : ℕ) (f : List ℕ) → length (lines_in n f) ≡ n
unfolding lines_in
lines-count zero f = refl
lines-count (suc n) f = ap suc (lines-count n (drop line_bytes f))

-- The next line's numbers put behind those that were written.
pub table-next : (t u f : List ℕ) (k : ℕ) → u ≡ put_numbers t 0 (of_all of_entry (lines_in k (drop lines_at f)))
    → put_numbers u (entry_numbers * k) (numbers_in entry_numbers (drop (lines_at + line_bytes * k + header_bytes) f))
    ≡ put_numbers t 0 (of_all of_entry (lines_in (k + 1) (drop lines_at f)))
unfolding of_all
table-next t u f k p =
    let es = lines_in k (drop lines_at f) in
    let xs = numbers_in entry_numbers (drop (lines_at + line_bytes * k + header_bytes) f) in
    let at : entry_numbers * k ≡ 0 + length (of_all of_entry es) = omega (arith, entries_numbers es, lines-count k (drop lines_at f)) in
    ap (λ (l : List ℕ). put_numbers l (entry_numbers * k) xs) p
    ∙ ap (λ (i : ℕ). put_numbers (put_numbers t 0 (of_all of_entry es)) i xs) at
    ∙ join_behind t 0 (of_all of_entry es) (omega arith) xs
    ∙ ap (λ (l : List ℕ). put_numbers t 0 (of_all of_entry es ++ l)) (sym (row-numbers f k) ∙ sym (append-nil (of_entry (row_at f k))))
    ∙ ap (put_numbers t 0) (sym (all_append of_entry es (row_at f k ∷ [])) ∙ ap (of_all of_entry) (sym (lines-last k f) ∙ ap (λ (n : ℕ). lines_in n (drop lines_at f)) (sym (add-one k))))

-- ---- refusal 3, then refusal 5

module _ (n : ℕ) (es : List Entry) where
  abbrev pub text_tests : Checked
  text_tests = first_of (check_length n ∷ check_lines_read n es ∷ [])

  pub text-refused : (r : Refusal) → check_length n ≡ Err r → Err r ≡ text_tests
  text-refused r h = sym (stops (check_length n) (check_lines_read n es ∷ []) r h)

  pub text-good : check_length n ≡ Ok tt → check_lines_read n es ≡ text_tests
  text-good h = sym (passes (check_length n) (check_lines_read n es ∷ []) h ∙ first_alone (check_lines_read n es))
