-- Fields of a layout file: what is written is found, and what is found was written (refusal 9).
-- Assumes nothing.
use Rattle.std.specs.Prelude.{ℕ, zero, suc, ◌+◌, ◌*◌, ◌/◌, ◌%◌, ◌≤◌, ◌<◌, ◌≡◌, refl, true, ◌&&◌, List, [], ◌∷◌, ◌++◌, leb, eqb, length, get_or, take, drop, Ok}
use Rattle.std.proofs.Common.{sym, ap, ◌∙◌, append-nil, arith, le-leb, eq-eqb, leb-true, eqb-true, length-drop, take-append-drop, drop_at, take_all, length-take-le}
use Rattle.std.proofs.Math.ListN.{length-append}
use Rattle.basis.specs.Choice.{pick, pick_true, pick-false, by_test, and_true, and_both}
use Rattle.meaning.specs.Answers.{answer_number}
use Rattle.meaning.specs.Table.{entry_numbers, of_entry, of_all, entry_in}
use Rattle.meaning.specs.LayoutFile.{header_bytes, number_bytes, line_tag, end_tag, line_size, line_bytes, bytes_of, field, line_field, line_fields}
use Rattle.meaning.specs.ReadFile.{old_line_size, is_field, check_end, check_line_fields, numbers_in, lines_in}
use Rattle.meaning.specs.declared.line.Entry.{Entry}
use Rattle.laws.specs.TableLaws.{entry-numbers, entry_read, numbers-read}
use Rattle.file_fields.specs.FileNumbers.{Bytes, Words, words-bytes, words-read, below-drop, numbers-count, numbers-written}

-- ---- one field

pub field-length : (tag : ℕ) (body : List ℕ) → length (field tag body) ≡ header_bytes + length body
unfolding field
field-length tag body = omega arith

module _ (tag size : ℕ) (body t : List ℕ) (e : length body ≡ size) where
  pub field_found : is_field tag size (field tag body ++ t) ≡ true
  unfolding is_field field
  field_found =
      and_both _ _
      (and_both _ _ (le-leb (header_bytes + size) (length (field tag body ++ t)) (omega (arith, length-append body t))) (eq-eqb tag tag refl))
      (eq-eqb (length body % 256 + 256 * (length body / 256)) size (omega arith))

  pub field-over : drop (header_bytes + size) (field tag body ++ t) ≡ t
  field-over = drop_at (field tag body) t (header_bytes + size) (omega (arith, field-length tag body))

-- What a found field says.
pub record Found (tag size : ℕ) (f : List ℕ) : Type 0 where
  pub whole : header_bytes + size ≤ length f
  pub tagged : get_or f 0 0 ≡ tag
  pub sized : get_or f 1 0 + 256 * get_or f 2 0 ≡ size

pub found : (tag size : ℕ) (f : List ℕ) → is_field tag size f ≡ true → Found tag size f
unfolding is_field
found tag size f e =
    let p = and_true (leb (header_bytes + size) (length f) && eqb (get_or f 0 0) tag) (eqb (get_or f 1 0 + 256 * get_or f 2 0) size) e in
    let q = and_true (leb (header_bytes + size) (length f)) (eqb (get_or f 0 0) tag) p.0 in
    record {
      whole = leb-true (header_bytes + size) (length f) q.0;
      tagged = eqb-true (get_or f 0 0) tag q.1;
      sized = eqb-true (get_or f 1 0 + 256 * get_or f 2 0) size p.1;
    }

low_of : (b c n : ℕ) → b < 256 → b + 256 * c ≡ n → n % 256 ≡ b
low_of b c n h e = omega arith

high_of : (b c n : ℕ) → b < 256 → b + 256 * c ≡ n → n / 256 ≡ c
high_of b c n h e = omega arith

header_is : (tag size : ℕ) (f : List ℕ) → Found tag size f → Bytes f → field tag (take size (drop header_bytes f)) ++ drop (header_bytes + size) f ≡ f
unfolding field
header_is tag size [] h b = absurd (omega (arith, h.whole))
header_is tag size (x ∷ []) h b = absurd (omega (arith, h.whole))
header_is tag size (x ∷ y ∷ []) h b = absurd (omega (arith, h.whole))
header_is tag size (x ∷ y ∷ z ∷ f) h b =
    let e : length (take size f) ≡ size = length-take-le size f (omega (arith, h.whole)) in
    let p : length (take size f) % 256 ≡ y = ap (λ (n : ℕ). n % 256) e ∙ low_of y z size b.1.0 h.sized in
    let q : length (take size f) / 256 ≡ z = ap (λ (n : ℕ). n / 256) e ∙ high_of y z size b.1.0 h.sized in
    let o : header_bytes + size ≡ suc (suc (suc size)) = omega arith in
    ap (λ (n : ℕ). field tag (take size f) ++ drop n (x ∷ y ∷ z ∷ f)) o ∙ (λ i. sym h.tagged i ∷ p i ∷ q i ∷ take-append-drop size f i)

pub field-written : (tag size : ℕ) (f : List ℕ) → is_field tag size f ≡ true → Bytes f
    → field tag (take size (drop header_bytes f)) ++ drop (header_bytes + size) f ≡ f
field-written tag size f e b = header_is tag size f (found tag size f e) b

-- ---- lines and the end, from entries to bytes

pub line_body : (e : Entry) → length (of_all bytes_of (of_entry e)) ≡ line_size
line_body e = words-bytes (of_entry e) ∙ ap (λ (n : ℕ). number_bytes * n) (entry-numbers e)

pub line-length : (e : Entry) → length (line_field e) ≡ line_bytes
unfolding line_field
line-length e = field-length line_tag (of_all bytes_of (of_entry e)) ∙ ap (λ (n : ℕ). header_bytes + n) (line_body e)

pub lines-length : (es : List Entry) → length (line_fields es) ≡ line_bytes * length es + header_bytes
unfolding line_fields field
lines-length [] = refl
lines-length (e ∷ es) = rw (length-append (line_field e) (line_fields es)) (omega (arith, line-length e, lines-length es))

end-found : (fuel at : ℕ) → check_line_fields (suc fuel) at (line_fields []) ≡ Ok tt
unfolding check_line_fields line_fields check_end is_field field pick
end-found fuel at = refl

-- A line in front of other fields is found and passed over.
pub line-passed : (e : Entry) (t : List ℕ) (fuel at : ℕ)
    → check_line_fields (suc fuel) at (line_field e ++ t) ≡ check_line_fields fuel (at + line_bytes) t
unfolding check_line_fields line_field
line-passed e t fuel at =
    let body = of_all bytes_of (of_entry e) in
    pick_true _ _ _ (field_found line_tag line_size body t (line_body e))
    ∙ ap (check_line_fields fuel (at + line_bytes)) (field-over line_tag line_size body t (line_body e))

pub lines-found : (es : List Entry) (fuel at : ℕ) → length es < fuel → check_line_fields fuel at (line_fields es) ≡ Ok tt
unfolding line_fields
lines-found es zero at h = absurd (omega arith)
lines-found [] (suc fuel) at h = end-found fuel at
lines-found (e ∷ es) (suc fuel) at h = line-passed e (line_fields es) fuel at ∙ lines-found es fuel (at + line_bytes) (omega arith)

entry_found : (e : Entry) (t : List ℕ) → Words (of_entry e) → entry_in (numbers_in entry_numbers (drop header_bytes (line_field e ++ t))) ≡ e
unfolding line_field field
entry_found e t b =
    ap (λ (n : ℕ). entry_in (numbers_in n (of_all bytes_of (of_entry e) ++ t))) (sym (entry-numbers e))
    ∙ ap entry_in (words-read (of_entry e) t b ∙ sym (append-nil (of_entry e)))
    ∙ entry_read e []

-- Every number of every entry has 32 bits.
abbrev pub EntryWords : List Entry → Type 0
EntryWords [] = Unit {0}
EntryWords (e ∷ es) = Words (of_entry e) × EntryWords es

pub lines-read : (es : List Entry) → EntryWords es → lines_in (length es) (line_fields es) ≡ es
unfolding lines_in line_fields
lines-read [] b = refl
lines-read (e ∷ es) b =
    rw (entry_found e (line_fields es) b.0, drop_at (line_field e) (line_fields es) line_bytes (line-length e), lines-read es b.1)

-- ---- and from bytes to entries

-- Bytes that are lines and the end: how many lines, and that these are what was written.
pub record Lined (f : List ℕ) : Type 0 where
  pub count : ℕ
  pub long : length f ≡ line_bytes * count + header_bytes
  pub written : Bytes f → line_fields (lines_in count f) ≡ f

entry-written : (f : List ℕ) → line_size ≤ length f → Bytes f → of_all bytes_of (of_entry (entry_in (numbers_in entry_numbers f))) ≡ take line_size f
entry-written f h b =
    ap (of_all bytes_of) (numbers-read (numbers_in entry_numbers f) (omega (arith, numbers-count entry_numbers f)) ∙ take_all entry_numbers (numbers_in entry_numbers f) (omega (arith, numbers-count entry_numbers f)))
    ∙ numbers-written entry_numbers f h b

line-written : (f : List ℕ) → is_field line_tag line_size f ≡ true → Bytes f
    → line_field (entry_in (numbers_in entry_numbers (drop header_bytes f))) ++ drop line_bytes f ≡ f
unfolding line_field
line-written f e b =
    let w = (found line_tag line_size f e).whole in
    ap (λ (body : List ℕ). field line_tag body ++ drop line_bytes f) (entry-written (drop header_bytes f) (omega (arith, length-drop header_bytes f)) (below-drop 256 header_bytes f b))
    ∙ field-written line_tag line_size f e b

line-lined : (f : List ℕ) → is_field line_tag line_size f ≡ true → Lined (drop line_bytes f) → Lined f
unfolding lines_in line_fields
line-lined f e more =
    record {
      count = suc more.count;
      long = omega (arith, length-drop line_bytes f, (found line_tag line_size f e).whole, more.long);
      written =
          λ b. ap (λ (t : List ℕ). line_field (entry_in (numbers_in entry_numbers (drop header_bytes f))) ++ t) (more.written (below-drop 256 line_bytes f b))
          ∙ line-written f e b;
    }

end-lined : (at : ℕ) (f : List ℕ) → is_field end_tag 0 f ≡ true → check_end (at + header_bytes) (drop header_bytes f) ≡ Ok tt → Lined f
unfolding check_end lines_in line_fields
end-lined at f e g = known (drop header_bytes f) refl
  where
    known : (t : List ℕ) → drop header_bytes f ≡ t → Lined f
    known [] q =
        record {
          count = 0;
          long = omega (arith, length-drop header_bytes f, ap length q, (found end_tag 0 f e).whole);
          written =
              λ b. sym (append-nil (field end_tag [])) ∙ ap (λ (t : List ℕ). field end_tag [] ++ t) (sym q) ∙ field-written end_tag 0 f e b;
        }
    known (x ∷ t) q = absurd (omega (arith, ap answer_number (ap (check_end (at + header_bytes)) (sym q) ∙ g)))

pub good-lined : (fuel at : ℕ) (f : List ℕ) → check_line_fields fuel at f ≡ Ok tt → Lined f
unfolding check_line_fields
good-lined zero at f g = absurd (omega (arith, ap answer_number g))
good-lined (suc fuel) at f g =
    by_test (is_field line_tag line_size f)
    (λ e. line-lined f e (good-lined fuel (at + line_bytes) (drop line_bytes f) (sym (pick_true _ _ _ e) ∙ g)))
    (λ e. let g₂ = sym (pick-false _ _ _ e) ∙ g in
    by_test (is_field line_tag old_line_size f)
    (λ o. absurd (omega (arith, ap answer_number (sym (pick_true _ _ _ o) ∙ g₂))))
    (λ o. let g₃ = sym (pick-false _ _ _ o) ∙ g₂ in
    by_test (is_field end_tag 0 f)
    (λ t. end-lined at f t (sym (pick_true _ _ _ t) ∙ g₃))
    (λ t. absurd (omega (arith, ap answer_number (sym (pick-false _ _ _ t) ∙ g₃))))))
