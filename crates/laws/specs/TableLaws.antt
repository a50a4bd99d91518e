-- Tables as they are written and as they are read: the numbers of entries give back the entries, the entries give back the
-- numbers, and what is written to a buffer leaves the rest of it as it was.
-- Rule 12, rule 13.
-- Assumes nothing.
use Rattle.std.specs.Prelude.{ℕ, zero, suc, ◌+◌, ◌*◌, ◌≤◌, ◌<◌, ◌≡◌, refl, ◌↔◌, List, [], ◌∷◌, ◌++◌, length, get_or, take, drop}
use Rattle.std.proofs.Common.{sym, ap, ◌∙◌, append_assoc, mul-zero, mul-suc, mul_comm, le-div_iff_mul-le, arith, length-append, length-drop, take_at, drop_at, take-add}
use Rattle.std.proofs.Math.Seq.{take-nil, take-append-add, drop-append_seam}
use Rattle.meaning.specs.Table.{entry_numbers, event_numbers, token_numbers, of_entry, of_event, of_token, of_all, capacity_of, written, entry_in, entries_in}
use Rattle.meaning.specs.Pages.{page_numbers, of_page}
use Rattle.meaning.specs.declared.line.Entry.{Entry}
use Rattle.meaning.specs.declared.line.Event.{Event}
use Rattle.meaning.specs.declared.page.Page.{Page}
use Rattle.meaning.specs.declared.tokens.Token.{Token}

-- ---- how many numbers there are

pub entry-numbers : (e : Entry) → length (of_entry e) ≡ entry_numbers
unfolding of_entry
entry-numbers e = refl

pub event_numbers_lem : (e : Event) → length (of_event e) ≡ event_numbers
unfolding of_event
event_numbers_lem e = refl

pub token_numbers_lem : (t : Token) → length (of_token t) ≡ token_numbers
unfolding of_token
token_numbers_lem t = refl

pub page-numbers : (p : Page) → length (of_page p) ≡ page_numbers
unfolding of_page
page-numbers p = refl

-- Where each has n numbers, all have n times as many as they are.
pub all-numbers {ℓ} : {X : Type ℓ} (f : X → List ℕ) (n : ℕ) → ((x : X) → length (f x) ≡ n) → (xs : List X)
    → length (of_all f xs) ≡ n * length xs
unfolding of_all
all-numbers f n h [] = sym (mul-zero n)
all-numbers f n h (x ∷ xs) = rw (length-append, mul-suc) (omega (arith, h x, all-numbers f n h xs))

pub entries_numbers : (es : List Entry) → length (of_all of_entry es) ≡ entry_numbers * length es
entries_numbers = all-numbers of_entry entry_numbers entry-numbers

pub events-numbers : (es : List Event) → length (of_all of_event es) ≡ event_numbers * length es
events-numbers = all-numbers of_event event_numbers event_numbers_lem

pub tokens-numbers : (ts : List Token) → length (of_all of_token ts) ≡ token_numbers * length ts
tokens-numbers = all-numbers of_token token_numbers token_numbers_lem

pub pages-numbers : (ps : List Page) → length (of_all of_page ps) ≡ page_numbers * length ps
pages-numbers = all-numbers of_page page_numbers page-numbers

-- And the first k have the first n * k.
pub all_first {ℓ} : {X : Type ℓ} (f : X → List ℕ) (n : ℕ) → ((x : X) → length (f x) ≡ n) → (k : ℕ) (xs : List X)
    → take (n * k) (of_all f xs) ≡ of_all f (take k xs)
unfolding of_all
all_first f n h zero xs = rw mul-zero
all_first f n h (suc k) [] = take-nil (n * suc k)
all_first f n h (suc k) (x ∷ xs) =
    let e : n * suc k ≡ length (f x) + n * k = rw mul-suc (omega (arith, h x)) in
    rw (e, take-append-add, all_first f n h k xs)

-- A buffer holds k of n numbers each exactly if it is at least so long.
pub capacity_is : (n k : ℕ) (t : List ℕ) → 0 < n → (k ≤ capacity_of n t) ↔ (n * k ≤ length t)
unfolding capacity_of
capacity_is n k t h = rw (mul_comm n k) (le-div_iff_mul-le h)

-- The numbers of one list after another.
pub all_append {ℓ} : {X : Type ℓ} (f : X → List ℕ) (xs ys : List X) → of_all f (xs ++ ys) ≡ of_all f xs ++ of_all f ys
unfolding of_all
all_append f [] ys = refl
all_append f (x ∷ xs) ys = rw (append_assoc, all_append f xs ys)

-- ---- from entries to numbers and back

pub entry_read : (e : Entry) (t : List ℕ) → entry_in (of_entry e ++ t) ≡ e
unfolding entry_in of_entry
entry_read e t = refl

pub entries_read : (es : List Entry) (t : List ℕ) → entries_in (length es) (of_all of_entry es ++ t) ≡ es
unfolding entries_in of_all
entries_read [] t = refl
entries_read (e ∷ es) t =
    let more = of_all of_entry es ++ t in
    rw (append_assoc, entry_read e more, drop_at (of_entry e) more entry_numbers (entry-numbers e), entries_read es t)

pub entries_length : (n : ℕ) (t : List ℕ) → length (entries_in n t) ≡ n
unfolding entries_in
entries_length zero t = refl
entries_length (suc n) t = ap suc (entries_length n (drop entry_numbers t))

-- The first entries of some are those that are read at first.
pub entries_first : (k n : ℕ) (t : List ℕ) → k ≤ n → take k (entries_in n t) ≡ entries_in k t
unfolding entries_in
entries_first zero n t h = refl
entries_first (suc k) zero t h = absurd (omega arith)
entries_first (suc k) (suc n) t h = ap (◌∷◌ (entry_in t)) (entries_first k n (drop entry_numbers t) (omega arith))

-- The values at the first n numbers.
abbrev pub values : ℕ → (ℕ → ℕ) → List ℕ
values zero f = []
values (suc n) f = f 0 ∷ values n (λ i. f (suc i))

pub values-are : (n : ℕ) (t : List ℕ) → n ≤ length t → values n (λ i. get_or t i 0) ≡ take n t
values-are zero t h = refl
values-are (suc n) [] h = absurd (omega arith)
values-are (suc n) (x ∷ t) h = ap (λ (l : List ℕ). x ∷ l) (values-are n t (omega arith))

pub numbers-read : (t : List ℕ) → entry_numbers ≤ length t → of_entry (entry_in t) ≡ take entry_numbers t
unfolding of_entry entry_in
numbers-read t h = values-are entry_numbers t h

pub all-numbers-read : (n : ℕ) (t : List ℕ) → entry_numbers * n ≤ length t → of_all of_entry (entries_in n t) ≡ take (entry_numbers * n) t
unfolding of_all entries_in
all-numbers-read zero t h = refl
all-numbers-read (suc n) t h =
    let e : entry_numbers * suc n ≡ entry_numbers + entry_numbers * n = omega arith in
    rw (e, take-add entry_numbers (entry_numbers * n) t, numbers-read t (omega arith), all-numbers-read n (drop entry_numbers t) (omega (arith, length-drop entry_numbers t)))

-- ---- a buffer that was written to

module _ (t xs : List ℕ) where
  pub written-length : length xs ≤ length t → length (written t xs) ≡ length t
  unfolding written
  written-length h = rw (length-append, length-drop) (omega arith)

  pub written-past : drop (length xs) (written t xs) ≡ drop (length xs) t
  unfolding written
  written-past = drop-append_seam xs (drop (length xs) t)

pub entries_written : (es : List Entry) (t : List ℕ) → entries_in (length es) (written t (of_all of_entry es)) ≡ es
unfolding written
entries_written es t = entries_read es (drop (length (of_all of_entry es)) t)

-- Entries that the table already holds at its front are written over by themselves.
pub prefix-kept : (xs ys : List Entry) (t : List ℕ) → entries_in (length xs) t ≡ xs → entry_numbers * length xs ≤ length t
    → take (entry_numbers * length xs) (written t (of_all of_entry (xs ++ ys))) ≡ take (entry_numbers * length xs) t
unfolding written
prefix-kept xs ys t e h =
    rw (all_append of_entry xs ys, append_assoc)
    (take_at (of_all of_entry xs) _ (entry_numbers * length xs) (entries_numbers xs)
    ∙ sym (ap (of_all of_entry) e)
    ∙ all-numbers-read (length xs) t h)
