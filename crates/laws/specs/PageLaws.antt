-- The pages of a table's lines: how many there are, and what each of them is (rule 10).
-- Assumes nothing.
use Prim.Native.Nat.{ℕ, zero, suc, ◌+◌, ◌-◌, ◌*◌, ◌/◌, ◌≤◌, ◌<◌}
use Rattle.std.specs.Prelude.{◌≡◌, take}
use Rattle.std.proofs.Math.Path.{refl, sym, ap}
use Rattle.std.proofs.Common.{◌∙◌, zero-mul, zero-add, add-zero, le-div_iff_mul-le}
use mathlib.Core.List.{List, [], ◌∷◌}
use Rattle.std.proofs.Math.Nat.{suc-mul, sub-zero, div-eq_of_lt, add-div_right}
use Rattle.std.proofs.Math.Numerals.{add-one}
use native.Mathlib.Omega.{arith}
use Rattle.std.proofs.Math.ListN.{length, drop, length-take, length-drop}
use Rattle.std.proofs.Math.Seq.{drop-nil, drop-drop}
use Rattle.basis.specs.Order.{by_le}
use Rattle.meaning.specs.WellFormed.{text_length}
use Rattle.meaning.specs.Pages.{end_before, pages_by, pages_of}
use Rattle.meaning.specs.declared.line.Entry.{Entry}
use Rattle.meaning.specs.declared.page.Page.{Page}

-- ---- how many

-- As many pages of h lines as n lines take, the last one filled or not.
unfoldable pub page_count : (h n : ℕ) → ℕ
page_count h n = (n + (h - 1)) / h

module _ (h : ℕ) (some : 1 ≤ h) where
  count_none : page_count h 0 ≡ 0
  unfolding page_count
  count_none = div-eq_of_lt (omega arith)

  -- The first page takes h lines, or what there is.
  count-more : (n : ℕ) → page_count h (suc n) ≡ suc (page_count h (suc n - h))
  unfolding page_count
  count-more n = by_le h (suc n) full short
    where
      one_more_lem : (suc n + (h - 1)) / h ≡ suc (n / h)
      one_more_lem =
          let e : suc n + (h - 1) ≡ n + h = omega arith in
          rw (e, add-div_right n some) (omega arith)

      full : h ≤ suc n → (suc n + (h - 1)) / h ≡ suc ((suc n - h + (h - 1)) / h)
      full p = let e : suc n - h + (h - 1) ≡ n = omega arith in rw (one_more_lem, e)

      short : suc n < h → (suc n + (h - 1)) / h ≡ suc ((suc n - h + (h - 1)) / h)
      short p =
          let e : suc n - h + (h - 1) < h = omega arith in
          rw (one_more_lem, div-eq_of_lt e, div-eq_of_lt {n = n} {m = h} (omega arith))

  count_by : (n k b : ℕ) (es : List Entry) → length es ≤ n → length (pages_by n h k b es) ≡ page_count h (length es)
  unfolding pages_by
  count_by zero k b [] p = sym count_none
  count_by zero k b (e ∷ es) p = absurd (omega arith)
  count_by (suc n) k b [] p = sym count_none
  count_by (suc n) k b (e ∷ es) p =
      ap suc (count_by n (k + h) b (drop h (e ∷ es)) (rw length-drop (omega arith)) ∙ ap (page_count h) (length-drop h (e ∷ es)))
      ∙ sym (count-more (length es))

  pub pages-count : (es : List Entry) → length (pages_of h es) ≡ page_count h (length es)
  unfolding pages_of
  pages-count es = count_by (length es) 0 (text_length es) es (omega arith)

  -- There is a page for a line that there is.
  pub page-there : (i : ℕ) (es : List Entry) → i * h < length es → i < length (pages_of h es)
  unfolding page_count
  page-there i es p = rw (pages-count es) ((le-div_iff_mul-le some).1 (rw suc-mul (omega arith)))

-- No more than lines.
few-by : (n h k b : ℕ) (es : List Entry) → length (pages_by n h k b es) ≤ n
unfolding pages_by
few-by zero h k b es = omega arith
few-by (suc n) h k b [] = omega arith
few-by (suc n) h k b (e ∷ es) = omega (arith, few-by n h (k + h) b (drop h (e ∷ es)))

pub pages-few : (h : ℕ) (es : List Entry) → length (pages_of h es) ≤ length es
unfolding pages_of
pages-few h es = few-by (length es) h 0 (text_length es) es

-- ---- which they are

pages-none : (n h k b : ℕ) → pages_by n h k b [] ≡ []
unfolding pages_by
pages-none zero h k b = refl
pages-none (suc n) h k b = refl

-- The pages from the i-th on are those of the lines from line i * h on.
pub pages-onward : (i n h k b : ℕ) (es : List Entry) → drop i (pages_by n h k b es) ≡ pages_by (n - i) h (k + i * h) b (drop (i * h) es)
unfolding pages_by
pages-onward zero n h k b es = rw (zero-mul, add-zero, sub-zero)
pages-onward (suc i) zero h k b es = let e : 0 - suc i ≡ 0 = omega arith in rw e
pages-onward (suc i) (suc n) h k b [] = rw (drop-nil {A = Entry} (suc i * h)) (sym (pages-none (suc n - suc i) h (k + suc i * h) b))
pages-onward (suc i) (suc n) h k b (e ∷ es) =
    let to : k + h + i * h ≡ k + suc i * h = rw suc-mul (omega arith) in
    let far : h + i * h ≡ suc i * h = rw suc-mul (omega arith) in
    let fuel : n - i ≡ suc n - suc i = omega arith in
    pages-onward i n h (k + h) b (drop h (e ∷ es))
    ∙ rw (drop-drop (i * h) h (e ∷ es), to, far, fuel)

-- Page i of a table's lines.
pub record PageSaid (h i : ℕ) (es : List Entry) : Type 0 where
  pub page : Page
  -- It stands at place i of the pages.
  pub is : drop i (pages_of h es) ≡ page ∷ drop (suc i) (pages_of h es)
  -- Its first line is line i * h, which is there, and it starts where that line does.
  pub line : Entry
  pub more : List Entry
  pub lines : drop (i * h) es ≡ line ∷ more
  pub first : page.first ≡ i * h
  pub start : page.start ≡ line.start
  -- It ends where line i * h + h starts, and if there is none at the text's end.
  pub end : page.end.0 ≡ end_before (text_length es) (drop (i * h + h) es)
  -- So its lines are h from its first one on, or what there is of them.
  pub some : 1 ≤ length (take h (drop (i * h) es))
  pub few : length (take h (drop (i * h) es)) ≤ h
  pub full : suc i < length (pages_of h es) → length (take h (drop (i * h) es)) ≡ h

module _ (h : ℕ) (some : 1 ≤ h) (i : ℕ) (es : List Entry) where
  -- If there is a page after it, there are more lines than it has.
  full-before : suc i < length (pages_of h es) → i * h + h < length es
  unfolding page_count
  full-before p =
      let q = (le-div_iff_mul-le {k = h} {x = suc (suc i)} {y = length es + (h - 1)} some).0 (rw (pages-count h some es) at p) in
      omega (arith, q, suc-mul (suc i) h, suc-mul i h)

  said_of : (n : ℕ) (fs : List Entry) → fs ≡ drop (i * h) es → drop i (pages_of h es) ≡ pages_by n h (i * h) (text_length es) fs
      → i < length (pages_of h es) → PageSaid h i es
  unfolding pages_by
  said_of zero fs e d p = absurd (omega (arith, ap length d, length-drop i (pages_of h es)))
  said_of (suc n) [] e d p = absurd (omega (arith, ap length d, length-drop i (pages_of h es)))
  said_of (suc n) (f ∷ fs) e d p =
      let c = ap length e in
      let after : drop (suc i) (pages_of h es) ≡ pages_by n h (i * h + h) (text_length es) (drop h (f ∷ fs)) =
      rw add-one at (sym (drop-drop 1 i (pages_of h es))) ∙ ap (drop 1) d in
      record {
        page = record { first = i * h; start = f.start; end = record { 0 = end_before (text_length es) (drop h (f ∷ fs)) } };
        is = rw after d;
        line = f;
        more = fs;
        lines = sym e;
        first = refl;
        start = refl;
        end = rw (e, drop-drop h (i * h) es);
        some = rw (← e, length-take) (omega arith);
        few = rw length-take (omega arith);
        full = λ q. rw (length-take, length-drop) (omega (arith, full-before q));
      }

  pub page-at : i < length (pages_of h es) → PageSaid h i es
  unfolding pages_of
  page-at p =
      said_of (length es - i) (drop (i * h) es) refl
      (pages-onward i (length es) h 0 (text_length es) es ∙ rw zero-add) p

  -- The page after it starts where it ends.
  pub pages-follow : (p : PageSaid h i es) (q : PageSaid h (suc i) es) → p.page.end.0 ≡ q.page.start.0
  unfolding end_before
  pages-follow p q =
      let e : i * h + h ≡ suc i * h = sym (suc-mul i h) in
      p.end ∙ rw (e, q.lines, q.start)
