-- The stretches of a text that its pages take join, in order, to the whole text (rule 10, refusal 5).
-- Assumes nothing.
use Rattle.std.specs.Prelude.{ℕ, zero, suc, ◌+◌, ◌-◌, ◌*◌, ◌≤◌, ◌≡◌, true, List, [], ◌∷◌, ◌++◌, leb, take, drop, Ok}
use Rattle.std.proofs.Common.{sym, ◌∙◌, suc-mul, zero-mul, le-mul_of_pos_right, arith, eqb-true, length-drop, drop_of_length-le, take_all, drop-drop, take-add}
use Rattle.std.proofs.Math.Path.{ap}
use Rattle.std.proofs.Math.Nat.{sub_self, sub-zero}
use Rattle.std.proofs.Math.ListN.{length}
use Rattle.std.proofs.Math.Seq.{drop-nil}
use Rattle.basis.specs.Order.{within, within-true}
use Rattle.utf8.specs.Encoding.{size, encode_all}
use Rattle.utf8.specs.Sizes.{size_is}
use Rattle.utf8.specs.Decoding.{decode_all}
use Rattle.meaning.specs.Checks.{check_utf8}
use Rattle.meaning.specs.Layout.{layout}
use Rattle.meaning.specs.Table.{entry_numbers, capacity_of, entries_in}
use Rattle.meaning.specs.WellFormed.{last_reach, text_length, Before, nothing, line, start_good, check_lines, check_entries, check_table}
use Rattle.meaning.specs.Pages.{end_before, pages_by, pages_of}
use Rattle.meaning.specs.Calls.{text_rows, text_entries}
use Rattle.meaning.specs.PageCalls.{text_pages, table_pages}
use Rattle.meaning.specs.declared.settings.Settings.{Settings}
use Rattle.meaning.specs.declared.line.Entry.{Entry}
use Rattle.meaning.specs.declared.page.Page.{Page}
use Rattle.meaning.specs.declared.refusals.Refusal.TheVariants.{BadLine}
use Rattle.laws.specs.GoodLines.{good-both, good_more, good_start, start-after}
use Rattle.laws.specs.PageLaws.{pages-few}
use Rattle.laws.specs.PartChars.{encoded}
use Rattle.laws.specs.WellFormedLayout.{layout-length, layout-lines, RisingToEnd, layout-rises-to-end}

-- The bytes that a page takes of a text, and those of some pages, one after the other.
unfoldable pub stretch_in : List ℕ → Page → List ℕ
stretch_in t p = take (p.end.0 - p.start.0) (drop p.start.0 t)

unfoldable pub joined : List ℕ → List Page → List ℕ
joined t [] = []
joined t (p ∷ ps) = stretch_in t p ++ joined t ps

-- ---- lines in order

-- Each line starts no later than the next one, and the last no later than the text's end.
abbrev pub InOrder : (length : ℕ) → List Entry → Type 0
InOrder n [] = Unit {0}
InOrder n (e ∷ es) = (e.start.0 ≤ end_before n es) × InOrder n es

order-onward : (n j : ℕ) (es : List Entry) → InOrder n es → InOrder n (drop j es)
order-onward n zero es o = o
order-onward n (suc j) [] o = tt
order-onward n (suc j) (e ∷ es) o = order-onward n j es o.1

ends-later : (n j : ℕ) (es : List Entry) → InOrder n es → end_before n es ≤ end_before n (drop j es)
unfolding end_before
ends-later n zero es o = omega arith
ends-later n (suc j) [] o = omega arith
ends-later n (suc j) (e ∷ es) o = omega (arith, o.0, ends-later n j es o.1)

-- The lines of a table that is well formed are.
starts-within : (n : ℕ) (b : Before) (e : Entry) → start_good n b e ≡ true → e.start.0 ≤ n
unfolding start_good
starts-within n nothing e h = omega (arith, eqb-true e.start.0 0 h)
starts-within n (line start reach before) e h = (start-after n start reach before e h).2

pub lines_ordered : (n k : ℕ) (b : Before) (es : List Entry) → check_lines n k b es ≡ Ok tt → InOrder n es
unfolding end_before
lines_ordered n k b [] h = tt
lines_ordered n k b (e ∷ []) h = (starts-within n b e (good_start n k b e [] h), tt)
lines_ordered n k b (e ∷ f ∷ es) h =
    let c = line e.start.0 e.reach.0 e.before.0 in
    let more = good_more n k b e (f ∷ es) h in
    let t = start-after n e.start.0 e.reach.0 e.before.0 f (good_start n (suc k) c f es more) in
    (omega (arith, t.0), lines_ordered n (suc k) c (f ∷ es) more)

-- ---- stretches

-- Two stretches that meet are one.
stretches_meet : (a b c : ℕ) (t : List ℕ) → a ≤ b → b ≤ c → take (b - a) (drop a t) ++ take (c - b) (drop b t) ≡ take (c - a) (drop a t)
stretches_meet a b c t p q =
    let e : c - a ≡ b - a + (c - b) = omega arith in
    let f : a + (b - a) ≡ b = omega arith in
    rw (e, take-add, drop-drop, f)

stretch-empty : (a : ℕ) (t : List ℕ) → [] ≡ take (a - a) (drop a t)
stretch-empty a t = rw sub_self

-- The first i pages take the text up to where their lines end.
joined-none : (i h b : ℕ) (t : List ℕ) → [] ≡ take (end_before b (drop {A = Entry} (i * h) []) - end_before b []) (drop (end_before b []) t)
joined-none i h b t = rw (drop-nil {A = Entry} (i * h)) (stretch-empty (end_before b []) t)

joined_by : (i n h k b : ℕ) (es : List Entry) (t : List ℕ) → 1 ≤ h → length es ≤ n → InOrder b es
    → joined t (take i (pages_by n h k b es)) ≡ take (end_before b (drop (i * h) es) - end_before b es) (drop (end_before b es) t)
unfolding joined stretch_in pages_by end_before
joined_by zero n h k b es t m p o = rw zero-mul (stretch-empty (end_before b es) t)
joined_by (suc i) zero h k b [] t m p o = joined-none (suc i) h b t
joined_by (suc i) zero h k b (e ∷ es) t m p o = absurd (omega arith)
joined_by (suc i) (suc n) h k b [] t m p o = joined-none (suc i) h b t
joined_by (suc i) (suc n) h k b (e ∷ es) t m p o =
    let rest = drop h (e ∷ es) in
    let more = order-onward b h (e ∷ es) o in
    let sum : h + i * h ≡ suc i * h = rw suc-mul (omega arith) in
    let far : drop (suc i * h) (e ∷ es) ≡ drop (i * h) rest = rw (drop-drop (i * h) h (e ∷ es), sum) in
    rw (far, joined_by i n h (k + h) b rest t m (rw length-drop (omega arith)) more)
    (stretches_meet e.start.0 (end_before b rest) (end_before b (drop (i * h) rest)) t (ends-later b h (e ∷ es) o)
    (ends-later b (i * h) rest more))

-- ---- the pages of a table

starts_first : (n k : ℕ) (es : List Entry) → check_lines n k nothing es ≡ Ok tt → 1 ≤ length es → end_before n es ≡ 0
unfolding end_before start_good
starts_first n k [] g p = absurd (omega arith)
starts_first n k (e ∷ es) g p = eqb-true e.start.0 0 (good_start n k nothing e es g)

-- Of lines that are good, at least one of them, and a text as long as they say.
module _ (h : ℕ) (some : 1 ≤ h) (es : List Entry) (there : 1 ≤ length es) (good : check_lines (text_length es) 0 nothing es ≡ Ok tt) (t : List ℕ) where
  -- The first i pages join to what stands before line i * h.
  pub pages-before : (i : ℕ) → joined t (take i (pages_of h es)) ≡ take (end_before (text_length es) (drop (i * h) es)) t
  unfolding pages_of
  pages-before i =
      let n = text_length es in
      joined_by i (length es) h 0 n es t some (omega arith) (lines_ordered n 0 nothing es good)
      ∙ rw (starts_first n 0 es good there, sub-zero)

  -- All join to the text.
  pub pages_join : length t ≡ text_length es → joined t (pages_of h es) ≡ t
  unfolding end_before
  pages_join whole =
      let n = length es in
      ap (joined t) (sym (take_all n (pages_of h es) (pages-few h es)))
      ∙ pages-before n
      ∙ rw (drop_of_length-le es {i = n * h} (le-mul_of_pos_right n some)) (take_all (text_length es) t (omega arith))

-- Of a table that is well formed.
some-lines : (es : List Entry) → 1 ≤ last_reach es → 1 ≤ length es
unfolding last_reach
some-lines [] p = absurd (omega arith)
some-lines (e ∷ es) p = omega arith

pub entries_join : (h : ℕ) → 1 ≤ h → (es : List Entry) → check_entries es ≡ Ok tt → (t : List ℕ) → length t ≡ text_length es
    → joined t (pages_of h es) ≡ t
unfolding check_entries
entries_join h some es good t whole =
    let g = good-both (within 1 65536 (last_reach es)) (check_lines (text_length es) 0 nothing es) (BadLine 0) good in
    pages_join h some es (some-lines es (within-true 1 65536 (last_reach es) g.0).0) g.1 t whole

pub table-joins : (h : ℕ) → 1 ≤ h → (table : List ℕ) (lines : ℕ) → check_table lines table ≡ Ok tt
    → (t : List ℕ) → length t ≡ text_length (entries_in lines table) → joined t (table_pages table lines h) ≡ t
unfolding check_table table_pages
table-joins h some table lines good t whole =
    let g = good-both (leb lines (capacity_of entry_numbers table)) (check_entries (entries_in lines table)) (BadLine 0) good in
    entries_join h some (entries_in lines table) g.1 t whole

-- ---- the pages of a text

risen_there : (es : List Entry) → RisingToEnd es → 1 ≤ length es
risen_there [] h = absurd h
risen_there (e ∷ es) h = omega arith

-- A layout has a line.
pub layout-there : (s : Settings) (cs : List ℕ) → 1 ≤ length (layout s cs)
layout-there s cs = risen_there (layout s cs) (layout-rises-to-end s cs)

lines-good : (s : Settings) (cs : List ℕ) → check_lines (text_length (layout s cs)) 0 nothing (layout s cs) ≡ Ok tt
lines-good s cs = rw (layout-length s cs) (layout-lines s cs 0)

-- The first line starts at 0.
pub layout-starts : (s : Settings) (cs : List ℕ) → end_before (text_length (layout s cs)) (layout s cs) ≡ 0
layout-starts s cs = starts_first (text_length (layout s cs)) 0 (layout s cs) (lines-good s cs) (layout-there s cs)

module _ (s : Settings) (h : ℕ) (some : 1 ≤ h) (cs : List ℕ) where
  -- The first i pages of a layout take what stands before line i * h of the text.
  pub layout-before : (t : List ℕ) (i : ℕ) → joined t (take i (pages_of h (layout s cs))) ≡ take (end_before (size cs) (drop (i * h) (layout s cs))) t
  layout-before t i =
      pages-before h some (layout s cs) (layout-there s cs) (lines-good s cs) t i
      ∙ rw (layout-length s cs)

  pub layout-joins : joined (encode_all cs) (pages_of h (layout s cs)) ≡ encode_all cs
  layout-joins =
      pages_join h some (layout s cs) (layout-there s cs) (lines-good s cs) (encode_all cs) (rw (layout-length s cs) (sym (size_is cs)))

-- Of the bytes that a caller lends, which are UTF-8.
pub text-joins : (s : Settings) (h : ℕ) → 1 ≤ h → (t : List ℕ) → check_utf8 t ≡ Ok tt → joined t (text_pages s h t) ≡ t
unfolding text_pages text_entries text_rows layout
text-joins s h some t good = rw (encoded t good) at (layout-joins s h some (decode_all t))
