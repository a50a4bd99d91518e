-- Old lines that follow after an edit, moved within their table: from line `from` on to line `to` on.
-- Assumes nothing.
use Rattle.std.specs.Prelude.{ℕ, suc, ◌+◌, ◌-◌, ◌*◌, ◌≤◌, ◌<◌, ◌≡◌, get_or}
use Rattle.std.proofs.Math.Path.{sym, ap}
use Rattle.std.proofs.Common.{subst, ◌∙◌, drop-drop}
use mathlib.Core.List.{List, [], ◌∷◌, ◌++◌, map, map-append, append-nil}
use native.Mathlib.Omega.{arith}
use Rattle.std.proofs.Math.ListN.{length, drop}
use Rattle.std.proofs.lemmas.List.{length-map}
use Rattle.meaning.specs.Table.{entry_numbers, of_entry, of_all, entry_in, entries_in}
use Rattle.meaning.specs.Edit.{moved_entry}
use Rattle.meaning.specs.declared.edit.Edit.{Edit}
use Rattle.meaning.specs.declared.line.Entry.{Entry}
use Rattle.table.specs.declared.edited.Shift.{Shift}
use Rattle.laws.specs.TableLaws.{entry-numbers, entries_numbers, entries_length, all_append}
use Rattle.table.specs.Numbers.{put_numbers, put-length}
use Rattle.table.specs.Stretches.{put-past, join_behind, join_ahead, put-none, entries_before, entries_last}

-- An old line, moved.
abbrev pub moved_by : Shift → Entry → Entry
moved_by sh = moved_entry sh.edit sh.from.0 sh.to.0

-- A table with old lines written, moved, from line `to` on; with so many of its own; and with one.
abbrev moved_over : List ℕ → (to : ℕ) → Shift → List Entry → List ℕ
moved_over t to sh es = put_numbers t (entry_numbers * to) (of_all of_entry (map (moved_by sh) es))

abbrev pub lines_moved : List ℕ → (from to count : ℕ) → Shift → List ℕ
lines_moved t from to count sh =
    put_numbers t (entry_numbers * to) (of_all of_entry (map (moved_by sh) (entries_in count (drop (entry_numbers * from) t))))

abbrev pub line_moved : List ℕ → (from to : ℕ) → Shift → List ℕ
line_moved t from to sh = put_numbers t (entry_numbers * to) (of_entry (moved_by sh (entry_in (drop (entry_numbers * from) t))))

-- ---- what can be moved without a number that wraps

-- The edit's offsets are in order, and no offset that the inserted bytes are added to wraps.
pub record MovableEdit (ed : Edit) : Type 0 where
  pub order : ed.from.0 ≤ ed.to.0
  pub few : ed.inserted.0 ≤ 131071

-- Nor does a count to which the new one is added.
pub record MovableShift (sh : Shift) : Type 0 where
  pub edit : MovableEdit sh.edit
  pub counted : sh.to.0 ≤ 131071

-- An offset behind the replaced bytes, a count of characters there, and a line: its start, its rest's end if it has a rest, its reach
-- and the characters before it.
abbrev pub MovableOffset : Edit → ℕ → Type 0
MovableOffset ed x = (ed.to.0 - ed.from.0 ≤ x) × (x ≤ 65536)

abbrev pub MovableCount : Shift → ℕ → Type 0
MovableCount sh x = (sh.from.0 ≤ x) × (x ≤ 131071)

pub record MovableEntry (sh : Shift) (e : Entry) : Type 0 where
  pub start : MovableOffset sh.edit e.start.0
  pub rest : 0 < e.rest.end.0 → MovableOffset sh.edit e.rest.end.0
  pub reach : MovableOffset sh.edit e.reach.0
  pub before : MovableCount sh e.before.0

abbrev pub AllMovable : Shift → List Entry → Type 0
AllMovable sh [] = Unit {0}
AllMovable sh (e ∷ es) = MovableEntry sh e × AllMovable sh es

-- The table holds both stretches of lines.
pub record Movable (t : List ℕ) (from to count : ℕ) (sh : Shift) : Type 0 where
  pub from-room : entry_numbers * (from + count) ≤ length t
  pub to_room : entry_numbers * (to + count) ≤ length t
  pub shift : MovableShift sh
  pub each : AllMovable sh (entries_in count (drop (entry_numbers * from) t))

all-front : (sh : Shift) (xs ys : List Entry) → AllMovable sh (xs ++ ys) → AllMovable sh xs
all-front sh [] ys h = tt
all-front sh (x ∷ xs) ys h = (h.0, all-front sh xs ys h.1)

all_end : (sh : Shift) (xs ys : List Entry) → AllMovable sh (xs ++ ys) → AllMovable sh ys
all_end sh [] ys h = h
all_end sh (x ∷ xs) ys h = all_end sh xs ys h.1

-- ---- one line

module _ (t : List ℕ) (from to : ℕ) (sh : Shift) where
  abbrev one : Entry
  one = moved_by sh (entry_in (drop (entry_numbers * from) t))

  pub line-movable : Movable t from to 1 sh → MovableEntry sh (entry_in (drop (entry_numbers * from) t))
  unfolding entries_in
  line-movable m = m.each.0

  pub line-length : entry_numbers * to + entry_numbers ≤ length t → length (line_moved t from to sh) ≡ length t
  line-length h = put-length t (entry_numbers * to) (of_entry one) (omega (arith, entry-numbers one))

-- ---- from the first line on

module _ (t : List ℕ) (from to n : ℕ) (sh : Shift) where
  -- The first line, and those behind it.
  front : entries_in (suc n) (drop (entry_numbers * from) t) ≡ entry_in (drop (entry_numbers * from) t) ∷ entries_in n (drop (entry_numbers * (from + 1)) t)
  unfolding entries_in
  front =
      let e : entry_numbers * from + entry_numbers ≡ entry_numbers * (from + 1) = omega arith in
      ap (λ (l : List ℕ). entry_in (drop (entry_numbers * from) t) ∷ entries_in n l) (drop-drop entry_numbers (entry_numbers * from) t ∙ ap (λ (k : ℕ). drop k t) e)

  pub first-movable : Movable t from to (suc n) sh → Movable t from to 1 sh
  unfolding entries_in
  first-movable m =
      record {
        from-room = omega (arith, m.from-room);
        to_room = omega (arith, m.to_room);
        shift = m.shift;
        each = ((subst (AllMovable sh) front m.each).0, tt);
      }

  module _ (order : to ≤ from) (room : entry_numbers * to + entry_numbers ≤ length t) where
    -- Those behind it are read as they were.
    pub behind : drop (entry_numbers * (from + 1)) (line_moved t from to sh) ≡ drop (entry_numbers * (from + 1)) t
    behind =
        let e = moved_by sh (entry_in (drop (entry_numbers * from) t)) in
        put-past t (entry_numbers * to) (of_entry e) (omega arith) (entry_numbers * (from + 1)) (omega (arith, entry-numbers e))

    pub first-moved : lines_moved t from to (suc n) sh ≡ lines_moved (line_moved t from to sh) (from + 1) (to + 1) n sh
    unfolding of_all
    first-moved =
        let e = moved_by sh (entry_in (drop (entry_numbers * from) t)) in
        let xs = of_all of_entry (map (moved_by sh) (entries_in n (drop (entry_numbers * (from + 1)) t))) in
        let place : entry_numbers * to + length (of_entry e) ≡ entry_numbers * (to + 1) = omega (arith, entry-numbers e) in
        ap (moved_over t to sh) front
        ∙ sym (join_behind t (entry_numbers * to) (of_entry e) (omega arith) xs)
        ∙ ap (λ (k : ℕ). put_numbers (line_moved t from to sh) k xs) place
        ∙ ap (λ (l : List ℕ). moved_over (line_moved t from to sh) (to + 1) sh (entries_in n l)) (sym behind)

    pub rest-movable : Movable t from to (suc n) sh → Movable (line_moved t from to sh) (from + 1) (to + 1) n sh
    rest-movable m =
        let k = line-length t from to sh room in
        record {
          from-room = omega (arith, k, m.from-room);
          to_room = omega (arith, k, m.to_room);
          shift = m.shift;
          each = subst (λ (l : List ℕ). AllMovable sh (entries_in n l)) (sym behind) (subst (AllMovable sh) front m.each).1;
        }

-- ---- from the last line on

module _ (t : List ℕ) (from to n : ℕ) (sh : Shift) where
  -- The last line, and those before it.
  end : entries_in (suc n) (drop (entry_numbers * from) t) ≡ entries_in n (drop (entry_numbers * from) t) ++ (entry_in (drop (entry_numbers * (from + n)) t) ∷ [])
  end =
      let e : entry_numbers * from + entry_numbers * n ≡ entry_numbers * (from + n) = omega arith in
      entries_last n (drop (entry_numbers * from) t)
      ∙ ap (λ (l : List ℕ). entries_in n (drop (entry_numbers * from) t) ++ (entry_in l ∷ [])) (drop-drop (entry_numbers * n) (entry_numbers * from) t ∙ ap (λ (k : ℕ). drop k t) e)

  pub last-movable : Movable t from to (suc n) sh → Movable t (from + n) (to + n) 1 sh
  unfolding entries_in
  last-movable m =
      record {
        from-room = omega (arith, m.from-room);
        to_room = omega (arith, m.to_room);
        shift = m.shift;
        each = all_end sh (entries_in n (drop (entry_numbers * from) t)) _ (subst (AllMovable sh) end m.each);
      }

  -- The numbers of all, moved.
  end-numbers : of_all of_entry (map (moved_by sh) (entries_in (suc n) (drop (entry_numbers * from) t)))
      ≡ of_all of_entry (map (moved_by sh) (entries_in n (drop (entry_numbers * from) t))) ++ of_entry (moved_by sh (entry_in (drop (entry_numbers * (from + n)) t)))
  unfolding of_all
  end-numbers =
      let old = entries_in n (drop (entry_numbers * from) t) in
      let e = entry_in (drop (entry_numbers * (from + n)) t) in
      ap (λ (es : List Entry). of_all of_entry (map (moved_by sh) es)) end
      ∙ ap (of_all of_entry) (map-append (moved_by sh) old (e ∷ []))
      ∙ all_append of_entry (map (moved_by sh) old) (moved_by sh e ∷ [])
      ∙ ap (◌++◌ (of_all of_entry (map (moved_by sh) old))) (append-nil (of_entry (moved_by sh e)))

  module _ (order : from ≤ to) (room : entry_numbers * (to + n) + entry_numbers ≤ length t) where
    -- Those before it are read as they were.
    ahead : entries_in n (drop (entry_numbers * from) (line_moved t (from + n) (to + n) sh)) ≡ entries_in n (drop (entry_numbers * from) t)
    ahead =
        let e = moved_by sh (entry_in (drop (entry_numbers * (from + n)) t)) in
        entries_before n (entry_numbers * from) (entry_numbers * (to + n)) t (of_entry e) (omega arith) (omega (arith, entry-numbers e))

    pub last-moved : lines_moved t from to (suc n) sh ≡ lines_moved (line_moved t (from + n) (to + n) sh) from to n sh
    last-moved =
        let e = moved_by sh (entry_in (drop (entry_numbers * (from + n)) t)) in
        let old = entries_in n (drop (entry_numbers * from) t) in
        let es = map (moved_by sh) old in
        let xs = of_all of_entry es in
        let count = length-map old (moved_by sh) ∙ entries_length n (drop (entry_numbers * from) t) in
        let place : entry_numbers * to + length xs ≡ entry_numbers * (to + n) = omega (arith, entries_numbers es, count) in
        ap (put_numbers t (entry_numbers * to)) end-numbers
        ∙ sym (join_ahead t (entry_numbers * to) xs (of_entry e) (omega arith))
        ∙ ap (λ (k : ℕ). put_numbers (put_numbers t k (of_entry e)) (entry_numbers * to) xs) place
        ∙ ap (moved_over (line_moved t (from + n) (to + n) sh) to sh) (sym ahead)

    pub before-movable : Movable t from to (suc n) sh → Movable (line_moved t (from + n) (to + n) sh) from to n sh
    before-movable m =
        let k = line-length t (from + n) (to + n) sh room in
        record {
          from-room = omega (arith, k, m.from-room);
          to_room = omega (arith, k, m.to_room);
          shift = m.shift;
          each =
              subst (AllMovable sh) (sym ahead)
              (all-front sh (entries_in n (drop (entry_numbers * from) t)) _ (subst (AllMovable sh) end m.each));
        }

-- ---- nothing left

pub none-moved : (t : List ℕ) (from to : ℕ) (sh : Shift) → lines_moved t from to 0 sh ≡ t
unfolding entries_in of_all
none-moved t from to sh = put-none t (entry_numbers * to)

-- ---- lines moved one after the other, toward the front or in their place

-- The first i lines of the table t are moved, which is u now: what is left to move makes the whole.
pub record Forward (t : List ℕ) (from to count : ℕ) (sh : Shift) (u : List ℕ) (i : ℕ) : Type 0 where
  pub within : i ≤ count
  pub left : Movable u (from + i) (to + i) (count - i) sh
  pub same : lines_moved t from to count sh ≡ lines_moved u (from + i) (to + i) (count - i) sh
  pub size : length u ≡ length t

-- None of so many lines from line k on has a rest.
abbrev pub Restless : List ℕ → (k n : ℕ) → Type 0
Restless t k n = (j : ℕ) → j < n → get_or t (entry_numbers * (k + j) + 1) 0 ≡ 0
