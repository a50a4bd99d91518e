-- One turn of the loop that finds where laying again stops.
-- Assumes nothing.
use Rattle.std.specs.Prelude.{ℕ, ◌+◌, ◌-◌, ◌*◌, ◌≤◌, ◌≡◌, true, false, drop}
use native.Mathlib.Omega.{arith}
use Rattle.std.proofs.Math.Path.{refl, sym, ap}
use Rattle.std.proofs.Common.{◌∙◌, drop-drop}
use Rattle.std.proofs.lemmas.Bool.{false≢true}
use mathlib.Core.List.{List, [], ◌∷◌, map}
use Rattle.std.proofs.Math.ListN.{length, length-drop, length-map}
use Rattle.meaning.specs.Table.{entry_numbers, entries_in}
use Rattle.meaning.specs.Edit.{moved_entry, kept_from, Again}
use Rattle.meaning.specs.declared.settings.Settings.{Settings}
use Rattle.meaning.specs.declared.edit.Edit.{Edit}
use Rattle.meaning.specs.declared.counts.Chars.{Chars}
use Rattle.meaning.specs.declared.line.Rest.{Rest}
use Rattle.meaning.specs.declared.line.Entry.{Entry}
use Rattle.laws.specs.TableLaws.{entries_length}
use Rattle.laws.specs.PassBounds.{size-take}
use Rattle.again.specs.Relaid.{count_of}
use Rattle.parser.specs.Lexing.{chars_from}
use Rattle.steps.specs.Lexed.{chars-within}
use Rattle.table.specs.LinesFrom.{lines_from}
use Rattle.rows.specs.Standing.{StandReady, laid_row, ready-next, further}
use Rattle.stands.specs.Stands.{StandsAt}
use Rattle.stands.specs.declared.stand.Stand.{Stand}
use Rattle.stands.specs.declared.row.LaidRow.{LaidRow}
use Rattle.again.specs.Behind.{rest_behind, RestLow}
use Rattle.edits.specs.Pointer.{Rising, Past, passing, meets_first, rising-drop, kept-after, passing-few, past-passing, met-first, none-met}
use Rattle.again.specs.AgainFrom.{again_from, few-laid, again-stop, again-last, again-more}
use Rattle.edits.specs.OldLines.{lines-drop}
use Rattle.again.specs.declared.stop.Found.{Found}

abbrev pub found_at : (laid kept : ℕ) → Chars → Found
found_at laid kept before = record { laid = laid; kept = kept; before = before }

-- What laying again finds: how many lines are laid, the first of so many old lines that is kept, and the characters before that.
unfoldable pub found_in : (lines : ℕ) → Again → Found
found_in lines a = found_at (length a.laid) (lines - length a.kept) (record { 0 = count_of a.kept })

-- No old line before line k is met from a start on.
abbrev pub PassedBy : Edit → (old : List Entry) → (start k : ℕ) → Type 0
PassedBy ed old start k = (later : ℕ) (rest : Rest) → start ≤ later → kept_from ed later rest old ≡ kept_from ed later rest (drop k old)

-- What the call has checked: the first affected line is line k, and laying starts from a stand of a part that stands behind base bytes.
pub record FindReady (s : Settings) (part table : List ℕ) (lines k base : ℕ) (ed : Edit) (p : Stand) : Type 0 where
  pub stand : StandReady s part p
  pub room : entry_numbers * lines ≤ length table
  pub low : base ≤ 65536
  pub first : k ≤ lines
  pub rising : Rising (entries_in lines table)
  pub passed : PassedBy ed (entries_in lines table) (base + p.at.0) k

-- n lines are laid, old lines before line j are passed, and the next line is laid from a stand.
pub record Seeking (s : Settings) (part table : List ℕ) (lines base : ℕ) (ed : Edit) (p₀ : Stand) (n j : ℕ) (p : Stand) : Type 0 where
  pub ready : StandReady s part p
  pub inside : j ≤ lines
  pub passed : PassedBy ed (entries_in lines table) (base + p.at.0) j
  pub count : n + length (again_from s part ed (entries_in lines table) base p).laid
      ≡ length (again_from s part ed (entries_in lines table) base p₀).laid
  pub kept : (again_from s part ed (entries_in lines table) base p).kept ≡ (again_from s part ed (entries_in lines table) base p₀).kept

-- A rest that is resumed ends within the part.
pub rest-low : (s : Settings) (part : List ℕ) (base : ℕ) (p : Stand) → StandReady s part p → base ≤ 65536 → RestLow base p.rest
rest-low s part base p c b d =
    let cs = chars_from part p.at.0 in
    let l = c.line in
    omega (arith, l.rest.ends d, size-take p.rest.chars.0 cs, chars-within part p.at.0, l.inside, l.short)

module _ (s : Settings) (part table : List ℕ) (lines base : ℕ) (ed : Edit) (p₀ : Stand) where
  abbrev old : List Entry
  old = entries_in lines table

  abbrev whole : Again
  whole = again_from s part ed old base p₀

  pub seek-start : (k : ℕ) → FindReady s part table lines k base ed p₀ → Seeking s part table lines base ed p₀ 0 k p₀
  seek-start k h = record { ready = h.stand; inside = h.first; passed = h.passed; count = omega arith; kept = refl }

  -- No count of lines wraps.
  pub seek-low : (n j : ℕ) (p : Stand) → Seeking s part table lines base ed p₀ n j p → n ≤ 65536
  seek-low n j p c = omega (arith, c.count, few-laid s part ed old base p₀, c.ready.line.short)

  -- The pointer goes on to line i.
  module _ (n j i : ℕ) (p : Stand) (c : Seeking s part table lines base ed p₀ n j p)
      (i-is : i ≡ j + passing ed (base + p.at.0) (lines_from table lines j))
    where
      abbrev left : List Entry
      left = drop j old

      skipped : drop i old ≡ drop (passing ed (base + p.at.0) left) left
      skipped = rw (i-is, lines-drop j lines table) (sym (drop-drop (passing ed (base + p.at.0) left) j old))

      still-inside : i ≤ lines
      still-inside =
          omega
          (arith, rw (lines-drop j lines table) at i-is, passing-few ed (base + p.at.0) left, length-drop j old, entries_length lines table, c.inside)

      passed_on : PassedBy ed old (base + p.at.0) i
      passed_on later rest b = c.passed later rest b ∙ kept-after ed (base + p.at.0) later rest b left ∙ rw skipped

      past : Past ed (base + p.at.0) (drop i old)
      past = rw skipped (past-passing ed (base + p.at.0) left)

      -- Old line i is met: laying stops there.
      stop-by : (es : List Entry) → drop i old ≡ es → meets_first ed (base + p.at.0) (rest_behind base p.rest) es ≡ true
          → again_from s part ed old base p ≡ record { laid = []; kept = map (moved_entry ed (count_of es) p.before.0) es }
      unfolding meets_first
      stop-by [] e m = absurd (false≢true m)
      stop-by (x ∷ es) e m =
          again-stop s part ed old base p c.ready x es
          (passed_on (base + p.at.0) (rest_behind base p.rest) (omega arith) ∙ rw e (met-first ed (base + p.at.0) (rest_behind base p.rest) (x ∷ es) m))

      -- With as many characters before it as the stand has.
      stop-count : (es : List Entry) → meets_first ed (base + p.at.0) (rest_behind base p.rest) es ≡ true
          → count_of (map (moved_entry ed (count_of es) p.before.0) es) ≡ p.before.0
      unfolding meets_first moved_entry
      stop-count [] m = absurd (false≢true m)
      stop-count (x ∷ es) m = omega arith

      -- Which is no large number.
      pub stop-few : p.before.0 ≤ 131071
      stop-few = let l = c.ready in omega (arith, l.few, l.line.inside, l.line.short)

      module _ (rest : Rest) (rest-is : rest ≡ rest_behind base p.rest) where
        pub stops : meets_first ed (base + p.at.0) rest (lines_from table lines i) ≡ true → found_at n i p.before ≡ found_in lines whole
        unfolding found_in
        stops m =
            let met = rw (rest-is, lines-drop i lines table) at m in
            let a = stop-by (drop i old) refl met in
            let there = sym c.kept ∙ ap (λ (x : Again). x.kept) a in
            let count : p.before.0 ≡ count_of whole.kept = sym (ap count_of there ∙ stop-count (drop i old) met) in
            let laid : n ≡ length whole.laid = omega (arith, c.count, ap (λ (x : Again). length x.laid) a) in
            let left = ap length there ∙ length-map (drop i old) (moved_entry ed (count_of (drop i old)) p.before.0) in
            let kept : i ≡ lines - length whole.kept =
            omega (arith, left, length-drop i old, entries_length lines table, still-inside) in
            λ k. found_at (laid k) (kept k) (record { 0 = count k })

        -- It is not: nothing is kept yet, and a line is laid.
        module _ (m : meets_first ed (base + p.at.0) rest (lines_from table lines i) ≡ false) (rising : Rising old) (x : LaidRow) (is : x ≡ laid_row s part p) where
          none : kept_from ed (base + p.at.0) (rest_behind base p.rest) old ≡ []
          none =
              passed_on (base + p.at.0) (rest_behind base p.rest) (omega arith)
              ∙ none-met ed (base + p.at.0) (rest_behind base p.rest) (drop i old) (rising-drop i old rising) past
              (rw (rest-is, lines-drop i lines table) at m)

          -- The line that ends the text.
          pub finds-last : x.last ≡ true → found_at (n + 1) lines (record { 0 = 0 }) ≡ found_in lines whole
          unfolding found_in
          finds-last h =
              let a = again-last s part ed old base p c.ready none x is h in
              let laid : n + 1 ≡ length whole.laid = omega (arith, c.count, ap (λ (y : Again). length y.laid) a) in
              let none_kept = sym c.kept ∙ ap (λ (y : Again). y.kept) a in
              let left = ap length none_kept in
              let count : 0 ≡ count_of whole.kept = sym (ap count_of none_kept) in
              let kept : lines ≡ lines - length whole.kept = omega (arith, left) in
              λ k. found_at (laid k) (kept k) (record { 0 = count k })

          -- Any other.
          pub seeks_on : (q : Stand) → StandsAt part x.next (p.before.0 + x.chars.0) x.rest q → x.last ≡ false → Seeking s part table lines base ed p₀ (n + 1) i q
          seeks_on q on h =
              let a = again-more s part ed old base p c.ready none x is q on h in
              let f = further s part p c.ready x is q on h in
              record {
                ready = ready-next s part p c.ready x is q on;
                inside = still-inside;
                passed = λ later rest b. passed_on later rest (omega arith);
                count = omega (arith, c.count, ap (λ (y : Again). length y.laid) a);
                kept = sym (ap (λ (y : Again). y.kept) a) ∙ c.kept;
              }
