-- A text laid line by line: stopping after k lines gives the first k of the layout (rule 10).
-- Assumes nothing.
use Prim.Native.Nat.{ℕ, zero, suc, ◌+◌, ◌-◌, ◌≤◌, ◌<◌}
use native.Mathlib.Omega.{arith}
use Rattle.std.specs.Prelude.{◌≡◌, List, [], ◌∷◌, map, eqb, length, take}
use Rattle.std.proofs.Math.Path.{refl, ap}
use Rattle.std.proofs.Common.{sym, ◌∙◌, ne_eqb}
use Rattle.std.proofs.Math.ListN.{drop}
use Rattle.std.proofs.Math.Seq.{drop-append_seam}
use Rattle.basis.specs.Choice.{pick}
use Rattle.basis.specs.Order.{by_eq}
use Rattle.utf8.specs.Encoding.{size}
use Rattle.meaning.specs.LineIter.{Held, nothing_held}
use Rattle.meaning.specs.Line.{lay_line, rest_of, end_number, entry_at}
use Rattle.meaning.specs.Layout.{Row, row_at, unless_ended, rows_by, most_lines, rows, entry_of_row, layout}
use Rattle.meaning.specs.Frames.{is_none, none_resumed, onward, held_by, one_line, first_lines}
use Rattle.meaning.specs.declared.settings.Settings.{Settings}
use Rattle.meaning.specs.declared.line.LineEnd.{LineEnd}
use Rattle.meaning.specs.declared.line.LineEnd.TheVariants.{NewLine, CarriageReturn, EndOfText, LineBreak}
use Rattle.meaning.specs.declared.line.Entry.{Entry}
use Rattle.laws.specs.LineBounds.{line-rest, line-held}
use Rattle.laws.specs.RowInduction.{FitsIn}
use Rattle.laws.specs.CharsBefore.{Front, next-front, count-here}
use Rattle.laws.specs.Fuel.{rows-fuel}
use Rattle.laws.specs.Rests.{rest-none, rest_some}
use Rattle.laws.specs.Suffixes.{chars_in-take, take-size}

-- ---- at most k lines are the first k

take_none : {X : Type 0} (k : ℕ) → take {A = X} k [] ≡ []
take_none zero = refl
take_none (suc k) = refl

first_unless : (e : LineEnd) (k : ℕ) (xs ys : List Row) → xs ≡ take k ys → unless_ended e xs ≡ take k (unless_ended e ys)
unfolding unless_ended
first_unless EndOfText k xs ys h = sym (take_none k)
first_unless NewLine k xs ys h = h
first_unless CarriageReturn k xs ys h = h
first_unless LineBreak k xs ys h = h

first_rows : (k m : ℕ) (s : Settings) (start before : ℕ) (h : Held) (cs : List ℕ)
    → rows_by k s start before h cs ≡ take k (rows_by (k + m) s start before h cs)
unfolding rows_by
first_rows zero m s start before h cs = refl
first_rows (suc k) m s start before h cs =
    let l = lay_line s h cs in
    let next = start + size (take l.chars cs) in
    let e : suc k + m ≡ suc (k + m) = omega arith in
    rw e
    (ap (◌∷◌ (row_at start before h cs l))
    (first_unless l.ended k _ _ (first_rows k m s next (before + l.chars) l.held (drop l.chars cs))))

take-map : {X Y : Type 0} (f : X → Y) (k : ℕ) (xs : List X) → map f (take k xs) ≡ take k (map f xs)
take-map f zero xs = refl
take-map f (suc k) [] = refl
take-map f (suc k) (x ∷ xs) = ap (◌∷◌ (f x)) (take-map f k xs)

-- ---- line by line

-- What an entry says is held is held.
held_by_lem : (start : ℕ) (h : Held) (cs : List ℕ) → h.chars ≤ length cs → h.count ≤ h.chars → held_by start (rest_of start h cs) cs ≡ h
unfolding held_by is_none pick
held_by_lem start h cs k c =
    by_eq h.chars 0
    (λ e.
    let a : 0 ≡ h.chars = omega arith in
    let b : 0 ≡ h.count = omega arith in
    rw (rest-none start h cs e) (λ i. record { chars = a i; count = b i }))
    (λ d.
    let n = h.chars in
    let z = take-size n cs k in
    let e : start + size (take n cs) - start ≡ size (take n cs) = omega arith in
    rw (rest_some start h cs d, ne_eqb (start + size (take n cs)) 0 (λ f. omega arith), e, chars_in-take n cs k))

-- A line that does not end the text is followed by the lines after it.
ended_by : (e : LineEnd) (es : List Entry) (rs : List Row) → es ≡ map entry_of_row rs
    → pick (eqb (end_number e) 2) [] es ≡ map entry_of_row (unless_ended e rs)
unfolding unless_ended pick
ended_by EndOfText es rs h = refl
ended_by NewLine es rs h = h
ended_by CarriageReturn es rs h = h
ended_by LineBreak es rs h = h

module _ (s : Settings) (text : List ℕ) where
  -- The characters from a place on.
  onward-is : (start before : ℕ) (cs : List ℕ) → Front text start before cs → onward text start ≡ cs
  unfolding onward
  onward-is start before cs p = rw (count-here s text start before cs p, p.counted, p.is) (drop-append_seam p.front cs)

  line-is : (start before : ℕ) (h : Held) (cs : List ℕ) → FitsIn cs h → Front text start before cs →
      let l = lay_line s h cs in
      let next = start + size (take l.chars cs) in
      one_line s text start (rest_of start h cs)
      ≡ record { entry = entry_at start before h cs l; next = next; rest = rest_of next l.held (drop l.chars cs) }
  unfolding one_line
  line-is start before h cs f p =
      rw (onward-is start before cs p, count-here s text start before cs p, held_by_lem start h cs f.0 f.1)

  lines_are : (k start before : ℕ) (h : Held) (cs : List ℕ) → FitsIn cs h → Front text start before cs
      → first_lines k s text start (rest_of start h cs) ≡ map entry_of_row (rows_by k s start before h cs)
  unfolding first_lines rows_by row_at entry_at
  lines_are zero start before h cs f p = refl
  lines_are (suc k) start before h cs f p =
      let l = lay_line s h cs in
      let next = start + size (take l.chars cs) in
      let rest = drop l.chars cs in
      rw (line-is start before h cs f p)
      (ap (◌∷◌ (entry_at start before h cs l))
      (ended_by l.ended _ _
      (lines_are k next (before + l.chars) l.held rest (line-rest s h cs f.0 f.1, line-held s h cs f.0 f.1)
      (next-front s text start before h cs f p))))

  -- Stopping after k lines, from any place on, where n lines are enough for what the text has from there on.
  pub lines_from : (k n start before : ℕ) (h : Held) (cs : List ℕ) → FitsIn cs h → Front text start before cs → length cs < n
      → first_lines k s text start (rest_of start h cs) ≡ take k (map entry_of_row (rows_by n s start before h cs))
  lines_from k n start before h cs f p enough =
      lines_are k start before h cs f p
      ∙ ap (map entry_of_row)
      (first_rows k n s start before h cs
      ∙ ap (take k) (rows-fuel (k + n) n s start before h cs f.0 f.1 (omega arith) enough))
      ∙ take-map entry_of_row k (rows_by n s start before h cs)

  -- For every k. A k of more lines than there are gives all of them.
  pub first-lines : (k : ℕ) → first_lines k s text 0 none_resumed ≡ take k (layout s text)
  unfolding layout rows size
  first-lines k =
      let front : Front text 0 0 text = record { front = []; is = refl; at = refl; counted = refl } in
      ap (first_lines k s text 0) (sym (rest-none 0 nothing_held text refl))
      ∙ lines_from k (most_lines text) 0 0 nothing_held text (omega arith, omega arith) front (omega arith)
