-- Laying again from any place of the new text on gives the lines that the new text has there.
-- Assumes nothing.
use Prim.Native.Nat.{ℕ, zero, suc, ◌+◌, ◌-◌, ◌≤◌, ◌<◌}
use Rattle.std.proofs.Common.{not-suc-le-zero, arith, sym, ◌∙◌}
use Rattle.std.specs.Prelude.{◌≡◌, refl, length, take, drop}
use Rattle.std.proofs.Math.Path.{ap}
use mathlib.Core.List.{List, [], ◌∷◌, ◌++◌, map}
use Rattle.utf8.specs.Encoding.{size}
use Rattle.meaning.specs.LineIter.{Held, nothing_held}
use Rattle.meaning.specs.Line.{lay_line, rest_of, entry_at}
use Rattle.meaning.specs.Layout.{Row, row_at, unless_ended, rows_by, rows, layout, entry_of_row}
use Rattle.meaning.specs.Edit.{moved_entry, kept_from, Again, again_unless_ended, one_more, unless_kept, again_by}
use Rattle.meaning.specs.declared.settings.Settings.{Settings}
use Rattle.meaning.specs.declared.edit.Edit.{Edit}
use Rattle.meaning.specs.declared.line.LineEnd.{LineEnd}
use Rattle.meaning.specs.declared.line.LineEnd.TheVariants.{NewLine, CarriageReturn, EndOfText, LineBreak}
use Rattle.meaning.specs.declared.line.Rest.{Rest}
use Rattle.meaning.specs.declared.line.Entry.{Entry}
use Rattle.laws.specs.Fuel.{rows-fuel}
use Rattle.again.specs.Moved.{rows-moved}
use Rattle.laws.specs.Stands.{Stand, first-stand, next-stand, next-fewer}
use Rattle.again.specs.Kept.{Kept, KeptIf, kept_by}
use Rattle.again.specs.Meeting.{Replaces, Met, meets-says, held_same, part_same}

-- The lines laid, and those kept.
abbrev pub lines_of : Again → List Entry
lines_of a = map entry_of_row a.laid ++ a.kept

-- A line more, on both sides.
one_more_lem : (e : LineEnd) (r : Row) (a : Again) (rs : List Row) → ((e ≡ EndOfText → ⊥) → lines_of a ≡ map entry_of_row rs)
    → lines_of (one_more r (again_unless_ended e a)) ≡ map entry_of_row (r ∷ unless_ended e rs)
unfolding again_unless_ended unless_ended
one_more_lem EndOfText r a rs f = refl
one_more_lem NewLine r a rs f = ap (◌∷◌ r.entry) (f (λ e. let z : ◌≡◌ {A = ℕ} 0 1 = cc in omega arith))
one_more_lem CarriageReturn r a rs f = ap (◌∷◌ r.entry) (f (λ e. let z : ◌≡◌ {A = ℕ} 0 1 = cc in omega arith))
one_more_lem LineBreak r a rs f = ap (◌∷◌ r.entry) (f (λ e. let z : ◌≡◌ {A = ℕ} 0 1 = cc in omega arith))

-- The characters before the first of some lines; 0 if there is none.
abbrev pub count_of : List Entry → ℕ
count_of [] = 0
count_of (e ∷ es) = e.before.0

-- The first of the lines from a place on has the characters before it that are given.
first-before : (s : Settings) (f : Entry) (fs : List Entry) (n from before : ℕ) (h : Held) (cs : List ℕ) → length cs < n
    → f ∷ fs ≡ map entry_of_row (rows_by n s from before h cs) → f.before.0 ≡ before
unfolding rows_by row_at entry_at
first-before s f fs zero from before h cs b e = absurd (not-suc-le-zero b)
first-before s f fs (suc n) from before h cs b e = ap count_of e

module _ (s : Settings) (ed : Edit) where
  -- Where an old line is met, in the same text, the old lines are those of the new text, moved.
  same_lines : (start before at old : ℕ) (g h : Held) (cs : List ℕ) → g.chars ≤ length cs → g.count ≤ g.chars
      → h.chars ≤ length cs → h.count ≤ h.chars
      → Met ed start (rest_of start h cs) at (rest_of at g cs) → (n m : ℕ) → length cs < n → length cs < m
      → map (moved_entry ed old before) (map entry_of_row (rows_by n s at old g cs)) ≡ map entry_of_row (rows_by m s start before h cs)
  same_lines start before at old g h cs a b c d met n m e f =
      let k : ed.to.0 - ed.from.0 ≤ at = omega (arith, met.behind) in
      let there : before + (old - old) ≡ before = omega arith in
      sym (rows-moved ed n s old before at old g cs (omega arith) k a b)
      ∙ rw (met.same, there, held_same ed start at g h cs a b c d met, rows-fuel n m s start before h cs c d e f)

  module _ (pre mid ins post : List ℕ) (r : Replaces ed pre mid ins) where
    -- The old lines that are kept are those of the new text.
    kept-lines : (start before : ℕ) (h : Held) (cs : List ℕ) → Stand (pre ++ (ins ++ post)) start h cs
        → (es : List Entry) (k : Kept s ed (pre ++ (mid ++ post)) start (rest_of start h cs) es)
        → (m : ℕ) → length cs < m → map (moved_entry ed k.before before) es ≡ map entry_of_row (rows_by m s start before h cs)
    kept-lines start before h cs p es k m b =
        let met = meets-says ed start (rest_of start h cs) k.from k.before k.held k.part (lay_line s k.held k.part) k.met in
        let q : k.part ≡ cs =
        part_same ed pre mid ins post r start k.from k.held h k.part cs k.stands p met.behind met.same in
        rw (k.is, q)
        (same_lines start before k.from k.before k.held h cs (rw q at k.stands.chars) k.stands.count p.chars p.count (rw q at met)
        k.fuel m (rw q at k.enough) b)

    -- Laying goes on, or stops at old lines.
    stop-lines : (start before : ℕ) (h : Held) (cs : List ℕ) → Stand (pre ++ (ins ++ post)) start h cs → (m : ℕ) → length cs < m
        → (es : List Entry) → KeptIf s ed (pre ++ (mid ++ post)) start (rest_of start h cs) es
        → (a : Again) → lines_of a ≡ map entry_of_row (rows_by m s start before h cs)
        → lines_of (unless_kept ed before es a) ≡ map entry_of_row (rows_by m s start before h cs)
    unfolding unless_kept
    stop-lines start before h cs p m b [] k a e = e
    stop-lines start before h cs p m b (f ∷ fs) k a e =
        let first = first-before s f fs k.fuel k.from k.before k.held k.part k.enough k.is in
        ap (λ (c : ℕ). map (moved_entry ed c before) (f ∷ fs)) first ∙ kept-lines start before h cs p (f ∷ fs) k m b

    kept-old : (start : ℕ) (rest : Rest)
        → KeptIf s ed (pre ++ (mid ++ post)) start rest (kept_from ed start rest (layout s (pre ++ (mid ++ post))))
    unfolding layout rows
    kept-old start rest =
        let old = pre ++ (mid ++ post) in
        kept_by s ed old start rest (suc (length old)) 0 0 nothing_held old (first-stand old) (omega arith)

    pub again-lines : (n : ℕ) (start before : ℕ) (h : Held) (cs : List ℕ) → Stand (pre ++ (ins ++ post)) start h cs → length cs < n
        → (m : ℕ) → length cs < m
        → lines_of (again_by n s ed (layout s (pre ++ (mid ++ post))) start before h cs) ≡ map entry_of_row (rows_by m s start before h cs)
    unfolding again_by rows_by
    again-lines zero start before h cs p b m c = absurd (not-suc-le-zero b)
    again-lines (suc n) start before h cs p b zero c = absurd (not-suc-le-zero c)
    again-lines (suc n) start before h cs p b (suc m) c =
        let l = lay_line s h cs in
        let old = layout s (pre ++ (mid ++ post)) in
        let next = start + size (take l.chars cs) in
        let rest = again_by n s ed old next (before + l.chars) l.held (drop l.chars cs) in
        stop-lines start before h cs p (suc m) c (kept_from ed start (rest_of start h cs) old) (kept-old start (rest_of start h cs))
        (one_more (row_at start before h cs l) (again_unless_ended l.ended rest))
        (one_more_lem l.ended (row_at start before h cs l) rest (rows_by m s next (before + l.chars) l.held (drop l.chars cs))
        (λ d.
        again-lines n next (before + l.chars) l.held (drop l.chars cs) (next-stand s (pre ++ (ins ++ post)) start h cs p)
        (next-fewer s h cs p.chars p.count d n b) m (next-fewer s h cs p.chars p.count d m c)))
