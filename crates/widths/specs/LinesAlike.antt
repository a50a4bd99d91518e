-- Two boxes in which each line of a text is the same but for where it begins have the same lines of all of the text, but for that; and a
-- line is, if it is measured alike and then drawn alike (rule 10).
-- Assumes nothing.
use Prim.Native.Nat.{ℕ, zero, suc, ◌+◌, ◌-◌, ◌≤◌, max}
use Rattle.std.specs.Prelude.{◌≡◌, take, drop}
use Rattle.std.proofs.Math.Path.{refl, ap, subst}
use Rattle.std.proofs.Common.{sym, ◌∙◌}
use mathlib.Core.List.{List, [], ◌∷◌, map}
use native.Mathlib.Omega.{arith}
use Rattle.utf8.specs.Encoding.{size}
use Rattle.meaning.specs.Tokens.{Tok}
use Rattle.meaning.specs.Alignment.{plain_spaces, placed_left}
use Rattle.meaning.specs.Words.{Drawn}
use Rattle.meaning.specs.LineIter.{Held, nothing_held, Ran, process}
use Rattle.meaning.specs.Line.{unmeasured, measured, start_place, Line, drawn_line, measuring, placing, line_of, lay_line, entry_at}
use Rattle.meaning.specs.Layout.{Row, row_at, unless_ended, rows_by, most_lines, rows, entry_of_row, layout}
use Rattle.meaning.specs.Columns.{with_width}
use Rattle.meaning.specs.declared.settings.Settings.{Settings}
use Rattle.meaning.specs.declared.line.LineEnd.{LineEnd}
use Rattle.meaning.specs.declared.line.LineEnd.TheVariants.{NewLine, CarriageReturn, EndOfText, LineBreak}
use Rattle.meaning.specs.declared.line.Placed.{Placed}
use Rattle.meaning.specs.declared.line.Entry.{Entry}
use Rattle.widths.specs.PartTokens.{HeldFirst, line-held-first}
use Rattle.widths.specs.TwinPasses.{EndAlike, same_end}
use Rattle.widths.specs.GlyphPlaces.{left_of, placed-plain}

-- ---- but for where they begin

-- What a line's entry tells of it but for that.
abbrev pub unplaced_line : Line → Line
unplaced_line l =
    record {
      ended = l.ended;
      placed = placed_left 0 l.placed.spaces;
      width = l.width;
      drawn = [];
      chars = l.chars;
      held = l.held;
      dropped = l.dropped;
      reach = l.reach;
    }

-- An entry with no left: all else that it says of its line.
abbrev pub unplaced : Entry → Entry
unplaced e =
    record {
      start = e.start;
      rest = e.rest;
      ending = e.ending;
      left = record { 0 = 0 };
      space = e.space;
      extra = e.extra;
      width = e.width;
      dropped = e.dropped;
      reach = e.reach;
      before = e.before;
    }

-- ---- one line

-- Whatever is drawn.
abbrev pub AnyDrawn : List Drawn → List Drawn → Type 0
AnyDrawn ds es = Unit {0}

abbrev pub measured_width : Ran → ℕ
measured_width r = (measured unmeasured r.drawn).width.0

-- The line that is drawn where such a measure places it, with plain spaces.
abbrev drawn_after : Settings → List Tok → Ran → Line
drawn_after s ts r =
    let left = left_of s.alignment (s.width.0 - measured_width r) in
    drawn_line (placed_left left (plain_spaces s)) (measured_width r) r.reach (process s (start_place s left (plain_spaces s)) 0 ts)

pub plain-line : (s : Settings) (ts : List Tok) → s.alignment ≤ 2 → line_of s ts ≡ drawn_after s ts (measuring s ts)
unfolding line_of placing
plain-line s ts h =
    let r = measuring s ts in
    ap (λ (p : Placed). drawn_line p (measured_width r) r.reach (process s (start_place s p.left.0 p.spaces) 0 ts))
    (placed-plain s r.ended (measured_width r) (measured unmeasured r.drawn).count.0 h)

module _ (s : Settings) (w v : ℕ) (aligned : s.alignment ≤ 2) where
  abbrev a : Settings
  a = with_width s w

  abbrev b : Settings
  b = with_width s v

  -- The pass that draws from so far from the box's left.
  abbrev drawn_from : (t : Settings) → List Tok → (left : ℕ) → Ran
  drawn_from t ts left = process t (start_place t left (plain_spaces t)) 0 ts

  -- The two passes, the second from where the first placed the line: it is measured as wide, and drawn so that it ends alike.
  pub passes-told : (ts : List Tok) → measured_width (measuring a ts) ≡ measured_width (measuring b ts) → (measuring a ts).reach ≡ (measuring b ts).reach →
      (let m = measured_width (measuring a ts) in
      EndAlike AnyDrawn (drawn_from a ts (left_of s.alignment (w - m))) (drawn_from b ts (left_of s.alignment (v - m))))
      → unplaced_line (line_of a ts) ≡ unplaced_line (line_of b ts)
  unfolding with_width plain_spaces
  passes-told ts wide looked draws =
      let i = left_of s.alignment (w - measured_width (measuring a ts)) in
      let d : EndAlike AnyDrawn (drawn_from a ts i) (drawn_from b ts (left_of s.alignment (v - measured_width (measuring b ts)))) =
      subst (λ (m : ℕ). EndAlike AnyDrawn (drawn_from a ts i) (drawn_from b ts (left_of s.alignment (v - m)))) wide draws in
      ap unplaced_line (plain-line a ts aligned)
      ∙ (λ k.
      record {
        ended = d.ended k;
        placed = placed_left 0 (plain_spaces s);
        width = wide k;
        drawn = [];
        chars = d.chars k;
        held = d.held k;
        dropped = d.dropped k;
        reach = max (looked k) (d.reach k);
      })
      ∙ ap unplaced_line (sym (plain-line b ts aligned))

  -- So where both passes do the same.
  pub passes-alike : (ts : List Tok) → measuring a ts ≡ measuring b ts →
      (let m = measured_width (measuring a ts) in
      drawn_from a ts (left_of s.alignment (w - m)) ≡ drawn_from b ts (left_of s.alignment (v - m)))
      → unplaced_line (line_of a ts) ≡ unplaced_line (line_of b ts)
  passes-alike ts same draws =
      passes-told ts (ap measured_width same) (ap (λ (r : Ran). r.reach) same) (same_end AnyDrawn (λ ds. tt) _ _ draws)

-- ---- the lines of a text

-- Lines are alike wherever the text that is left is of a kind, as what is left of such a text always is.
module _ (a b : Settings) (C : List ℕ → Type 0) (rest : (k : ℕ) (cs : List ℕ) → C cs → C (drop k cs))
    (line : (h : Held) (cs : List ℕ) → HeldFirst h cs → C cs → unplaced_line (lay_line a h cs) ≡ unplaced_line (lay_line b h cs)) where
  abbrev seen : List Row → List Entry
  seen rs = map unplaced (map entry_of_row rs)

  unless_seen : (e : LineEnd) (rs qs : List Row) → seen rs ≡ seen qs → seen (unless_ended e rs) ≡ seen (unless_ended e qs)
  unfolding unless_ended
  unless_seen EndOfText rs qs d = refl
  unless_seen NewLine rs qs d = d
  unless_seen CarriageReturn rs qs d = d
  unless_seen LineBreak rs qs d = d

  rows_alike : (n start before : ℕ) (h : Held) (cs : List ℕ) → HeldFirst h cs → C cs
      → seen (rows_by n a start before h cs) ≡ seen (rows_by n b start before h cs)
  unfolding rows_by row_at entry_at
  rows_alike zero start before h cs f c = refl
  rows_alike (suc n) start before h cs f c =
      let l = lay_line a h cs in
      let next = start + size (take l.chars cs) in
      let more = rows_alike n next (before + l.chars) l.held (drop l.chars cs) (line-held-first a h cs f) (rest l.chars cs c) in
      ap (λ (es : List Entry). unplaced (entry_at start before h cs l) ∷ es) (unless_seen l.ended _ _ more)
      ∙ ap
      (λ (m : Line).
      unplaced (entry_at start before h cs m)
      ∷ seen (unless_ended m.ended (rows_by n b (start + size (take m.chars cs)) (before + m.chars) m.held (drop m.chars cs))))
      (line h cs f c)

  pub lines-alike : (cs : List ℕ) → C cs → map unplaced (layout a cs) ≡ map unplaced (layout b cs)
  unfolding layout rows
  lines-alike cs c = rows_alike (most_lines cs) 0 0 nothing_held cs (omega arith, omega arith) c
