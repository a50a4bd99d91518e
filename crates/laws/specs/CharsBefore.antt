-- The last number of a line's entry is the number of characters before the line, which starts at a character boundary (rule 12).
-- Assumes nothing.
use Prim.Native.Nat.{ℕ, zero, suc, ◌+◌}
use native.Mathlib.Omega.{arith}
use Rattle.std.specs.Prelude.{◌≡◌, true, length, take}
use Rattle.std.proofs.Math.Path.{refl}
use Rattle.std.proofs.Common.{◌∙◌, length-append, length-take, take-append-drop}
use mathlib.Core.List.{List, [], ◌++◌, map, append_assoc}
use Rattle.std.proofs.Math.ListN.{drop}
use Rattle.std.proofs.Math.Seq.{take-append_seam}
use Rattle.utf8.specs.Encoding.{size}
use Rattle.utf8.specs.Places.{boundary}
use Rattle.utf8.specs.Sizes.{size_append}
use Rattle.utf8.specs.Boundaries.{boundary-is}
use Rattle.meaning.specs.LineIter.{Held, nothing_held}
use Rattle.meaning.specs.Line.{lay_line, entry_at}
use Rattle.meaning.specs.Layout.{Row, row_at, rows_by, most_lines, rows, entry_of_row, layout}
use Rattle.meaning.specs.Edit.{chars_in}
use Rattle.meaning.specs.declared.settings.Settings.{Settings}
use Rattle.meaning.specs.declared.line.Entry.{Entry}
use Rattle.laws.specs.LineBounds.{line-chars, line-rest, line-held}
use Rattle.laws.specs.RowInduction.{unless_cases, FitsIn, Each}
use Rattle.laws.specs.Suffixes.{chars_in-front}

-- Of a line of a text: the characters whose bytes lie before its start are as many as its entry says.
abbrev pub CountsBefore : List ℕ → Entry → Type 0
CountsBefore text e = chars_in text e.start.0 ≡ e.before.0

-- What stands before a place in a text, by its bytes and by its characters.
pub record Front (text : List ℕ) (start before : ℕ) (cs : List ℕ) : Type 0 where
  pub front : List ℕ
  pub is : text ≡ front ++ cs
  pub at : start ≡ size front
  pub counted : before ≡ length front

module _ (s : Settings) (text : List ℕ) where
  -- A line further on, whose characters are all of the text.
  pub next-front : (start before : ℕ) (h : Held) (cs : List ℕ) → FitsIn cs h → Front text start before cs
      → Front text (start + size (take (lay_line s h cs).chars cs)) (before + (lay_line s h cs).chars) (drop (lay_line s h cs).chars cs)
  next-front start before h cs f p =
      let k = (lay_line s h cs).chars in
      record {
        front = p.front ++ take k cs;
        is = p.is ∙ rw (append_assoc, take-append-drop);
        at = omega (arith, p.at, size_append p.front (take k cs));
        counted = rw length-append (omega (arith, p.counted, length-take k cs, line-chars s h cs f.0 f.1));
      }

  pub count-here : (start before : ℕ) (cs : List ℕ) → Front text start before cs → chars_in text start ≡ before
  count-here start before cs p = rw (p.is, p.at, p.counted) (chars_in-front p.front cs)

  pub boundary-at : (start before : ℕ) (cs : List ℕ) → Front text start before cs → boundary text start ≡ true
  boundary-at start before cs p =
      (boundary-is text start).1
      (record {
        chars = length p.front;
        within = rw (p.is, length-append) (omega arith);
        is = rw (p.is, take-append_seam) p.at;
      })

  -- What holds of every place holds of where each line starts, and of the characters that its entry says stand before it.
  module _ (P : (start before : ℕ) → Type 0) (holds : (start before : ℕ) (cs : List ℕ) → Front text start before cs → P start before) where
    fronts_by : (n start before : ℕ) (h : Held) (cs : List ℕ) → FitsIn cs h → Front text start before cs
        → Each (λ (e : Entry). P e.start.0 e.before.0) (map entry_of_row (rows_by n s start before h cs))
    unfolding rows_by row_at entry_at
    fronts_by zero start before h cs f p = tt
    fronts_by (suc n) start before h cs f p =
        let l = lay_line s h cs in
        let next = start + size (take l.chars cs) in
        let rest = drop l.chars cs in (
          holds start before cs p,
          unless_cases (λ (rs : List Row). Each (λ (e : Entry). P e.start.0 e.before.0) (map entry_of_row rs)) l.ended
              (rows_by n s next (before + l.chars) l.held rest) (λ _. tt)
              (λ _. fronts_by n next (before + l.chars) l.held rest (line-rest s h cs f.0 f.1, line-held s h cs f.0 f.1)
              (next-front start before h cs f p)),
        )

    layout_fronts : Each (λ (e : Entry). P e.start.0 e.before.0) (layout s text)
    unfolding layout rows size
    layout_fronts =
        fronts_by (most_lines text) 0 0 nothing_held text (omega arith, omega arith)
        (record { front = []; is = refl; at = refl; counted = refl })

  -- Of every line of a layout. Laying again gives the layout of the new text (demand 3), and so its counts.
  pub layout-counts : Each (CountsBefore text) (layout s text)
  layout-counts = layout_fronts (λ (start before : ℕ). chars_in text start ≡ before) count-here

  -- Every line starts at a character boundary.
  pub layout_boundaries : Each (λ (e : Entry). boundary text e.start.0 ≡ true) (layout s text)
  layout_boundaries = layout_fronts (λ (start before : ℕ). boundary text start ≡ true) boundary-at
