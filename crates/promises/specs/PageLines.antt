-- A page is cut out of the whole's layout: its lines are laid from its start only with what its first line resumes (rule 10).
-- Assumes nothing.
use Prim.Native.Nat.{ℕ, zero, suc, ◌+◌, ◌*◌, ◌<◌}
use Rattle.std.specs.Prelude.{◌≡◌, take}
use Rattle.std.proofs.Math.Path.{refl}
use mathlib.Core.List.{List, [], ◌∷◌, map}
use native.Mathlib.Omega.{arith}
use Rattle.std.proofs.Math.ListN.{length, drop, length-drop}
use Rattle.std.proofs.Math.Seq.{drop-nil}
use Rattle.utf8.specs.Encoding.{size}
use Rattle.meaning.specs.LineIter.{Held, nothing_held}
use Rattle.meaning.specs.Line.{lay_line, entry_at}
use Rattle.meaning.specs.Layout.{Row, row_at, rows_by, most_lines, rows, entry_of_row, layout}
use Rattle.meaning.specs.Edit.{chars_in}
use Rattle.meaning.specs.Frames.{is_none, none_resumed, onward, held_by, one_line, first_lines}
use Rattle.meaning.specs.Examples.{codes, lines_of, box}
use Rattle.meaning.specs.declared.settings.Settings.{Settings}
use Rattle.meaning.specs.declared.line.Entry.{Entry}
use Rattle.laws.specs.CharsBefore.{Front, next-front}
use Rattle.promises.specs.FirstLines.{lines_from}
use Rattle.laws.specs.LineBounds.{line-chars, line-rest, line-held, line-takes}
use Rattle.laws.specs.PageLaws.{PageSaid}
use Rattle.laws.specs.RowInduction.{unless_cases, FitsIn}

module _ (s : Settings) (text : List ℕ) where
  -- The lines that come from a line on are laid line by line, from where it starts and with what it resumes.
  abbrev Resumed : List Entry → Type 0
  Resumed [] = Unit {0}
  Resumed (e ∷ es) = (k : ℕ) → first_lines k s text e.start.0 e.rest ≡ take k (e ∷ es)

  resumed-by : (j n start before : ℕ) (h : Held) (cs : List ℕ) → FitsIn cs h → Front text start before cs → length cs < n
      → Resumed (drop j (map entry_of_row (rows_by n s start before h cs)))
  unfolding rows_by row_at entry_at
  resumed-by j zero start before h cs f p b = absurd (omega arith)
  resumed-by zero (suc n) start before h cs f p b = λ k. lines_from s text k (suc n) start before h cs f p b
  resumed-by (suc j) (suc n) start before h cs f p b =
      let l = lay_line s h cs in
      let next = start + size (take l.chars cs) in
      let rest = drop l.chars cs in
      unless_cases (λ (rs : List Row). Resumed (drop j (map entry_of_row rs))) l.ended (rows_by n s next (before + l.chars) l.held rest)
      (λ _. rw (drop-nil {A = Entry} j) tt)
      (λ d.
      let fewer : length rest < n = rw length-drop (omega (arith, line-takes s h cs f.0 f.1 d, line-chars s h cs f.0 f.1)) in
      resumed-by j n next (before + l.chars) l.held rest (line-rest s h cs f.0 f.1, line-held s h cs f.0 f.1)
      (next-front s text start before h cs f p) fewer)

  pub lines-onward : (j : ℕ) → Resumed (drop j (layout s text))
  unfolding layout rows size
  lines-onward j =
      resumed-by j (most_lines text) 0 0 nothing_held text (omega arith, omega arith)
      (record { front = []; is = refl; at = refl; counted = refl }) (omega arith)

  -- So are a page's.
  pub page-lines : (h i : ℕ) (p : PageSaid h i (layout s text))
      → first_lines h s text p.page.start.0 p.line.rest ≡ take h (drop (i * h) (layout s text))
  page-lines h i p = rw (p.start, p.lines) ((rw p.lines at (lines-onward (i * h))) h)

-- Laid alone they may be others. Of the run of spaces in this text, which holds a U+200B, two spaces are left for the second line, and "d"
-- fits behind them; the bytes have three, behind which it does not.
pub alone_breaks : (length (drop 1 (layout (box 18) (codes "ab \u{200b}   d"))) ≡ 1)
    × (length (first_lines 9 (box 18) (codes "ab \u{200b}   d") 6 none_resumed) ≡ 2)
unfolding codes lines_of chars_in is_none onward held_by one_line first_lines
alone_breaks = (refl, refl)
