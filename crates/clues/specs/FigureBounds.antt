-- The figures of one text are small: it has at most one line more than bytes, and drops no more characters than it has (rule 10).
-- Assumes nothing.
use Rattle.std.specs.Prelude.{ℕ, zero, suc, ◌+◌, ◌≤◌, List, [], ◌∷◌, map, eqb, length, take, drop}
use Rattle.std.proofs.Common.{arith, length-drop}
use Rattle.basis.specs.Choice.{pick_cases}
use Rattle.utf8.specs.Encoding.{size}
use Rattle.meaning.specs.LineIter.{Held, nothing_held}
use Rattle.meaning.specs.Line.{line_of, lay_line, line_tokens, entry_at}
use Rattle.meaning.specs.Layout.{row_at, rows_by, rows, entry_of_row}
use Rattle.meaning.specs.Month.{broken_in, dropped_in}
use Rattle.meaning.specs.declared.settings.Settings.{Settings}
use Rattle.meaning.specs.declared.line.Entry.{Entry}
use Rattle.laws.specs.LineBounds.{line-chars, line-held, line-rest}
use Rattle.laws.specs.RowInduction.{unless_cases, FitsIn}
use Rattle.laws.specs.TokenLaws.{length-size}
use Rattle.parser.specs.Lexing.{chars_from}
use Rattle.steps.specs.Lexed.{chars-within}
use Rattle.placing.specs.FinePass.{pass_drops}
use Rattle.rows.specs.RowsFrom.{entries_of}

-- No more lines are broken than there are.
pub broken-few : (es : List Entry) → broken_in es ≤ length es
unfolding broken_in
broken-few [] = omega arith
broken-few (e ∷ es) = pick_cases (λ (n : ℕ). n + broken_in es ≤ suc (length es)) (eqb e.ending 3) (λ _. omega (arith, broken-few es)) (λ _. omega (arith, broken-few es))

line_drops : (s : Settings) (h : Held) (cs : List ℕ) → (lay_line s h cs).dropped ≤ (lay_line s h cs).chars
unfolding lay_line line_of
line_drops s h cs = pass_drops s _ 0 (line_tokens h cs)

-- Each line drops characters that it took, so they are no more than the text has.
rows_drop : (n : ℕ) (s : Settings) (start before : ℕ) (h : Held) (cs : List ℕ) → FitsIn cs h → dropped_in (map entry_of_row (rows_by n s start before h cs)) ≤ length cs
unfolding rows_by row_at entry_at dropped_in
rows_drop zero s start before h cs f = omega arith
rows_drop (suc n) s start before h cs f =
    let l = lay_line s h cs in
    let next = start + size (take l.chars cs) in
    let rest = drop l.chars cs in
    let took = line-chars s h cs f.0 f.1 in
    unless_cases (λ qs. l.dropped + dropped_in (map entry_of_row qs) ≤ length cs) l.ended (rows_by n s next (before + l.chars) l.held rest)
    (λ _. omega (arith, line_drops s h cs))
    (λ _. omega (
      arith,
      line_drops s h cs,
      length-drop l.chars cs,
      rows_drop n s next (before + l.chars) l.held rest (line-rest s h cs f.0 f.1, line-held s h cs f.0 f.1),
    ))

pub dropped-few : (s : Settings) (t : List ℕ) → dropped_in (entries_of s t) ≤ length t
unfolding entries_of rows
dropped-few s t =
    let cs = chars_from t 0 in
    omega (arith, rows_drop (suc (length cs)) s 0 0 nothing_held cs (omega arith, omega arith), length-size cs, chars-within t 0)
