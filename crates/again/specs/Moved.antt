-- The law of one line: a text that is moved has its lines moved, and nothing else of them changes (laying again).
-- Assumes nothing.
use Prim.Native.Nat.{ℕ, zero, suc, ◌+◌, ◌-◌, ◌≤◌}
use native.Mathlib.Omega.{arith}
use Rattle.std.specs.Prelude.{◌≡◌, length, take, drop}
use Rattle.std.proofs.Math.Path.{refl}
use mathlib.Core.List.{List, ◌∷◌, map}
use borrow.Author.Tests.{ne_eqb}
use Rattle.basis.specs.Choice.{pick}
use Rattle.basis.specs.Order.{by_eq}
use Rattle.utf8.specs.Encoding.{size}
use Rattle.meaning.specs.LineIter.{Held}
use Rattle.meaning.specs.Line.{Line, lay_line, rest_of, entry_at}
use Rattle.meaning.specs.Layout.{Row, row_at, rows_by, entry_of_row}
use Rattle.meaning.specs.Edit.{moved, moved_rest, moved_entry}
use Rattle.meaning.specs.declared.settings.Settings.{Settings}
use Rattle.meaning.specs.declared.edit.Edit.{Edit}
use Rattle.laws.specs.LineBounds.{line-held, line-rest}
use Rattle.laws.specs.Suffixes.{take-size}
use Rattle.laws.specs.Rests.{rest-none, rest_some}
use Rattle.laws.specs.Stands.{unless_both}

module _ (ed : Edit) where
  -- An offset k bytes after the start is moved with it.
  later : (start k : ℕ) → ed.to.0 - ed.from.0 ≤ start → moved ed start + k ≡ moved ed (start + k)
  unfolding moved
  later start k m = omega arith

  rest-moved : (start : ℕ) (h : Held) (cs : List ℕ) → ed.to.0 - ed.from.0 ≤ start → h.chars ≤ length cs
      → rest_of (moved ed start) h cs ≡ moved_rest ed (rest_of start h cs)
  unfolding moved_rest pick
  rest-moved start h cs m k =
      by_eq h.chars 0 (λ e. rw (rest-none (moved ed start) h cs e, rest-none start h cs e))
      (λ n.
      let z = take-size h.chars cs k in
      rw (
        rest_some (moved ed start) h cs n,
        rest_some start h cs n,
        later start (size (take h.chars cs)) m,
        ne_eqb (start + size (take h.chars cs)) 0 (λ e. omega arith),
      ))

  pub entry-moved : (from to start before : ℕ) (h : Held) (cs : List ℕ) (l : Line) → ed.to.0 - ed.from.0 ≤ start → h.chars ≤ length cs
      → entry_at (moved ed start) (to + (before - from)) h cs l ≡ moved_entry ed from to (entry_at start before h cs l)
  unfolding entry_at moved_entry
  entry-moved from to start before h cs l m k = rw (later start l.reach m, rest-moved start h cs m k)

  pub rows-moved : (n : ℕ) (s : Settings) (from to start before : ℕ) (h : Held) (cs : List ℕ)
      → from ≤ before → ed.to.0 - ed.from.0 ≤ start → h.chars ≤ length cs → h.count ≤ h.chars
      → map entry_of_row (rows_by n s (moved ed start) (to + (before - from)) h cs)
      ≡ map (moved_entry ed from to) (map entry_of_row (rows_by n s start before h cs))
  unfolding rows_by row_at
  rows-moved zero s from to start before h cs f m k c = refl
  rows-moved (suc n) s from to start before h cs f m k c =
      let l = lay_line s h cs in
      let next = start + size (take l.chars cs) in
      let on = before + l.chars in
      let lines : ℕ → ℕ → List Row = λ at chars. rows_by n s at chars l.held (drop l.chars cs) in
      let counted : to + (before - from) + l.chars ≡ to + (on - from) = omega arith in
      let more =
      unless_both (λ xs ys. map entry_of_row xs ≡ map (moved_entry ed from to) (map entry_of_row ys)) l.ended
      (lines (moved ed next) (to + (on - from))) (lines next on) (λ _. refl)
      (λ d. rows-moved n s from to next on l.held (drop l.chars cs) (omega arith) (omega arith) (line-rest s h cs k c) (line-held s h cs k c)) in
      rw (later start (size (take l.chars cs)) m, counted) (λ i. entry-moved from to start before h cs l m k i ∷ more i)
