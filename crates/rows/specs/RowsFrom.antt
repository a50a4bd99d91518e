-- The lines that are left to lay from a stand on: a step takes one line off their front.
-- Assumes nothing.
use Rattle.std.specs.Prelude.{ℕ, suc, ◌+◌, ◌≤◌, ◌≡◌, true, false, take}
use Rattle.std.proofs.Common.{zero-add, arith, sym, subst, ◌∙◌}
use Rattle.std.proofs.Math.Path.{refl, ap}
use mathlib.Core.List.{List, [], ◌∷◌, map}
use Rattle.std.proofs.Math.ListN.{length, drop, length-map}
use Rattle.utf8.specs.Encoding.{size}
use Rattle.meaning.specs.Checks.{text_limit}
use Rattle.meaning.specs.Line.{Line, lay_line, entry_at}
use Rattle.meaning.specs.Layout.{Row, row_at, unless_ended, rows_by, rows, entry_of_row}
use Rattle.meaning.specs.Calls.{text_rows, text_entries}
use Rattle.meaning.specs.declared.settings.Settings.{Settings}
use Rattle.meaning.specs.declared.line.LineEnd.TheVariants.{EndOfText}
use Rattle.meaning.specs.declared.line.Entry.{Entry}
use Rattle.laws.specs.LineBounds.{line-rest, line-held}
use Rattle.laws.specs.LayoutBounds.{rows-length, few-lines}
use Rattle.laws.specs.Fuel.{rows-fuel}
use Rattle.laws.specs.Stands.{next-fewer}
use Rattle.laws.specs.RowInduction.{unless_cases}
use Rattle.laws.specs.TokenLaws.{length-size}
use Rattle.parser.specs.Lexing.{chars_from}
use Rattle.moves.specs.Fine.{FineSettings}
use Rattle.steps.specs.Lexed.{chars-within}
use Rattle.steps.specs.Pending.{RestFits}
use Rattle.steps.specs.Unrolled.{nothing_resumed}
use Rattle.steps.specs.declared.step.Resumed.{Resumed}
use Rattle.placing.specs.LineFrom.{held_in, line_at_of, line_from}
use Rattle.placing.specs.LineLaws.{next_start, next-count, next-held, next-chars}
use Rattle.rows.specs.Standing.{StandReady, laid_row, ends, goes_on_lem, entry-is, next-at, next-before, next-rest-is}
use Rattle.stands.specs.Stands.{StandsAt, text_front}
use Rattle.stands.specs.declared.stand.Stand.{Stand}
use Rattle.stands.specs.declared.row.LaidRow.{LaidRow}

-- The lines from a stand on, in a text that stands behind so many bytes of a whole.
unfoldable pub rows_from : Settings → List ℕ → (base : ℕ) → Stand → List Row
rows_from s t base p =
    let cs = chars_from t p.at.0 in
    rows_by (suc (length cs)) s (base + p.at.0) p.before.0 (held_in p.rest) cs

-- The first of them.
unfoldable pub row_here : Settings → List ℕ → (base : ℕ) → Stand → Row
row_here s t base p =
    let h = held_in p.rest in
    let cs = chars_from t p.at.0 in
    row_at (base + p.at.0) p.before.0 h cs (lay_line s h cs)

-- ---- one line off the front

module _ (s : Settings) (t : List ℕ) (base : ℕ) (p : Stand) where
  abbrev cs : List ℕ
  cs = chars_from t p.at.0

  abbrev line : Line
  line = lay_line s (held_in p.rest) cs

  off-front : rows_from s t base p
      ≡ row_here s t base p
      ∷ unless_ended line.ended (rows_by (length cs) s (base + p.at.0 + size (take line.chars cs)) (p.before.0 + line.chars) line.held (drop line.chars cs))
  unfolding rows_from row_here rows_by
  off-front = refl

  -- There is a line: what holds of it before any others holds of them all.
  pub first-row : (P : List Row → Type 0) → ((rs : List Row) → P (row_here s t base p ∷ rs)) → P (rows_from s t base p)
  first-row P f = subst P (sym off-front) (f _)

  -- At most one more than bytes.
  pub few-rows : length (rows_from s t base p) ≤ length t + 1
  unfolding rows_from
  few-rows =
      omega (arith, rows-length (suc (length cs)) s (base + p.at.0) p.before.0 (held_in p.rest) cs, length-size cs, chars-within t p.at.0)

  module _ (c : StandReady s t p) (x : LaidRow) (is : x ≡ laid_row s t p) where
    -- The line that ends the text is the last of them.
    pub last_row : x.last ≡ true → rows_from s t base p ≡ row_here s t base p ∷ []
    unfolding line_from line_at_of
    last_row h =
        off-front
        ∙ ap (λ (rs : List Row). row_here s t base p ∷ rs)
        (unless_cases (λ rs. rs ≡ []) line.ended _ (λ _. refl) (λ d. absurd (d (ends s t p c x is h))))

    module _ (q : Stand) (n : StandsAt t x.next (p.before.0 + x.chars.0) x.rest q) where
      abbrev ready-rest : RestFits t p.at.0 p.rest
      ready-rest = c.line.rest

      -- What is left when the line is laid.
      after_line : (line.ended ≡ EndOfText → ⊥)
          → rows_by (length cs) s (base + p.at.0 + size (take line.chars cs)) (p.before.0 + line.chars) line.held (drop line.chars cs)
          ≡ rows_from s t base q
      unfolding rows_from
      after_line d =
          let at = p.at.0 in
          let b = p.before.0 in
          let h = held_in p.rest in
          let more = drop line.chars cs in
          let at-is = next-at s t p c x is q n in
          let start : base + q.at.0 ≡ base + at + size (take line.chars cs) = omega (arith, at-is, next_start s t at b p.rest) in
          let before : q.before.0 ≡ b + line.chars = omega (arith, next-before s t p c x is q n, next-count s t at b p.rest) in
          let chars : chars_from t q.at.0 ≡ more = ap (chars_from t) at-is ∙ next-chars s t at b p.rest in
          let held : held_in q.rest ≡ line.held = ap held_in (next-rest-is s t p c x is q n) ∙ next-held s t at b p.rest in
          rw (start, before, chars, held)
          (rows-fuel (length cs) (suc (length more)) s (base + at + size (take line.chars cs)) (b + line.chars) line.held more
          (line-rest s h cs ready-rest.within ready-rest.counts) (line-held s h cs ready-rest.within ready-rest.counts)
          (next-fewer s h cs ready-rest.within ready-rest.counts d (length cs) (omega arith)) (omega arith))

      -- Any other is followed by those from the next stand on.
      pub more_rows : x.last ≡ false → rows_from s t base p ≡ row_here s t base p ∷ rows_from s t base q
      unfolding line_from line_at_of
      more_rows h =
          let d = goes_on_lem s t p c x is h in
          off-front
          ∙ ap (λ (rs : List Row). row_here s t base p ∷ rs)
          (unless_cases (λ rs. rs ≡ rows_from s t base q) line.ended _ (λ e. absurd (d e)) after_line)

-- At a text's front they are the lines that the characters there make.
pub front-rows : (s : Settings) (t : List ℕ) (base before : ℕ) (r : Resumed) (p : Stand) → StandsAt t text_front before r p
    → rows_from s t base p ≡ rows_by (suc (length (chars_from t 0))) s (base + 0) before (held_in r) (chars_from t 0)
unfolding rows_from
front-rows s t base before r p f = rw (f.at-is, f.before-is, f.rest-is)

-- Where nothing stands before the text, the first of them is the line that the step answers.
pub entry_here : (s : Settings) (t : List ℕ) (p : Stand) → StandReady s t p → (x : LaidRow) → x ≡ laid_row s t p → x.entry ≡ (row_here s t 0 p).entry
unfolding row_here row_at line_from line_at_of
entry_here s t p c x is =
    let h = held_in p.rest in
    let cs = chars_from t p.at.0 in
    entry-is s t p c x is ∙ ap (λ (n : ℕ). entry_at n p.before.0 h cs (lay_line s h cs)) (sym (zero-add p.at.0))

-- ---- their entries

-- What the public call has checked.
pub record TextReady (s : Settings) (t : List ℕ) : Type 0 where
  pub settings : FineSettings s
  pub short : length t ≤ text_limit

-- The entries of a text, and those from a stand on.
unfoldable pub entries_of : Settings → List ℕ → List Entry
entries_of s t = map entry_of_row (rows s (chars_from t 0))

unfoldable pub entries_from : Settings → List ℕ → (base : ℕ) → Stand → List Entry
entries_from s t base p = map entry_of_row (rows_from s t base p)

pub all_entries : (s : Settings) (t : List ℕ) (p : Stand) → StandsAt t text_front 0 nothing_resumed p → entries_from s t 0 p ≡ entries_of s t
unfolding entries_of entries_from rows
all_entries s t p f = ap (map entry_of_row) (front-rows s t 0 0 nothing_resumed p f)

-- The entries that the definitions of the call speak of.
pub entries_are : (s : Settings) (t : List ℕ) → entries_of s t ≡ text_entries s t
unfolding entries_of text_entries text_rows chars_from
entries_are s t = refl

-- At most one line more than bytes.
pub few_entries : (s : Settings) (t : List ℕ) → length (entries_of s t) ≤ length t + 1
unfolding entries_of
few_entries s t =
    let cs = chars_from t 0 in
    rw length-map (omega (arith, few-lines s cs, length-size cs, chars-within t 0))

module _ (s : Settings) (t : List ℕ) (base : ℕ) (p : Stand) where
  pub some_entries : 1 ≤ length (entries_from s t base p)
  unfolding entries_from
  some_entries = rw length-map (first-row s t base p (λ rs. 1 ≤ length rs) (λ rs. omega arith))

  module _ (c : StandReady s t p) (x : LaidRow) (is : x ≡ laid_row s t p) (e : Entry) (e-is : e ≡ (row_here s t base p).entry) where
    pub last_entry : x.last ≡ true → entries_from s t base p ≡ e ∷ []
    unfolding entries_from
    last_entry h = rw e-is (ap (map entry_of_row) (last_row s t base p c x is h))

    pub more_entries : (q : Stand) → StandsAt t x.next (p.before.0 + x.chars.0) x.rest q → x.last ≡ false → entries_from s t base p ≡ e ∷ entries_from s t base q
    unfolding entries_from
    more_entries q n h = rw e-is (ap (map entry_of_row) (more_rows s t base p c x is q n h))
