-- Laying again from a stand on is a walk over the lines from there on, as far as no old line is met.
-- Assumes nothing.
use Rattle.std.specs.Prelude.{ℕ, zero, suc, ◌+◌, ◌≤◌, ◌≡◌, true, false, length, take, drop}
use Rattle.std.proofs.Common.{add-zero, sym, ◌∙◌}
use native.Mathlib.Omega.{arith}
use Rattle.std.proofs.Math.Path.{refl, ap}
use mathlib.Core.List.{List, [], ◌∷◌, map}
use Rattle.std.proofs.Math.ListN.{length-map}
use Rattle.utf8.specs.Encoding.{size}
use Rattle.meaning.specs.LineIter.{Held}
use Rattle.meaning.specs.Line.{lay_line, rest_of, entry_at}
use Rattle.meaning.specs.Layout.{Row, row_at, unless_ended, rows_by, entry_of_row}
use Rattle.meaning.specs.Edit.{moved_entry, kept_from, Again, again_unless_ended, one_more, unless_kept, again_by}
use Rattle.meaning.specs.declared.settings.Settings.{Settings}
use Rattle.meaning.specs.declared.edit.Edit.{Edit}
use Rattle.meaning.specs.declared.line.LineEnd.{LineEnd}
use Rattle.meaning.specs.declared.line.LineEnd.TheVariants.{NewLine, CarriageReturn, EndOfText, LineBreak}
use Rattle.meaning.specs.declared.line.Entry.{Entry}
use Rattle.parser.specs.Lexing.{chars_from}
use Rattle.placing.specs.LineFrom.{held_in}
use Rattle.steps.specs.declared.step.Resumed.{Resumed}
use Rattle.rows.specs.Standing.{StandReady, laid_row}
use Rattle.stands.specs.Stands.{StandsAt, text_front}
use Rattle.rows.specs.RowsFrom.{rows_from, row_here, front-rows, first-row, few-rows, last_row, more_rows, entries_from}
use Rattle.stands.specs.declared.stand.Stand.{Stand}
use Rattle.stands.specs.declared.row.LaidRow.{LaidRow}
use Rattle.again.specs.Behind.{rest_behind, rest-behind}

-- Before each line the old lines are looked at.
unfoldable pub until_kept : Edit → (old : List Entry) → List Row → Again
until_kept ed old [] = record { laid = []; kept = [] }
until_kept ed old (r ∷ rs) =
    let more = one_more r (until_kept ed old rs) in
    unless_kept ed r.entry.before.0 (kept_from ed r.entry.start.0 r.entry.rest old) more

-- From a stand on, in a part that stands behind so many bytes.
abbrev pub again_from : Settings → (part : List ℕ) → Edit → (old : List Entry) → (base : ℕ) → Stand → Again
again_from s t ed old base p = until_kept ed old (rows_from s t base p)

-- ---- the definition is that walk

until_ended : (ed : Edit) (old : List Entry) (e : LineEnd) (rs : List Row) → until_kept ed old (unless_ended e rs) ≡ again_unless_ended e (until_kept ed old rs)
unfolding until_kept unless_ended again_unless_ended
until_ended ed old EndOfText rs = refl
until_ended ed old NewLine rs = refl
until_ended ed old CarriageReturn rs = refl
until_ended ed old LineBreak rs = refl

by_rows : (n : ℕ) (s : Settings) (ed : Edit) (old : List Entry) (start before : ℕ) (h : Held) (cs : List ℕ)
    → again_by n s ed old start before h cs ≡ until_kept ed old (rows_by n s start before h cs)
unfolding again_by rows_by until_kept row_at entry_at
by_rows zero s ed old start before h cs = refl
by_rows (suc n) s ed old start before h cs =
    let l = lay_line s h cs in
    let next = start + size (take l.chars cs) in
    let more = drop l.chars cs in
    let on = before + l.chars in
    ap (λ (x : Again). unless_kept ed before (kept_from ed start (rest_of start h cs) old) (one_more (row_at start before h cs l) x))
    (ap (again_unless_ended l.ended) (by_rows n s ed old next on l.held more)
    ∙ sym (until_ended ed old l.ended (rows_by n s next on l.held more)))

pub again-front : (s : Settings) (t : List ℕ) (ed : Edit) (old : List Entry) (base before : ℕ) (r : Resumed) (p : Stand) → StandsAt t text_front before r p
    → again_by (suc (length (chars_from t 0))) s ed old base before (held_in r) (chars_from t 0) ≡ again_from s t ed old base p
again-front s t ed old base before r p f =
    let cs = chars_from t 0 in
    by_rows (suc (length cs)) s ed old base before (held_in r) cs
    ∙ ap (λ (n : ℕ). until_kept ed old (rows_by (suc (length cs)) s n before (held_in r) cs)) (sym (add-zero base))
    ∙ ap (until_kept ed old) (sym (front-rows s t base before r p f))

-- ---- what is laid are the first of the lines

module _ (ed : Edit) where
  first-kept : (before : ℕ) (es : List Entry) (r : Row) (rs : List Row) (a : Again) → map entry_of_row a.laid ≡ take (length a.laid) (map entry_of_row rs)
      → map entry_of_row (unless_kept ed before es (one_more r a)).laid ≡ take (length (unless_kept ed before es (one_more r a)).laid) (map entry_of_row (r ∷ rs))
  unfolding unless_kept
  first-kept before [] r rs a h = ap (λ (es : List Entry). r.entry ∷ es) h
  first-kept before (e ∷ es) r rs a h = refl

  few-kept : (before : ℕ) (es : List Entry) (n : ℕ) (a : Again) → length a.laid ≤ n → length (unless_kept ed before es a).laid ≤ n
  unfolding unless_kept
  few-kept before [] n a h = h
  few-kept before (e ∷ es) n a h = omega arith

  until_first : (old : List Entry) (rs : List Row)
      → map entry_of_row (until_kept ed old rs).laid ≡ take (length (until_kept ed old rs).laid) (map entry_of_row rs)
  unfolding until_kept
  until_first old [] = refl
  until_first old (r ∷ rs) =
      first-kept r.entry.before.0 (kept_from ed r.entry.start.0 r.entry.rest old) r rs (until_kept ed old rs) (until_first old rs)

  until_few : (old : List Entry) (rs : List Row) → length (until_kept ed old rs).laid ≤ length rs
  unfolding until_kept
  until_few old [] = omega arith
  until_few old (r ∷ rs) =
      few-kept r.entry.before.0 (kept_from ed r.entry.start.0 r.entry.rest old) (suc (length rs)) (one_more r (until_kept ed old rs))
      (omega (arith, until_few old rs))

module _ (s : Settings) (t : List ℕ) (ed : Edit) (old : List Entry) (base : ℕ) (p : Stand) where
  pub laid-first : map entry_of_row (again_from s t ed old base p).laid ≡ take (length (again_from s t ed old base p).laid) (entries_from s t base p)
  unfolding entries_from
  laid-first = until_first ed old (rows_from s t base p)

  pub laid-within : length (again_from s t ed old base p).laid ≤ length (entries_from s t base p)
  unfolding entries_from
  laid-within = rw length-map (until_few ed old (rows_from s t base p))

  pub few-laid : length (again_from s t ed old base p).laid ≤ length t + 1
  few-laid = omega (arith, until_few ed old (rows_from s t base p), few-rows s t base p)

  -- ---- one line

  module _ (ready : StandReady s t p) where
    -- Before the line the old lines are looked at.
    looked : (rs : List Row)
        → until_kept ed old (row_here s t base p ∷ rs)
        ≡ unless_kept ed p.before.0 (kept_from ed (base + p.at.0) (rest_behind base p.rest) old) (one_more (row_here s t base p) (until_kept ed old rs))
    unfolding until_kept row_here row_at entry_at
    looked rs = rw (rest-behind t base p.at.0 p.rest ready.line.rest)

    -- Old lines follow: nothing is laid.
    pub again-stop : (e : Entry) (es : List Entry) → kept_from ed (base + p.at.0) (rest_behind base p.rest) old ≡ e ∷ es
        → again_from s t ed old base p ≡ record { laid = []; kept = map (moved_entry ed e.before.0 p.before.0) (e ∷ es) }
    unfolding unless_kept
    again-stop e es k =
        first-row s t base p (λ rs. until_kept ed old rs ≡ record { laid = []; kept = map (moved_entry ed e.before.0 p.before.0) (e ∷ es) }) (λ rs. looked rs ∙ rw k)

    module _ (none : kept_from ed (base + p.at.0) (rest_behind base p.rest) old ≡ []) (x : LaidRow) (is : x ≡ laid_row s t p) where
      go_on : (rs : List Row) → until_kept ed old (row_here s t base p ∷ rs) ≡ one_more (row_here s t base p) (until_kept ed old rs)
      unfolding unless_kept
      go_on rs = looked rs ∙ rw none

      -- The line that ends the text.
      pub again-last : x.last ≡ true → again_from s t ed old base p ≡ record { laid = row_here s t base p ∷ []; kept = [] }
      unfolding until_kept
      again-last h = ap (until_kept ed old) (last_row s t base p ready x is h) ∙ go_on []

      -- Any other, and what follows it.
      pub again-more : (q : Stand) → StandsAt t x.next (p.before.0 + x.chars.0) x.rest q → x.last ≡ false
          → again_from s t ed old base p ≡ one_more (row_here s t base p) (again_from s t ed old base q)
      again-more q n h = ap (until_kept ed old) (more_rows s t base p ready x is q n h) ∙ go_on (rows_from s t base q)
