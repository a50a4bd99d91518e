-- One turn of the loop that counts the lines of a text: what is counted, and what the lines that are left add, are the text's figures (rule 10).
-- Assumes nothing.
use Rattle.std.specs.Prelude.{ℕ, ◌+◌, ◌≤◌, ◌≡◌, true, false, eqb, Ok}
use native.Mathlib.Omega.{arith}
use Rattle.std.proofs.Common.{sym, ◌∙◌}
use Rattle.std.proofs.Math.Path.{ap}
use mathlib.Core.List.{List, [], ◌∷◌}
use Rattle.std.proofs.Math.ListN.{length}
use Rattle.basis.specs.Choice.{pick}
use Rattle.meaning.specs.Checks.{text_limit}
use Rattle.meaning.specs.Month.{broken_in, dropped_in, figures_by}
use Rattle.meaning.specs.declared.settings.Settings.{Settings}
use Rattle.meaning.specs.declared.line.Entry.{Entry}
use Rattle.steps.specs.Unrolled.{nothing_resumed}
use Rattle.rows.specs.Standing.{laid_row}
use Rattle.stands.specs.Stands.{StandsAt, text_front}
use Rattle.rows.specs.RowsFrom.{TextReady, entries_of, entries_from, all_entries, entry_here, few_entries, last_entry, more_entries}
use Rattle.rows.specs.Turns.{Counted, count-start, count_low, count-last, count-more}
use Rattle.stands.specs.declared.stand.Stand.{Stand}
use Rattle.stands.specs.declared.row.LaidRow.{LaidRow}
use Rattle.clues.specs.FigureBounds.{broken-few, dropped-few}
use Rattle.month_figures.specs.declared.counted.Tally.{Tally}
use Rattle.month_figures.specs.Tallies.{no_lines, with_line, tally_figures}

-- So much is counted, and the other lines are laid from a stand on.
pub record Tallied (s : Settings) (t : List ℕ) (y : Tally) (p : Stand) : Type 0 where
  pub counted : Counted s t y.lines p
  pub broken : y.broken + broken_in (entries_from s t 0 p) ≡ broken_in (entries_of s t)
  pub dropped : y.dropped + dropped_in (entries_from s t 0 p) ≡ dropped_in (entries_of s t)

pub tally_start : (s : Settings) (t : List ℕ) (y : Tally) (p : Stand) → y ≡ no_lines → TextReady s t → StandsAt t text_front 0 nothing_resumed p → Tallied s t y p
tally_start s t y p e h f =
    let all = all_entries s t p f in
    rw e
    (record {
      counted = count-start s t p h f;
      broken = omega (arith, ap broken_in all);
      dropped = omega (arith, ap dropped_in all);
    })

module _ (s : Settings) (t : List ℕ) (y : Tally) (p : Stand) (c : Tallied s t y p) where
  -- No count wraps.
  pub tally_low : (y.lines ≤ text_limit) × (y.broken ≤ text_limit + 1) × (y.dropped ≤ text_limit)
  tally_low =
      let short = c.counted.ready.line.short in (
        count_low s t y.lines p c.counted,
        omega (arith, c.broken, broken-few (entries_of s t), few_entries s t),
        omega (arith, c.dropped, dropped-few s t),
      )

  module _ (x : LaidRow) (is : x ≡ laid_row s t p) (z : Tally) (on : z ≡ with_line y x.entry.ending x.entry.dropped.0) where
    abbrev entry : Entry
    entry = x.entry

    lines-is : z.lines ≡ y.lines + 1
    unfolding with_line
    lines-is = ap (λ (v : Tally). v.lines) on

    -- What the line adds to the lines behind it.
    broken-is : (es : List Entry) → z.broken + broken_in es ≡ y.broken + broken_in (entry ∷ es)
    unfolding with_line broken_in
    broken-is es = let e : z.broken ≡ y.broken + pick (eqb entry.ending 3) 1 0 = ap (λ (v : Tally). v.broken) on in omega arith

    dropped-is : (es : List Entry) → z.dropped + dropped_in es ≡ y.dropped + dropped_in (entry ∷ es)
    unfolding with_line dropped_in
    dropped-is es = let e : z.dropped ≡ y.dropped + entry.dropped.0 = ap (λ (v : Tally). v.dropped) on in omega arith

    pub tally_last : x.last ≡ true → tally_figures z ≡ figures_by (Ok tt) (entries_of s t)
    unfolding tally_figures figures_by broken_in dropped_in
    tally_last h =
        let e = last_entry s t 0 p c.counted.ready x is entry (entry_here s t p c.counted.ready x is) h in
        let n : z.lines ≡ length (entries_of s t) = lines-is ∙ count-last s t y.lines p c.counted x is h in
        let b : z.broken ≡ broken_in (entries_of s t) = omega (arith, broken-is [], ap broken_in e, c.broken) in
        let d : z.dropped ≡ dropped_in (entries_of s t) = omega (arith, dropped-is [], ap dropped_in e, c.dropped) in
        λ i. record { texts = 1; lines = n i; broken = b i; dropped = d i; long = 0; invalid = 0; most = n i }

    pub tally_more : (q : Stand) → StandsAt t x.next (p.before.0 + x.chars.0) x.rest q → x.last ≡ false → Tallied s t z q
    tally_more q on-next h =
        let e = more_entries s t 0 p c.counted.ready x is entry (entry_here s t p c.counted.ready x is) q on-next h in
        record {
          counted = rw lines-is (count-more s t y.lines p c.counted x is q on-next h);
          broken = broken-is (entries_from s t 0 q) ∙ ap (λ (es : List Entry). y.broken + broken_in es) (sym e) ∙ c.broken;
          dropped = dropped-is (entries_from s t 0 q) ∙ ap (λ (es : List Entry). y.dropped + dropped_in es) (sym e) ∙ c.dropped;
        }
