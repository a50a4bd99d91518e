-- One turn of the loop that writes the lines laid again.
-- Assumes nothing.
use Rattle.std.specs.Prelude.{ℕ, suc, ◌+◌, ◌-◌, ◌*◌, ◌≤◌, ◌<◌, ◌≡◌, refl, List, ◌∷◌, length, take}
use Rattle.std.proofs.Common.{arith, sym, ap, ◌∙◌}
use Rattle.basis.specs.Choice.{by_test}
use Rattle.meaning.specs.Table.{entry_numbers, of_entry}
use Rattle.meaning.specs.Line.{entry_at}
use Rattle.meaning.specs.declared.settings.Settings.{Settings}
use Rattle.meaning.specs.declared.line.Entry.{Entry}
use Rattle.placing.specs.LineFrom.{line_at_of, line_from}
use Rattle.placing.specs.LineLaws.{entry-small}
use Rattle.table.specs.Numbers.{put_numbers}
use Rattle.table.specs.Moving.{MovableEntry, moved_by}
use Rattle.rows.specs.Standing.{StandReady, laid_row, entry-is, ready-next}
use Rattle.stands.specs.Stands.{StandsAt}
use Rattle.rows.specs.RowsFrom.{row_here, entries_from, last_entry, more_entries}
use Rattle.rows.specs.Writing.{lines_put, none-put, first-put}
use Rattle.stands.specs.declared.stand.Stand.{Stand}
use Rattle.stands.specs.declared.row.LaidRow.{LaidRow}
use Rattle.again.specs.Behind.{behind, row-behind}

-- There are so many lines from a stand on, and the table has room for them from line k on.
pub record WriteReady (s : Settings) (part table : List ℕ) (base k laid : ℕ) (p : Stand) : Type 0 where
  pub stand : StandReady s part p
  pub low : base ≤ 65536
  pub enough : laid ≤ length (entries_from s part base p)
  pub room : entry_numbers * (k + laid) ≤ length table

-- n of the lines are written to the table t, which is u now: what is still to be written to u makes what was to be written to t.
pub record Wrote (s : Settings) (part t u : List ℕ) (base k laid : ℕ) (p₀ : Stand) (n : ℕ) (p : Stand) : Type 0 where
  pub ready : StandReady s part p
  pub some : n ≤ laid
  pub enough : laid - n ≤ length (entries_from s part base p)
  pub same : length u ≡ length t
  pub left : lines_put u (k + n) (take (laid - n) (entries_from s part base p)) ≡ lines_put t k (take laid (entries_from s part base p₀))

module _ (s : Settings) (part t : List ℕ) (base k laid : ℕ) (p₀ : Stand) where
  pub write_start : WriteReady s part t base k laid p₀ → Wrote s part t t base k laid p₀ 0 p₀
  write_start h =
      let e : k + 0 ≡ k = omega arith in
      let f : laid - 0 ≡ laid = omega arith in
      record { ready = h.stand; some = omega arith; enough = omega (arith, h.enough); same = refl; left = rw (e, f) }

  module _ (u : List ℕ) (n : ℕ) (p : Stand) (c : Wrote s part t u base k laid p₀ n p) where
    -- All of them are written.
    pub write_end : laid ≤ n → u ≡ lines_put t k (take laid (entries_from s part base p₀))
    write_end h =
        let e : laid - n ≡ 0 = omega arith in
        sym (none-put u (k + n)) ∙ rw e at c.left

    module _ (x : LaidRow) (is : x ≡ laid_row s part p) where
      -- The characters before the line are few.
      count_low : (line_from s part p.at.0 p.before.0 p.rest).entry.before.0 ≤ 131071
      unfolding line_from line_at_of entry_at
      count_low = let l = c.ready in omega (arith, l.few, l.line.inside, l.line.short)

      -- No number of the line's entry is large, so that it can be moved.
      pub line-movable : MovableEntry (behind base) x.entry
      line-movable =
          let r = c.ready.line in
          let a = entry-small s part p.at.0 p.rest r.rest r.settings r.short r.inside p.before.0 in
          rw (entry-is s part p c.ready x is)
          (record {
            start = (omega arith, omega (arith, a.start, r.short));
            rest = λ some. (omega arith, omega (arith, a.end, r.short));
            reach = (omega arith, omega (arith, a.reach, r.short));
            before = (omega arith, count_low);
          })

      -- One more is written.
      module _ (more : n < laid) (room : entry_numbers * (k + n) + entry_numbers ≤ length u) (e : Entry) (e-is : e ≡ moved_by (behind base) x.entry) (v : List ℕ)
          (put : v ≡ put_numbers u (entry_numbers * (k + n)) (of_entry e)) (kept : length v ≡ length u)
        where
          abbrev onward : ℕ
          onward = laid - (n + 1)

          here : e ≡ (row_here s part base p).entry
          here = e-is ∙ row-behind s part base p c.ready x is

          module _ (q : Stand) (on : StandsAt part x.next (p.before.0 + x.chars.0) x.rest q) where
            -- The line, and those that are still to be written: none if it ends the text.
            record Rest (m : ℕ) : Type 0 where
              pub taken : take (suc m) (entries_from s part base p) ≡ e ∷ take m (entries_from s part base q)
              pub enough : m ≤ length (entries_from s part base q)

            rest : Rest onward
            rest =
                by_test x.last
                (λ h.
                let f = last_entry s part base p c.ready x is e here h in
                let none : onward ≡ 0 = omega (arith, c.enough, ap length f) in
                rw none (record { taken = rw f; enough = omega arith }))
                (λ h.
                let f = more_entries s part base p c.ready x is e here q on h in
                record { taken = rw f; enough = omega (arith, c.enough, ap length f) })

            pub write_next : Wrote s part t v base k laid p₀ (n + 1) q
            write_next =
                let es = take onward (entries_from s part base q) in
                let m : laid - n ≡ suc onward = omega arith in
                let i : k + (n + 1) ≡ k + n + 1 = omega arith in
                record {
                  ready = ready-next s part p c.ready x is q on;
                  some = omega arith;
                  enough = rest.enough;
                  same = kept ∙ c.same;
                  left = rw i
                      (ap (λ (y : List ℕ). lines_put y (k + n + 1) es) put
                      ∙ sym (first-put u (k + n) e es (omega arith))
                      ∙ ap (lines_put u (k + n)) (sym rest.taken)
                      ∙ rw m at c.left);
                }
