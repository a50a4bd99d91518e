-- One turn of the loops that count lines and write them.
-- Assumes nothing.
use Rattle.std.specs.Prelude.{ℕ, ◌+◌, ◌*◌, ◌≤◌, ◌≡◌, refl, true, false, List, [], ◌∷◌, length}
use Rattle.std.proofs.Common.{arith, sym, ap, ◌∙◌}
use Rattle.meaning.specs.Checks.{text_limit}
use Rattle.meaning.specs.Table.{entry_numbers, of_entry, of_all, written}
use Rattle.meaning.specs.declared.settings.Settings.{Settings}
use Rattle.meaning.specs.declared.line.Entry.{Entry}
use Rattle.table.specs.Numbers.{put_numbers}
use Rattle.steps.specs.Unrolled.{nothing_resumed}
use Rattle.steps.specs.Running.{none-fits}
use Rattle.rows.specs.Standing.{StandReady, stand-ready, laid_row, ready-next}
use Rattle.stands.specs.Stands.{StandsAt, text_front}
use Rattle.rows.specs.RowsFrom.{row_here, TextReady, entries_of, entries_from, all_entries, entry_here, some_entries, few_entries, last_entry, more_entries}
use Rattle.rows.specs.Writing.{lines_put, none-put, first-put, all-put}
use Rattle.stands.specs.declared.stand.Stand.{Stand}
use Rattle.stands.specs.declared.row.LaidRow.{LaidRow}

-- ---- counting

-- n lines are passed, and the others are laid from a stand on.
pub record Counted (s : Settings) (t : List ℕ) (n : ℕ) (p : Stand) : Type 0 where
  pub ready : StandReady s t p
  pub left : n + length (entries_from s t 0 p) ≡ length (entries_of s t)

pub start-ready : (s : Settings) (t : List ℕ) (p : Stand) → TextReady s t → StandsAt t text_front 0 nothing_resumed p → StandReady s t p
start-ready s t p h f =
    stand-ready s t text_front 0 nothing_resumed p
    (record { settings = h.settings; short = h.short; inside = omega arith; rest = none-fits t 0 nothing_resumed refl }) (omega arith) f

pub count-start : (s : Settings) (t : List ℕ) (p : Stand) → TextReady s t → StandsAt t text_front 0 nothing_resumed p → Counted s t 0 p
count-start s t p h f = record { ready = start-ready s t p h f; left = omega (arith, ap length (all_entries s t p f)) }

module _ (s : Settings) (t : List ℕ) (n : ℕ) (p : Stand) (c : Counted s t n p) where
  -- There is a next line.
  one_left : n + 1 ≤ length (entries_of s t)
  one_left = omega (arith, c.left, some_entries s t 0 p)

  -- No count of lines wraps.
  pub count_low : n ≤ text_limit
  count_low = omega (arith, one_left, few_entries s t, c.ready.line.short)

  module _ (x : LaidRow) (is : x ≡ laid_row s t p) where
    abbrev here : x.entry ≡ (row_here s t 0 p).entry
    here = entry_here s t p c.ready x is

    pub count-last : x.last ≡ true → n + 1 ≡ length (entries_of s t)
    count-last h = omega (arith, c.left, ap length (last_entry s t 0 p c.ready x is x.entry here h))

    pub count-more : (q : Stand) → StandsAt t x.next (p.before.0 + x.chars.0) x.rest q → x.last ≡ false → Counted s t (n + 1) q
    count-more q on h =
        record {
          ready = ready-next s t p c.ready x is q on;
          left = omega (arith, c.left, ap length (more_entries s t 0 p c.ready x is x.entry here q on h));
        }

-- ---- writing

-- n lines are written to the table t₀, which is u now: what is still to be written to u makes what was to be written to t₀.
pub record Wrote (s : Settings) (t t₀ u : List ℕ) (n : ℕ) (p : Stand) : Type 0 where
  pub counted : Counted s t n p
  pub same : length u ≡ length t₀
  pub left : lines_put u n (entries_from s t 0 p) ≡ written t₀ (of_all of_entry (entries_of s t))

pub write_start : (s : Settings) (t t₀ : List ℕ) (p : Stand) → TextReady s t → StandsAt t text_front 0 nothing_resumed p → Wrote s t t₀ t₀ 0 p
write_start s t t₀ p h f =
    record { counted = count-start s t p h f; same = refl; left = rw (all_entries s t p f) (all-put t₀ (entries_of s t)) }

module _ (s : Settings) (t t₀ u : List ℕ) (n : ℕ) (p : Stand) (w : Wrote s t t₀ u n p) (room : entry_numbers * length (entries_of s t) ≤ length t₀) where
  -- There is a next line, so the table has room for it.
  pub room-left : entry_numbers * n + entry_numbers ≤ length u
  room-left = omega (arith, w.same, one_left s t n p w.counted)

  -- It is laid, and written too.
  module _ (x : LaidRow) (is : x ≡ laid_row s t p) (v : List ℕ) (put : v ≡ put_numbers u (entry_numbers * n) (of_entry x.entry)) (kept : length v ≡ length u) where
    one-put : (es : List Entry) → entries_from s t 0 p ≡ x.entry ∷ es → lines_put v (n + 1) es ≡ written t₀ (of_all of_entry (entries_of s t))
    one-put es f =
        ap (λ (y : List ℕ). lines_put y (n + 1) es) put
        ∙ sym (first-put u n x.entry es (omega (arith, room-left)))
        ∙ ap (lines_put u n) (sym f)
        ∙ w.left

    abbrev c : Counted s t n p
    c = w.counted

    pub write_last : x.last ≡ true → v ≡ written t₀ (of_all of_entry (entries_of s t))
    write_last h = sym (none-put v (n + 1)) ∙ one-put [] (last_entry s t 0 p c.ready x is x.entry (here s t n p c x is) h)

    pub write_next : (q : Stand) → StandsAt t x.next (p.before.0 + x.chars.0) x.rest q → x.last ≡ false → Wrote s t t₀ v (n + 1) q
    write_next q on h =
        record {
          counted = count-more s t n p c x is q on h;
          same = kept ∙ w.same;
          left = one-put (entries_from s t 0 q) (more_entries s t 0 p c.ready x is x.entry (here s t n p c x is) q on h);
        }
