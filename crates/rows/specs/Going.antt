-- Lines written one after the other from a stand on: what is still to be written stays the same.
-- Assumes nothing.
use Rattle.std.specs.Prelude.{ℕ, ◌+◌, ◌*◌, ◌≤◌, ◌≡◌, refl, true, false, List, [], ◌∷◌, length, Option, Some, None}
use Rattle.std.proofs.Common.{arith, sym, ap, subst, ◌∙◌}
use Rattle.std.proofs.lemmas.Option.{none-some, same_Some}
use Rattle.meaning.specs.Checks.{text_limit}
use Rattle.meaning.specs.Table.{entry_numbers, of_entry, of_all, written}
use Rattle.meaning.specs.declared.settings.Settings.{Settings}
use Rattle.table.specs.Numbers.{put_numbers}
use Rattle.rows.specs.Standing.{StandReady, laid_row, ready-next, further}
use Rattle.stands.specs.Stands.{StandsAt}
use Rattle.rows.specs.RowsFrom.{entries_of, entries_from, entry_here, some_entries, few_entries, last_entry, more_entries}
use Rattle.rows.specs.Writing.{lines_put, none-put, first-put}
use Rattle.rows.specs.Turns.{Wrote}
use Rattle.stands.specs.declared.stand.Stand.{Stand}
use Rattle.stands.specs.declared.row.LaidRow.{LaidRow}

-- From the stand p, with n lines before it in the table u, to the stand q, with m lines in the table v.
pub record Went (s : Settings) (t u : List ℕ) (n : ℕ) (p : Stand) (v : List ℕ) (m : ℕ) (q : Stand) : Type 0 where
  pub ready : StandReady s t q
  pub count : m + length (entries_from s t 0 q) ≡ n + length (entries_from s t 0 p)
  pub same : length v ≡ length u
  pub left : lines_put v m (entries_from s t 0 q) ≡ lines_put u n (entries_from s t 0 p)
  pub forward : p.at.0 ≤ q.at.0

-- All lines from the stand p on are written, behind n others in the table u: it is v now, and has m lines.
pub record AllWritten (s : Settings) (t u : List ℕ) (n : ℕ) (p : Stand) (v : List ℕ) (m : ℕ) : Type 0 where
  pub count : m ≡ n + length (entries_from s t 0 p)
  pub put : v ≡ lines_put u n (entries_from s t 0 p)

-- The one, or the other.
pub record Reaches (s : Settings) (t u : List ℕ) (n : ℕ) (p : Stand) (v : List ℕ) (m : ℕ) (q : Option Stand) : Type 0 where
  pub same : length v ≡ length u
  pub on : (next : Stand) → q ≡ Some next → Went s t u n p v m next
  pub all : q ≡ None → AllWritten s t u n p v m

-- There is room in a table for all lines from a stand on, behind n others, and no count of them wraps.
abbrev pub RoomFrom : Settings → List ℕ → List ℕ → (n : ℕ) → Stand → Type 0
RoomFrom s t u n p =
    let all = n + length (entries_from s t 0 p) in
    (entry_numbers * all ≤ length u) × (all ≤ text_limit + 1)

module _ (s : Settings) (t u : List ℕ) (n : ℕ) (p : Stand) where
  pub went_nowhere : StandReady s t p → Went s t u n p u n p
  went_nowhere c = record { ready = c; count = refl; same = refl; left = refl; forward = omega arith }

  module _ (v : List ℕ) (m : ℕ) (q : Stand) (g : Went s t u n p v m q) where
    pub went-room : RoomFrom s t u n p → entry_numbers * m + entry_numbers ≤ length v
    went-room room = omega (arith, g.count, g.same, room.0, some_entries s t 0 q)

    -- There is room for those that are left, too.
    pub room-on : RoomFrom s t u n p → RoomFrom s t v m q
    room-on room = (omega (arith, g.count, g.same, room.0), omega (arith, g.count, room.1))

    -- From there on to another stand.
    pub went_then : (w : List ℕ) (k : ℕ) (next : Stand) → Went s t v m q w k next → Went s t u n p w k next
    went_then w k next h =
        record {
          ready = h.ready;
          count = h.count ∙ g.count;
          same = h.same ∙ g.same;
          left = h.left ∙ g.left;
          forward = omega (arith, g.forward, h.forward);
        }

    pub reaches_on : Reaches s t u n p v m (Some q)
    reaches_on = record { same = g.same; on = λ next e. subst (Went s t u n p v m) (same_Some q next e) g; all = λ e. absurd (none-some q (sym e)) }

    pub reaches_then : (w : List ℕ) (k : ℕ) {next : Option Stand} → Reaches s t v m q w k next → Reaches s t u n p w k next
    reaches_then w k h =
        record {
          same = h.same ∙ g.same;
          on = λ next e. went_then w k next (h.on next e);
          all = λ e. (let a = h.all e in record { count = a.count ∙ g.count; put = a.put ∙ g.left });
        }

    pub went-few : RoomFrom s t u n p → m ≤ text_limit
    went-few room = omega (arith, g.count, room.1, some_entries s t 0 q)

    -- One line more.
    module _ (room : RoomFrom s t u n p) (x : LaidRow) (is : x ≡ laid_row s t q) (w : List ℕ)
        (put : w ≡ put_numbers v (entry_numbers * m) (of_entry x.entry)) (kept : length w ≡ length v) (next : Stand)
        (on : StandsAt t x.next (q.before.0 + x.chars.0) x.rest next) (goes : x.last ≡ false)
      where
        one-off : entries_from s t 0 q ≡ x.entry ∷ entries_from s t 0 next
        one-off = more_entries s t 0 q g.ready x is x.entry (entry_here s t q g.ready x is) next on goes

        pub went_line : Went s t u n p w (m + 1) next
        went_line =
            record {
              ready = ready-next s t q g.ready x is next on;
              count = omega (arith, g.count, ap length one-off);
              same = kept ∙ g.same;
              left =
                  ap (λ (y : List ℕ). lines_put y (m + 1) (entries_from s t 0 next)) put
                  ∙ sym (first-put v m x.entry (entries_from s t 0 next) (omega (arith, went-room room)))
                  ∙ ap (lines_put v m) (sym one-off)
                  ∙ g.left;
              forward = omega (arith, g.forward, further s t q g.ready x is next on goes);
            }

    -- The last line.
    module _ (room : RoomFrom s t u n p) (x : LaidRow) (is : x ≡ laid_row s t q) (w : List ℕ)
        (put : w ≡ put_numbers v (entry_numbers * m) (of_entry x.entry)) (kept : length w ≡ length v) (ends : x.last ≡ true)
      where
        only : entries_from s t 0 q ≡ x.entry ∷ []
        only = last_entry s t 0 q g.ready x is x.entry (entry_here s t q g.ready x is) ends

        pub went-last : AllWritten s t u n p w (m + 1)
        went-last =
            record {
              count = omega (arith, g.count, ap length only);
              put =
                  put
                  ∙ sym (none-put (put_numbers v (entry_numbers * m) (of_entry x.entry)) (m + 1))
                  ∙ sym (first-put v m x.entry [] (omega (arith, went-room room)))
                  ∙ ap (lines_put v m) (sym only)
                  ∙ g.left;
            }

pub reaches_all : (s : Settings) (t u : List ℕ) (n : ℕ) (p : Stand) (v : List ℕ) (m : ℕ) → length v ≡ length u → AllWritten s t u n p v m
    → Reaches s t u n p v m None
reaches_all s t u n p v m same a = record { same = same; on = λ next e. absurd (none-some next e); all = λ _. a }

-- What the loop over all lines keeps is kept so.
pub wrote_on : (s : Settings) (t t₀ u : List ℕ) (n : ℕ) (p : Stand) (v : List ℕ) (m : ℕ) (q : Stand) → Wrote s t t₀ u n p → Went s t u n p v m q → Wrote s t t₀ v m q
wrote_on s t t₀ u n p v m q w g =
    record {
      counted = record { ready = g.ready; left = g.count ∙ w.counted.left };
      same = g.same ∙ w.same;
      left = g.left ∙ w.left;
    }

pub wrote_room : (s : Settings) (t t₀ u : List ℕ) (n : ℕ) (p : Stand) → Wrote s t t₀ u n p → entry_numbers * length (entries_of s t) ≤ length t₀ → RoomFrom s t u n p
wrote_room s t t₀ u n p w room =
    let c = w.counted in
    (omega (arith, c.left, w.same, room), omega (arith, c.left, few_entries s t, c.ready.line.short))

-- And where all lines are written it is done.
pub wrote_all : (s : Settings) (t t₀ u : List ℕ) (n : ℕ) (p : Stand) (v : List ℕ) (m : ℕ) → Wrote s t t₀ u n p → AllWritten s t u n p v m
    → (m ≡ length (entries_of s t)) × (v ≡ written t₀ (of_all of_entry (entries_of s t)))
wrote_all s t t₀ u n p v m w a = (a.count ∙ w.counted.left, a.put ∙ w.left)

-- What is kept of one table, count and stand is kept of the same.
pub wrote_same : (s : Settings) (t t₀ u v : List ℕ) (n m : ℕ) (p q : Stand) → u ≡ v → n ≡ m → p ≡ q → Wrote s t t₀ v m q → Wrote s t t₀ u n p
wrote_same s t t₀ u v n m p q table lines stand w = rw (table, lines, stand) w
