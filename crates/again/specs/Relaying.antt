-- Laying again as it runs: what was found, the table's room, the lines moved and the lines written.
-- Assumes nothing.
use Rattle.std.specs.Prelude.{ℕ, ◌+◌, ◌-◌, ◌*◌, ◌/◌, ◌≤◌, ◌<◌, ◌≡◌, take, drop, Err, Ok}
use Rattle.std.proofs.Common.{arith, sym, ◌∙◌, length-append}
use Rattle.std.proofs.Math.Path.{ap, subst}
use mathlib.Core.List.{List, ◌++◌, map}
use Rattle.std.proofs.Math.ListN.{length, length-map}
use Rattle.basis.specs.Order.{by_lt}
use Rattle.utf8.specs.Decoding.{decode_all}
use Rattle.meaning.specs.Layout.{entry_of_row}
use Rattle.meaning.specs.Table.{entry_numbers, of_entry, of_all, capacity_of, written, entry_in, entries_in}
use Rattle.meaning.specs.Edit.{unaffected, moved_entry, Again, lines_again}
use Rattle.meaning.specs.Calls.{lines_laid, lines_after}
use Rattle.meaning.specs.declared.settings.Settings.{Settings}
use Rattle.meaning.specs.declared.edit.Edit.{Edit}
use Rattle.meaning.specs.declared.line.Entry.{Entry}
use Rattle.meaning.specs.declared.refusals.Refusal.TheVariants.{TooSmall}
use Rattle.meaning.specs.declared.counts.Chars.{Chars}
use Rattle.laws.specs.Affected.{unaffected-old}
use Rattle.again.specs.Relaid.{count_of}
use Rattle.laws.specs.TableLaws.{entries_length, entries_first}
use Rattle.table.specs.LinesFrom.{lines_from, lines_more, lines_end}
use Rattle.look.specs.GoodTable.{table-room, table-count}
use Rattle.table.specs.declared.edited.Shift.{Shift}
use Rattle.table.specs.Moving.{moved_by, lines_moved, AllMovable, Movable}
use Rattle.look.specs.MovableLines.{table-movable}
use Rattle.stands.specs.Stands.{StandsAt, text_front}
use Rattle.rows.specs.RowsFrom.{entries_from}
use Rattle.rows.specs.Writing.{lines_put}
use Rattle.stands.specs.declared.stand.Stand.{Stand}
use Rattle.again.specs.HeldRest.{resumed_of}
use Rattle.edits.specs.OldLines.{lines-drop}
use Rattle.again.specs.AgainFrom.{again_from, few-laid, laid-first, laid-within}
use Rattle.again.specs.Seeking.{found_in}
use Rattle.again.specs.KeptLines.{StartsBehind, kept-few, kept-are, kept-behind}
use Rattle.again.specs.Writing.{WriteReady}
use Rattle.again.specs.Written.{put_written, put_both}
use Rattle.edits.specs.Checking.{check_before, few-before}
use Rattle.again.specs.GoodRelay.{AllGood, all-good, short-part, order, few-inserted, start-low, front-ready, again-is}
use Rattle.again.specs.Answering.{Answers, too_small, laid-again}
use Rattle.again.specs.declared.stop.Found.{Found}

-- The tests are passed, the first affected line is line k, with the entry e and laid from the stand p, and laying on from there finds
-- so many lines.
pub record Sought (s : Settings) (part table : List ℕ) (lines : ℕ) (ed : Edit) (k : ℕ) (e : Entry) (p : Stand) (found : Found) : Type 0 where
  pub good : check_before s part table lines ed ≡ Ok tt
  pub first : k ≡ length (unaffected ed.from.0 (entries_in lines table))
  pub entry : e ≡ entry_in (drop (entry_numbers * k) table)
  pub stand : StandsAt part text_front e.before.0 (resumed_of e (decode_all part)) p
  pub finds : found ≡ found_in lines (again_from s part ed (entries_in lines table) e.start.0 p)
  pub few : found.before.0 ≤ 131071

module _ (s : Settings) (part table : List ℕ) (lines : ℕ) (ed : Edit) (k : ℕ) (e : Entry) (p : Stand) (found : Found)
    (q : Sought s part table lines ed k e p found)
  where
    abbrev old : List Entry
    old = entries_in lines table

    abbrev a : Again
    a = again_from s part ed old e.start.0 p

    g : AllGood s part table lines ed
    g = all-good s part table lines ed q.good

    -- ---- how many lines there are

    laid-is : found.laid ≡ length a.laid
    unfolding found_in
    laid-is = ap (λ (f : Found). f.laid) q.finds

    kept-is : found.kept ≡ lines - length a.kept
    unfolding found_in
    kept-is = ap (λ (f : Found). f.kept) q.finds

    count-is : found.before.0 ≡ count_of a.kept
    unfolding found_in
    count-is = ap (λ (f : Found). f.before.0) q.finds

    kept-left : length a.kept ≡ lines - found.kept
    kept-left = omega (arith, kept-is, kept-few s part ed old e.start.0 p, entries_length lines table)

    pub kept-within : found.kept ≤ lines
    kept-within = omega (arith, kept-is)

    -- No count of lines wraps.
    pub counts-low : (k ≤ 65536) × (found.laid ≤ 65536) × (lines ≤ 65536)
    counts-low =
        let n = table-count lines table g.table_is_lem in (
          omega (arith, few-before table lines ed k q.first),
          omega (arith, laid-is, few-laid s part ed old e.start.0 p, short-part s part table lines ed g k q.first),
          n,
        )

    rows_are : lines_laid s part table lines ed ≡ a.laid
    unfolding lines_laid
    rows_are = ap (λ (x : Again). x.laid) (again-is s part table lines ed g k q.first e q.entry p q.stand)

    after_is : lines_after s part table lines ed ≡ unaffected ed.from.0 old ++ (map entry_of_row a.laid ++ a.kept)
    unfolding lines_after lines_again
    after_is =
        ap (λ (x : Again). unaffected ed.from.0 old ++ (map entry_of_row x.laid ++ x.kept))
        (again-is s part table lines ed g k q.first e q.entry p q.stand)

    needed_is : k + found.laid + (lines - found.kept) ≡ length (lines_after s part table lines ed)
    needed_is =
        let u = unaffected ed.from.0 old in
        let es = map entry_of_row a.laid in
        omega (
          arith,
          ap length after_is,
          length-append u (es ++ a.kept),
          length-append es a.kept,
          length-map a.laid entry_of_row,
          laid-is,
          kept-left,
        )

    -- ---- refusal 8

    pub no_room : length table / entry_numbers < k + found.laid + (lines - found.kept)
        → Answers s part table lines ed (Err (TooSmall (k + found.laid + (lines - found.kept)))) table
    unfolding capacity_of
    no_room h = too_small s part table lines ed q.good (k + found.laid + (lines - found.kept)) needed_is h

    module _ (room : k + found.laid + (lines - found.kept) ≤ length table / entry_numbers) where
      -- ---- the lines kept

      abbrev left : List Entry
      left = lines_from table lines found.kept

      left_is : left ≡ drop (lines - length a.kept) old
      left_is = lines-drop found.kept lines table ∙ ap (λ (n : ℕ). drop n old) kept-is

      left_behind : StartsBehind ed left
      left_behind =
          let n = entries_length lines table in
          subst (StartsBehind ed) (sym left_is)
          (subst (λ (m : ℕ). StartsBehind ed (drop (m - length a.kept) old)) n (kept-behind s part ed old e.start.0 p))

      -- They are moved from the count before the first of them.
      module _ (from : Chars) (from_is : from.0 ≡ count_of left) where
        abbrev shift : Shift
        shift = record { edit = ed; from = from; to = found.before }

        kept-lines : map (moved_by shift) left ≡ a.kept
        kept-lines =
            let n = entries_length lines table in
            let by : List Entry → List Entry = λ es. map (moved_entry ed (count_of es) (count_of a.kept)) es in
            (λ i. map (moved_entry ed (from_is i) (count-is i)) left)
            ∙ ap by left_is
            ∙ sym (subst (λ (m : ℕ). a.kept ≡ by (drop (m - length a.kept) old)) n (kept-are s part ed old e.start.0 p))

        all-movable : AllMovable shift left
        unfolding lines_from
        all-movable =
            by_lt found.kept lines
            (λ h.
            let here = lines_more table lines found.kept h in
            table-movable table lines found.kept shift g.table_is_lem h (subst (StartsBehind ed) here left_behind)
            (omega (arith, from_is ∙ ap count_of here)))
            (λ h. subst (AllMovable shift) (sym (lines_end table lines found.kept h)) tt)

        pub movable : Movable table found.kept (k + found.laid) (lines - found.kept) shift
        unfolding lines_from
        movable =
            record {
              from-room = omega (arith, kept-within, table-room lines table g.table_is_lem);
              to_room = omega arith;
              shift =
                  record {
                    edit =
                        record {
                          order = (order s part table lines ed g k q.first e q.entry).0;
                          few = few-inserted s part table lines ed g k q.first e q.entry;
                        };
                    counted = q.few;
                  };
              each = all-movable;
            }

        -- ---- the lines laid

        module _ (u : List ℕ) (u-is : u ≡ lines_moved table found.kept (k + found.laid) (lines - found.kept) shift) (same : length u ≡ length table) where
          pub write_ready : WriteReady s part u e.start.0 k found.laid p
          write_ready =
              record {
                stand = front-ready s part table lines ed g k q.first e q.entry p q.stand;
                low = start-low s part table lines ed g k q.first e q.entry;
                enough = omega (arith, laid-is, laid-within s part ed old e.start.0 p);
                room = omega arith;
              }

          module _ (v : List ℕ) (v-is : v ≡ lines_put u k (take found.laid (entries_from s part e.start.0 p))) where
            laid-lines : take found.laid (entries_from s part e.start.0 p) ≡ map entry_of_row a.laid
            laid-lines =
                ap (λ (n : ℕ). take n (entries_from s part e.start.0 p)) laid-is ∙ sym (laid-first s part ed old e.start.0 p)

            first-lines : entries_in k table ≡ unaffected ed.from.0 old
            first-lines =
                sym (entries_first k lines table (few-before table lines ed k q.first))
                ∙ ap (λ (n : ℕ). take n old) q.first
                ∙ unaffected-old ed.from.0 old

            table_is_lem : v ≡ written table (of_all of_entry (lines_after s part table lines ed))
            unfolding lines_from
            table_is_lem =
                let es = map entry_of_row a.laid in
                let moved : u ≡ lines_put table (k + found.laid) a.kept = u-is ∙ ap (lines_put table (k + found.laid)) kept-lines in
                v-is
                ∙ (λ i. lines_put (moved i) k (laid-lines i))
                ∙ put_both table k (k + found.laid) es a.kept (omega (arith, laid-is, length-map a.laid entry_of_row)) (omega arith)
                ∙ put_written table k (unaffected ed.from.0 old) first-lines (omega arith) (es ++ a.kept)
                ∙ ap (λ (x : List Entry). written table (of_all of_entry x)) (sym after_is)

            pub relaid_whole : Answers s part table lines ed (Ok (record { lines = k + found.laid + (lines - found.kept); laid = found.laid })) v
            unfolding capacity_of
            relaid_whole =
                let b =
                laid-again s part table lines ed q.good (k + found.laid + (lines - found.kept)) needed_is found.laid
                (laid-is ∙ ap length (sym rows_are)) room in
                (b.0, table_is_lem ∙ b.1)
