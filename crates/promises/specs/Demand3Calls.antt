-- Demand 3, of the calls: laying again after an edit leaves exactly the table that a fresh layout of the whole new text writes.
-- The call is lent no text before the first affected line, writes no entry before it, and reports how many lines it laid.
-- Assumes nothing.
use Rattle.std.specs.Prelude.{ℕ, ◌*◌, ◌≤◌, ◌≡◌, List, [], ◌∷◌, ◌++◌, map, length, take, drop, Ok}
use Rattle.std.proofs.Common.{arith, ap, ◌∙◌, subst, length-append, take_at}
use Rattle.std.proofs.Math.Path.{sym}
use Rattle.std.proofs.lemmas.List.{length-map}
use Rattle.std.proofs.Math.Seq.{drop-append_seam}
use Rattle.utf8.specs.Scalar.{Scalars}
use Rattle.utf8.specs.Encoding.{size, encode_all}
use Rattle.utf8.specs.Decoding.{decode_all}
use Rattle.utf8.specs.Sizes.{size_is, size_append}
use Rattle.utf8.specs.Walk.{decode_all-encode}
use Rattle.meaning.specs.Checks.{first_of, check_settings, check_length, check_utf8, check_room}
use Rattle.meaning.specs.Layout.{layout, entry_of_row}
use Rattle.meaning.specs.Table.{entry_numbers, of_entry, of_all, capacity_of, written, entries_in}
use Rattle.meaning.specs.WellFormed.{check_table}
use Rattle.meaning.specs.Edit.{unaffected, affected, check_whole, check_rest, check_order, check_edit, again, lines_again}
use Rattle.meaning.specs.Calls.{layout_answer, layout_table, check_affected, affected_answer, lines_laid, lines_after, check_relay, relay_answer, relay_table}
use Rattle.meaning.specs.declared.settings.Settings.{Settings}
use Rattle.meaning.specs.declared.edit.Edit.{Edit}
use Rattle.meaning.specs.declared.line.Entry.{Entry}
use Rattle.again.specs.Meeting.{Replaces}
use Rattle.laws.specs.Affected.{affected_split, unaffected-old}
use Rattle.laws.specs.TableLaws.{entries_numbers, entries_length, entries_first, written-past, prefix-kept}
use Rattle.promises.specs.LaidAgain.{start_of, Lent, lent-bytes, part_from, can_lend, relaid_is}
use Rattle.laws.specs.GoodChecks.{length-good, utf8-good, room-good, table-good}
use Rattle.promises.specs.EditChecks.{whole-good, order-good, rest-good, edit-good}
use Rattle.promises.specs.LayoutCalls.{layout_call, layout-table}

-- An edit of a text, and what is lent for it: a table that holds the layout of the old text, and a part of the new text.
-- Old and new text are lists of characters here; their bytes are `encode_all old` and `encode_all new`.
pub record EditOf (s : Settings) (ed : Edit) (old new table : List ℕ) (lines : ℕ) (part : List ℕ) : Type 0 where
  -- The edit replaces the characters `mid` of the old text, between `pre` and `post`, by `ins`.
  pub pre : List ℕ
  pub mid : List ℕ
  pub ins : List ℕ
  pub post : List ℕ
  pub old-is : old ≡ pre ++ (mid ++ post)
  pub new_is : new ≡ pre ++ (ins ++ post)
  pub replaces : Replaces ed pre mid ins
  -- Both texts consist of Unicode scalar values and have at most 65,535 bytes.
  pub old-text : Scalars old
  pub new-text : Scalars new
  pub old-size : size old ≤ 65535
  pub new-size : size new ≤ 65535
  -- The settings are good.
  pub settings : check_settings s ≡ Ok tt
  -- The first lines of the table are the layout of the old text, all of it.
  pub holds : entry_numbers * lines ≤ length table
  pub held : entries_in lines table ≡ layout s old
  -- The table has room for the layout of the new text, eleven numbers a line.
  pub room : entry_numbers * length (layout s new) ≤ length table
  -- The part is the bytes of the new text from the first affected line's start on.
  pub lent : part ≡ drop (start_of (affected ed.from.0 (layout s old))) (encode_all new)

-- What the calls then answer and write. Lines are numbered from 0, so that the first affected one has the number of those before
-- it, which are `unaffected`.
pub record Demand3 (s : Settings) (ed : Edit) (old new table : List ℕ) (lines : ℕ) (part : List ℕ) : Type 0 where
  -- Asked for the first affected line, the library answers its number.
  pub affected_call : affected_answer table lines ed ≡ Ok (length (unaffected ed.from.0 (layout s old)))
  -- Laying again is not refused, and answers how many lines the new text has and how many were laid.
  pub relay_call : relay_answer s part table lines ed
      ≡ Ok (record { lines = length (layout s new); laid = length (lines_laid s part table lines ed) })
  -- The lines laid are lines of the new text, from the first affected one on.
  pub relay_laid : map entry_of_row (lines_laid s part table lines ed)
      ≡ take (length (lines_laid s part table lines ed)) (drop (length (unaffected ed.from.0 (layout s old))) (layout s new))
  -- The table then holds the layout of the new text, and past it what it held.
  pub relay_table_lem : relay_table s part table lines ed ≡ written table (of_all of_entry (layout s new))
  -- A fresh layout of the whole new text answers as many lines and leaves exactly that table.
  pub fresh_call : layout_answer s (encode_all new) table ≡ Ok (length (layout s new))
  pub fresh_table : relay_table s part table lines ed ≡ layout_table s (encode_all new) table
  -- The entries before the first affected line are as they were.
  pub before_untouched : take (entry_numbers * length (unaffected ed.from.0 (layout s old))) (relay_table s part table lines ed)
      ≡ take (entry_numbers * length (unaffected ed.from.0 (layout s old))) table
  -- So is everything past the last line.
  pub past_untouched : drop (entry_numbers * length (layout s new)) (relay_table s part table lines ed) ≡ drop (entry_numbers * length (layout s new)) table

-- ---- why

scalars-behind : (x y : List ℕ) → Scalars (x ++ y) → Scalars y
scalars-behind [] y al = al
scalars-behind (c ∷ x) y al = scalars-behind x y al.1

module _ {s : Settings} {ed : Edit} {old new table : List ℕ} {lines : ℕ} {part : List ℕ} (k : EditOf s ed old new table lines part) where
  -- ---- the first affected line

  table_is_lem : check_table lines table ≡ Ok tt
  table_is_lem = table-good s old lines table k.old-size k.holds k.held

  whole_is : check_whole (Ok tt) (layout s old) ed ≡ Ok tt
  whole_is = rw k.old-is (whole-good s ed k.pre k.mid k.ins k.post k.replaces (rw k.new_is at k.new-size))

  order_is : check_order (layout s old) ed ≡ Ok tt
  order_is = rw k.old-is (order-good s ed k.pre k.mid k.ins k.post k.replaces)

  affected-good : check_affected table lines ed ≡ Ok tt
  unfolding check_affected first_of
  affected-good = rw (table_is_lem, k.held, whole_is, order_is)

  -- ---- the characters of the lent part

  abbrev chars : List ℕ
  chars = part_from (start_of (affected ed.from.0 (layout s old))) new

  lends : Lent ed (layout s old) new chars
  lends = rw (k.old-is, k.new_is) (can_lend s ed k.pre k.mid k.ins k.post k.replaces)

  part-is : part ≡ encode_all chars
  part-is = k.lent ∙ lent-bytes ed (layout s old) new chars lends

  chars-text : Scalars chars
  chars-text = scalars-behind lends.front chars (subst Scalars lends.is k.new-text)

  decoded : decode_all part ≡ chars
  decoded = ap decode_all part-is ∙ decode_all-encode chars chars-text

  part_length : length part ≡ size chars
  part_length = ap length part-is ∙ sym (size_is chars)

  -- ---- laying again

  short-is : check_length (length part) ≡ Ok tt
  short-is = length-good (length part) (omega (arith, part_length, ap size lends.is, size_append lends.front chars, k.new-size))

  utf8-is : check_utf8 part ≡ Ok tt
  utf8-is = rw part-is (utf8-good chars chars-text)

  rest-is : (n : ℕ) → check_rest n (affected ed.from.0 (layout s old)) chars ≡ Ok tt
  rest-is =
      rw (k.old-is, k.new_is)
      (rest-good s ed k.pre k.mid k.ins k.post k.replaces _
      (can_lend s ed k.pre k.mid k.ins k.post k.replaces))

  edit-is : (n : ℕ) → n ≡ size chars → check_edit (layout s old) ed (affected ed.from.0 (layout s old)) n chars ≡ Ok tt
  edit-is =
      rw (k.old-is, k.new_is)
      (edit-good s ed k.pre k.mid k.ins k.post k.replaces _
      (can_lend s ed k.pre k.mid k.ins k.post k.replaces))

  laid-is : lines_laid s part table lines ed ≡ (again s ed (layout s old) (affected ed.from.0 (layout s old)) chars).laid
  unfolding lines_laid
  laid-is = λ i. (again s ed (k.held i) (affected ed.from.0 (k.held i)) (decoded i)).laid

  lines-again : lines_again s ed (layout s old) chars ≡ layout s new
  lines-again =
      rw (k.old-is, k.new_is)
      (relaid_is s ed k.pre k.mid k.ins k.post k.replaces _
      (can_lend s ed k.pre k.mid k.ins k.post k.replaces))

  lines_after_lem : lines_after s part table lines ed ≡ layout s new
  unfolding lines_after
  lines_after_lem = rw (k.held, decoded) lines-again

  room-is : check_room (capacity_of entry_numbers table) (length (lines_after s part table lines ed)) ≡ Ok tt
  room-is = rw lines_after_lem (room-good (length (layout s new)) table (omega arith))

  relay_good : check_relay s part table lines ed ≡ Ok tt
  unfolding check_relay first_of
  relay_good =
      rw (k.settings, short-is, table_is_lem, room-is, utf8-is, k.held, whole_is, decoded, rest-is, edit-is _ part_length)

  table-after : relay_table s part table lines ed ≡ written table (of_all of_entry (layout s new))
  unfolding relay_table
  table-after = rw (relay_good, lines_after_lem)

  -- ---- what was laid and what was kept

  abbrev kept : List Entry
  kept = (again s ed (layout s old) (affected ed.from.0 (layout s old)) chars).kept

  new-lines : layout s new ≡ unaffected ed.from.0 (layout s old) ++ (map entry_of_row (lines_laid s part table lines ed) ++ kept)
  unfolding lines_again
  new-lines = sym lines-again ∙ rw laid-is

  few-before : length (unaffected ed.from.0 (layout s old)) ≤ lines
  few-before =
      let u = unaffected ed.from.0 (layout s old) in
      let v = affected ed.from.0 (layout s old) in
      omega
      (arith, ap length (affected_split ed.from.0 (layout s old)), length-append u v, ap length k.held, entries_length lines table)

  before-held : entries_in (length (unaffected ed.from.0 (layout s old))) table ≡ unaffected ed.from.0 (layout s old)
  before-held =
      let n = length (unaffected ed.from.0 (layout s old)) in
      sym (entries_first n lines table few-before) ∙ rw k.held (unaffected-old ed.from.0 (layout s old))

  -- ---- all of it

  pub demand_3_holds : Demand3 s ed old new table lines part
  unfolding affected_answer relay_answer
  demand_3_holds =
      let u = unaffected ed.from.0 (layout s old) in
      let l = lines_laid s part table lines ed in
      record {
        affected_call = rw (affected-good, k.held);
        relay_call = rw (relay_good, lines_after_lem);
        relay_laid =
            rw (new-lines, drop-append_seam u (map entry_of_row l ++ kept))
            (sym (take_at (map entry_of_row l) kept (length l) (length-map l entry_of_row)));
        relay_table_lem = table-after;
        fresh_call = layout_call s new k.new-text k.settings k.new-size table k.room;
        fresh_table = table-after ∙ sym (layout-table s new k.new-text k.settings k.new-size table k.room);
        before_untouched =
            rw (table-after, new-lines)
            (prefix-kept u (map entry_of_row l ++ kept) table before-held (omega (arith, few-before, k.holds)));
        past_untouched = rw (table-after, ← entries_numbers (layout s new)) (written-past table (of_all of_entry (layout s new)));
      }
