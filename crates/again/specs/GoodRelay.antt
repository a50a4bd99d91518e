-- What refusals 1 to 6 say where none of them is given: the first affected line and its rest, and that nothing wraps.
-- Assumes nothing.
use Rattle.std.specs.Prelude.{ℕ, ◌+◌, ◌-◌, ◌*◌, ◌≤◌, ◌<◌, ◌≡◌, refl, true, ◌&&◌, List, [], ◌∷◌, leb, ltb, length, drop, Err, Ok}
use Rattle.meaning.specs.Refusals.{Checked}
use Rattle.std.proofs.Common.{arith, sym, subst, ◌∙◌}
use Rattle.std.proofs.Math.Path.{ap}
use borrow.Author.Tests.{leb-true, ltb-false}
use Rattle.std.proofs.Math.Dec.{eqb}
use Rattle.basis.specs.Choice.{pick, by_test, and_true}
use Rattle.basis.specs.Order.{by_le}
use Rattle.utf8.specs.Decoding.{decode_all}
use Rattle.utf8.specs.Places.{boundary}
use Rattle.meaning.specs.Checks.{text_limit, first_of, check_settings, check_length, check_utf8}
use Rattle.meaning.specs.Table.{entry_numbers, entry_in, entries_in}
use Rattle.meaning.specs.WellFormed.{text_length, nothing, line, check_table}
use Rattle.meaning.specs.Edit.{kept_from, unaffected, affected, in_order, new_length, check_whole, rest_fits, part_fits, again}
use Rattle.meaning.specs.declared.settings.Settings.{Settings}
use Rattle.meaning.specs.declared.counts.Offset.{Offset}
use Rattle.meaning.specs.declared.edit.Edit.{Edit}
use Rattle.meaning.specs.declared.line.Entry.{Entry}
use Rattle.meaning.specs.declared.refusals.Refusal.{Refusal}
use Rattle.meaning.specs.declared.refusals.Refusal.TheVariants.{TextTooLong}
use Rattle.laws.specs.GoodChecks.{refuse_good}
use Rattle.parser.specs.Lexing.{chars_from}
use Rattle.table.specs.LinesFrom.{lines_from, lines_more}
use Rattle.look.specs.GoodTable.{table-room, table-text, table-lines}
use Rattle.table.specs.Moving.{AllMovable}
use Rattle.look.specs.MovableLines.{table-movable, table-few}
use Rattle.rows.specs.Standing.{StandReady, stand-ready}
use Rattle.stands.specs.Stands.{StandsAt, text_front}
use Rattle.rows.specs.GoodInput.{fine_settings}
use Rattle.stands.specs.declared.stand.Stand.{Stand}
use Rattle.again.specs.Behind.{behind}
use Rattle.again.specs.HeldRest.{resumed_of, resumed-held, resumed-fits}
use Rattle.edits.specs.OldLines.{rises, affected-drop, kept-affected}
use Rattle.again.specs.AgainFrom.{again_from, again-front}
use Rattle.again.specs.Seeking.{PassedBy, FindReady}
use Rattle.edits.specs.Checking.{check_first, check_lent, check_before, few-before, first-affected, no_line, bad_rest, bad_edit}

-- ---- each test by itself

pub goods : (c : Checked) (cs : List Checked) → first_of (c ∷ cs) ≡ Ok tt → (c ≡ Ok tt) × (first_of cs ≡ Ok tt)
unfolding first_of
goods (Ok tt) cs e = (refl, e)
goods (Err r) cs e = let z : ◌≡◌ {A = ℕ} 0 1 = cc in absurd (omega arith)

-- None refuses.
pub record AllGood (s : Settings) (part table : List ℕ) (lines : ℕ) (ed : Edit) : Type 0 where
  pub settings : check_settings s ≡ Ok tt
  pub short : check_length (length part) ≡ Ok tt
  pub whole : check_whole (check_table lines table) (entries_in lines table) ed ≡ Ok tt
  pub utf8 : check_utf8 part ≡ Ok tt
  pub table_is_lem : check_table lines table ≡ Ok tt
  pub first : check_first part table lines ed ≡ Ok tt

pub all-good : (s : Settings) (part table : List ℕ) (lines : ℕ) (ed : Edit) → check_before s part table lines ed ≡ Ok tt
    → AllGood s part table lines ed
unfolding check_before check_lent
all-good s part table lines ed h =
    let t = check_table lines table in
    let w = check_whole t (entries_in lines table) ed in
    let f = check_first part table lines ed in
    let a = goods (check_settings s) (check_lent part table lines ed ∷ []) h in
    let b = goods (check_lent part table lines ed) [] a.1 in
    let c = goods (check_length (length part)) (w ∷ check_utf8 part ∷ t ∷ f ∷ []) b.0 in
    let d = goods w (check_utf8 part ∷ t ∷ f ∷ []) c.1 in
    let e = goods (check_utf8 part) (t ∷ f ∷ []) d.1 in
    let g = goods t (f ∷ []) e.1 in
    record { settings = a.0; short = c.0; whole = d.0; utf8 = e.0; table_is_lem = g.0; first = (goods f [] g.1).0 }

-- ---- the first affected line

module _ (s : Settings) (part table : List ℕ) (lines : ℕ) (ed : Edit) (g : AllGood s part table lines ed) (k : ℕ)
    (k-is : k ≡ length (unaffected ed.from.0 (entries_in lines table)))
  where
    abbrev old : List Entry
    old = entries_in lines table

    abbrev cs : List ℕ
    cs = decode_all part

    no_refusal : (r : Refusal) → Err r ≡ check_first part table lines ed → ⊥
    no_refusal r h = let z : ◌≡◌ {A = ℕ} 0 1 = cc g.first in omega arith

    -- There is one.
    pub is-affected : k < lines
    is-affected = by_le lines k (λ h. absurd (no_refusal _ (no_line table lines ed k k-is part h))) (λ h. h)

    pub short-part : length part ≤ text_limit
    unfolding check_length
    short-part = ltb-false text_limit (length part) (refuse_good (ltb text_limit (length part)) (TextTooLong (length part)) g.short)

    module _ (e : Entry) (e-is : e ≡ entry_in (drop (entry_numbers * k) table)) where
      pub rest-good : rest_fits e cs ≡ true
      rest-good =
          by_test (rest_fits e cs) (λ t. t) (λ f. absurd (no_refusal _ (bad_rest table lines ed k k-is part is-affected e e-is f)))

      edit-good : part_fits old ed e (length part) cs ≡ true
      edit-good =
          by_test (part_fits old ed e (length part) cs) (λ t. t)
          (λ f. absurd (no_refusal _ (bad_edit table lines ed k k-is part is-affected e e-is rest-good f)))

      -- The edit replaces bytes of the old text.
      in_order_lem : in_order old ed ≡ true
      unfolding part_fits
      in_order_lem =
          let o = in_order old ed in
          let l = eqb (length part) (new_length old ed - e.start.0) in
          let f = boundary cs (ed.from.0 - e.start.0) in
          (and_true o l (and_true (o && l) f (and_true (o && l && f) _ edit-good).0).0).0

      pub order : (ed.from.0 ≤ ed.to.0) × (ed.to.0 ≤ text_length old)
      unfolding in_order
      order =
          let b = and_true (leb ed.from.0 ed.to.0) (leb ed.to.0 (text_length old)) in_order_lem in
          (leb-true ed.from.0 ed.to.0 b.0, leb-true ed.to.0 (text_length old) b.1)

      -- The edited whole is short.
      whole-short : new_length old ed ≤ text_limit
      unfolding check_whole check_length pick
      whole-short =
          let c = rw (g.table_is_lem, in_order_lem) at g.whole in
          ltb-false text_limit (new_length old ed) (refuse_good (ltb text_limit (new_length old ed)) (TextTooLong (new_length old ed)) c)

      pub few-inserted : ed.inserted.0 ≤ 131071
      unfolding new_length
      few-inserted = omega (arith, whole-short, order, table-text lines table g.table_is_lem)

      -- It starts within the text.
      pub start-low : e.start.0 ≤ 65536
      unfolding lines_from
      start-low =
          let a = table-movable table lines k (behind 0) g.table_is_lem is-affected (omega arith) (omega arith) in
          rw e-is (subst (AllMovable (behind 0)) (lines_more table lines k is-affected) a).0.start.1

      -- And has no more characters before it.
      count_low : e.before.0 ≤ text_limit
      count_low = rw e-is (table-few table lines k g.table_is_lem is-affected)

      -- Old lines before it are passed.
      passed : PassedBy ed old e.start.0 k
      passed later rest h =
          let a = ed.from.0 in
          let some = first-affected table lines ed k k-is is-affected in
          kept-affected ed later rest a (text_length old) 0 nothing old order.0 (table-lines lines table g.table_is_lem)
          (λ none. omega (arith, ap length (sym some ∙ none)))
          ∙ ap (kept_from ed later rest) (affected-drop a old ∙ ap (λ (n : ℕ). drop n old) (sym k-is))

      -- Laying starts with it, at the part's front.
      module _ (p : Stand) (p-is : StandsAt part text_front e.before.0 (resumed_of e cs) p) where
        pub front-ready : StandReady s part p
        front-ready =
            stand-ready s part text_front e.before.0 (resumed_of e cs) p
            (record {
              settings = fine_settings s g.settings;
              short = short-part;
              inside = omega arith;
              rest = resumed-fits part e g.utf8 rest-good;
            })
            (omega (arith, count_low)) p-is

        pub find_ready : FindReady s part table lines k e.start.0 ed p
        find_ready =
            record {
              stand = front-ready;
              room = table-room lines table g.table_is_lem;
              low = start-low;
              first = few-before table lines ed k k-is;
              rising = rises (text_length old) 0 nothing old (table-lines lines table g.table_is_lem);
              passed = λ later rest h. passed later rest (omega (arith, ap (λ (o : Offset). o.0) p-is.at-is));
            }

        pub again-is : again s ed old (affected ed.from.0 old) cs ≡ again_from s part ed old e.start.0 p
        unfolding again chars_from
        again-is =
            rw (
              first-affected table lines ed k k-is is-affected ∙ ap (λ (x : Entry). x ∷ lines_from table lines (k + 1)) (sym e-is),
              ← resumed-held e cs,
            )
            (again-front s part ed old e.start.0 e.before.0 (resumed_of e cs) p p-is)
