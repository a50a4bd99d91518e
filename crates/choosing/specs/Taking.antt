-- A loop over lines that stops at a limit: the lines that it has passed, and where the first h lines of a text end.
-- Assumes nothing.
use Rattle.std.specs.Prelude.{ℕ, ◌+◌, ◌≤◌, ◌<◌, ◌≡◌, refl, Bool, true, false, not, is_some, List, [], ◌∷◌, map, drop, Ok, Option, Some, None}
use Rattle.std.proofs.Common.{zero-add, arith, sym, ◌∙◌, drop-drop}
use Rattle.std.proofs.Math.Path.{ap}
use Rattle.std.proofs.lemmas.Bool.{false≢true}
use borrow.Author.Tests.{le-leb, lt-leb, leb-true}
use Rattle.std.proofs.Math.ListN.{length, length-drop, drop_of_length-le}
use Rattle.basis.specs.Choice.{pick, by_test}
use Rattle.utf8.specs.Encoding.{size}
use Rattle.utf8.specs.Decoding.{decode_all}
use Rattle.meaning.specs.Checks.{check_utf8}
use Rattle.meaning.specs.Line.{entry_at}
use Rattle.meaning.specs.Layout.{Row, row_at, entry_of_row, layout}
use Rattle.meaning.specs.Pages.{end_before, within_lines, taken_bytes}
use Rattle.meaning.specs.declared.settings.Settings.{Settings}
use Rattle.meaning.specs.declared.counts.Offset.{Offset}
use Rattle.meaning.specs.declared.line.Entry.{Entry}
use Rattle.laws.specs.PartChars.{part-size}
use Rattle.parser.specs.Lexing.{chars_from}
use Rattle.steps.specs.Unrolled.{nothing_resumed}
use Rattle.rows.specs.Standing.{StandReady, laid_row, ready-next}
use Rattle.stands.specs.Stands.{StandsAt, text_front}
use Rattle.rows.specs.RowsFrom.{row_here, TextReady, entries_of, entries_from, all_entries, first-row, entry_here, some_entries, last_entry, more_entries}
use Rattle.rows.specs.Turns.{Counted, start-ready}
use Rattle.stands.specs.declared.stand.Stand.{Stand}
use Rattle.stands.specs.declared.row.LaidRow.{LaidRow}

-- ---- what is taken

-- Where the first h lines of a text end, or that there are no more of them.
unfoldable pub taken : Settings → (h : ℕ) → List ℕ → Option Offset
taken s h t = pick (within_lines s h (decode_all t)) None (Some (record { 0 = taken_bytes s h (decode_all t) }))

module _ (s : Settings) (h : ℕ) (t : List ℕ) where
  taken_is : within_lines s h (decode_all t) ≡ false → taken s h t ≡ Some (record { 0 = taken_bytes s h (decode_all t) })
  unfolding taken pick
  taken_is e = rw e

  taken_none : within_lines s h (decode_all t) ≡ true → taken s h t ≡ None
  unfolding taken pick
  taken_none e = rw e

  at_of : Option Offset → ℕ
  at_of None = 0
  at_of (Some e) = e.0

  -- Where they end.
  pub end_is : (e : Offset) → Some e ≡ taken s h t → e.0 ≡ taken_bytes s h (decode_all t)
  unfolding at_of
  end_is e is =
      by_test (within_lines s h (decode_all t)) (λ w. absurd (false≢true (sym (ap is_some (is ∙ taken_none w))))) (λ w. ap at_of (is ∙ taken_is w))

  same_not : (a b : Bool) → not a ≡ not b → a ≡ b
  same_not true true e = refl
  same_not false false e = refl
  same_not true false e = sym e
  same_not false true e = sym e

  -- Whether they are all.
  pub whole_is : (x : Option Offset) → x ≡ taken s h t → (b : Bool) → is_some x ≡ not b → b ≡ within_lines s h (decode_all t)
  whole_is x is b e =
      let told : is_some (taken s h t) ≡ not (within_lines s h (decode_all t)) =
      by_test (within_lines s h (decode_all t)) (λ w. ap is_some (taken_none w) ∙ ap not (sym w)) (λ w. ap is_some (taken_is w) ∙ ap not (sym w)) in
      same_not b _ (sym e ∙ ap is_some is ∙ told)

  -- They are all: that is the text.
  pub all_taken : check_utf8 t ≡ Ok tt → None ≡ taken s h t → taken_bytes s h (decode_all t) ≡ length t
  unfolding taken_bytes end_before within_lines
  all_taken good is =
      let few : length (layout s (decode_all t)) ≤ h =
      leb-true (length (layout s (decode_all t))) h
      (by_test (within_lines s h (decode_all t)) (λ w. w) (λ w. absurd (false≢true (ap is_some (is ∙ taken_is w))))) in
      rw (drop_of_length-le (layout s (decode_all t)) few) (part-size t good)

-- What the public call has checked.
pub record Takeable (s : Settings) (t : List ℕ) : Type 0 where
  pub ready : TextReady s t
  pub utf8 : check_utf8 t ≡ Ok tt

layout_is : (s : Settings) (t : List ℕ) → layout s (decode_all t) ≡ entries_of s t
unfolding layout entries_of chars_from
layout_is s t = refl

-- ---- one turn

-- n lines are passed, and the others are those from a stand on.
pub record Passed (s : Settings) (t : List ℕ) (n : ℕ) (p : Stand) : Type 0 where
  pub ready : StandReady s t p
  pub left : drop n (entries_of s t) ≡ entries_from s t 0 p

pub pass-start : (s : Settings) (t : List ℕ) (p : Stand) → TextReady s t → StandsAt t text_front 0 nothing_resumed p → Passed s t 0 p
pass-start s t p h f = record { ready = start-ready s t p h f; left = sym (all_entries s t p f) }

-- Where those from a stand on start.
pub starts-here : (s : Settings) (t : List ℕ) (p : Stand) (n : ℕ) → end_before n (entries_from s t 0 p) ≡ p.at.0
unfolding entries_from end_before row_here row_at entry_at
starts-here s t p n = first-row s t 0 p (λ (rs : List Row). end_before n (map entry_of_row rs) ≡ p.at.0) (λ rs. zero-add p.at.0)

module _ (s : Settings) (t : List ℕ) (n : ℕ) (p : Stand) (c : Passed s t n p) where
  -- They are counted too.
  pub passed_counted : Counted s t n p
  passed_counted =
      record {
        ready = c.ready;
        left = omega (arith, ap length c.left, length-drop n (entries_of s t), some_entries s t 0 p);
      }

  module _ (x : LaidRow) (is : x ≡ laid_row s t p) where
    behind : (es : List Entry) → entries_from s t 0 p ≡ x.entry ∷ es → drop (n + 1) (entries_of s t) ≡ es
    behind es e = sym (drop-drop 1 n (entries_of s t)) ∙ ap (drop 1) (c.left ∙ e)

    -- Behind the line that ends the text there is none.
    pub pass-last : x.last ≡ true → drop (n + 1) (entries_of s t) ≡ []
    pass-last h = behind [] (last_entry s t 0 p c.ready x is x.entry (entry_here s t p c.ready x is) h)

    pub pass-next : (q : Stand) → StandsAt t x.next (p.before.0 + x.chars.0) x.rest q → x.last ≡ false → Passed s t (n + 1) q
    pass-next q on h =
        record {
          ready = ready-next s t p c.ready x is q on;
          left = behind (entries_from s t 0 q) (more_entries s t 0 p c.ready x is x.entry (entry_here s t p c.ready x is) q on h);
        }

    -- A stand on the line behind any other, which need not be laid.
    abbrev next : Stand
    next = record { at = x.next; before = record { 0 = p.before.0 + x.chars.0 }; rest = x.rest; known = p.known }

    next-stands : StandsAt t x.next (p.before.0 + x.chars.0) x.rest next
    next-stands = record { at-is = refl; before-is = refl; rest-is = refl; known = c.ready.known }

    -- What is taken where the loop meets the last line.
    pub take_whole : (h : ℕ) → x.last ≡ true → n < h → None ≡ taken s h t
    unfolding within_lines
    take_whole h e m =
        let es = entries_of s t in
        let few : length es ≤ h = omega (arith, ap length (pass-last e), length-drop (n + 1) es) in
        sym (taken_none s h t (rw (layout_is s t) (le-leb (length es) h few)))

-- What is taken where so many lines are passed.
pub take_part : (s : Settings) (t : List ℕ) (n : ℕ) (p : Stand) → Passed s t n p → (h : ℕ) → n ≡ h → Some p.at ≡ taken s h t
unfolding taken taken_bytes within_lines pick
take_part s t n p c h m =
    let es = entries_of s t in
    let many : h < length es = omega (arith, ap length c.left, length-drop n es, some_entries s t 0 p) in
    rw (layout_is s t, ← m, c.left, starts-here s t p (size (decode_all t)), m, lt-leb (length es) h many)

-- What is taken where one more is laid, which is the last of them and not of the text.
pub take_next : (s : Settings) (t : List ℕ) (n : ℕ) (p : Stand) (c : Passed s t n p) (x : LaidRow) (is : x ≡ laid_row s t p) → (h : ℕ)
    → x.last ≡ false → n + 1 ≡ h → Some x.next ≡ taken s h t
take_next s t n p c x is h e m =
    take_part s t (n + 1) (next s t n p c x is) (pass-next s t n p c x is (next s t n p c x is) (next-stands s t n p c x is) e) h m
