-- One turn of the loop that lays a text's lines as long as it may fit.
-- Assumes nothing.
use Rattle.std.specs.Prelude.{ℕ, suc, ◌+◌, ◌≤◌, ◌<◌, ◌≡◌, Bool, ◌&&◌, List, [], ◌∷◌, map, leb, length}
use Rattle.std.proofs.Common.{arith, sym, ap, ◌∙◌}
use Rattle.std.proofs.Math.Path.{refl}
use Rattle.std.proofs.Math.Bool.{true, false}
use borrow.Author.Tests.{le-leb, lt-leb, eq-eqb, ne_eqb}
use Rattle.basis.specs.Choice.{pick}
use Rattle.basis.specs.Order.{by_le}
use Rattle.utf8.specs.Decoding.{decode_all}
use Rattle.meaning.specs.Layout.{entry_of_row, layout}
use Rattle.meaning.specs.Pages.{within_lines}
use Rattle.meaning.specs.Columns.{all_kept, fits_whole}
use Rattle.meaning.specs.declared.settings.Settings.{Settings}
use Rattle.meaning.specs.declared.line.Entry.{Entry}
use Rattle.parser.specs.Lexing.{chars_from}
use Rattle.steps.specs.Unrolled.{nothing_resumed}
use Rattle.rows.specs.Standing.{StandReady, laid_row, ready-next}
use Rattle.stands.specs.Stands.{StandsAt, text_front}
use Rattle.rows.specs.RowsFrom.{row_here, TextReady, entries_of, first-row, entries_from, all_entries, entry_here, some_entries, last_entry, more_entries}
use Rattle.rows.specs.Turns.{start-ready}
use Rattle.stands.specs.declared.stand.Stand.{Stand}
use Rattle.stands.specs.declared.row.LaidRow.{LaidRow}

-- ---- lines that fit

-- At most n lines, and none that dropped a character.
unfoldable pub lines_fit : (n : ℕ) → List Entry → Bool
lines_fit n es = leb (length es) n && all_kept es

many-fits : (n : ℕ) (es : List Entry) → n < length es → lines_fit n es ≡ false
unfolding lines_fit
many-fits n es h = rw (lt-leb (length es) n h)

module _ (n : ℕ) (e : Entry) where
  dropped-fits : (es : List Entry) → 0 < e.dropped.0 → lines_fit n (e ∷ es) ≡ false
  unfolding lines_fit all_kept pick
  dropped-fits es d = rw (ne_eqb e.dropped.0 0 (λ none. omega arith)) (never (leb (length (e ∷ es)) n))
    where
      never : (b : Bool) → b && false ≡ false
      never true = refl
      never false = refl

  module _ (kept : e.dropped.0 ≡ 0) where
    last_fits : 1 ≤ n → lines_fit n (e ∷ []) ≡ true
    unfolding lines_fit all_kept pick
    last_fits h = rw (eq-eqb _ _ kept, le-leb 1 n h)

    next_fits_lem : (m : ℕ) (es : List Entry) → n ≡ suc m → lines_fit n (e ∷ es) ≡ lines_fit m es
    unfolding lines_fit all_kept pick
    next_fits_lem m es is =
        by_le (length es) m
        (λ h. rw (eq-eqb _ _ kept, le-leb (suc (length es)) n (omega arith), le-leb (length es) m h))
        (λ h. rw (eq-eqb _ _ kept, lt-leb (suc (length es)) n (omega arith), lt-leb (length es) m h))

-- ---- the loop

-- So many lines may still be laid, from a stand on: the text fits exactly if those that are left do.
pub record Fitting (s : Settings) (t : List ℕ) (h left : ℕ) (p : Stand) : Type 0 where
  pub ready : StandReady s t p
  pub same : lines_fit left (entries_from s t 0 p) ≡ fits_whole s h (decode_all t)

-- The lines of the whole text.
all_fit : (s : Settings) (t : List ℕ) (h : ℕ) → lines_fit h (entries_of s t) ≡ fits_whole s h (decode_all t)
unfolding lines_fit fits_whole within_lines layout entries_of chars_from
all_fit s t h = refl

pub fit_start : (s : Settings) (t : List ℕ) (h : ℕ) (p : Stand) → TextReady s t → StandsAt t text_front 0 nothing_resumed p
    → (n : ℕ) → n ≡ h → Fitting s t h n p
fit_start s t h p r f n is =
    record { ready = start-ready s t p r f; same = ap (λ (m : ℕ). lines_fit m (entries_from s t 0 p)) is ∙ ap (lines_fit h) (all_entries s t p f) ∙ all_fit s t h }

-- No other may be laid, and one is left.
pub fit_none : (s : Settings) (t : List ℕ) (h left : ℕ) (p : Stand) → Fitting s t h left p → left ≡ 0 → false ≡ fits_whole s h (decode_all t)
fit_none s t h left p f none = sym (many-fits left (entries_from s t 0 p) (omega (arith, none, some_entries s t 0 p))) ∙ f.same

module _ (s : Settings) (t : List ℕ) (h left : ℕ) (p : Stand) (f : Fitting s t h left p) (x : LaidRow) (is : x ≡ laid_row s t p) where
  abbrev here : x.entry ≡ (row_here s t 0 p).entry
  here = entry_here s t p f.ready x is

  -- The line that is laid is the first of those that are left.
  some-follow : (P : List Entry → Type 0) → ((es : List Entry) → P (x.entry ∷ es)) → P (entries_from s t 0 p)
  unfolding entries_from
  some-follow P g =
      first-row s t 0 p (λ rs. P (map entry_of_row rs)) (λ rs. rw (sym here) (g (map entry_of_row rs)))

  -- It dropped a character.
  pub fit_dropped : 0 < x.entry.dropped.0 → false ≡ fits_whole s h (decode_all t)
  fit_dropped d = sym (some-follow (λ es. lines_fit left es ≡ false) (λ es. dropped-fits left x.entry es d)) ∙ f.same

  module _ (kept : x.entry.dropped.0 ≡ 0) where
    -- It ends the text.
    pub fit_last : x.last ≡ true → 1 ≤ left → true ≡ fits_whole s h (decode_all t)
    fit_last e some =
        sym (ap (lines_fit left) (last_entry s t 0 p f.ready x is x.entry here e) ∙ last_fits left x.entry kept some) ∙ f.same

    follow : (q : Stand) → StandsAt t x.next (p.before.0 + x.chars.0) x.rest q → x.last ≡ false
        → lines_fit left (x.entry ∷ entries_from s t 0 q) ≡ fits_whole s h (decode_all t)
    follow q on e = sym (ap (lines_fit left) (more_entries s t 0 p f.ready x is x.entry here q on e)) ∙ f.same

    -- It does not, and no other may be laid. A stand on the line behind it need not be known.
    pub fit_full : x.last ≡ false → left ≤ 1 → false ≡ fits_whole s h (decode_all t)
    fit_full e few =
        let q : Stand = record { at = x.next; before = record { 0 = p.before.0 + x.chars.0 }; rest = x.rest; known = p.known } in
        let on : StandsAt t x.next (p.before.0 + x.chars.0) x.rest q = record { at-is = refl; before-is = refl; rest-is = refl; known = f.ready.known } in
        sym (many-fits left (x.entry ∷ entries_from s t 0 q) (omega (arith, few, some_entries s t 0 q))) ∙ follow q on e

    -- It does not, and one less may be laid.
    pub fit_next : (q : Stand) → StandsAt t x.next (p.before.0 + x.chars.0) x.rest q → x.last ≡ false → (n : ℕ) → left ≡ suc n
        → Fitting s t h n q
    fit_next q on e n more =
        record {
          ready = ready-next s t p f.ready x is q on;
          same = sym (next_fits_lem left x.entry kept n (entries_from s t 0 q) more) ∙ follow q on e;
        }
