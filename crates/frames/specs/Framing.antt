-- A line laid at a start that is taken is the line that the definition has there (rule 10).
-- Assumes nothing.
use Rattle.std.specs.Prelude.{ℕ, ◌+◌, ◌-◌, ◌≤◌, ◌≡◌, refl, true, false, List, take, Ok}
use Rattle.meaning.specs.declared.answers.NextLine.{NextLine}
use native.Mathlib.Omega.{arith}
use Rattle.std.proofs.Math.Path.{sym, ap}
use Rattle.std.proofs.Common.{◌∙◌}
use Rattle.std.proofs.Math.ListN.{length}
use Rattle.basis.specs.Choice.{pick_under, by_test}
use Rattle.utf8.specs.Encoding.{size}
use Rattle.utf8.specs.Decoding.{decode_all}
use Rattle.utf8.specs.Places.{boundary}
use Rattle.utf8.specs.Boundaries.{boundary-is}
use Rattle.meaning.specs.Checks.{check_settings, check_utf8, check_text}
use Rattle.meaning.specs.Table.{of_entry, written}
use Rattle.meaning.specs.Edit.{chars_in}
use Rattle.meaning.specs.Frames.{is_none, onward, stand_good, held_by, one_line}
use Rattle.meaning.specs.declared.settings.Settings.{Settings}
use Rattle.meaning.specs.declared.counts.Offset.{Offset}
use Rattle.meaning.specs.declared.line.Rest.{Rest}
use Rattle.laws.specs.LinesTake.{chars-within}
use Rattle.laws.specs.PartChars.{part-size, cut-within}
use Rattle.laws.specs.Between.{chars-here, boundary-here}
use Rattle.laws.specs.Suffixes.{chars_in-take}
use Rattle.laws.specs.TokenLaws.{length-size}
use Rattle.parser.specs.Lexing.{chars_from}
use Rattle.parser.specs.GoodText.{good_length}
use Rattle.steps.specs.Pending.{RestFits}
use Rattle.steps.specs.Unrolled.{nothing_resumed}
use Rattle.steps.specs.declared.step.Resumed.{Resumed}
use Rattle.placing.specs.LineFrom.{LineAt, held_in, line_at_of, line_from}
use Rattle.placing.specs.Laying.{LineReady, rest_in, rest_in_lem}
use Rattle.placing.specs.LineLaws.{next_start, next-held, next-chars, next-rest}
use Rattle.table.specs.Numbers.{put_numbers}
use Rattle.rows.specs.Standing.{line_at, laid_row}
use Rattle.stands.specs.Stands.{StandsAt}
use Rattle.stands.specs.declared.stand.Stand.{Stand}
use Rattle.stands.specs.declared.row.LaidRow.{LaidRow}
use Rattle.rows.specs.GoodInput.{fine_settings}
use Rattle.frames.specs.Resuming.{resumed_in, good_start, good-above, good-end, good-count, resumes_none, resumes_some}

-- What is known where nothing is refused.
pub record Frameable (s : Settings) (t : List ℕ) (start : ℕ) (r : Rest) : Type 0 where
  pub settings : check_settings s ≡ Ok tt
  pub text : check_text t ≡ Ok tt
  pub utf8 : check_utf8 t ≡ Ok tt
  pub stand : stand_good (decode_all t) start r ≡ true

-- What the call answers there.
unfoldable pub line_laid : Settings → List ℕ → (start : ℕ) → Rest → NextLine
line_laid s t start r = let o = one_line s (decode_all t) start r in record { start = record { 0 = o.next }; rest = o.rest }

module _ {s : Settings} {t : List ℕ} {start : ℕ} {r : Rest} (f : Frameable s t start r) where
  abbrev pub whole : List ℕ
  whole = decode_all t

  pub starts : boundary whole start ≡ true
  starts = good_start whole start r f.stand

  pub inside : start ≤ length t
  inside = cut-within t f.utf8 start starts

  here-is : chars_from t start ≡ onward whole start
  unfolding chars_from
  here-is = chars-here t f.utf8 start starts

  -- As many characters as it says are held.
  pub few-before : chars_in whole start ≤ length t
  few-before = omega (arith, chars-within whole start, length-size whole, part-size t f.utf8)

  -- ---- the rest stands in the text

  module _ (some : is_none r ≡ false) where
    abbrev n : ℕ
    n = r.end.0 - start

    abbrev here : List ℕ
    here = onward whole start

    ends-here : boundary whole (start + n) ≡ true
    ends-here =
        let e : start + n ≡ r.end.0 = omega (arith, good-above whole start r f.stand some) in
        ap (boundary whole) e ∙ good-end whole start r f.stand some

    ends_at : n ≡ size (take (chars_in here n) here)
    ends_at =
        let c = (boundary-is here n).0 (boundary-here t f.utf8 start starts n ends-here) in
        let e : chars_in here n ≡ c.chars = ap (chars_in here) c.is ∙ chars_in-take c.chars here c.within in
        c.is ∙ ap (λ (k : ℕ). size (take k here)) (sym e)

    some_fits_lem : RestFits t start (record { end = r.end; chars = record { 0 = chars_in here n }; count = r.count })
    some_fits_lem =
        let above = good-above whole start r f.stand some in
        record {
          within = rw here-is (chars-within here n);
          counts = good-count whole start r f.stand some;
          ends = λ _. rw here-is (omega (arith, ends_at));
        }

  pub rest-fits : RestFits t start (resumed_in whole start r)
  rest-fits =
      by_test (is_none r)
      (λ e. rw (← (resumes_none whole start r e)) (record { within = omega arith; counts = omega arith; ends = λ d. absurd (d refl) }))
      (λ e. rw (← (resumes_some whole start r e _ refl)) (some_fits_lem e))

  pub line-ready : (x : Resumed) → x ≡ resumed_in whole start r → LineReady s t start x
  line-ready x is =
      record { settings = fine_settings s f.settings; short = good_length t f.text; inside = inside; rest = rw is rest-fits }

  -- ---- and the line is the definition's

  held-is : held_in (resumed_in whole start r) ≡ held_by start r (onward whole start)
  unfolding resumed_in held_by
  held-is = pick_under held_in (is_none r) nothing_resumed _

  module _ (x : Resumed) (is : x ≡ resumed_in whole start r) where
    abbrev line : LineAt
    line = line_from s t start (chars_in whole start) x

    pub entry-laid : line.entry ≡ (one_line s whole start r).entry
    unfolding line_from line_at_of one_line
    entry-laid = rw (is, here-is, held-is)

    pub next-laid : line.next.0 ≡ (one_line s whole start r).next
    unfolding one_line
    next-laid = next_start s t start (chars_in whole start) x ∙ rw (is, here-is, held-is)

    pub rest-laid : rest_in line.rest ≡ (one_line s whole start r).rest
    unfolding one_line
    rest-laid =
        sym (rest_in_lem t line.next.0 line.rest (next-rest s t start (chars_in whole start) x (line-ready x is).rest))
        ∙ rw (
          next-held s t start (chars_in whole start) x,
          next-chars s t start (chars_in whole start) x,
          next_start s t start (chars_in whole start) x,
          is,
          here-is,
          held-is,
        )

    -- ---- as the step lays it

    module _ (before : ℕ) (counted : before ≡ chars_in whole start) (p : Stand) (q : StandsAt t (record { 0 = start }) before x p) (row : LaidRow)
        (laid : row ≡ laid_row s t p)
      where
        line-there : line_at s t p ≡ line
        line-there = λ i. line_from s t (q.at-is i).0 ((q.before-is ∙ counted) i) (q.rest-is i)

        row_is : (row.entry ≡ line.entry) × (row.next ≡ line.next) × (row.rest ≡ line.rest)
        unfolding laid_row
        row_is = (
          ap (λ (y : LaidRow). y.entry) laid ∙ ap (λ (l : LineAt). l.entry) line-there,
          ap (λ (y : LaidRow). y.next) laid ∙ ap (λ (l : LineAt). l.next) line-there,
          ap (λ (y : LaidRow). y.rest) laid ∙ ap (λ (l : LineAt). l.rest) line-there,
        )

        pub answer-laid : (after : Rest) → after ≡ rest_in row.rest → ◌≡◌ {A = NextLine} (record { start = row.next; rest = after }) (line_laid s t start r)
        unfolding line_laid
        answer-laid after e =
            let next : row.next.0 ≡ (one_line s whole start r).next = ap (λ (o : Offset). o.0) row_is.1 ∙ next-laid in
            let rest : after ≡ (one_line s whole start r).rest = e ∙ ap rest_in row_is.2 ∙ rest-laid in
            λ i. record { start = record { 0 = next i }; rest = rest i }

        pub entry-put : (entry : List ℕ) → put_numbers entry 0 (of_entry row.entry) ≡ written entry (of_entry (one_line s whole start r).entry)
        unfolding put_numbers written
        entry-put entry =
            let e = row_is.0 ∙ entry-laid in
            let z : 0 + length (of_entry (one_line s whole start r).entry) ≡ length (of_entry (one_line s whole start r).entry) = omega arith in
            rw (e, z)
