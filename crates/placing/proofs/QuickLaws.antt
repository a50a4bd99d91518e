-- How a line of counted words ends: its drawing pass ends as its measuring pass does.
-- Assumes nothing.
use mathlib.Core.Path.{◌≡◌, refl, sym, ap, subst, ◌∙◌}
use Rattle.std.specs.Prelude.{Some}
use mathlib.Core.Bool.{true, false}
use mathlib.Core.List.{List, []}
use Prim.Native.Nat.{ℕ, ◌+◌, ◌-◌, ◌*◌, ◌≤◌, ◌<◌}
use native.Mathlib.Omega.{arith}
use borrow.Author.Tests.{leb-false}
use lib.ListN.{length}
use Rattle.basis.specs.Choice.{by_test}
use Rattle.basis.specs.Order.{by_le}
use Rattle.meaning.specs.Tokens.{tokens}
use Rattle.meaning.specs.Cursor.{room_of, fits_in}
use Rattle.meaning.specs.SpaceConfig.{spaces_width}
use Rattle.meaning.specs.Alignment.{plain_spaces}
use Rattle.meaning.specs.Line.{noted, held_tokens, start_place}
use Rattle.meaning.specs.declared.settings.Settings.{Settings}
use Rattle.meaning.specs.declared.counts.Offset.{Offset}
use Rattle.pairs.specs.Pairs.{one_space}
use Rattle.meaning.specs.declared.tokens.TokenKind.TheVariants as kind
use Rattle.meaning.specs.declared.cursor.LineCursor.{LineCursor}
use Rattle.meaning.specs.declared.cursor.Spaces.{Spaces}
use Rattle.meaning.specs.declared.cursor.Place.{Place}
use Rattle.meaning.specs.declared.line.EventKind.TheVariants.{Space}
use Rattle.meaning.specs.declared.line.LineEnd.{LineEnd}
use Rattle.meaning.specs.declared.line.LineEnd.TheVariants.{NewLine, EndOfText, LineBreak}
use Rattle.meaning.specs.declared.line.Measure.{Measure}
use Rattle.meaning.specs.declared.line.Placed.{Placed}
use Rattle.laws.specs.TokenLaws.{tokens_none}
use Rattle.laws.specs.Measuring.{printed_at}
use Rattle.parser.specs.Lexing.{chars_from, lexed_at}
use Rattle.parser.specs.Scanning.{alone_at}
use Rattle.parser.specs.Ascii.{feed_at}
use Rattle.parser.specs.ScanLaws.{chars-past}
use Rattle.parser.specs.LexerLaws.{feed_lexed}
use Rattle.moves.specs.FineLaws.{fits-room}
use Rattle.steps.specs.Stepping.{ran_from}
use Rattle.steps.specs.Unrolled.{nothing_resumed, ran_end}
use Rattle.steps.specs.Running.{PassReady}
use Rattle.placing.specs.Laying.{LineReady, passed_from, plainly, placed_by}
use Rattle.steps.specs.Stopping.{ends_before}
use Rattle.strides.specs.Strides.{going_at, strode_place, Waits, WaitReady}
use Rattle.placing.specs.Taken.{Taken, token_taken, taken-on}
use Rattle.placing.specs.Quick.{Fair, Stood, plain_place, Counts, CountedWords, SameEnd, DrawnAlike}
use Rattle.strides.specs.declared.going.Waiting.{Waiting}
use Rattle.strides.specs.declared.going.Going.{Going}
use Rattle.steps.specs.declared.step.Ended.{Ended}
use Rattle.placing.specs.declared.quick.Counted.{Counted}
use Rattle.placing.specs.LayLaws.{few-spaces}
use Rattle.steps.specs.PassLaws.{line-ends}
use Rattle.strides.specs.OnwardLaws.{read-pending, stops-onward}
use Rattle.strides.specs.WaitLaws.{far-ends, waits-thin, waits-cut}
use Rattle.placing.specs.FairLaws.{place-fair}

-- ---- a line feed, and the text's end

module _ {s : Settings} {p : Place} {t : List ℕ} {at : ℕ} {m : Measure} where
  feed_ends : PassReady s p t at nothing_resumed m → feed_at t at ≡ true → ends_before NewLine m (at + 1) 0 (at + 1) ≡ ran_from s p t at 0 0 m
  unfolding alone_at
  feed_ends r e =
      let x = alone_at kind.NewLine (at + 1) in
      let is : lexed_at at (tokens (chars_from t at)) ≡ Some x = sym (feed_lexed t at e) in
      sym (far-ends NewLine m (at + 1) 0 (at + 1))
      ∙ stops-onward r x is _ (line-ends s p t at x m (read-pending t at x is).stands refl)

text-ends : (s : Settings) (p : Place) (t : List ℕ) (at : ℕ) (m : Measure) → length t ≤ at → ends_before EndOfText m at 0 (at + 1) ≡ ran_from s p t at 0 0 m
unfolding ends_before held_tokens
text-ends s p t at m h =
    let none : held_tokens 0 0 (chars_from t at) ≡ [] = ap tokens (chars-past t at h) ∙ tokens_none in
    sym (ran_end s p t at 0 0 m none)

-- ---- a word that waits

unfit : (c : LineCursor) (w : ℕ) → fits_in c w ≡ false → c.width.0 - c.position.0 < w
unfolding fits_in room_of
unfit c w e = leb-false w _ e

-- A line that ends before it: how far it looked depends on whether the space before it fits.
pub record WaitEnd (s : Settings) (p : Place) (v : Waiting) (e : Ended) : Type 0 where
  pub ended : e.ended ≡ LineBreak
  pub next : e.next ≡ v.next
  pub rest : e.rest ≡ nothing_resumed
  pub dropped : e.dropped ≡ record { 0 = 0 }
  pub wide : p.cursor.position.0 + spaces_width p.spaces 1 ≤ p.cursor.width.0 → e.reach.0 ≡ v.reach.0
  pub thin : p.cursor.width.0 < p.cursor.position.0 + spaces_width p.spaces 1 → e.reach.0 ≡ v.looked.0

module _ {s : Settings} {p : Place} {t : List ℕ} {at : ℕ} {m : Measure} (r : PassReady s p t at nothing_resumed m) {v : Waiting} (w : Waits s p t at v) where
  abbrev single : ℕ
  single = spaces_width p.spaces 1

  -- The two ends, whatever is to be shown of them.
  waits-by : (P : Ended → Type 0)
      → (p.cursor.position.0 + single ≤ p.cursor.width.0 → P (ends_before LineBreak (noted Space (m.pen.0 + 0) (m.spaces.0 + 1) m) v.next.0 0 v.reach.0))
      → (p.cursor.width.0 < p.cursor.position.0 + single → P (ends_before LineBreak m v.next.0 0 v.looked.0))
      → P (ran_from s p t at 0 0 m)
  waits-by P a b =
      let inside = r.place.0.0 in
      by_test (fits_in p.cursor single)
      (λ f.
      let room = fits-room p.cursor single f in
      subst P (waits-thin r v w single refl f _ refl) (a (omega arith)))
      (λ f. subst P (waits-cut r v w single refl f) (b (omega (arith, unfit p.cursor single f))))

  pub wait_ends : WaitEnd s p v (ran_from s p t at 0 0 m)
  unfolding ends_before
  wait_ends =
      waits-by (WaitEnd s p v)
      (λ f. record { ended = refl; next = refl; rest = refl; dropped = refl; wide = λ _. refl; thin = λ g. absurd (omega arith) })
      (λ f. record { ended = refl; next = refl; rest = refl; dropped = refl; wide = λ g. absurd (omega arith); thin = λ _. refl })

-- ---- drawn alike

pub same-before : (e : LineEnd) (m n : Measure) (next reach : ℕ) → SameEnd (ends_before e m next 0 reach) (ends_before e n next 0 reach)
unfolding ends_before
same-before e m n next reach = record { ended = refl; next = refl; rest = refl; dropped = refl; reach = omega arith }

-- What is measured in all: the words, whatever stands behind them.
pub record Measured (s : Settings) (columns spaces : ℕ) (m : Measure) : Type 0 where
  pub width : m.width.0 ≡ columns * s.glyph.0
  pub count : m.count.0 ≡ spaces

words-measured : (s : Settings) (columns spaces : ℕ) → Measured s columns spaces (printed_at (columns * s.glyph.0) spaces)
words-measured s columns spaces = record { width = refl; count = refl }

module _ {s : Settings} {t : List ℕ} {at : ℕ} (h : LineReady s t at nothing_resumed) {to columns spaces : ℕ} (c : Counts s t at to columns spaces)
    (within : columns * s.glyph.0 ≤ s.width.0)
  where
    abbrev here : Place
    here = plain_place s (columns * s.glyph.0)

    abbrev printed : Measure
    printed = printed_at (columns * s.glyph.0) spaces

    alike : (e : Ended) → e ≡ ran_from s here t to 0 0 printed → Measured s columns spaces e.measure
        → ((p : Placed) → Fair s p c.letters c.gaps → (v : Stood s p t at c.letters c.gaps to) → SameEnd e (ran_from s v.place t to 0 0 v.measure))
        → DrawnAlike s t at e
    unfolding passed_from placed_by
    alike e is m same =
        let measured : e ≡ passed_from s t at nothing_resumed (plainly s) = is ∙ c.plain.same in
        let width = e.measure.width.0 in
        let few = few-spaces h (plainly s) e refl measured in
        let low = subst (λ (k : ℕ). k * s.glyph.0 ≤ width) c.all (omega (arith, m.width)) in
        let fair = place-fair s c.letters c.gaps h.settings e.ended width e.measure.count.0 few (omega (arith, c.few, m.count)) low (omega (arith, m.width, within)) in
        let p = placed_by s e in
        let v = c.placed p fair in
        record { measured = measured; drawn = subst (SameEnd e) v.onward.same (same p fair v) }

    -- ---- before a line feed, and at the text's end

    pub feeds_alike : feed_at t to ≡ true → DrawnAlike s t at (ends_before NewLine printed (to + 1) 0 (to + 1))
    unfolding ends_before
    feeds_alike b =
        alike (ends_before NewLine printed (to + 1) 0 (to + 1)) (feed_ends c.plain.ready b) (words-measured s columns spaces) λ p f v.
        subst (SameEnd _) (feed_ends v.onward.ready b) (same-before NewLine printed v.measure (to + 1) (to + 1))

    pub ends-alike : length t ≤ to → DrawnAlike s t at (ends_before EndOfText printed to 0 (to + 1))
    unfolding ends_before
    ends-alike l =
        alike (ends_before EndOfText printed to 0 (to + 1)) (text-ends s here t to printed l) (words-measured s columns spaces) λ p f v.
        subst (SameEnd _) (text-ends s v.place t to v.measure l) (same-before EndOfText printed v.measure to (to + 1))

    -- ---- before a word that waits

    module _ (v : Waiting) (w : Waits s here t to v) where
      pub space-measured : Measured s columns spaces (ran_from s here t to 0 0 printed).measure
      unfolding ends_before
      space-measured =
          waits-by c.plain.ready w (λ (e : Ended). Measured s columns spaces e.measure)
          (λ _. record { width = refl; count = refl }) (λ _. words-measured s columns spaces)

      module _ (p : Placed) (f : Fair s p c.letters c.gaps) (d : Stood s p t at c.letters c.gaps to) where
        low-place : columns * s.glyph.0 ≤ d.place.cursor.position.0
        low-place = subst (λ (k : ℕ). k * s.glyph.0 ≤ d.place.cursor.position.0) (sym c.all) d.low

        -- It waits however the line is placed, and its space fits only if it did in the measuring pass.
        waits_too : Waits s d.place t to v
        unfolding spaces_width plain_spaces
        waits_too =
            record {
              word = w.word;
              pair = w.pair;
              reach = w.reach;
              empty = d.filled;
              over = omega (arith, w.over, low-place, d.edge, d.each, f.wide);
            }

        fits_too : d.place.cursor.position.0 + spaces_width d.place.spaces 1 ≤ d.place.cursor.width.0
            → columns * s.glyph.0 + spaces_width (plain_spaces s) 1 ≤ s.width.0
        unfolding spaces_width plain_spaces
        fits_too k = omega (arith, low-place, d.edge, d.each, f.wide)

        waits-same : SameEnd (ran_from s here t to 0 0 printed) (ran_from s d.place t to 0 0 d.measure)
        waits-same =
            let a = wait_ends c.plain.ready w in
            let b = wait_ends d.onward.ready waits_too in
            let far = w.pair.farther in
            record {
              ended = b.ended ∙ sym a.ended;
              next = b.next ∙ sym a.next;
              rest = b.rest ∙ sym a.rest;
              dropped = b.dropped ∙ sym a.dropped;
              reach =
                  by_le (d.place.cursor.position.0 + spaces_width d.place.spaces 1) d.place.cursor.width.0
                  (λ k. omega (arith, a.wide (fits_too k), b.wide k))
                  (λ k.
                  by_le (columns * s.glyph.0 + spaces_width (plain_spaces s) 1) s.width.0
                  (λ l. omega (arith, a.wide l, b.thin k, w.reach))
                  (λ l. omega (arith, a.thin l, b.thin k)));
            }

      pub waits-alike : (e : Ended) → e ≡ ran_from s here t to 0 0 printed → DrawnAlike s t at e
      waits-alike e is =
          subst (DrawnAlike s t at) (sym is) (alike (ran_from s here t to 0 0 printed) refl space-measured waits-same)

-- ---- the running line

-- Where the measuring pass stands.
pub measured-here : (s : Settings) (wide spaces at : ℕ) (v : Waiting) (sp : Spaces) (start p : Place) (m : Measure) (g : Going) → sp ≡ plain_spaces s
    → start ≡ start_place s 0 sp → p ≡ strode_place start wide 0 → m ≡ printed_at wide spaces → g ≡ going_at p m at v
    → g ≡ going_at (plain_place s wide) (printed_at wide spaces) at v
unfolding start_place plain_spaces
measured-here s wide spaces at v sp start p m g a b c d e = rw (e, d, c, b, a)

module _ {s : Settings} {t : List ℕ} {at : ℕ} (h : LineReady s t at nothing_resumed) {c : Counted} (d : CountedWords s t at c) (g : Going)
    (is : g ≡ going_at (plain_place s (c.columns.0 * s.glyph.0)) (printed_at (c.columns.0 * s.glyph.0) c.spaces.0) c.end.0 c.waits)
  where
    pub quick_inside : g.at.0 ≤ length t
    unfolding going_at
    quick_inside = rw is d.counts.plain.ready.inside

    pub quick_ready : (g.waits.next.0 ≡ 0 → ⊥) → WaitReady s t g
    unfolding going_at
    quick_ready = rw is λ n. (d.counts.plain.ready, d.waits n)

    pub quick_waits : (g.waits.next.0 ≡ 0 → ⊥) → (e : Ended) → e ≡ ran_from s g.place t g.at.0 0 0 g.measure → DrawnAlike s t at e
    unfolding going_at
    quick_waits = rw is λ n e. waits-alike h d.counts d.within c.waits (d.waits n) e

    pub quick_ends : length t ≤ g.at.0 → (e : Ended) → e ≡ ends_before EndOfText g.measure g.at.0 0 (g.at.0 + 1) → DrawnAlike s t at e
    unfolding going_at
    quick_ends = rw is λ l e f. subst (DrawnAlike s t at) (sym f) (ends-alike h d.counts d.within l)

    pub quick_feeds : feed_at t g.at.0 ≡ true → (e : Ended)
        → e ≡ ends_before NewLine g.measure (g.at.0 + 1) 0 (g.at.0 + 1) → DrawnAlike s t at e
    unfolding going_at
    quick_feeds = rw is λ b e f. subst (DrawnAlike s t at) (sym f) (feeds_alike h d.counts d.within b)

    -- ---- how many characters it takes

    abbrev words : ℕ
    words = c.columns.0

    ends_at : (e : Ended) (next n : ℕ) → e.next.0 ≡ next → Taken t at next n → Taken t at e.next.0 n
    ends_at e next n q a = subst (λ (x : ℕ). Taken t at x n) (sym q) a

    -- The words, and the space before the word that waits.
    pub waits-taken : (g.waits.next.0 ≡ 0 → ⊥) → (e : Ended) → e ≡ ran_from s g.place t g.at.0 0 0 g.measure
        → Taken t at e.next.0 (c.columns.0 + 1)
    unfolding going_at
    waits-taken = rw is λ n e f.
        let w = d.waits n in
        let v = c.waits in
        let q = ap (λ (x : Ended). x.next.0) f ∙ ap (λ (o : Offset). o.0) (wait_ends d.counts.plain.ready w).next in
        ends_at e v.next.0 (words + 1) q
        (taken-on t at c.end.0 v.next.0 words 1 d.counts.taken (token_taken t c.end.0 (one_space v.next.0 v.looked.0) w.pair.space))

    -- The words alone.
    pub ends-taken : (e : Ended) → e ≡ ends_before EndOfText g.measure g.at.0 0 (g.at.0 + 1) → Taken t at e.next.0 c.columns.0
    unfolding going_at ends_before
    ends-taken = rw is λ e f. ends_at e c.end.0 words (ap (λ (x : Ended). x.next.0) f) d.counts.taken

    -- The words, and the line feed.
    pub feeds_taken : feed_at t g.at.0 ≡ true → (e : Ended)
        → e ≡ ends_before NewLine g.measure (g.at.0 + 1) 0 (g.at.0 + 1) → Taken t at e.next.0 (c.columns.0 + 1)
    unfolding going_at ends_before alone_at
    feeds_taken = rw is λ b e f.
        let to = c.end.0 in
        ends_at e (to + 1) (words + 1) (ap (λ (x : Ended). x.next.0) f)
        (taken-on t at to (to + 1) words 1 d.counts.taken (token_taken t to (alone_at kind.NewLine (to + 1)) (sym (feed_lexed t to b))))
