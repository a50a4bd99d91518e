-- A line of counted words is the line at its offset, whether a word waits behind them, a line feed stands there or the text ends (rule 8, rule 10).
-- Assumes nothing.
use mathlib.Core.Path.{◌≡◌, refl, sym, subst, ◌∙◌}
use mathlib.Core.Bool.{true}
use mathlib.Core.List.{List}
use Prim.Native.Nat.{ℕ, ◌+◌, ◌-◌, ◌*◌, ◌/◌, ◌≤◌, ◌<◌, max}
use native.Mathlib.Nat.{add-mul}
use native.Mathlib.Omega.{arith}
use lib.ListN.{length}
use borrow.Author.Tests.{eq-eqb, ne_eqb}
use Rattle.basis.specs.Choice.{pick}
use Rattle.basis.specs.Order.{by_eq, by_lt}
use Rattle.meaning.specs.SpaceConfig.{spaces_width}
use Rattle.meaning.specs.Alignment.{plain_spaces, placed_left, place}
use Rattle.meaning.specs.declared.settings.Settings.{Settings}
use Rattle.meaning.specs.declared.counts.Offset.{Offset}
use Rattle.meaning.specs.declared.line.LineEnd.{LineEnd}
use Rattle.meaning.specs.declared.line.LineEnd.TheVariants.{NewLine, EndOfText, LineBreak}
use Rattle.meaning.specs.declared.line.Measure.{Measure}
use Rattle.meaning.specs.declared.tokens.TokenKind.TheVariants as kind
use Rattle.laws.specs.Measuring.{printed_at}
use Rattle.parser.specs.Ascii.{feed_at, feed_char}
use Rattle.parser.specs.Scanning.{alone_at, word_of}
use Rattle.parser.specs.ScanLaws.{char-room}
use Rattle.parser.specs.LexerLaws.{feed_lexed}
use Rattle.parser.specs.declared.scan.Scanned.{Scanned}
use Rattle.pairs.specs.Pairs.{one_space, PairAt}
use Rattle.steps.specs.Stepping.{ran_from}
use Rattle.steps.specs.Stopping.{ends_before}
use Rattle.steps.specs.Unrolled.{nothing_resumed}
use Rattle.steps.specs.declared.step.Ended.{Ended}
use Rattle.strides.specs.Strides.{Waits}
use Rattle.strides.specs.declared.going.Waiting.{Waiting}
use Rattle.placing.specs.PlaceLaws.{at_left, in_centre, at_right}
use Rattle.placing.specs.LineFrom.{line_from}
use Rattle.placing.specs.Taken.{Taken, token_taken, taken-on}
use Rattle.placing.specs.Laying.{LineReady, rest_in, placed_by, laid_at}
use Rattle.placing.specs.LayLaws.{laid-alike}
use Rattle.placing.specs.Quick.{plain_place, Counts, counted_at}
use Rattle.placing.specs.Plain.{left_of, ended_entry, ended_line_at, found_line_at, EndedRow, FoundRow}
use Rattle.placing.specs.Told.{WordsTo}
use Rattle.placing.proofs.CountingLaws.{most-within, most-over, pair-within, counting-waits}
use Rattle.placing.proofs.QuickLaws.{WaitEnd, wait_ends, space-measured, waits-alike, feeds_alike, ends-alike}

-- ---- the entry

module _ (s : Settings) (plain : s.alignment ≤ 2) where
  -- Where such a line is placed.
  plain-placed : (ended : LineEnd) (width n : ℕ) → placed_left (left_of s.alignment (s.width.0 - width)) (plain_spaces s) ≡ place s ended width n
  unfolding left_of pick
  plain-placed ended width n =
      let room = s.width.0 - width in
      let sp = plain_spaces s in
      by_eq s.alignment 0 (λ e. rw (eq-eqb s.alignment 0 e) (at_left s ended width n room sp refl refl e)) λ l.
      by_eq s.alignment 1 (λ e. rw (ne_eqb s.alignment 0 l, eq-eqb s.alignment 1 e) (in_centre s ended width n room sp refl refl e)) λ m.
      rw (ne_eqb s.alignment 0 l, ne_eqb s.alignment 1 m) (at_right s ended width n room sp refl refl (omega arith))

  -- The line of a pass that ends so, and drops nothing.
  pub ended_formed : (ended : LineEnd) (at before columns next taken reach : ℕ) (e : Ended) → e.ended ≡ ended → e.next ≡ record { 0 = next }
      → e.rest ≡ nothing_resumed → e.dropped ≡ record { 0 = 0 } → e.reach.0 ≡ reach → e.measure.width.0 ≡ columns * s.glyph.0
      → ended_line_at ended s at before columns next taken reach
      ≡ laid_at at before nothing_resumed (placed_by s e) e.measure.width.0 e.reach.0 e taken
  unfolding laid_at rest_in pick ended_entry placed_by plain_spaces
  ended_formed ended at before columns next taken reach e is goes rest dropped far wide =
      let same : max reach reach ≡ reach = omega arith in
      rw (sym (plain-placed e.ended e.measure.width.0 e.measure.count.0), wide, far, is, goes, rest, dropped, same)

-- ---- the words

module _ {t : List ℕ} {at most to columns : ℕ} (w : WordsTo t at most to columns) where
  module _ {s : Settings} (h : LineReady s t at nothing_resumed) (is : most ≡ s.width.0 / s.glyph.0) where
    abbrev wide : ℕ
    wide = columns * s.glyph.0

    words : Counts s t at to columns w.spaces
    words = w.counting.counts s h is

    within : wide ≤ s.width.0
    within = most-within s.width.0 s.glyph.0 most columns is w.counting.fits

    abbrev measure : Measure
    measure = printed_at wide w.spaces

    -- ---- the text's end, and a line feed

    end-laid : length t ≤ to → s.alignment ≤ 2 → (before : ℕ)
        → ended_line_at EndOfText s at before columns to columns (to + 1) ≡ line_from s t at before nothing_resumed
    unfolding ends_before
    end-laid l plain before =
        let e = ends_before EndOfText measure to 0 (to + 1) in
        laid-alike h refl e (ends-alike h words within l) before columns words.taken (ended_line_at EndOfText s at before columns to columns (to + 1))
        (ended_formed s plain EndOfText at before columns to columns (to + 1) e refl refl refl refl refl refl)

    feed_laid : feed_at t to ≡ true → s.alignment ≤ 2 → (before : ℕ)
        → ended_line_at NewLine s at before columns (to + 1) (columns + 1) (to + 1) ≡ line_from s t at before nothing_resumed
    unfolding ends_before alone_at
    feed_laid b plain before =
        let e = ends_before NewLine measure (to + 1) 0 (to + 1) in
        let taken = taken-on t at to (to + 1) columns 1 words.taken (token_taken t to (alone_at kind.NewLine (to + 1)) (sym (feed_lexed t to b))) in
        laid-alike h refl e (feeds_alike h words within b) before (columns + 1) taken (ended_line_at NewLine s at before columns (to + 1) (columns + 1) (to + 1))
        (ended_formed s plain NewLine at before columns (to + 1) (columns + 1) (to + 1) e refl refl refl refl refl refl)

    -- ---- a word that waits

    module _ (looked : ℕ) (word : Scanned) (pair : PairAt t to (to + 1) looked (word_of word)) (over : most - columns ≤ word.chars.0) (reach : ℕ)
        (longer : columns < most → reach ≡ word.reach.0) (full : columns ≡ most → reach ≡ looked)
      where
        abbrev waiting : Waiting
        waiting = record { next = record { 0 = to + 1 }; looked = record { 0 = looked }; reach = word.reach }

        waits : Waits s (plain_place s wide) t to waiting
        unfolding counted_at
        waits =
            (counting-waits h is w.counting (record { 0 = to + 1 }) (record { 0 = looked }) word pair over (counted_at to columns w.spaces waiting) refl
            ).waits (λ z. omega arith)

        -- How its measuring pass ends.
        abbrev ended : Ended
        ended = ran_from s (plain_place s wide) t to 0 0 measure

        abbrev ends : WaitEnd s (plain_place s wide) waiting ended
        ends = wait_ends words.plain.ready waits

        taken : Taken t at ended.next.0 (columns + 1)
        taken =
            subst (λ (o : Offset). Taken t at o.0 (columns + 1)) (sym ends.next)
            (taken-on t at to (to + 1) columns 1 words.taken (token_taken t to (one_space (to + 1) looked) pair.space))

        -- How far was looked: up to the waiting word's end, if there is room for the space before it.
        far : ended.reach.0 ≡ reach
        unfolding spaces_width plain_spaces
        far =
            by_lt columns most
            (λ less.
            let fits = most-within s.width.0 s.glyph.0 most (columns + 1) is (omega arith) in
            ends.wide (omega (arith, fits, add-mul columns 1 s.glyph.0)) ∙ sym (longer less))
            (λ all.
            let same : columns ≡ most = omega (arith, w.counting.fits) in
            let beyond = most-over s.width.0 s.glyph.0 most (columns + 1) h.settings.0 is (omega arith) in
            ends.thin (omega (arith, beyond, add-mul columns 1 s.glyph.0)) ∙ sym (full same))

        wait_laid : s.alignment ≤ 2 → (before : ℕ) → found_line_at s at before columns (to + 1) (columns + 1) reach ≡ line_from s t at before nothing_resumed
        wait_laid plain before =
            laid-alike h refl ended (waits-alike h words within waiting waits ended refl) before (columns + 1) taken
            (found_line_at s at before columns (to + 1) (columns + 1) reach)
            (ended_formed s plain LineBreak at before columns (to + 1) (columns + 1) reach ended ends.ended ends.next ends.rest ends.dropped far
            (space-measured h words within waiting waits).width)

  -- ---- the line

  pub end_row : length t ≤ to → EndedRow EndOfText t at most columns to columns (to + 1)
  end_row l =
      record {
        some = w.some;
        few = w.counting.fits;
        forward = w.forward;
        inside = w.inside;
        near = omega arith;
        laid = λ s h is plain before. end-laid h is l plain before;
      }

  pub feed_row : feed_at t to ≡ true → EndedRow NewLine t at most columns (to + 1) (columns + 1) (to + 1)
  feed_row b =
      record {
        some = w.some;
        few = w.counting.fits;
        forward = omega (arith, w.forward);
        inside = (char-room t to 0x0A 1 (feed_char t to b)).2;
        near = omega arith;
        laid = λ s h is plain before. feed_laid h is b plain before;
      }

  -- Where they fill the line nothing but the first letter of the word behind them is looked at.
  pub wait_row : (looked : ℕ) (word : Scanned) → PairAt t to (to + 1) looked (word_of word) → most - columns ≤ word.chars.0 → (reach : ℕ)
      → (columns < most → reach ≡ word.reach.0) → (columns ≡ most → reach ≡ looked) → FoundRow t at most columns (to + 1) (columns + 1) reach
  wait_row looked word pair over reach longer full =
      record {
        some = w.some;
        few = w.counting.fits;
        forward = omega (arith, w.forward);
        inside = omega (arith, pair-within word pair);
        near = omega arith;
        laid = λ s h is plain before. wait_laid h is looked word pair over reach longer full plain before;
      }
