-- The layout of a text is a well formed table of it (refusal 5).
-- Assumes nothing.
use Rattle.std.specs.Prelude.{ℕ, suc, ◌+◌, ◌-◌, ◌≤◌, ◌<◌, ◌≡◌, true, length, take, drop, Ok}
use Rattle.std.proofs.Math.Path.{refl}
use Rattle.std.proofs.Common.{◌∙◌, subst, take-append-drop, take-add}
use mathlib.Core.List.{List, [], ◌∷◌, map}
use Rattle.std.proofs.Math.Nat.{zero-add}
use native.Mathlib.Omega.{arith}
use borrow.Author.Tests.{lt-ltb, le-leb, eq-eqb, ne_eqb}
use Rattle.basis.specs.Choice.{pick, pick_true}
use Rattle.basis.specs.Order.{by_eq, within-is}
use Rattle.utf8.specs.Encoding.{size}
use Rattle.utf8.specs.Sizes.{size_append}
use Rattle.meaning.specs.LineIter.{Held, nothing_held}
use Rattle.meaning.specs.Line.{Line, lay_line, end_number, rest_of, entry_at}
use Rattle.meaning.specs.Layout.{Row, row_at, rows, entry_of_row, layout}
use Rattle.meaning.specs.WellFormed.{last_reach, text_length, Before, nothing, line, start_good, no_rest, rest_good, ending_good, count_good, entry_good, check_lines, check_entries}
use Rattle.meaning.specs.declared.settings.Settings.{Settings}
use Rattle.meaning.specs.declared.line.LineEnd.{LineEnd}
use Rattle.meaning.specs.declared.line.LineEnd.TheVariants.{NewLine, CarriageReturn, EndOfText, LineBreak}
use Rattle.meaning.specs.declared.line.Entry.{Entry}
use Rattle.laws.specs.Suffixes.{take-size}
use Rattle.laws.specs.PassBounds.{size-take}
use Rattle.laws.specs.LineBounds.{line-chars, line-takes, line-reach-low, line-reach-high, line-end}
use Rattle.laws.specs.LayoutBounds.{Ends, layout-ends}
use Rattle.laws.specs.RowInduction.{FitsIn, each_row}
use Rattle.laws.specs.GoodLines.{good_more, good_start, start-after}

-- ---- one line

-- Where a line starts, the characters before it and what is held before it, given the line before: past that line's start, and
-- within its reach; more characters than before that line, and no more than bytes.
abbrev Follows : Before → (start before : ℕ) → Held → List ℕ → Type 0
Follows nothing start before h cs = (start ≡ 0) × (before ≡ 0) × (h.chars ≡ 0)
Follows (line from reach chars) start before h cs =
    (from < start) × (start + size (take h.chars cs) ≤ reach) × (chars < before) × (before ≤ start)

-- So there are no more characters than bytes before a line.
no_more : (b : Before) (start before : ℕ) (h : Held) (cs : List ℕ) → Follows b start before h cs → before ≤ start
no_more nothing start before h cs p = omega (arith, p.1)
no_more (line from reach chars) start before h cs p = p.3

two-parts : (j k : ℕ) (cs : List ℕ) → size (take (j + k) cs) ≡ size (take j cs) + size (take k (drop j cs))
two-parts j k cs = rw take-add (size_append (take j cs) (take k (drop j cs)))

module _ (start before : ℕ) (h : Held) (cs : List ℕ) (l : Line) where
  start-good : (b : Before) → Follows b start before h cs → start_good (start + size cs) b (entry_at start before h cs l) ≡ true
  unfolding start_good entry_at
  start-good nothing p = eq-eqb start 0 p.0
  start-good (line from reach chars) p =
      simp (lt-ltb from start p.0, le-leb start reach (omega arith), le-leb start (start + size cs) (omega arith))

  rest-good : (b : Before) → FitsIn cs h → Follows b start before h cs → rest_good (start + size cs) b (entry_at start before h cs l) ≡ true
  unfolding rest_good no_rest entry_at rest_of pick
  rest-good nothing f p = simp (eq-eqb h.chars 0 p.2)
  rest-good (line from reach chars) f p =
      by_eq h.chars 0 (λ e. simp (eq-eqb h.chars 0 e))
      λ n.
      let z = size (take h.chars cs) in
      let t = take-size h.chars cs f.0 in
      let u = size-take h.chars cs in
      simp (
        ne_eqb h.chars 0 n,
        ne_eqb (start + z) 0 (λ e. n (omega arith)),
        lt-ltb start (start + z) (omega arith),
        le-leb (start + z) (start + size cs) (omega arith),
        le-leb (start + z) reach p.1,
        le-leb h.count (start + z - start) (omega arith),
      )

  count-good : (b : Before) → Follows b start before h cs → count_good b (entry_at start before h cs l) ≡ true
  unfolding count_good entry_at
  count-good nothing p = eq-eqb before 0 p.1
  count-good (line from reach chars) p = simp (lt-ltb chars before p.2, le-leb before start p.3)

  entry-good : (b : Before) (more : List Entry) → FitsIn cs h → Follows b start before h cs → ending_good more (end_number l.ended) ≡ true
      → l.reach ≤ size cs + 1 → entry_good (start + size cs) b (entry_at start before h cs l) more ≡ true
  unfolding entry_good entry_at
  entry-good b more f p q r =
      simp (start-good b p, rest-good b f p, q, le-leb (start + l.reach) (suc (start + size cs)) (omega arith), count-good b p)

ending-last : (e : LineEnd) → e ≡ EndOfText → ending_good [] (end_number e) ≡ true
unfolding ending_good
ending-last e p = rw p

ending-more : (e : LineEnd) (x : Entry) (es : List Entry) → (e ≡ EndOfText → ⊥) → ending_good (x ∷ es) (end_number e) ≡ true
unfolding ending_good
ending-more EndOfText x es d = absurd (d refl)
ending-more NewLine x es d = refl
ending-more CarriageReturn x es d = refl
ending-more LineBreak x es d = refl

-- ---- all lines

-- The lines from anywhere on are good, wherever they are numbered from and whatever line they follow.
abbrev LinesGood : ℕ → ℕ → Held → List ℕ → List Row → Type 0
LinesGood start before h cs rs = (k : ℕ) (b : Before) → Follows b start before h cs → check_lines (start + size cs) k b (map entry_of_row rs) ≡ Ok tt

abbrev Reaches : ℕ → ℕ → Held → List ℕ → List Row → Type 0
Reaches start before h cs rs = last_reach (map entry_of_row rs) ≡ start + size cs + 1

module _ (s : Settings) where
  module _ (start before : ℕ) (h : Held) (cs : List ℕ) (f : FitsIn cs h) where
    abbrev laid : Line
    laid = lay_line s h cs

    abbrev next : ℕ
    next = start + size (take laid.chars cs)

    abbrev counted : ℕ
    counted = before + laid.chars

    abbrev rest : List ℕ
    rest = drop laid.chars cs

    next-size : next + size rest ≡ start + size cs
    next-size = omega (arith, rw take-append-drop at (size_append (take laid.chars cs) rest))

    next-follows : (laid.ended ≡ EndOfText → ⊥) → before ≤ start
        → Follows (line start (start + laid.reach) before) next counted laid.held rest
    next-follows d fewer =
        let within = line-chars s h cs f.0 f.1 in (
          omega (arith, line-takes s h cs f.0 f.1 d, take-size laid.chars cs (omega arith)),
          omega (arith, line-reach-low s h cs f.0 f.1, two-parts laid.chars laid.held.chars cs),
          omega (arith, line-takes s h cs f.0 f.1 d),
          omega (arith, take-size laid.chars cs (omega arith)),
        )

    last-good : laid.ended ≡ EndOfText → LinesGood start before h cs (row_at start before h cs laid ∷ [])
    unfolding row_at check_lines
    last-good e k b p =
        pick_true _ _ _ (entry-good start before h cs laid b [] f p (ending-last laid.ended e) (line-reach-high s h cs f.0 f.1))

    more-good : (laid.ended ≡ EndOfText → ⊥) → (r : Row) (rs : List Row) → LinesGood next counted laid.held rest (r ∷ rs)
        → LinesGood start before h cs (row_at start before h cs laid ∷ r ∷ rs)
    unfolding row_at entry_at check_lines
    more-good d r rs more k b p =
        pick_true _ _ _
        (entry-good start before h cs laid b (map entry_of_row (r ∷ rs)) f p (ending-more laid.ended r.entry (map entry_of_row rs) d)
        (line-reach-high s h cs f.0 f.1))
        ∙ subst (λ (t : ℕ). check_lines t (suc k) (line start (start + laid.reach) before) (map entry_of_row (r ∷ rs)) ≡ Ok tt) next-size (more (suc k) (line start (start + laid.reach) before) (next-follows d (no_more b start before h cs p)))

    last_reaches : laid.ended ≡ EndOfText → Reaches start before h cs (row_at start before h cs laid ∷ [])
    unfolding row_at entry_at last_reach
    last_reaches e = omega (arith, line-end s h cs f.0 f.1 e)

    more_reaches : (laid.ended ≡ EndOfText → ⊥) → (r : Row) (rs : List Row) → Reaches next counted laid.held rest (r ∷ rs)
        → Reaches start before h cs (row_at start before h cs laid ∷ r ∷ rs)
    unfolding last_reach
    more_reaches d r rs more = more ∙ omega (arith, next-size)

  module _ (cs : List ℕ) where
    -- The last line meets the text's end, and the text's length can be read off it.
    pub layout-reach : last_reach (layout s cs) ≡ size cs + 1
    unfolding layout rows
    layout-reach =
        rw zero-add at (each_row s Reaches last_reaches more_reaches (suc (length cs)) 0 0 nothing_held cs (omega arith) (omega arith, omega arith))

    pub layout-length : text_length (layout s cs) ≡ size cs
    unfolding text_length
    layout-length = omega (arith, layout-reach)

    -- Every line is good, wherever lines are numbered from.
    pub layout-lines : (k : ℕ) → check_lines (size cs) k nothing (layout s cs) ≡ Ok tt
    unfolding layout rows
    layout-lines k =
        rw zero-add at
        (each_row s LinesGood last-good more-good (suc (length cs)) 0 0 nothing_held cs (omega arith) (omega arith, omega arith) k nothing (refl, refl, refl))

    pub layout-good : size cs ≤ 65535 → check_entries (layout s cs) ≡ Ok tt
    unfolding check_entries
    layout-good h =
        pick_true _ _ _ (within-is 1 65536 (last_reach (layout s cs)) (omega (arith, layout-reach)) (omega (arith, layout-reach)))
        ∙ rw layout-length (layout-lines 0)

-- ---- what the check says of starts

-- Each line starts past the start of the line before it.
abbrev pub Rising : List Entry → Type 0
Rising [] = Unit {0}
Rising (e ∷ []) = Unit {0}
Rising (e ∷ f ∷ es) = (e.start.0 < f.start.0) × Rising (f ∷ es)

pub lines-rise : (n k : ℕ) (b : Before) (es : List Entry) → check_lines n k b es ≡ Ok tt → Rising es
lines-rise n k b [] h = tt
lines-rise n k b (e ∷ []) h = tt
lines-rise n k b (e ∷ f ∷ es) h =
    let more = good_more n k b e (f ∷ es) h in
    let c = line e.start.0 e.reach.0 e.before.0 in
    ((start-after n e.start.0 e.reach.0 e.before.0 f (good_start n (suc k) c f es more)).0, lines-rise n (suc k) c (f ∷ es) more)

module _ (s : Settings) (cs : List ℕ) where
  pub layout-rises : Rising (layout s cs)
  layout-rises = lines-rise (size cs) 0 nothing (layout s cs) (layout-lines s cs 0)

-- And the last line, which alone ends the text (2), is reached so: each before it took a character.
abbrev pub RisingToEnd : List Entry → Type 0
RisingToEnd [] = ⊥
RisingToEnd (e ∷ []) = e.ending ≡ 2
RisingToEnd (e ∷ f ∷ es) = (e.ending ≡ 2 → ⊥) × (e.start.0 < f.start.0) × RisingToEnd (f ∷ es)

rise-to-end : (rs : List Row) → Ends rs → Rising (map entry_of_row rs) → RisingToEnd (map entry_of_row rs)
rise-to-end [] h r = h
rise-to-end (p ∷ []) h r = h
rise-to-end (p ∷ q ∷ rs) h r = (h.0, r.0, rise-to-end (q ∷ rs) h.2 r.1)

pub layout-rises-to-end : (s : Settings) (cs : List ℕ) → RisingToEnd (layout s cs)
unfolding layout
layout-rises-to-end s cs = rise-to-end (rows s cs) (layout-ends s cs) (layout-rises s cs)
