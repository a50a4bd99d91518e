-- The whole stream: whatever blocks it comes in, what is counted at its end is the month of its clues (rule 10).
-- Assumes nothing.
use Rattle.std.specs.Prelude.{ℕ, ◌+◌, ◌-◌, ◌≤◌, ◌<◌, ◌≡◌, refl, true, false, length, take, replicate, Some}
use Rattle.std.proofs.Math.Path.{sym, ap, subst}
use Rattle.std.proofs.Common.{◌∙◌, arith, length-take-le}
use mathlib.Core.List.{List, [], ◌∷◌, ◌++◌, append_assoc, append-nil}
use Rattle.std.proofs.Math.Seq.{take-nil}
use Rattle.basis.specs.Choice.{pick, by_test}
use Rattle.basis.specs.Order.{by_eq}
use Rattle.meaning.specs.Month.{most_clues, no_figures, stream_lines, clues_in, month_of}
use Rattle.meaning.specs.declared.settings.Settings.{Settings}
use Rattle.meaning.specs.declared.figures.Figures.{Figures}
use Rattle.month_figures.specs.Sums.{sums_of}
use Rattle.clues.specs.Gathering.{with_clue, with_clues, none_yet, month_is}
use Rattle.clues.specs.Feeds.{before_feed}
use Rattle.clues.specs.Counting.{counting}
use Rattle.month.specs.Pending.{too_long, held_in, long_clue, pending, block_of, ending, NoFeed, long-long, long_feed, begun-line, full-same, one-counted, pending-short, pending-long, ending_of_lem}
use Rattle.month.specs.Blocks.{LastCounted, zero-sums, first-zeros}
use Rattle.month.specs.Going.{WentOn}
use Rattle.month.specs.declared.block.Step.{Step}

-- ---- turns

-- What there is between two reads.
pub record State : Type 0 where
  pub sums : List Figures
  pub buffer : List ℕ
  pub step : Step

-- One turn: the buffer after a read, the place up to which there are bytes, and what there is when the block is counted.
pub record Turn : Type 0 where
  pub read : List ℕ
  pub end : ℕ
  pub left : State

-- What is read stands behind what is held, and the block is counted as `count_block` says: of what is seen of the array of the sums.
abbrev pub RanBy : (seen : List Figures → List Figures) → Settings → (widths : List ℕ) → State → List Turn → Type 0
RanBy seen s ws h [] = Unit {0}
RanBy seen s ws h (t ∷ ts) =
    (take (held_in h.step) t.read ≡ take (held_in h.step) h.buffer)
    × WentOn s ws t.read (seen h.sums) t.end h.step (seen t.left.sums) t.left.buffer t.left.step
    × RanBy seen s ws t.left ts

-- These are the figures of the widths, however long the array is; or all of it.
abbrev pub Ran : Settings → (widths : List ℕ) → State → List Turn → Type 0
Ran s ws h ts = RanBy (sums_of ws) s ws h ts

abbrev pub whole : List Figures → List Figures
whole fs = fs

abbrev pub RanWhole : Settings → (widths : List ℕ) → State → List Turn → Type 0
RanWhole s ws h ts = RanBy whole s ws h ts

-- What there is after the last turn, and the blocks of all turns, one after the other.
abbrev pub after : State → List Turn → State
after h [] = h
after h (t ∷ ts) = after t.left ts

abbrev pub bytes_of : State → List Turn → List ℕ
bytes_of h [] = []
bytes_of h (t ∷ ts) = block_of h.step t.read t.end ++ bytes_of t.left ts

-- The figures at the end.
abbrev pub ending_by : (seen : List Figures → List Figures) → Settings → (widths : List ℕ) → State → (more : List ℕ) → List Figures
ending_by seen s ws h more = ending s ws (seen h.sums) h.buffer h.step more

abbrev pub ending_of : Settings → (widths : List ℕ) → State → (more : List ℕ) → List Figures
ending_of s ws h more = ending_by (sums_of ws) s ws h more

module _ (r : Step) (b b' : List ℕ) (front : take (held_in r) b' ≡ take (held_in r) b) where
  front-pending : pending r b' ≡ pending r b
  unfolding pending
  front-pending = ap (pick (too_long r) long_clue) front

  front-ending : (s : Settings) (ws : List ℕ) (u : List Figures) (more : List ℕ) → ending s ws u b' r more ≡ ending s ws u b r more
  unfolding ending
  front-ending s ws u more = ap (λ (p : List ℕ). counting s ws r.clues u (p ++ more)) front-pending

-- Over all turns the figures at the end stay the same.
pub goes_by : (seen : List Figures → List Figures) (s : Settings) (ws : List ℕ) (h : State) (ts : List Turn) → RanBy seen s ws h ts → (more : List ℕ)
    → ending_by seen s ws (after h ts) more ≡ ending_by seen s ws h (bytes_of h ts ++ more)
goes_by seen s ws h [] r more = refl
goes_by seen s ws h (t ∷ ts) r more =
    let block = block_of h.step t.read t.end in
    let rest = bytes_of t.left ts in
    goes_by seen s ws t.left ts r.2 more ∙ r.1.goes (rest ++ more)
    ∙ front-ending h.step h.buffer t.read r.0 s ws (seen h.sums) (block ++ (rest ++ more))
    ∙ ap (ending_by seen s ws h) (sym (append_assoc block rest more))

pub ran_goes : (s : Settings) (ws : List ℕ) (h : State) (ts : List Turn) → Ran s ws h ts → (more : List ℕ)
    → ending_of s ws (after h ts) more ≡ ending_of s ws h (bytes_of h ts ++ more)
ran_goes s ws = goes_by (sums_of ws) s ws

-- And no line feed is pending, unless there are as many clues as a month may have.
pub feedless_by : (seen : List Figures → List Figures) (s : Settings) (ws : List ℕ) (h : State) (ts : List Turn)
    → (h.step.clues < most_clues → NoFeed (pending h.step h.buffer)) → RanBy seen s ws h ts → (after h ts).step.clues < most_clues
    → NoFeed (pending (after h ts).step (after h ts).buffer)
feedless_by seen s ws h [] f r = f
feedless_by seen s ws h (t ∷ ts) f r = feedless_by seen s ws t.left ts r.1.feedless r.2

pub ran_feedless : (s : Settings) (ws : List ℕ) (h : State) (ts : List Turn) → (h.step.clues < most_clues → NoFeed (pending h.step h.buffer))
    → Ran s ws h ts → (after h ts).step.clues < most_clues → NoFeed (pending (after h ts).step (after h ts).buffer)
ran_feedless s ws = feedless_by (sums_of ws) s ws

-- ---- the end of the stream

module _ (s : Settings) (ws : List ℕ) where
  none_left_lem : (n : ℕ) (fs : List Figures) → counting s ws n fs [] ≡ fs
  unfolding counting with_clues stream_lines
  none_left_lem n fs = ap (with_clues s ws fs) (take-nil (most_clues - n))

  -- What is pending is one clue.
  one_left : (n : ℕ) (fs gs : List Figures) (p : List ℕ) → n < most_clues → 0 < length p → NoFeed p → gs ≡ with_clue s ws fs p → gs ≡ counting s ws n fs (p ++ [])
  unfolding before_feed
  one_left n fs gs p few some f e =
      let lines : stream_lines (p ++ []) ≡ p ∷ stream_lines [] = begun-line p [] f some ∙ ap (λ (l : List ℕ). l ∷ stream_lines []) (append-nil p) in
      sym (none_left_lem (n + 1) gs) ∙ one-counted s ws n fs gs p (p ++ []) [] few e lines

  module _ (b : List ℕ) (u : List Figures) (r : Step) (u' : List Figures) (l : LastCounted s ws b u r u') (few : r.clues < most_clues) where
    last-long : too_long r ≡ true → u' ≡ ending s ws u b r []
    last-long e =
        one_left r.clues u u' long_clue few (omega (arith, long-long)) long_feed (l.long e long_clue long-long)
        ∙ sym (ending_of_lem s ws u b r r.clues long_clue [] refl (pending-long r b e))

    last-short : held_in r ≤ length b → NoFeed (pending r b) → too_long r ≡ false → u' ≡ ending s ws u b r []
    last-short inside f e =
        let is = pending-short r b e in
        let p = take (held_in r) b in
        let figures : u' ≡ counting s ws r.clues u (p ++ []) =
        by_eq (held_in r) 0
        (λ z.
        l.none e z ∙ sym (none_left_lem r.clues u) ∙ ap (λ (k : ℕ). counting s ws r.clues u (take k b ++ [])) (sym z))
        (λ d.
        one_left r.clues u u' p few (omega (arith, length-take-le (held_in r) b inside, d)) (subst NoFeed is f) (l.some e d))
        in
        figures ∙ sym (ending_of_lem s ws u b r r.clues p [] refl is)

    -- `count_last` leaves the figures at the end.
    pub last-is : held_in r ≤ length b → NoFeed (pending r b) → u' ≡ ending s ws u b r []
    last-is inside f = by_test (too_long r) last-long (last-short inside f)

-- ---- from the start

-- No clue is counted, nothing is held, and the sums are those of no clue.
pub record BegunBy (seen : List Figures → List Figures) (ws : List ℕ) (h : State) : Type 0 where
  pub clues : h.step.clues ≡ 0
  pub held : held_in h.step ≡ 0
  pub long : too_long h.step ≡ false
  pub sums : seen h.sums ≡ none_yet ws

abbrev pub Begun : (widths : List ℕ) → State → Type 0
Begun ws h = BegunBy (sums_of ws) ws h

abbrev pub BegunWhole : (widths : List ℕ) → State → Type 0
BegunWhole ws h = BegunBy whole ws h

-- So it is with an array of zeros, however long it is; and with so many of them as there are widths.
pub begun_zeros : (ws : List ℕ) (n : ℕ) (b : List ℕ) → Begun ws (record { sums = replicate n no_figures; buffer = b; step = record { clues = 0; held = Some 0 } })
begun_zeros ws n b = record { clues = refl; held = refl; long = refl; sums = zero-sums ws n }

pub begun_first : (ws : List ℕ) (n : ℕ) (b : List ℕ) → length ws ≤ n
    → BegunWhole ws (record { sums = take (length ws) (replicate n no_figures); buffer = b; step = record { clues = 0; held = Some 0 } })
begun_first ws n b h = record { clues = refl; held = refl; long = refl; sums = first-zeros ws n h }

module _ (seen : List Figures → List Figures) (s : Settings) (ws : List ℕ) (h : State) (begun : BegunBy seen ws h) where
  begun-pending : pending h.step h.buffer ≡ []
  begun-pending = pending-short h.step h.buffer begun.long ∙ ap (λ (k : ℕ). take k h.buffer) begun.held

  -- The figures at the end are those of the month.
  begun-ending : (bytes : List ℕ) → ending_by seen s ws h bytes ≡ month_of s ws (clues_in bytes)
  unfolding counting clues_in
  begun-ending bytes =
      ending_of_lem s ws (seen h.sums) h.buffer h.step 0 [] bytes begun.clues begun-pending
      ∙ ap (λ (fs : List Figures). with_clues s ws fs (take most_clues (stream_lines bytes))) begun.sums
      ∙ month_is s ws (take most_clues (stream_lines bytes))

  module _ (ts : List Turn) (ran : RanBy seen s ws h ts) where
    abbrev last_by : State
    last_by = after h ts

    counted_by : last_by.step.clues < most_clues → (b : List ℕ) → take (held_in last_by.step) b ≡ take (held_in last_by.step) last_by.buffer → held_in last_by.step ≤ length b
        → (fs : List Figures) → LastCounted s ws b (seen last_by.sums) last_by.step fs → fs ≡ month_of s ws (clues_in (bytes_of h ts))
    unfolding before_feed
    counted_by few b front inside fs l =
        let feedless = feedless_by seen s ws h ts (λ _. subst NoFeed (sym begun-pending) refl) ran few in
        let same = front-pending last_by.step last_by.buffer b front in
        last-is s ws b (seen last_by.sums) last_by.step fs l few inside (subst NoFeed (sym same) feedless)
        ∙ front-ending last_by.step last_by.buffer b front s ws (seen last_by.sums) []
        ∙ goes_by seen s ws h ts ran []
        ∙ ap (ending_by seen s ws h) (append-nil (bytes_of h ts))
        ∙ begun-ending (bytes_of h ts)

    stopped_by : most_clues ≤ last_by.step.clues → (more : List ℕ) → seen last_by.sums ≡ month_of s ws (clues_in (bytes_of h ts ++ more))
    stopped_by full more =
        sym (full-same s ws last_by.step.clues (seen last_by.sums) (pending last_by.step last_by.buffer ++ more) full)
        ∙ sym (ending_of_lem s ws (seen last_by.sums) last_by.buffer last_by.step last_by.step.clues (pending last_by.step last_by.buffer) more refl refl)
        ∙ goes_by seen s ws h ts ran more
        ∙ begun-ending (bytes_of h ts ++ more)

module _ (s : Settings) (ws : List ℕ) (h : State) (begun : Begun ws h) (ts : List Turn) (ran : Ran s ws h ts) where
  abbrev last : State
  last = after h ts

  -- The stream has ended: the last read left the buffer b, and what is held was counted. The sums are the month of all bytes that were read.
  pub whole-counted : last.step.clues < most_clues → (b : List ℕ) → take (held_in last.step) b ≡ take (held_in last.step) last.buffer → held_in last.step ≤ length b
      → (u' : List Figures) → LastCounted s ws b (sums_of ws last.sums) last.step (sums_of ws u') → sums_of ws u' ≡ month_of s ws (clues_in (bytes_of h ts))
  whole-counted few b front inside u' l = counted_by (sums_of ws) s ws h begun ts ran few b front inside (sums_of ws u') l

  -- Reading has stopped at as many clues as a month may have. The sums are the month of what was read and of whatever follows.
  pub stopped_counted : most_clues ≤ last.step.clues → (more : List ℕ) → sums_of ws last.sums ≡ month_of s ws (clues_in (bytes_of h ts ++ more))
  stopped_counted full more = stopped_by (sums_of ws) s ws h begun ts ran full more

-- Both hold of all of an array that has as many figures as widths, as `begun.sums` says here.
module _ (s : Settings) (ws : List ℕ) (h : State) (begun : BegunWhole ws h) (ts : List Turn) (ran : RanWhole s ws h ts) where
  abbrev last_whole : State
  last_whole = after h ts

  pub exactly-counted : last_whole.step.clues < most_clues → (b : List ℕ) → take (held_in last_whole.step) b ≡ take (held_in last_whole.step) last_whole.buffer
      → held_in last_whole.step ≤ length b → (u' : List Figures) → LastCounted s ws b last_whole.sums last_whole.step u'
      → u' ≡ month_of s ws (clues_in (bytes_of h ts))
  exactly-counted few b front inside u' l = counted_by whole s ws h begun ts ran few b front inside u' l

  pub exactly_stopped : most_clues ≤ last_whole.step.clues → (more : List ℕ) → last_whole.sums ≡ month_of s ws (clues_in (bytes_of h ts ++ more))
  exactly_stopped full more = stopped_by whole s ws h begun ts ran full more
