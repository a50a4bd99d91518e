-- The blocks of a stream: what is held of a clue between two of them, and a clue that is too long.
-- Assumes nothing.
use Prim.Native.Nat.{ℕ, zero, suc, ◌+◌, ◌-◌, ◌≤◌, ◌<◌}
use Rattle.meaning.specs.Refusals.{Checked}
use Rattle.std.specs.Prelude.{◌≡◌, refl, true, false, List, [], ◌∷◌, ◌++◌, length, take, drop, replicate, Err, Ok, Option, None, Some}
use Rattle.std.proofs.Common.{sym, ◌∙◌, append_assoc, length-drop, length-append, take_all, length-take-le}
use Rattle.std.proofs.Math.Path.{ap, subst}
use Rattle.std.proofs.lemmas.Bool.{false≢true}
use Rattle.std.proofs.lemmas.List.{length-replicate}
use native.Mathlib.Omega.{arith}
use Rattle.std.proofs.Math.Seq.{paste}
use Rattle.std.proofs.lemmas.List.Edits.{take-paste}
use Rattle.basis.specs.Order.{by_lt}
use Rattle.meaning.specs.Checks.{text_limit}
use Rattle.meaning.specs.Month.{most_clues, no_figures, stream_lines}
use Rattle.meaning.specs.declared.figures.Figures.{Figures}
use Rattle.meaning.specs.declared.settings.Settings.{Settings}
use Rattle.meaning.specs.declared.refusals.Refusal.TheVariants.{TextTooLong}
use Rattle.checks.specs.TextLaws as text
use Rattle.moves.specs.Fine.{FineSettings}
use Rattle.month_figures.specs.Sums.{sums_of}
use Rattle.clues.specs.Summing.{Of, Narrow, EachOf, added_to}
use Rattle.clues.specs.Adding.{EachReady}
use Rattle.clues.specs.Gathering.{with_clue, sums-with_clue, none_yet}
use Rattle.clues.specs.Feeds.{before_feed, before-most, ended-line}
use Rattle.clues.specs.Counting.{counting, Counts, exact-counts, whole_counts, same-part}
use Rattle.clues.specs.declared.stream.Ended.{Ended}
use Rattle.month.specs.Pending.{too_long, held_in, long_clue, NoFeed, long-long, long_feed, feed_after, line_after, rest-after, any_long, long_same, one-counted}
use Rattle.month.specs.declared.block.Step.{Step}

-- ---- what is left of a block

-- The buffer b, read up to `end` and counted up to `at`, is b' now: it holds what is left, or what is left is all of it.
pub record Kept (b : List ℕ) (at end clues : ℕ) (r : Step) (b' : List ℕ) : Type 0 where
  pub counted : r.clues ≡ clues
  pub inside : held_in r < length b'
  pub held : too_long r ≡ false → take (held_in r) b' ≡ drop at (take end b)
  pub full : too_long r ≡ true → length (drop at (take end b)) ≡ length b

module _ (b : List ℕ) (at end clues : ℕ) (h : at ≤ end) (f : end ≤ length b) where
  left-length : length (drop at (take end b)) ≡ end - at
  left-length = omega (arith, length-drop at (take end b), length-take-le end b f)

  pub kept-long : 0 < length b → end - at ≡ length b → Kept b at end clues (record { clues = clues; held = None }) b
  kept-long some e = record { counted = refl; inside = some; held = λ l. absurd (false≢true (sym l)); full = λ _. left-length ∙ e }

  pub kept-held : (end - at ≡ length b → ⊥) → (n : ℕ) (b' : List ℕ) → n ≡ end - at → b' ≡ paste b 0 (drop at b) (end - at) → length b' ≡ length b
      → Kept b at end clues (record { clues = clues; held = Some n }) b'
  kept-held d n b' n-is b-is same =
      let size = end - at in
      let zero-size : 0 + size ≡ size = omega arith in
      let moved : take size (paste b 0 (drop at b) size) ≡ take size (drop at b) =
      ap (λ (k : ℕ). take k (paste b 0 (drop at b) size)) (sym zero-size) ∙ take-paste b 0 (drop at b) size (omega arith) (omega (arith, length-drop at b))
      in
      let part : take size (drop at b) ≡ drop at (take end b) =
      same-part b at end end (omega arith) ∙ take_all size (drop at (take end b)) (omega (arith, left-length))
      in
      record {
        counted = refl;
        inside = by_lt n (length b') (λ less. less) (λ more. absurd (d (omega (arith, same, n-is))));
        held = λ _. (λ i. take (n-is i) (b-is i)) ∙ moved ∙ part;
        full = λ l. absurd (false≢true l);
      }

-- ---- a clue that is too long

-- One clue more is counted, and the figures are with any text that is too long.
pub record LongAdded (s : Settings) (ws : List ℕ) (u : List Figures) (clues r : ℕ) (u' : List Figures) : Type 0 where
  pub counted : r ≡ clues + 1
  pub counts : Counts s ws u' (clues + 1)
  pub added : (t : List ℕ) → text_limit < length t → u' ≡ with_clue s ws u t
  pub sums_added : (t : List ℕ) → text_limit < length t → sums_of ws u' ≡ with_clue s ws (sums_of ws u) t

refused_bad : (n : ℕ) → ◌≡◌ {A = Checked} (Err (TextTooLong n)) (Ok tt) → ⊥
refused_bad n e = let z : ◌≡◌ {A = ℕ} 0 1 = cc in omega arith

module _ (s : Settings) (ws : List ℕ) (u : List Figures) (n : ℕ) (c : Counts s ws u n) (t : List ℕ) where
  pub long-ready : n < most_clues → (k : Checked) → k ≡ Err (TextTooLong 65536) → EachReady s t k ws u
  long-ready h k e =
      record {
        all =
            record {
              settings = c.settings;
              widths = c.widths;
              short = λ g. absurd (refused_bad 65536 (sym e ∙ g));
              count = n;
              few = h;
              each = c.each;
            };
        room = c.room;
      }

  pub long-added : (k : Checked) → k ≡ Err (TextTooLong 65536) → (u' : List Figures) → u' ≡ added_to s t k ws u
      → LongAdded s ws u n (n + 1) u'
  unfolding with_clue
  long-added k k-is u' e =
      let all : u' ≡ added_to s t (Err (TextTooLong 65536)) ws u = e ∙ ap (λ (j : Checked). added_to s t j ws u) k-is in
      let any : (x : List ℕ) → text_limit < length x → u' ≡ with_clue s ws u x =
      λ x long.
      all ∙ any_long s t x 65536 (length x) ws u ∙ ap (λ (j : Checked). added_to s x j ws u) (text.too_long x long)
      in
      record {
        counted = refl;
        counts = whole_counts s ws u n c t (Err (TextTooLong 65536)) (λ g. absurd (refused_bad 65536 g)) u' all;
        added = any;
        sums_added = λ x long. ap (sums_of ws) (any x long) ∙ sums-with_clue s ws u x c.room;
      }

-- It has ended before a place of the block, or not yet. The figures at the end are the same, whatever bytes follow the block.
pub record LongGone (s : Settings) (ws b : List ℕ) (u : List Figures) (end clues : ℕ) (r : Ended) (u' : List Figures) : Type 0 where
  pub counts : Counts s ws u' r.clues
  pub few : r.clues ≤ most_clues
  pub within : r.at ≤ end
  pub ended : (more : List ℕ) → counting s ws r.clues u' (drop r.at (take end b) ++ more)
      ≡ counting s ws clues u (long_clue ++ (take end b ++ more))
  pub sums_ended : (more : List ℕ) → counting s ws r.clues (sums_of ws u') (drop r.at (take end b) ++ more)
      ≡ counting s ws clues (sums_of ws u) (long_clue ++ (take end b ++ more))

pub record LongStill (s : Settings) (ws b : List ℕ) (u : List Figures) (end clues : ℕ) (u' : List Figures) : Type 0 where
  pub counts : Counts s ws u' clues
  pub few : clues ≤ most_clues
  pub still : (more : List ℕ) → counting s ws clues u' (long_clue ++ more)
      ≡ counting s ws clues u (long_clue ++ (take end b ++ more))
  pub sums_still : (more : List ℕ) → counting s ws clues (sums_of ws u') (long_clue ++ more)
      ≡ counting s ws clues (sums_of ws u) (long_clue ++ (take end b ++ more))

abbrev pub LongEnded : (s : Settings) (ws b : List ℕ) (u : List Figures) (end clues : ℕ) → Option Ended → (u' : List Figures) → Type 0
LongEnded s ws b u end clues (Some r) u' = LongGone s ws b u end clues r u'
LongEnded s ws b u end clues None u' = LongStill s ws b u end clues u'

module _ (s : Settings) (ws b : List ℕ) (u : List Figures) (end clues stop : ℕ) (f : end ≤ length b) (h : clues < most_clues) (stop_is : stop ≡ 0 + before_feed (take end b)) where
  block_length : length (take end b) ≡ end
  block_length = length-take-le end b f

  pub long-still : Counts s ws u clues → end ≤ stop → LongStill s ws b u end clues u
  long-still c none =
      let x = take end b in
      let whole = long_clue ++ x in
      let long : text_limit < length whole = omega (arith, long-long, length-append long_clue x) in
      let feed : NoFeed whole =
      omega (arith, feed_after long_clue x long_feed, length-append long_clue x, stop_is, block_length, before-most x)
      in
      let same : (fs : List Figures) (more : List ℕ) → counting s ws clues fs (long_clue ++ more) ≡ counting s ws clues fs (long_clue ++ (x ++ more)) =
      λ fs more.
      long_same s ws clues fs long_clue whole more long-long long_feed long feed
      ∙ ap (counting s ws clues fs) (append_assoc long_clue x more)
      in
      record { counts = c; few = omega arith; still = same u; sums_still = same (sums_of ws u) }

  pub long-ended : (u' : List Figures) (n : ℕ) → LongAdded s ws u clues n u' → stop < end → LongGone s ws b u end clues (record { at = stop + 1; clues = n }) u'
  long-ended u' n a w =
      let x = take end b in
      let k = before_feed x in
      let t = long_clue ++ take k x in
      let place : stop + 1 ≡ suc k = omega (arith, stop_is) in
      let inside : before_feed (long_clue ++ x) < length (long_clue ++ x) =
      omega (arith, feed_after long_clue x long_feed, length-append long_clue x, stop_is, block_length)
      in
      let lines : (more : List ℕ) → stream_lines (long_clue ++ (x ++ more)) ≡ t ∷ stream_lines (drop (suc k) x ++ more) =
      λ more.
      ap stream_lines (sym (append_assoc long_clue x more)) ∙ ended-line (long_clue ++ x) more inside
      ∙ (let line = line_after long_clue x long_feed in let rest = rest-after long_clue x long_feed in λ i. line i ∷ stream_lines (rest i ++ more))
      in
      let long : text_limit < length t = omega (arith, long-long, length-append long_clue (take k x)) in
      let on : (fs gs : List Figures) → gs ≡ with_clue s ws fs t → (more : List ℕ) → counting s ws n gs (drop (stop + 1) x ++ more) ≡ counting s ws clues fs (long_clue ++ (x ++ more)) =
      λ fs gs added more.
      (λ i. counting s ws (a.counted i) gs (drop (place i) x ++ more))
      ∙ one-counted s ws clues fs gs t (long_clue ++ (x ++ more)) (drop (suc k) x ++ more) h added (lines more)
      in
      record {
        counts = rw a.counted a.counts;
        few = omega (arith, a.counted);
        within = omega arith;
        ended = on u u' (a.added t long);
        sums_ended = on (sums_of ws u) (sums_of ws u') (a.sums_added t long);
      }

-- ---- what a block leaves

pub record Stepped (s : Settings) (ws : List ℕ) (u' : List Figures) (room : ℕ) (r : Step) : Type 0 where
  pub counts : Counts s ws u' r.clues
  pub few : r.clues ≤ most_clues
  pub inside : held_in r < room

pub stepped : (s : Settings) (ws : List ℕ) (u : List Figures) (n room : ℕ) (r : Step) → Counts s ws u n → n ≤ most_clues → r.clues ≡ n → held_in r < room
    → Stepped s ws u room r
stepped s ws u n room r c f e i = record { counts = rw e c; few = omega (arith, e); inside = i }

-- ---- the end of the input

-- What is held is a clue that is too long, none, or one of the bytes that are held, though it has no line feed.
pub record LastCounted (s : Settings) (ws b : List ℕ) (u : List Figures) (r : Step) (u' : List Figures) : Type 0 where
  pub long : too_long r ≡ true → (t : List ℕ) → text_limit < length t → u' ≡ with_clue s ws u t
  pub none : too_long r ≡ false → held_in r ≡ 0 → u' ≡ u
  pub some : too_long r ≡ false → (held_in r ≡ 0 → ⊥) → u' ≡ with_clue s ws u (take (held_in r) b)

module _ (s : Settings) (ws b : List ℕ) (u : List Figures) (r : Step) where
  pub last-long : (u' : List Figures) → too_long r ≡ true → ((t : List ℕ) → text_limit < length t → u' ≡ with_clue s ws u t)
      → LastCounted s ws b u r u'
  last-long u' l h =
      record {
        long = λ _. h;
        none = λ e. absurd (false≢true (sym e ∙ l));
        some = λ e. absurd (false≢true (sym e ∙ l));
      }

  module _ (short : too_long r ≡ false) where
    pub last_none : held_in r ≡ 0 → LastCounted s ws b u r u
    last_none z = record { long = λ e. absurd (false≢true (sym short ∙ e)); none = λ _ _. refl; some = λ _ d. absurd (d z) }

    pub last_some : (u' : List Figures) → (held_in r ≡ 0 → ⊥) → u' ≡ with_clue s ws u (take (held_in r) b) → LastCounted s ws b u r u'
    last_some u' d e = record { long = λ l. absurd (false≢true (sym short ∙ l)); none = λ _ z. absurd (d z); some = λ _ _. e }

-- What is said of the array holds of the figures of the widths.
pub last-sums : (s : Settings) (ws b : List ℕ) (u : List Figures) (r : Step) (u' : List Figures) → length ws ≤ length u → LastCounted s ws b u r u'
    → LastCounted s ws b (sums_of ws u) r (sums_of ws u')
last-sums s ws b u r u' h l =
    record {
      long = λ e t big. ap (sums_of ws) (l.long e t big) ∙ sums-with_clue s ws u t h;
      none = λ e z. ap (sums_of ws) (l.none e z);
      some = λ e d. ap (sums_of ws) (l.some e d) ∙ sums-with_clue s ws u (take (held_in r) b) h;
    }

-- ---- places in a buffer

pub feed_within : (b : List ℕ) (at end stop : ℕ) → at ≤ end → end ≤ length b → stop ≡ at + before_feed (drop at (take end b))
    → (at ≤ stop) × (stop ≤ end)
feed_within b at end stop h f e =
    (omega (arith, e), omega (arith, e, before-most (drop at (take end b)), length-drop at (take end b), length-take-le end b f))

-- ---- before the first clue, the sums are those of no text

none_of : Of 0 no_figures
none_of = record { texts = refl; lines = omega arith; broken = omega arith; dropped = omega arith; long = omega arith; invalid = omega arith }

none-each : (ws : List ℕ) → EachOf 0 ws (none_yet ws)
none-each [] = tt
none-each (w ∷ ws) = (none_of, none-each ws)

-- In an array of them, however long it is.
pub zero-sums : (ws : List ℕ) (n : ℕ) → sums_of ws (replicate n no_figures) ≡ none_yet ws
unfolding sums_of
zero-sums [] n = refl
zero-sums (w ∷ ws) zero = ap (λ (fs : List Figures). no_figures ∷ fs) (zero-sums ws zero)
zero-sums (w ∷ ws) (suc n) = ap (λ (fs : List Figures). no_figures ∷ fs) (zero-sums ws n)

pub zero-counts : (s : Settings) (ws : List ℕ) (n : ℕ) (f : Figures) → f ≡ no_figures → FineSettings s → Narrow ws → length ws ≤ n → Counts s ws (replicate n f) 0
zero-counts s ws n f e fine w h =
    let sums : sums_of ws (replicate n f) ≡ none_yet ws = ap (λ (g : Figures). sums_of ws (replicate n g)) e ∙ zero-sums ws n in
    record { settings = fine; widths = w; room = omega (arith, length-replicate n f); each = subst (EachOf 0 ws) (sym sums) (none-each ws) }

-- And in so many of its figures as there are widths.
pub first-zeros : (ws : List ℕ) (n : ℕ) → length ws ≤ n → take (length ws) (replicate n no_figures) ≡ none_yet ws
first-zeros [] n h = refl
first-zeros (w ∷ ws) zero h = absurd (omega arith)
first-zeros (w ∷ ws) (suc n) h = ap (λ (fs : List Figures). no_figures ∷ fs) (first-zeros ws n (omega arith))

pub first-counts : (s : Settings) (ws : List ℕ) (n : ℕ) (f : Figures) → f ≡ no_figures → FineSettings s → Narrow ws → length ws ≤ n
    → Counts s ws (take (length ws) (replicate n f)) 0
first-counts s ws n f e fine w h =
    let sums = ap (λ (g : Figures). take (length ws) (replicate n g)) e ∙ first-zeros ws n h in
    exact-counts s ws (take (length ws) (replicate n f)) 0 fine w (subst (EachOf 0 ws) (sym sums) (none-each ws))
