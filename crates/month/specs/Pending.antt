-- What is pending between two blocks of a stream: the bytes that are read of a clue that has not ended, and the figures at the end of the
-- stream as they follow from it (rule 10, refusal 3).
-- Assumes nothing.
use Prim.Native.Nat.{ℕ, zero, suc, ◌+◌, ◌-◌, ◌≤◌, ◌<◌}
use Rattle.meaning.specs.Refusals.{Checked}
use Rattle.std.specs.Prelude.{◌≡◌, Bool, true, false, eqb, length, drop, replicate, Err, not, is_some, unwrap_or}
use Rattle.std.proofs.Math.Path.{refl, ap}
use Rattle.std.proofs.Common.{sym, ◌∙◌, zero-add}
use mathlib.Core.List.{List, [], ◌∷◌, ◌++◌}
use native.Mathlib.Omega.{arith}
use Rattle.std.proofs.Math.ListN.{take, length-append}
use Rattle.std.proofs.lemmas.List.{length-replicate}
use Rattle.std.proofs.Math.Seq.{take-append-add, drop-append-add}
use Rattle.basis.specs.Choice.{pick, pick_true, pick-false, by_test}
use Rattle.meaning.specs.Checks.{text_limit}
use Rattle.meaning.specs.Month.{most_clues, figures_by, together, onto_first, stream_lines}
use Rattle.meaning.specs.declared.settings.Settings.{Settings}
use Rattle.meaning.specs.declared.figures.Figures.{Figures}
use Rattle.meaning.specs.declared.refusals.Refusal.TheVariants.{TextTooLong}
use Rattle.checks.specs.TextLaws as text
use Rattle.clues.specs.Summing.{added_to}
use Rattle.clues.specs.Gathering.{with_clue, with_clues}
use Rattle.clues.specs.Feeds.{before_feed}
use Rattle.clues.specs.Counting.{counting}
use Rattle.month.specs.declared.block.Step.{Step}

-- Bytes of a clue that is too long already. Which bytes they are does not matter (`long_same`).
unfoldable pub long_clue : List ℕ
long_clue = replicate 65536 0

-- Is the next clue too long already; and how many bytes of it are held, none where it is.
abbrev pub too_long : Step → Bool
too_long r = not (is_some r.held)

abbrev pub held_in : Step → ℕ
held_in r = unwrap_or r.held 0

-- The bytes that are read of the next clue: those at the buffer's front, or too many.
unfoldable pub pending : Step → (buffer : List ℕ) → List ℕ
pending r b = pick (too_long r) long_clue (take (held_in r) b)

-- The block that was read behind them, up to a place.
unfoldable pub block_of : Step → (buffer : List ℕ) → (end : ℕ) → List ℕ
block_of r b end = pick (too_long r) (take end b) (drop (held_in r) (take end b))

-- The figures at the end, where these are the sums, this is pending, and the stream goes on with these bytes.
unfoldable pub ending : Settings → (widths : List ℕ) (sums : List Figures) (buffer : List ℕ) → Step → (more : List ℕ) → List Figures
ending s ws u b r more = counting s ws r.clues u (pending r b ++ more)

-- No line feed stands in these bytes.
abbrev pub NoFeed : List ℕ → Type 0
NoFeed xs = before_feed xs ≡ length xs

-- ---- lines

first-line : (xs : List ℕ) → 0 < length xs → stream_lines xs ≡ take (before_feed xs) xs ∷ stream_lines (drop (suc (before_feed xs)) xs)
unfolding stream_lines onto_first before_feed pick
first-line [] h = absurd (omega arith)
first-line (x ∷ []) h = by_test (eqb x 10) (λ e. rw e) (λ e. rw e)
first-line (x ∷ (y ∷ ys)) h = by_test (eqb x 10) (λ e. rw e) (λ e. rw e (ap (onto_first x) (first-line (y ∷ ys) (omega arith))))

zeros_feed : (n : ℕ) → NoFeed (replicate n 0)
unfolding before_feed pick
zeros_feed zero = refl
zeros_feed (suc n) = ap suc (zeros_feed n)

zeros_long : (n : ℕ) → text_limit < n → text_limit < length (replicate {A = ℕ} n 0)
zeros_long n h = omega (arith, length-replicate {A = ℕ} n 0)

pub long-long : text_limit < length long_clue
unfolding long_clue
long-long = zeros_long 65536 (omega arith)

pub long_feed : NoFeed long_clue
unfolding long_clue
long_feed = zeros_feed 65536

-- The first line feed behind bytes with none.
pub feed_after : (p more : List ℕ) → NoFeed p → before_feed (p ++ more) ≡ length p + before_feed more
unfolding before_feed pick
feed_after [] more h = sym (zero-add (before_feed more))
feed_after (x ∷ p) more h =
    by_test (eqb x 10)
    (λ e. let g : pick (eqb x 10) 0 (suc (before_feed p)) ≡ suc (length p) = h in let k = rw e at g in absurd (omega arith))
    (λ e. let g : pick (eqb x 10) 0 (suc (before_feed p)) ≡ suc (length p) = h in let k = rw e at g in rw e (omega (arith, feed_after p more (let z : before_feed p ≡ length p = omega arith in z))))

module _ (p more : List ℕ) (h : NoFeed p) where
  pub line_after : take (before_feed (p ++ more)) (p ++ more) ≡ p ++ take (before_feed more) more
  line_after = ap (λ (n : ℕ). take n (p ++ more)) (feed_after p more h) ∙ take-append-add p more (before_feed more)

  pub rest-after : drop (suc (before_feed (p ++ more))) (p ++ more) ≡ drop (suc (before_feed more)) more
  rest-after =
      let next : suc (before_feed (p ++ more)) ≡ length p + suc (before_feed more) = omega (arith, feed_after p more h) in
      ap (λ (n : ℕ). drop n (p ++ more)) next ∙ drop-append-add p more (suc (before_feed more))

  -- The line that they begin.
  pub begun-line : 0 < length p → stream_lines (p ++ more) ≡ (p ++ take (before_feed more) more) ∷ stream_lines (drop (suc (before_feed more)) more)
  begun-line some = first-line (p ++ more) (omega (arith, length-append p more)) ∙ (λ i. line_after i ∷ stream_lines (rest-after i))

-- ---- figures

pub any_long : (s : Settings) (t t' : List ℕ) (m n : ℕ) (ws : List ℕ) (fs : List Figures)
    → added_to s t (Err (TextTooLong m)) ws fs ≡ added_to s t' (Err (TextTooLong n)) ws fs
unfolding added_to figures_by
any_long s t t' m n [] fs = refl
any_long s t t' m n (w ∷ ws) [] = refl
any_long s t t' m n (w ∷ ws) (f ∷ fs) = ap (λ (gs : List Figures). together f (figures_by (Err (TextTooLong m)) []) ∷ gs) (any_long s t t' m n ws fs)

module _ (s : Settings) (ws : List ℕ) where
  with_long : (fs : List Figures) (t t' : List ℕ) → text_limit < length t → text_limit < length t' → with_clue s ws fs t ≡ with_clue s ws fs t'
  unfolding with_clue
  with_long fs t t' h h' =
      ap (λ (k : Checked). added_to s t k ws fs) (sym (text.too_long t h)) ∙ any_long s t t' (length t) (length t') ws fs
      ∙ ap (λ (k : Checked). added_to s t' k ws fs) (text.too_long t' h')

  first-long : (k : ℕ) (fs : List Figures) (t t' : List ℕ) (ts : List (List ℕ)) → text_limit < length t → text_limit < length t'
      → with_clues s ws fs (take k (t ∷ ts)) ≡ with_clues s ws fs (take k (t' ∷ ts))
  unfolding with_clues
  first-long zero fs t t' ts h h' = refl
  first-long (suc k) fs t t' ts h h' = ap (λ (gs : List Figures). with_clues s ws gs (take k ts)) (with_long fs t t' h h')

  -- Which bytes a clue has that is too long does not matter.
  pub long_same : (n : ℕ) (fs : List Figures) (p q more : List ℕ) → text_limit < length p → NoFeed p → text_limit < length q → NoFeed q
      → counting s ws n fs (p ++ more) ≡ counting s ws n fs (q ++ more)
  unfolding counting
  long_same n fs p q more h f h' f' =
      let begun = take (before_feed more) more in
      let rest = stream_lines (drop (suc (before_feed more)) more) in
      ap (λ (ts : List (List ℕ)). with_clues s ws fs (take (most_clues - n) ts)) (begun-line p more f (omega arith))
      ∙ first-long (most_clues - n) fs (p ++ begun) (q ++ begun) rest (omega (arith, length-append p begun)) (omega (arith, length-append q begun))
      ∙ ap (λ (ts : List (List ℕ)). with_clues s ws fs (take (most_clues - n) ts)) (sym (begun-line q more f' (omega arith)))

  -- Nothing is counted behind as many clues as a month may have.
  pub full-same : (n : ℕ) (fs : List Figures) (xs : List ℕ) → most_clues ≤ n → counting s ws n fs xs ≡ fs
  unfolding counting with_clues
  full-same n fs xs h = let none : most_clues - n ≡ 0 = omega arith in rw none

  -- One clue is counted.
  pub one-counted : (n : ℕ) (fs gs : List Figures) (t bytes rest : List ℕ) → n < most_clues → gs ≡ with_clue s ws fs t
      → stream_lines bytes ≡ t ∷ stream_lines rest → counting s ws (n + 1) gs rest ≡ counting s ws n fs bytes
  unfolding counting with_clues
  one-counted n fs gs t bytes rest h e lines = let more : most_clues - n ≡ suc (most_clues - (n + 1)) = omega arith in rw (more, lines, e)

-- ---- the state of a step

module _ (r : Step) (b : List ℕ) where
  module _ (e : too_long r ≡ false) where
    pub pending-short : pending r b ≡ take (held_in r) b
    unfolding pending
    pending-short = pick-false (too_long r) long_clue (take (held_in r) b) e

    pub block_short : (end : ℕ) → block_of r b end ≡ drop (held_in r) (take end b)
    unfolding block_of
    block_short end = pick-false (too_long r) (take end b) (drop (held_in r) (take end b)) e

  module _ (e : too_long r ≡ true) where
    pub pending-long : pending r b ≡ long_clue
    unfolding pending
    pending-long = pick_true (too_long r) long_clue (take (held_in r) b) e

    pub block_long : (end : ℕ) → block_of r b end ≡ take end b
    unfolding block_of
    block_long end = pick_true (too_long r) (take end b) (drop (held_in r) (take end b)) e

-- The figures at the end, where what is pending is known.
pub ending_of_lem : (s : Settings) (ws : List ℕ) (u : List Figures) (b : List ℕ) (r : Step) (n : ℕ) (p more : List ℕ) → r.clues ≡ n → pending r b ≡ p
    → ending s ws u b r more ≡ counting s ws n u (p ++ more)
unfolding ending
ending_of_lem s ws u b r n p more e f = λ i. counting s ws (e i) u (f i ++ more)
