-- The lines of a stream, found by their line feeds.
-- Assumes nothing.
use Rattle.std.specs.Prelude.{ℕ, zero, suc, ◌+◌, ◌≤◌, ◌<◌, ◌≡◌, Bool, true, not, ◌&&◌, List, [], ◌∷◌, ◌++◌, eqb, get_or, take, drop}
use Rattle.std.proofs.Common.{sym, ap, ◌∙◌, append-nil, arith, drop_of_length-le, drop-cons, length-take-le, take_all}
use Rattle.std.proofs.lemmas.Bool.{false≢true}
use Rattle.std.proofs.Math.Numerals.{add-one}
use borrow.Author.Tests.{eq-eqb, ne_eqb}
use Rattle.std.proofs.Math.ListN.{length}
use Rattle.std.proofs.Math.Seq.{get_or-take}
use Rattle.basis.specs.Choice.{pick, pick_cases, by_test, and_true}
use Rattle.basis.specs.Order.{by_lt}
use Rattle.meaning.specs.Month.{onto_first, stream_lines}

-- How many bytes stand before the first line feed, or all of them if there is none.
unfoldable pub before_feed : List ℕ → ℕ
before_feed [] = 0
before_feed (b ∷ bs) =
    let more = before_feed bs in
    pick (eqb b 10) 0 (suc more)

-- ---- the search for it, in the part of a buffer from i up to end

module _ (s : List ℕ) (end : ℕ) (long : end ≤ length s) where
  part_length : length (take end s) ≡ end
  part_length = length-take-le end s long

  module _ (i : ℕ) (h : i < end) where
    here : i < length (take end s)
    here = omega (arith, part_length)

    pub feed_here : get_or s i 0 ≡ 10 → i ≡ i + before_feed (drop i (take end s))
    unfolding before_feed pick
    feed_here e = rw (drop-cons (take end s) i 0 here, get_or-take end s i 0 h, eq-eqb _ _ e) (omega arith)

    pub feed_later : (get_or s i 0 ≡ 10 → ⊥) → i + 1 + before_feed (drop (i + 1) (take end s)) ≡ i + before_feed (drop i (take end s))
    unfolding before_feed pick
    feed_later n = rw (drop-cons (take end s) i 0 here, get_or-take end s i 0 h, add-one i, ne_eqb _ _ n) (omega arith)

  pub no_feed : (i : ℕ) → end ≤ i → i ≡ i + before_feed (drop i (take end s))
  unfolding before_feed
  no_feed i h = rw (drop_of_length-le (take end s) (let e : length (take end s) ≤ i = omega (arith, part_length) in e)) (omega arith)

-- ---- stretches with no line feed

abbrev pub Free : List ℕ → (from to : ℕ) → Type 0
Free s from to = (k : ℕ) → from ≤ k → k < to → get_or s k 0 ≡ 10 → ⊥

module _ (s : List ℕ) (from : ℕ) where
  pub free-none : Free s from from
  free-none k a b e = omega arith

  free_one : (i : ℕ) → Free s from i → (get_or s i 0 ≡ 10 → ⊥) → Free s from (i + 1)
  free_one i f n k a b e =
      by_lt k i
      (λ h. f k a h e)
      (λ h. let q : i ≡ k = omega arith in n (ap (λ (j : ℕ). get_or s j 0) q ∙ e))

  -- One byte more, tested.
  pub free-tested : (i : ℕ) (none : Bool) → (none ≡ true → Free s from i) → none && not (eqb (get_or s i 0) 10) ≡ true → Free s from (i + 1)
  free-tested i none f e =
      let both = and_true none (not (eqb (get_or s i 0) 10)) e in
      free_one i (f both.0) (λ is. false≢true (sym (ap not (eq-eqb _ _ is)) ∙ both.1))

pub skip-free : (s : List ℕ) (end : ℕ) → end ≤ length s → (i n : ℕ) → Free s i (i + n) → i + n ≤ end
    → i + n + before_feed (drop (i + n) (take end s)) ≡ i + before_feed (drop i (take end s))
skip-free s end long i zero f h = let z : i + 0 ≡ i = omega arith in rw z
skip-free s end long i (suc n) f h =
    let z : i + suc n ≡ i + n + 1 = omega arith in
    rw z
    (feed_later s end long (i + n) (omega arith) (λ e. f (i + n) (omega arith) (omega arith) e)
    ∙ skip-free s end long i n (λ k a b e. f k a (omega arith) e) (omega arith))

-- ---- the lines

pub before-most : (xs : List ℕ) → before_feed xs ≤ length xs
unfolding before_feed
before-most [] = omega arith
before-most (x ∷ xs) = pick_cases (λ (n : ℕ). n ≤ suc (length xs)) (eqb x 10) (λ _. omega arith) (λ _. omega (arith, before-most xs))

-- A line that ends is the bytes before its feed.
pub ended-line : (xs rest : List ℕ) → before_feed xs < length xs
    → stream_lines (xs ++ rest) ≡ take (before_feed xs) xs ∷ stream_lines (drop (suc (before_feed xs)) xs ++ rest)
unfolding stream_lines onto_first before_feed pick
ended-line [] rest h = absurd (omega arith)
ended-line (x ∷ xs) rest h =
    by_test (eqb x 10) (λ e. rw e) (λ e. rw e (ap (onto_first x) (ended-line xs rest (let g : pick (eqb x 10) 0 (suc (before_feed xs)) < suc (length xs) = h in let k = rw e at g in omega arith))))

-- A last line with no feed is all that is left.
last_line : (xs : List ℕ) → 0 < length xs → length xs ≤ before_feed xs → stream_lines xs ≡ xs ∷ []
unfolding stream_lines onto_first before_feed pick
last_line [] some h = absurd (omega arith)
last_line (x ∷ []) some h =
    by_test (eqb x 10) (λ e. absurd (let g : 1 ≤ pick (eqb x 10) 0 1 = h in let k = rw e at g in omega arith)) (λ e. rw e)
last_line (x ∷ y ∷ ys) some h =
    let g : suc (length (y ∷ ys)) ≤ pick (eqb x 10) 0 (suc (before_feed (y ∷ ys))) = h in
    by_test (eqb x 10)
    (λ e. absurd (let k = rw e at g in omega arith))
    (λ e. rw e (ap (onto_first x) (last_line (y ∷ ys) (omega arith) (let k = rw e at g in omega arith))))

none_after : (xs : List ℕ) → length xs ≤ before_feed xs → xs ∷ [] ≡ take (before_feed xs) xs ∷ stream_lines (drop (suc (before_feed xs)) xs)
unfolding stream_lines
none_after xs h =
    let past : length xs ≤ suc (before_feed xs) = omega arith in
    let none : drop (suc (before_feed xs)) xs ≡ [] = drop_of_length-le xs past in
    let all : take (before_feed xs) xs ≡ xs = take_all (before_feed xs) xs h in
    sym (λ i. all i ∷ stream_lines (none i))

-- One line off the front.
pub line-off : (xs : List ℕ) → 0 < length xs → stream_lines xs ≡ take (before_feed xs) xs ∷ stream_lines (drop (suc (before_feed xs)) xs)
line-off xs some =
    by_lt (before_feed xs) (length xs)
    (λ h. ap stream_lines (sym (append-nil xs)) ∙ ended-line xs [] h ∙ ap (λ (l : List ℕ). take (before_feed xs) xs ∷ stream_lines l) (append-nil (drop (suc (before_feed xs)) xs)))
    (λ h. last_line xs some h ∙ none_after xs h)
