-- The numbers of a line, read word by word into an array.
-- Assumes nothing.
use Rattle.std.specs.Prelude.{ℕ, ◌+◌, ◌≤◌, ◌<◌, ◌≡◌, refl, true, false, ◌&&◌, List, [], ◌∷◌, ◌++◌, Option, None, Some, eqb, leb, ltb, length, get_or, set, take, drop, unwrap_or}
use Rattle.std.proofs.Common.{sym, ap, ◌∙◌, arith, add-one, length-set, drop_of_length-le}
use Rattle.std.proofs.lemmas.Bool.{lt-ltb, le-ltb}
use Rattle.std.proofs.Math.Seq.{drop-cons, take-suc-set, length-take-le}
use Rattle.std.specs.List.{slice_split, onto_first}
use Rattle.std.proofs.lemmas.List.Splits.{slice_split-cons_yes, slice_split-cons_no, length-slice_split}
use Rattle.basis.specs.Choice.{pick, by_test}
use Rattle.console.specs.Digits.{is_digit, one_more, decimal_from, decimal_in}
use Rattle.replay.specs.Numbers.{fed_of, feed_on, read_from, line_numbers}

-- The bytes between any two spaces.
abbrev pub words : List ℕ → List (List ℕ)
words bs = slice_split (λ b. eqb b 32) bs

-- The number of a word of which the rest is these bytes, after what was read of it.
unfoldable pub word_number : Option ℕ → List ℕ → Option ℕ
word_number None w = decimal_in 0xFFFFFFFF w
word_number (Some v) w = decimal_from 0xFFFFFFFF v w

abbrev pub after_word : Option ℕ → (room : ℕ) → List ℕ → (List ℕ → List ℕ) → List ℕ
after_word None room ns more = []
after_word (Some v) room ns more = let m = more (ns ++ v ∷ []) in pick (ltb (length ns) room) m []

-- The numbers of words, behind those so far; of the first word so much was read.
unfoldable pub words_from : (room : ℕ) → List ℕ → Option ℕ → List (List ℕ) → List ℕ
words_from room ns n [] = ns
words_from room ns n (w ∷ ws) = after_word (word_number n w) room ns (λ ms. words_from room ms None ws)

-- ---- they are those that are read byte by byte

module _ (room : ℕ) (ns : List ℕ) (b : ℕ) where
  space-on : (n : Option ℕ) (ws : List (List ℕ)) (more : List ℕ → Option ℕ → List ℕ) → eqb b 32 ≡ true
      → ((ms : List ℕ) → more ms None ≡ words_from room ms None ws)
      → feed_on (fed_of n b) room ns (unwrap_or n 0) more ≡ words_from room ns n ([] ∷ ws)
  unfolding fed_of words_from word_number decimal_in decimal_from pick
  space-on None ws more e h = rw e
  space-on (Some v) ws more e h = rw (e, h (ns ++ v ∷ []))

  grown : (n : Option ℕ) (w : List ℕ) → word_number n (b ∷ w)
      ≡ pick (is_digit b) (pick (leb (one_more (unwrap_or n 0) b) 0xFFFFFFFF) (decimal_from 0xFFFFFFFF (one_more (unwrap_or n 0) b) w) None) None
  unfolding word_number decimal_in decimal_from
  grown None w = refl
  grown (Some v) w = refl

  digit-on : (n : Option ℕ) (w : List ℕ) (ws : List (List ℕ)) (more : List ℕ → Option ℕ → List ℕ) → eqb b 32 ≡ false
      → ((m : Option ℕ) → more ns m ≡ words_from room ns m (w ∷ ws))
      → feed_on (fed_of n b) room ns (unwrap_or n 0) more ≡ words_from room ns n ((b ∷ w) ∷ ws)
  unfolding fed_of words_from word_number is_digit pick
  digit-on n w ws more e h =
      let v = one_more (unwrap_or n 0) b in
      by_test (leb 48 b && leb b 57)
      (λ d. by_test (leb v 0xFFFFFFFF) (λ f. rw (grown n w, e, d, f) (h (Some v))) (λ f. rw (grown n w, e, d, f)))
      (λ d. rw (grown n w, e, d))

first-word : (room : ℕ) (ns : List ℕ) (b : ℕ) (n : Option ℕ) (ws : List (List ℕ)) (more : List ℕ → Option ℕ → List ℕ) → eqb b 32 ≡ false → 1 ≤ length ws
    → ((m : Option ℕ) → more ns m ≡ words_from room ns m ws)
    → feed_on (fed_of n b) room ns (unwrap_or n 0) more ≡ words_from room ns n (onto_first b ws)
first-word room ns b n [] more e l h = absurd (omega arith)
first-word room ns b n (w ∷ ws) more e l h = digit-on room ns b n w ws more e h

by_words : (room : ℕ) (bs ns : List ℕ) (n : Option ℕ) → read_from room ns n bs ≡ words_from room ns n (words bs)
unfolding read_from words_from word_number decimal_in decimal_from pick
by_words room [] ns None = refl
by_words room [] ns (Some v) = refl
by_words room (b ∷ bs) ns n =
    let more = λ (ms : List ℕ) (m : Option ℕ). read_from room ms m bs in
    let some : 1 ≤ length (words bs) = omega (arith, length-slice_split (λ (k : ℕ). eqb k 32) bs) in
    by_test (eqb b 32)
    (λ e. space-on room ns b n (words bs) more e (λ ms. by_words room bs ms None)
    ∙ ap (words_from room ns n) (sym (slice_split-cons_yes (λ (k : ℕ). eqb k 32) b bs e)))
    (λ e. first-word room ns b n (words bs) more e some (λ m. by_words room bs ns m)
    ∙ ap (words_from room ns n) (sym (slice_split-cons_no (λ (k : ℕ). eqb k 32) b bs e)))

-- ---- word by word

-- The line's numbers are those that the array holds so far, and those of the words that are left.
pub record Reading (line : List ℕ) (room : ℕ) (array : List ℕ) (count : ℕ) : Type 0 where
  pub reads : line_numbers room line ≡ words_from room (take count array) None (drop count (words line))
  pub long : length array ≡ room
  pub within : count ≤ room

pub reading_start : (line start : List ℕ) → Reading line (length start) start 0
unfolding line_numbers
reading_start line start = record { reads = by_words (length start) line [] None; long = refl; within = omega arith }

-- A word is the next one.
abbrev pub NextWord : (line : List ℕ) (count : ℕ) (w : List ℕ) → Type 0
NextWord line count w = (count < length (words line)) × (w ≡ get_or (words line) count w)

pub next_word : (line w : List ℕ) {count n : ℕ} → count ≡ n → NextWord line n w → NextWord line count w
next_word line w e h = rw e h

module _ {line : List ℕ} {room : ℕ} {array : List ℕ} {count : ℕ} (h : Reading line room array count) where
  stored : length (take count array) ≡ count
  stored = length-take-le count array (omega (arith, h.long, h.within))

  -- The next word is this one.
  module _ (w : List ℕ) (turn : NextWord line count w) where
    on : line_numbers room line
        ≡ after_word (decimal_in 0xFFFFFFFF w) room (take count array) (λ ms. words_from room ms None (drop (count + 1) (words line)))
    unfolding words_from word_number
    on =
        let ws = words line in
        let next : drop count ws ≡ w ∷ drop (count + 1) ws =
        drop-cons ws count w turn.0 ∙ (λ i. sym turn.1 i ∷ drop (sym (add-one count) i) ws)
        in
        h.reads ∙ ap (words_from room (take count array) None) next

    pub reading_stopped : decimal_in 0xFFFFFFFF w ≡ None → line_numbers room line ≡ []
    reading_stopped e = on ∙ rw e

    module _ (v : ℕ) (e : decimal_in 0xFFFFFFFF w ≡ Some v) where
      pub reading_full : length array ≤ count → line_numbers room line ≡ []
      unfolding pick
      reading_full full = on ∙ rw (e, stored, le-ltb count room (omega (arith, h.long)))

      pub reading_next : count < length array → Reading line room (set array count v) (count + 1)
      unfolding pick
      reading_next less =
          let more : take (count + 1) (set array count v) ≡ take count array ++ v ∷ [] = rw add-one (take-suc-set array count v less) in
          record {
            reads = on ∙ rw (e, stored, lt-ltb count room (omega (arith, h.long)), more);
            long = length-set array count v ∙ h.long;
            within = omega (arith, h.long);
          }

  -- No word is left.
  pub reading_end : count ≡ length (words line) → (count ≡ length (line_numbers room line)) × (take count array ≡ line_numbers room line)
  unfolding words_from
  reading_end e =
      let all : line_numbers room line ≡ take count array = h.reads ∙ ap (words_from room (take count array) None) (drop_of_length-le (words line) (omega (arith, e))) in
      (sym (ap length all ∙ stored), sym all)
