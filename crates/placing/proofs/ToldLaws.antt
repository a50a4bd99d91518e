-- The loop over the characters of a line that is told by its bytes: its start, its turns and where it stops (rule 8, rule 10).
-- Assumes nothing.
use mathlib.Core.Path.{◌≡◌, refl, sym, ap, subst}
use mathlib.Core.Bool.{true, false}
use mathlib.Core.List.{List}
use Prim.Native.Nat.{ℕ, ◌+◌, ◌-◌, ◌≤◌, ◌<◌}
use native.Mathlib.Omega.{arith}
use borrow.Author.Tests.{lt-ltb}
use lib.Dec.{eqb}
use lib.ListN.{length, get_or}
use Rattle.basis.specs.Choice.{pick}
use Rattle.meaning.specs.Characters.{in_word}
use Rattle.parser.specs.Lexing.{chars_from}
use Rattle.parser.specs.Scanning.{glue_of, scanned_at, scan_from}
use Rattle.parser.specs.Ascii.{space_at, feed_at, is_ender, ender_at}
use Rattle.parser.specs.Letters.{Letter, Lettered}
use Rattle.parser.specs.LetterLaws.{spells-room, ends-ender}
use Rattle.pairs.specs.PlainWords.{Found}
use Rattle.pairs.specs.Told.{Goes, ToldWord, told_none, told-letters, told_more, told-read}
use Rattle.pairs.specs.PairLaws.{blank-space, pair_is}
use Rattle.pairs.specs.WithinLaws.{first_short}
use Rattle.placing.specs.Quick.{Counting}
use Rattle.placing.specs.Plain.{FoundRow}
use Rattle.placing.specs.Told.{WordsTo, Within}
use Rattle.placing.proofs.CountingLaws.{counting-first, counting_more}
use Rattle.placing.proofs.FoundLaws.{wait_row}

-- What ends a word and is neither a space nor the text's end is a line feed.
pub feed_there : (t : List ℕ) (at : ℕ) → at < length t → ender_at t at ≡ true → space_at t at ≡ false → feed_at t at ≡ true
unfolding ender_at space_at feed_at pick
feed_there t at h e n =
    let b = get_or t at 0 in
    let none : eqb b 0x20 ≡ false = rw (lt-ltb at (length t) h) at n in
    let one : is_ender b ≡ true = rw (lt-ltb at (length t) h) at e in
    rw (lt-ltb at (length t) h) (rw none at one)

-- A word that starts with a letter of k bytes and is told to its end.
record Reads (t : List ℕ) (from k end conts glues : ℕ) : Type 0 where
  letter : Letter t from k
  told : ToldWord t (from + k) end conts glues

abbrev chars_in : (from k end conts : ℕ) → ℕ
chars_in from k end conts = end - (from + k) - conts + 1

-- What stands before a word of a line, so many characters with the space before it: the words up to it, if there are any, are counted with it
-- where it fits, and make a line where it does not.
record Ahead (t : List ℕ) (at most from k gap next columns : ℕ) : Type 0 where
  takes : (end conts glues : ℕ) → Reads t from k end conts glues → gap + chars_in from k end conts ≤ most
      → WordsTo t at most end (gap + chars_in from k end conts)
  waits : Found next ((end conts glues : ℕ) → Reads t from k end conts glues → most < gap + chars_in from k end conts
      → FoundRow t at most columns next (columns + 1) (end + 1))

module _ {t : List ℕ} {at most : ℕ} where
  ahead-first : (k : ℕ) → Ahead t at most at k 0 0 0
  unfolding scanned_at
  ahead-first k =
      record {
        takes = λ end conts glues x h.
            let g = x.told.goes in
            let m = end - (at + k) - conts in
            let n = chars_in at k end conts in
            let w = scanned_at end n glues 1 in
            let a : 1 + m ≡ n = omega arith in
            let z : n ≡ 0 + n = omega arith in
            let f = first_short t at most k end m glues 1 x.letter g.on (ends-ender t end x.told.ends) (omega arith) w
            (ap (λ (j : ℕ). scanned_at end j glues 1) (sym a)) in
            record {
              forward = omega (arith, g.few, spells-room t at k 0 x.letter);
              inside = g.on.inside;
              some = omega arith;
              spaces = glues;
              counting = subst (λ (j : ℕ). Counting t at most end j glues) z (counting-first w f);
            };
        waits = λ d. absurd (d refl);
      }

  module _ (to columns : ℕ) (c : WordsTo t at most to columns) (space : space_at t to ≡ true) where
    ahead_more : (k : ℕ) → columns < most → Ahead t at most (to + 1) k (columns + 1) (to + 1) columns
    unfolding scanned_at
    ahead_more k less =
        record {
          takes = λ end conts glues x h.
              let g = x.told.goes in
              let n = chars_in (to + 1) k end conts in
              let w = scanned_at end n glues 1 in
              let all : columns + (1 + n) ≡ columns + 1 + n = omega arith in
              record {
                forward = omega (arith, c.forward, g.few);
                inside = g.on.inside;
                some = omega arith;
                spaces = c.spaces + (1 + glues);
                counting = subst (λ (j : ℕ). Counting t at most end j (c.spaces + (1 + glues))) all
                    (counting_more w (told-read t to k end conts glues space x.letter x.told w refl) c.counting (omega arith));
              };
          waits = λ _ end conts glues x h.
              let w = scanned_at end (chars_in (to + 1) k end conts) glues 1 in
              wait_row c (to + 1 + k) w (told-read t to k end conts glues space x.letter x.told w refl) (omega arith) (end + 1)
              (λ _. refl) (λ all. absurd (omega arith));
        }

    -- They fill the line, and a letter stands behind the space.
    full-row : (k : ℕ) → columns ≡ most → Letter t (to + 1) k → FoundRow t at most columns (to + 1) (columns + 1) (to + 1 + k)
    full-row k all l =
        let w = scan_from in_word glue_of (to + 1 + k) 1 0 (chars_from t (to + 1 + k)) in
        wait_row c (to + 1 + k) w (pair_is t to 1 k (blank-space t to space) l w refl) (omega arith) (to + 1 + k)
        (λ less. absurd (omega arith)) (λ _. refl)

-- ---- the loop

-- From a line's start up to a position stand words, of which the last may go on: characters begin at as many bytes as from the base on. Those
-- before the last make the line up to `next` if it does not fit.
pub record Walk (t : List ℕ) (at most to base next columns : ℕ) : Type 0 where
  from : ℕ
  k : ℕ
  gap : ℕ
  conts : ℕ
  glues : ℕ
  letter : Letter t from k
  goes : Goes t (from + k) to conts glues
  ahead : Ahead t at most from k gap next columns
  sum : base + gap + 1 ≡ from + k + conts
  low : next ≤ from

module _ {t : List ℕ} {at most : ℕ} where
  pub walk_start : (k : ℕ) → Letter t at k → Walk t at most (at + k) (at + k - 1) 0 0
  walk_start k l =
      let r = spells-room t at k 0 l in
      record {
        from = at;
        k = k;
        gap = 0;
        conts = 0;
        glues = 0;
        letter = l;
        goes = told_none t (at + k) r.2;
        ahead = ahead-first k;
        sum = omega arith;
        low = omega arith;
      }

  module _ {to base next columns : ℕ} (x : Walk t at most to base next columns) where
    -- No number grows past the text.
    pub walk_inside : (base < to) × (to ≤ length t) × (next ≤ to)
    walk_inside = omega (arith, x.sum, x.goes.few, x.goes.on.inside, x.low)

    pub walk-letters : (end : ℕ) → Lettered t to end → Walk t at most end base next columns
    walk-letters end l =
        record {
          from = x.from;
          k = x.k;
          gap = x.gap;
          conts = x.conts;
          glues = x.glues;
          letter = x.letter;
          goes = told-letters t (x.from + x.k) to x.conts x.glues x.goes end l;
          ahead = x.ahead;
          sum = x.sum;
          low = x.low;
        }

    pub walk_more : (n : ℕ) → Within t to n → Walk t at most (to + n) (base + (n - 1)) next columns
    walk_more n c =
        let r = spells-room t to n c.glues c.spells in
        record {
          from = x.from;
          k = x.k;
          gap = x.gap;
          conts = x.conts + (n - 1);
          glues = x.glues + c.glues;
          letter = x.letter;
          goes = told_more t (x.from + x.k) to x.conts x.glues x.goes n c.glues c.spells;
          ahead = x.ahead;
          sum = omega (arith, x.sum);
          low = x.low;
        }

    -- The last word ends there.
    module _ (ends : ender_at t to ≡ true) where
      read : Reads t x.from x.k to x.conts x.glues
      read = record { letter = x.letter; told = record { goes = x.goes; ends = ends } }

      all : x.gap + chars_in x.from x.k to x.conts ≡ to - base
      all = omega (arith, x.sum, x.goes.few)

      pub walk-fits : to - base ≤ most → WordsTo t at most to (to - base)
      walk-fits h = subst (WordsTo t at most to) all (x.ahead.takes to x.conts x.glues read (omega (arith, all)))

      pub walk-waits : most < to - base → Found next (FoundRow t at most columns next (columns + 1) (to + 1))
      walk-waits h d = x.ahead.waits d to x.conts x.glues read (omega (arith, all))

      -- And a letter stands behind one space.
      module _ (space : space_at t to ≡ true) (k : ℕ) (l : Letter t (to + 1) k) where
        pub walk-full : to - base ≡ most → FoundRow t at most (to - base) (to + 1) (to - base + 1) (to + 1 + k)
        walk-full h = full-row to (to - base) (walk-fits (omega arith)) space k h l

        pub walk-next : to - base < most → Walk t at most (to + 1 + k) (base + (k - 1)) (to + 1) (to - base)
        walk-next h =
            let r = spells-room t (to + 1) k 0 l in
            record {
              from = to + 1;
              k = k;
              gap = to - base + 1;
              conts = 0;
              glues = 0;
              letter = l;
              goes = told_none t (to + 1 + k) r.2;
              ahead = ahead_more to (to - base) (walk-fits (omega arith)) space k h;
              sum = omega (arith, walk_inside);
              low = omega arith;
            }
