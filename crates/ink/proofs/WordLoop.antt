-- The loop over a word's characters: what is drawn when the rest is drawn stays the same.
-- Assumes nothing.
use Prim.Native.Nat.{ℕ, zero, suc, ◌+◌, ◌-◌, ◌*◌, ◌≤◌, ◌<◌}
use mathlib.Core.Path.{◌≡◌, refl, sym, ap, ◌∙◌}
use mathlib.Core.Bool.{false}
use mathlib.Core.List.{List, [], ◌∷◌}
use native.Mathlib.Omega.{arith}
use lib.ListN.{length, take}
use Rattle.utf8.specs.Encoding.{bytes}
use Rattle.utf8.specs.Decoding.{decode_at}
use Rattle.utf8.specs.Walk.{is_char, decode_at-bytes}
use Rattle.utf8.specs.declared.sequence.Decoded.TheVariants.{Char}
use Rattle.meaning.specs.Words.{drawn, drawn_word}
use Rattle.meaning.specs.declared.cursor.Spaces.{Spaces}
use Rattle.meaning.specs.declared.line.EventKind.TheVariants.{Printed}
use Rattle.parser.specs.Lexing.{chars_from}
use Rattle.parser.specs.ScanLaws.{chars-more, chars-none, char-room}
use Rattle.moves.specs.Fine.{FineSpaces}
use Rattle.ink.specs.Sheet.{Sheet, sheet, drawn_on}
use Rattle.ink.specs.WordDrawn.{word-is, rest-ends}
use Rattle.ink.specs.Stretching.{rest_on, FineStretch, Passed, WordRoom}
use Rattle.ink.specs.declared.pen.Pen.{Pen}
use Rattle.ink.specs.declared.words.Stretch.{Stretch}

-- The next n characters, one by one.
module _ (t : List ℕ) (i : ℕ) where
  pub next_more : (c k n : ℕ) → decode_at t i ≡ Char c k → 0 < n → take n (chars_from t i) ≡ c ∷ take (n - 1) (chars_from t (i + k))
  next_more c k zero e h = absurd (omega arith)
  next_more c k (suc n) e h = let p : suc n - 1 ≡ n = omega arith in rw (chars-more t i c k e, p)

  pub next-none : (n : ℕ) → is_char (decode_at t i) ≡ false → take n (chars_from t i) ≡ []
  next-none zero e = refl
  next-none (suc n) e = rw (chars-none t i e)

  pub next-zero : (n : ℕ) → n ≤ 0 → take n (chars_from t i) ≡ []
  next-zero zero h = refl
  next-zero (suc n) h = absurd (omega arith)

-- Between two characters, the sheet at the end being known.
pub record Going (t : List ℕ) (g : ℕ) (goal : Sheet) (ev : List ℕ) (w : Stretch) (left : ℕ) : Type 0 where
  pub draws : rest_on g ev w (take left (chars_from t w.at)) ≡ goal
  pub spaces : FineSpaces w.spaces
  pub order : w.from ≤ w.at
  pub inside : w.at ≤ length t
  pub few : w.pen.next + 2 * left ≤ 750000000
  pub narrow : w.pen.x.0 + w.wide + 8192 * left ≤ 1500000000

abbrev pub first_of : (at : ℕ) → Spaces → Pen → Stretch
first_of at sp pen = record { pen = pen; spaces = sp; from = at; at = at; wide = 0 }

pub going_first : (t : List ℕ) (at n g : ℕ) (sp : Spaces) (pen : Pen) (ev : List ℕ) → WordRoom t at n g sp pen
    → Going t g (rest_on g ev (first_of at sp pen) (take n (chars_from t at))) ev (first_of at sp pen) (n - 0)
going_first t at n g sp pen ev h =
    record {
      draws = let p : n - 0 ≡ n = omega arith in rw p refl;
      spaces = h.spaces;
      order = omega arith;
      inside = h.inside;
      few = omega (arith, h.few, h.many);
      narrow = omega (arith, h.narrow, h.many);
    }

module _ {t : List ℕ} {g : ℕ} {goal : Sheet} {ev : List ℕ} {w : Stretch} {left : ℕ} (o : Going t g goal ev w left) (short : length t ≤ 65535) where
  pub going_fine : FineStretch w
  going_fine =
      record {
        spaces = o.spaces;
        order = o.order;
        inside = omega (arith, o.inside);
        few = omega (arith, o.few);
        narrow = omega (arith, o.narrow);
      }

  module _ (c k : ℕ) (e : decode_at t w.at ≡ Char c k) where
    pub char-fits : (w.at + k ≤ 65535) × (k ≡ bytes c)
    char-fits = (omega (arith, char-room t w.at c k e), decode_at-bytes t w.at c k e)

    pub going_on : 0 < left → (u : List ℕ) (r : Stretch) → Passed ev u w r c k g → Going t g goal u r (left - 1)
    going_on h u r p =
        record {
          draws = ap (λ (i : ℕ). rest_on g u r (take (left - 1) (chars_from t i))) p.at ∙ p.draws (take (left - 1) (chars_from t (w.at + k)))
              ∙ ap (rest_on g ev w) (sym (next_more t w.at c k left e h)) ∙ o.draws;
          spaces = p.spaces;
          order = p.order;
          inside = omega (arith, p.at, char-room t w.at c k e);
          few = omega (arith, p.few, o.few);
          narrow = omega (arith, p.narrow, o.narrow);
        }

  pub going_ends : take left (chars_from t w.at) ≡ [] → (s : Sheet)
      → s ≡ drawn_on (sheet ev w.pen) (drawn Printed w.from w.at 0 w.wide ∷ []) → s ≡ goal
  unfolding rest_on
  going_ends e s f =
      let d : drawn_on (sheet ev w.pen) (drawn Printed w.from w.at 0 w.wide ∷ []) ≡ rest_on g ev w (take left (chars_from t w.at))
      = rw (e, rest-ends g w.spaces w.from w.at w.wide) in
      f ∙ d ∙ o.draws

-- The sheet at the end is that of the word.
pub word_goal : (g : ℕ) (ev : List ℕ) (at : ℕ) (sp : Spaces) (pen : Pen) (cs : List ℕ)
    → rest_on g ev (first_of at sp pen) cs ≡ drawn_on (sheet ev pen) (drawn_word g sp at cs)
unfolding rest_on
word_goal g ev at sp pen cs = rw (word-is g sp at cs)
