-- Words with one space between any two: where a pass stands after the first, and after one more.
-- Assumes nothing.
use mathlib.Core.Path.{◌≡◌, refl, sym, subst}
use Rattle.std.specs.Prelude.{Some}
use mathlib.Core.Bool.{false}
use mathlib.Core.List.{List}
use Prim.Native.Nat.{ℕ, ◌+◌, ◌-◌, ◌*◌, ◌≤◌, min}
use native.Mathlib.Nat.{add-mul}
use native.Mathlib.Omega.{arith}
use borrow.Author.Tests.{le-leb}
use Rattle.meaning.specs.Tokens.{tokens}
use Rattle.meaning.specs.Cursor.{room_of, fits_in, advance}
use Rattle.meaning.specs.SpaceConfig.{spaces_width, spaces_after}
use Rattle.meaning.specs.Alignment.{spaces_of, plain_spaces}
use Rattle.meaning.specs.LineIter.{moved_on, used_up}
use Rattle.meaning.specs.Line.{noted, unmeasured, start_place}
use Rattle.meaning.specs.declared.settings.Settings.{Settings}
use Rattle.meaning.specs.declared.tokens.TokenKind.TheVariants.{Word}
use Rattle.meaning.specs.declared.line.EventKind.TheVariants.{Space}
use Rattle.meaning.specs.declared.line.Placed.{Placed}
use Rattle.laws.specs.Measuring.{printed_at}
use Rattle.parser.specs.Lexing.{chars_from, lexed_at}
use Rattle.pairs.specs.Pairs.{one_space, PairAt}
use Rattle.parser.specs.declared.lexeme.Lexeme.{Lexeme}
use Rattle.steps.specs.Unrolled.{nothing_resumed}
use Rattle.steps.specs.Running.{PassReady}
use Rattle.placing.specs.Laying.{LineReady, plainly}
use Rattle.steps.specs.Stopping.{word_measure, word_place}
use Rattle.strides.specs.Strides.{Onward}
use Rattle.placing.specs.Taken.{Taken, token_taken, taken-on}
use Rattle.placing.specs.Quick.{Fair, Stood, plain_place, Counts}
use Rattle.placing.specs.LayLaws.{start-ready, plain_ready}
use Rattle.steps.specs.WordLaws.{word-at}
use Rattle.strides.specs.OnwardLaws.{read-pending, onward-on}
use Rattle.strides.specs.StrideLaws.{word-onward, pair_goes}
use Rattle.placing.specs.FairLaws.{fair-less}

-- With plain spaces a word is as wide as its characters, whether they glue or not.
pub plain-width : (pen n k glyph : ℕ) → k ≤ n → pen + n * glyph ≡ pen + (n - k) * glyph + (k * glyph + min k 0)
plain-width pen n k glyph h =
    let parts : n ≡ n - k + k = omega arith in
    let e : n * glyph ≡ (n - k) * glyph + k * glyph = subst (λ (j : ℕ). j * glyph ≡ (n - k) * glyph + k * glyph) (sym parts) (add-mul (n - k) k glyph) in
    omega arith

-- ---- the first word

module _ {s : Settings} {t : List ℕ} {at : ℕ} (h : LineReady s t at nothing_resumed) (x : Lexeme) (e : lexed_at at (tokens (chars_from t at)) ≡ Some x) (k : x.kind ≡ Word) where
  first_stood : (p : Placed) → Fair s p x.chars.0 0 → Stood s p t at x.chars.0 0 x.end.0
  unfolding start_place fits_in room_of advance spaces_after word_place
  first_stood p f =
      let start = start_place s p.left.0 p.spaces in
      let n = x.chars.0 in
      let wide = n * s.glyph.0 in
      let ready = start-ready h p start unmeasured refl refl f.spaces (omega (arith, f.within)) in
      let q = word_place s.glyph.0 start n x.glues.0 in
      let m = word_measure s.glyph.0 p.spaces unmeasured n x.glues.0 in
      let all = add-mul n 0 s.glyph.0 in
      record {
        place = q;
        measure = m;
        onward = word-onward ready x e k (le-leb wide (s.width.0 - p.left.0) (omega (arith, f.within))) q m refl refl;
        filled = refl;
        edge = refl;
        each = refl;
        low = omega arith;
        high = omega arith;
      }

  first_plain : x.chars.0 * s.glyph.0 ≤ s.width.0
      → Onward s (start_place s 0 (plain_spaces s)) t at nothing_resumed unmeasured (plain_place s (x.chars.0 * s.glyph.0)) x.end.0
      (printed_at (x.chars.0 * s.glyph.0) x.glues.0)
  unfolding start_place fits_in room_of advance plain_spaces spaces_width spaces_after word_place word_measure
  first_plain f =
      let start = start_place s 0 (plain_spaces s) in
      let n = x.chars.0 in
      let g = x.glues.0 in
      let wide = n * s.glyph.0 in
      let fine = plain_ready h (plainly s) _ refl refl in
      let ready = start-ready h (plainly s) start unmeasured refl refl fine.0 fine.1 in
      let w = word-at t at x (read-pending t at x e).stands k in
      let a : wide ≡ 0 + wide = omega arith in
      let b : 0 ≡ 0 - g = omega arith in
      let c : wide ≡ 0 + (n - g) * s.glyph.0 + (g * s.glyph.0 + min g 0) = omega (arith, plain-width 0 n g s.glyph.0 w.fewer) in
      let d : g ≡ 0 + g = omega arith in
      word-onward ready x e k (le-leb wide (s.width.0 - 0) (omega arith)) _ _
      (λ i. record {
        cursor = record { width = s.width; position = record { 0 = a i }; tab = s.tab; start = record { 0 = 0 } };
        spaces = spaces_of s.glyph.0 (b i);
        empty = false;
      })
      (λ i. printed_at (c i) (d i))

  pub counts-first : (columns spaces end : ℕ) → columns ≡ x.chars.0 → spaces ≡ x.glues.0 → end ≡ x.end.0 → columns * s.glyph.0 ≤ s.width.0
      → Counts s t at end columns spaces
  counts-first columns spaces end a b c f =
      rw (a, b, c)
      (record {
        letters = x.chars.0;
        gaps = 0;
        all = omega arith;
        few = omega arith;
        taken = token_taken t at x e;
        plain = first_plain (rw a at f);
        placed = first_stood;
      })

-- ---- one more

-- A space and a word.
pair-taken : {t : List ℕ} {to next looked : ℕ} {x : Lexeme} → PairAt t to next looked x → Taken t to x.end.0 (1 + x.chars.0)
pair-taken {t} {to} {next} {looked} {x} w =
    taken-on t to next x.end.0 1 x.chars.0 (token_taken t to (one_space next looked) w.space) (token_taken t next x w.word)

module _ {s : Settings} {t : List ℕ} {to next looked : ℕ} {x : Lexeme} (w : PairAt t to next looked x) where
  pair_stood : {at : ℕ} (p : Placed) (letters gaps : ℕ) → Fair s p (letters + x.chars.0) (gaps + 1) → Stood s p t at letters gaps to
      → Stood s p t at (letters + x.chars.0) (gaps + 1) x.end.0
  unfolding advance spaces_width spaces_after word_place
  pair_stood p letters gaps f v =
      let q = v.place in
      let g = s.glyph.0 in
      let n = x.chars.0 in
      let single = spaces_width q.spaces 1 in
      let a = add-mul letters n g in
      let b = add-mul gaps 1 p.spaces.width.0 in
      let c = add-mul (letters + gaps) (n + 1) g in
      let d = add-mul n 1 g in
      let o : letters + n + (gaps + 1) ≡ letters + gaps + (n + 1) = omega arith in
      let room : single + n * g ≤ q.cursor.width.0 - q.cursor.position.0 = omega (arith, v.edge, v.each, v.high, f.within) in
      let after = moved_on (used_up q 1) single in
      let to-place = word_place g after n x.glues.0 in
      let m = word_measure g after.spaces (noted Space (v.measure.pen.0 + single) (v.measure.spaces.0 + 1) v.measure) n x.glues.0 in
      record {
        place = to-place;
        measure = m;
        onward = onward-on v.onward (pair_goes v.onward.ready v.filled w room to-place m refl refl);
        filled = refl;
        edge = v.edge;
        each = v.each;
        low = rw o (omega (arith, v.low, v.each, f.wide));
        high = omega (arith, v.high, v.each);
      }

  pair-plain : (columns spaces : ℕ) → (columns + (1 + x.chars.0)) * s.glyph.0 ≤ s.width.0
      → (r : PassReady s (plain_place s (columns * s.glyph.0)) t to nothing_resumed (printed_at (columns * s.glyph.0) spaces))
      → Onward s (plain_place s (columns * s.glyph.0)) t to nothing_resumed (printed_at (columns * s.glyph.0) spaces)
      (plain_place s ((columns + (1 + x.chars.0)) * s.glyph.0)) x.end.0
      (printed_at ((columns + (1 + x.chars.0)) * s.glyph.0) (spaces + (1 + x.glues.0)))
  unfolding advance plain_spaces spaces_width spaces_after word_place word_measure
  pair-plain columns spaces f r =
      let glyph = s.glyph.0 in
      let n = x.chars.0 in
      let g = x.glues.0 in
      let here = columns * glyph in
      let l = word-at t next x (read-pending t next x w.word).stands w.kind in
      let all : (columns + (1 + n)) * glyph ≡ here + (1 * glyph + n * glyph)
      = omega (arith, add-mul columns (1 + n) glyph, add-mul 1 n glyph) in
      let a : (columns + (1 + n)) * glyph ≡ here + (1 * glyph + min 1 0) + n * glyph = omega arith in
      let b : 0 ≡ 0 - 1 - g = omega arith in
      let c : (columns + (1 + n)) * glyph ≡ here + (1 * glyph + min 1 0) + (n - g) * glyph + (g * glyph + min g (0 - 1))
      = omega (arith, plain-width 0 n g glyph l.fewer) in
      let d : spaces + (1 + g) ≡ spaces + 1 + g = omega arith in
      pair_goes r refl w (omega arith) _ _
      (λ i. record {
        cursor = record { width = s.width; position = record { 0 = a i }; tab = s.tab; start = record { 0 = 0 } };
        spaces = spaces_of glyph (b i);
        empty = false;
      })
      (λ i. printed_at (c i) (d i))

  pub counts-more : {at : ℕ} (columns spaces : ℕ) → Counts s t at to columns spaces → (columns + (1 + x.chars.0)) * s.glyph.0 ≤ s.width.0
      → Counts s t at x.end.0 (columns + (1 + x.chars.0)) (spaces + (1 + x.glues.0))
  counts-more columns spaces c f =
      record {
        letters = c.letters + x.chars.0;
        gaps = c.gaps + 1;
        all = omega (arith, c.all);
        few = omega (arith, c.few);
        taken = taken-on t _ to x.end.0 columns (1 + x.chars.0) c.taken (pair-taken w);
        plain = onward-on c.plain (pair-plain columns spaces f c.plain.ready);
        placed = λ p g. pair_stood p c.letters c.gaps g (c.placed p (fair-less s p c.letters c.gaps x.chars.0 g));
      }
