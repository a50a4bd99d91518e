-- The word that stands at a position, from a later character on: it ends where it ended.
-- Assumes nothing.
use mathlib.Core.Path.{◌≡◌, refl, sym, ap, subst, ◌∙◌}
use Rattle.std.specs.Prelude.{Some}
use mathlib.Core.Bool.{true}
use mathlib.Core.List.{List, [], ◌∷◌}
use Prim.Native.Nat.{ℕ, zero, suc, ◌+◌, ◌-◌, ◌≤◌, ◌<◌}
use native.Mathlib.Omega.{arith}
use lib.ListN.{length, take}
use Rattle.basis.specs.Choice.{by_test}
use Rattle.utf8.specs.Encoding.{bytes, size}
use Rattle.utf8.specs.Decoding.{decode_at}
use Rattle.utf8.specs.Walk.{is_char, decode_at-bytes}
use Rattle.utf8.specs.declared.sequence.Decoded.{Decoded}
use Rattle.utf8.specs.declared.sequence.Decoded.TheVariants.{Char, Bad, End}
use Rattle.meaning.specs.Characters.{Class, lf, cr, ht, shy, zwsp, blank, letter, class_of, in_word}
use Rattle.meaning.specs.Tokens.{word, run, after, ender, first, tokens, chars_of, size_of, ender_of, need_of, kind_of}
use Rattle.meaning.specs.Words.{glues}
use Rattle.meaning.specs.declared.tokens.TokenKind.TheVariants.{Word}
use Rattle.laws.specs.Runs.{run_more, after_more, run_none}
use Rattle.laws.specs.TokenLaws.{tokens-step}
use Rattle.parser.specs.Lexing.{chars_from, lexeme_at, lexed_at}
use Rattle.parser.specs.Scanning.{glue_of}
use Rattle.parser.specs.Shorter.{shorter, less, Between}
use Rattle.parser.specs.declared.lexeme.Lexeme.{Lexeme}
use Rattle.parser.specs.ScanLaws.{chars-more, chars-none}
use Rattle.parser.specs.CharacterLaws.{letter_of}
use Rattle.parser.proofs.PartLaws.{glues-more}

-- Only a letter starts a word.
starts-word : (k : Class) (c : ℕ) (cs : List ℕ) → kind_of (first k c cs) ≡ Word → k ≡ letter
unfolding first
starts-word letter c cs e = refl
starts-word lf c cs e = cc
starts-word cr c cs e = cc
starts-word ht c cs e = cc
starts-word shy c cs e = cc
starts-word zwsp c cs e = cc
starts-word blank c cs e = cc

-- What is left of the word x at a position, after a character that glues so much.
record Shortened (t : List ℕ) (at : ℕ) (x : Lexeme) (g : ℕ) : Type 0 where
  some : 1 ≤ x.chars.0
  glued : g ≤ x.glues.0
  stands : lexed_at at (tokens (chars_from t at)) ≡ Some (shorter x g)

module _ (at c : ℕ) (ws : List ℕ) (e : ℕ) where
  shorter-is : lexeme_at (at + bytes c) (word ws e) ≡ shorter (lexeme_at at (word (c ∷ ws) e)) (glue_of c)
  unfolding lexeme_at shorter chars_of size_of ender_of need_of size
  shorter-is =
      let p : at + bytes c + size ws ≡ at + (bytes c + size ws) = omega arith in
      let q : length ws ≡ suc (length ws) - 1 = omega arith in
      let w : glues ws ≡ glues (c ∷ ws) - glue_of c = omega (arith, glues-more c ws) in
      let r : at + bytes c + (size ws + e) ≡ at + (bytes c + size ws + e) = omega arith in
      λ i. record {
        kind = Word;
        end = record { 0 = p i };
        chars = record { 0 = q i };
        count = record { 0 = 0 };
        glues = record { 0 = w i };
        reach = record { 0 = r i };
      }

-- The word goes on with the character after the first: it does not end before it.
module _ (at c : ℕ) (cs : List ℕ) (x : Lexeme) (k : class_of c ≡ letter) (is : lexeme_at at (first (class_of c) c cs) ≡ x) where
  word-is : x ≡ lexeme_at at (word (c ∷ run in_word cs) (ender (after in_word cs)))
  unfolding first
  word-is = sym is ∙ rw k

  word-ends : x.end.0 ≡ at + (bytes c + size (run in_word cs))
  unfolding lexeme_at size_of size
  word-ends = ap (λ (y : Lexeme). y.end.0) word-is

  ends_alone : run in_word cs ≡ [] → at + bytes c < x.end.0 → ⊥
  unfolding size
  ends_alone e h = omega (arith, word-ends, ap size e)

  ends-later : at + bytes c < x.end.0 → (x.chars.0 ≡ suc (length (run in_word cs))) × (x.glues.0 ≡ glue_of c + glues (run in_word cs))
  unfolding lexeme_at chars_of
  ends-later h = (ap (λ (y : Lexeme). y.chars.0) word-is, ap (λ (y : Lexeme). y.glues.0) word-is ∙ glues-more c (run in_word cs))

letter_class : (d : ℕ) → in_word d ≡ true → class_of d ≡ letter
unfolding in_word
letter_class d e = letter_of (class_of d) e

word_on : (at c : ℕ) (cs : List ℕ) (x : Lexeme) → class_of c ≡ letter → lexeme_at at (first (class_of c) c cs) ≡ x → at + bytes c < x.end.0
    → lexed_at (at + bytes c) (tokens cs) ≡ Some (shorter x (glue_of c))
unfolding run lexed_at first
word_on at c [] x k is h = absurd (ends_alone at c [] x k is refl h)
word_on at c (d ∷ ds) x k is h =
    by_test (in_word d)
    (λ e.
    let ws = d ∷ run in_word ds in
    let b = ender (after in_word ds) in
    let l : x ≡ lexeme_at at (word (c ∷ ws) b) = word-is at c (d ∷ ds) x k is ∙ rw (run_more in_word d ds e, after_more in_word d ds e) in
    rw (tokens-step d ds, letter_class d e, l) (ap Some (shorter-is at c ws b)))
    (λ e. absurd (ends_alone at c (d ∷ ds) x k is (run_none in_word d ds e) h))

-- A word that stands at a position and does not end with the character there.
word-shorter : (t : List ℕ) (at : ℕ) (x : Lexeme) (c n : ℕ) → lexed_at at (tokens (chars_from t at)) ≡ Some x → x.kind ≡ Word
    → decode_at t at ≡ Char c n → at + n < x.end.0 → Shortened t (at + n) x (glue_of c)
unfolding lexed_at lexeme_at shorter
word-shorter t at x c n s w d h =
    let cs = chars_from t (at + n) in
    let b = decode_at-bytes t at c n d in
    let is : lexeme_at at (first (class_of c) c cs) ≡ x = cc (rw (chars-more t at c n d, tokens-step c cs) at s) in
    let k = starts-word (class_of c) c cs (ap (λ (y : Lexeme). y.kind) is ∙ w) in
    let l = ends-later at c cs x k is (rw b at h) in
    record { some = omega (arith, l.0); glued = omega (arith, l.1); stands = rw (← b) at (word_on at c cs x k is (rw b at h)) }

-- ---- many characters

-- What is left of the word x at a position, after so many characters, of which so many glue.
pub record Less (t : List ℕ) (at : ℕ) (x : Lexeme) (n g : ℕ) : Type 0 where
  pub some : n ≤ x.chars.0
  pub glued : g ≤ x.glues.0
  pub stands : lexed_at at (tokens (chars_from t at)) ≡ Some (less x n g)

less_none : (x : Lexeme) → x ≡ less x 0 0
unfolding less
less_none x =
    let p : x.chars.0 ≡ x.chars.0 - 0 = omega arith in
    let q : x.glues.0 ≡ x.glues.0 - 0 = omega arith in
    λ i. record { kind = x.kind; end = x.end; chars = record { 0 = p i }; count = x.count; glues = record { 0 = q i }; reach = x.reach }

less_one : (x : Lexeme) (n g h : ℕ) → shorter (less x n g) h ≡ less x (n + 1) (g + h)
unfolding less shorter
less_one x n g h =
    let p : x.chars.0 - n - 1 ≡ x.chars.0 - (n + 1) = omega arith in
    let q : x.glues.0 - g - h ≡ x.glues.0 - (g + h) = omega arith in
    λ i. record { kind = x.kind; end = x.end; chars = record { 0 = p i }; count = x.count; glues = record { 0 = q i }; reach = x.reach }

pub less-starts : (t : List ℕ) (at : ℕ) (x : Lexeme) → lexed_at at (tokens (chars_from t at)) ≡ Some x → Less t at x 0 0
less-starts t at x s = record { some = omega arith; glued = omega arith; stands = s ∙ ap Some (less_none x) }

-- One more, where the word does not end with it.
pub less-more : (t : List ℕ) (at : ℕ) (x : Lexeme) (n g c k m : ℕ) → x.kind ≡ Word → Less t at x n g → decode_at t at ≡ Char c k → m ≡ g + glue_of c
    → at + k < x.end.0 → Less t (at + k) x (n + 1) m
unfolding less
less-more t at x n g c k m w l d q e =
    let s = word-shorter t at (less x n g) c k l.stands w d e in
    record {
      some = omega (arith, l.some, s.some);
      glued = omega (arith, l.glued, s.glued);
      stands = s.stands ∙ ap Some (less_one x n g (glue_of c)) ∙ ap (λ (h : ℕ). Some (less x (n + 1) h)) (sym q);
    }

-- Many more, where none of the word glues.
module _ (t : List ℕ) (x : Lexeme) (w : x.kind ≡ Word) (z : x.glues.0 ≡ 0) where
  less_glueless : (at n g : ℕ) → Less t at x n g → Less t at x n 0
  less_glueless at n g l = let e : g ≡ 0 = omega (arith, l.glued) in subst (Less t at x n) e l

  abbrev LessFar : (k at n : ℕ) → Type 0
  LessFar k at n = Less t at x n 0 → k ≤ length (chars_from t at) → at + size (take k (chars_from t at)) < x.end.0
      → Less t (at + size (take k (chars_from t at))) x (n + k) 0

  less-char : (k at n : ℕ) (d : Decoded) → decode_at t at ≡ d → ((m : ℕ) → LessFar k (at + m) (n + 1)) → LessFar (suc k) at n
  unfolding size
  less-char k at n (Char c m) e rest l few h =
      let b = decode_at-bytes t at c m e in
      let cs = chars_from t (at + m) in
      let is = chars-more t at c m e in
      let short : suc k ≤ suc (length cs) = rw is at few in
      let near : at + (bytes c + size (take k cs)) < x.end.0 = rw is at h in
      let one = less_glueless (at + m) (n + 1) (0 + glue_of c) (less-more t at x n 0 c m (0 + glue_of c) w l e refl (omega arith)) in
      let p : at + m + size (take k cs) ≡ at + (bytes c + size (take k cs)) = omega arith in
      let q : n + 1 + k ≡ n + suc k = omega arith in
      let far = rest m one (omega arith) (omega arith) in
      rw is (subst (λ (i : ℕ). Less t i x (n + suc k) 0) p (subst (λ (j : ℕ). Less t (at + m + size (take k cs)) x j 0) q far))
  less-char k at n Bad e rest l few h = absurd (omega (arith, few, ap length (chars-none t at (ap is_char e))))
  less-char k at n End e rest l few h = absurd (omega (arith, few, ap length (chars-none t at (ap is_char e))))

  pub less-far : (k at n : ℕ) → LessFar k at n
  unfolding size
  less-far zero at n l few h =
      let p : at ≡ at + 0 = omega arith in
      let q : n ≡ n + 0 = omega arith in
      subst (λ (i : ℕ). Less t i x (n + 0) 0) p (subst (λ (j : ℕ). Less t at x j 0) q l)
  less-far (suc k) at n l few h = less-char k at n (decode_at t at) refl (λ m. less-far k (at + m) (n + 1)) l few h

  -- So many characters after its start.
  pub less-between : (from at n : ℕ) → lexed_at from (tokens (chars_from t from)) ≡ Some x → Between t from at n → at < x.end.0 → Less t at x n 0
  less-between from at n s b h =
      let p = b.ends in
      let q : 0 + n ≡ n = omega arith in
      subst (λ (j : ℕ). Less t at x j 0) q (rw p (less-far n from 0 (less-starts t from x s) b.all (rw p at h)))
