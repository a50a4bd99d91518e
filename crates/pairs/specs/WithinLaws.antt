-- Words of few characters, told by their bytes or known, as a scan gives them.
-- Assumes nothing.
use Rattle.std.specs.Prelude.{◌≡◌, refl, List, ℕ, ◌+◌, ◌-◌, ◌≤◌, ltb, Option, Some, IfSome}
use Rattle.std.proofs.Math.Path.{sym, ap}
use Rattle.std.proofs.Common.{◌∙◌, ltb-false}
use native.Mathlib.Omega.{arith}
use Rattle.basis.specs.Choice.{pick_cases}
use Rattle.meaning.specs.Tokens.{Tok, newLine, carriageReturn, tab, softHyphen, space, word, tokens, kind_of, count_of}
use Rattle.meaning.specs.declared.tokens.TokenKind.TheVariants.{Word}
use Rattle.parser.specs.Lexing.{chars_from, lexeme_at, lexed_at}
use Rattle.parser.specs.Scanning.{kept_of, scanned_at, word_of}
use Rattle.parser.specs.Letters.{Letter, GoesOn, Ends}
use Rattle.pairs.specs.Pairs.{PairAt}
use Rattle.pairs.specs.PlainWords.{PlainWord, Stride}
use Rattle.pairs.specs.Within.{FirstWord, kept_within}
use Rattle.parser.specs.LexerLaws.{letter-lexed}
use Rattle.parser.specs.NextLaws.{next}
use Rattle.pairs.specs.PlainLaws.{plain-read, plain-pair}
use Rattle.parser.specs.declared.lexeme.Lexeme.{Lexeme}
use Rattle.parser.specs.declared.scan.Scanned.{Scanned}

-- ---- of plain bytes

module _ (t : List ℕ) (at : ℕ) where
  pub scanned_pair : (end : ℕ) → Stride t at end → (w : Scanned) → w ≡ scanned_at end (end - (at + 1)) 0 1 → PairAt t at (at + 1) (at + 1 + 1) (word_of w)
  unfolding word_of scanned_at
  scanned_pair end d w e = rw e (plain-pair t at end d)

  pub first_plain : (most end : ℕ) → PlainWord t at end → end - at ≤ most → (w : Scanned) → w ≡ scanned_at end (end - at) 0 1 → FirstWord t at most w
  unfolding word_of scanned_at
  first_plain most end d h w e = rw e (record { read = plain-read t at end d; fits = h })

-- ---- known

word_counts : (u : Tok) → kind_of u ≡ Word → count_of u ≡ 0
word_counts newLine e = refl
word_counts carriageReturn e = refl
word_counts tab e = refl
word_counts softHyphen e = refl
word_counts (space cs n b) e = cc
word_counts (word cs b) e = refl

-- A word of the text, as a scan gives it.
kept_word : (t : List ℕ) (at : ℕ) (x : Lexeme) → lexed_at at (tokens (chars_from t at)) ≡ Some x → x.kind ≡ Word → x ≡ word_of (kept_of x)
unfolding word_of lexeme_at
kept_word t at x e k =
    let h = next t at x e in
    let z : x.count.0 ≡ 0 = ap (λ (y : Lexeme). y.count.0) h.is ∙ word_counts h.tok (sym (ap (λ (y : Lexeme). y.kind) h.is) ∙ k) in
    λ i. record { kind = k i; end = x.end; chars = x.chars; count = record { 0 = z i }; glues = x.glues; reach = x.reach }

pub first-kept : (t : List ℕ) (at most : ℕ) (x : Lexeme) → lexed_at at (tokens (chars_from t at)) ≡ Some x → x.kind ≡ Word → (w : Option Scanned)
    → w ≡ kept_within x most → IfSome w (FirstWord t at most)
unfolding kept_within
first-kept t at most x read k w e =
    rw e
    (pick_cases (λ (v : Option Scanned). IfSome v (FirstWord t at most)) (ltb most x.chars.0)
    (λ _. tt)
    (λ l. record { read = read ∙ ap Some (kept_word t at x read k); fits = ltb-false most x.chars.0 l }))

-- ---- character by character

pub goes_scanned : (t : List ℕ) (from to chars glues most : ℕ) → GoesOn t from to chars glues → chars ≤ most → (r : Scanned) → r ≡ scanned_at to chars glues 1
    → GoesOn t from r.end.0 r.chars.0 r.weight.0 × (r.chars.0 ≤ most)
unfolding scanned_at
goes_scanned t from to chars glues most l h r e = rw e (l, h)

module _ (t : List ℕ) (at most : ℕ) where
  pub first_short : (n end more glues ender : ℕ) → Letter t at n → GoesOn t (at + n) end more glues → Ends t end ender → 1 + more ≤ most → (w : Scanned)
      → w ≡ scanned_at end (1 + more) glues ender → FirstWord t at most w
  unfolding scanned_at
  first_short n end more glues ender x l ends h w e =
      record {
        read = sym (letter-lexed t at n x) ∙ ap (λ (s : Scanned). Some (word_of s)) (l.scans 1 0 ∙ ends.scans (1 + more) (0 + glues) ∙ none ∙ sym e);
        fits = rw e h;
      }
    where
      none : scanned_at end (1 + more) (0 + glues) ender ≡ scanned_at end (1 + more) glues ender
      none = let z : 0 + glues ≡ glues = omega arith in ap (λ (g : ℕ). scanned_at end (1 + more) g ender) z
