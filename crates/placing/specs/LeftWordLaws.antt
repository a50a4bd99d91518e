-- What is left of a word is a word: from its lexeme to its characters, and back.
-- Assumes nothing.
use Rattle.std.specs.Prelude.{ℕ, zero, suc, ◌+◌, ◌-◌, ◌≤◌, true, length, take, drop, None, Some}
use Rattle.std.proofs.Math.Path.{◌≡◌, refl, ap, subst}
use Rattle.std.proofs.Common.{sym, ◌∙◌, arith, length-append, length-drop, take-append-drop, length-take-le}
use mathlib.Core.List.{List, [], ◌∷◌, ◌++◌, append_assoc}
use Rattle.std.proofs.Math.Seq.{take-append_seam}
use Rattle.utf8.specs.Encoding.{size}
use Rattle.utf8.specs.Sizes.{size_append}
use Rattle.meaning.specs.Characters.{Class, lf, cr, ht, shy, zwsp, blank, letter, class_of, in_word}
use Rattle.meaning.specs.Tokens.{word, run, after, ender, first, tokens, chars_of, size_of, ender_of, need_of, kind_of}
use Rattle.meaning.specs.Words.{glues}
use Rattle.meaning.specs.declared.tokens.TokenKind.TheVariants.{Word}
use Rattle.laws.specs.Measuring.{glues_append}
use Rattle.laws.specs.Runs.{Pass, Stops, run-after, run-pass, after-stops, run_only}
use Rattle.laws.specs.TokenLaws.{tokens-step, tokens_none, length-size}
use Rattle.parser.specs.CharacterLaws.{letter_of}
use Rattle.parser.specs.Lexing.{chars_from, lexeme_at, lexed_at}
use Rattle.parser.specs.NextLaws.{chars_after}
use Rattle.parser.specs.Shorter.{Between}
use Rattle.parser.specs.declared.lexeme.Lexeme.{Lexeme}
use Rattle.placing.specs.LeftWords.{LeftWord}

-- ---- from a lexeme

-- Only a letter starts a word.
starts-word : (k : Class) (c : ℕ) (cs : List ℕ) → kind_of (first k c cs) ≡ Word → k ≡ letter
unfolding first
starts-word letter c cs e = refl
starts-word lf c cs e = cc
starts-word cr c cs e = cc
starts-word ht c cs e = cc
starts-word shy c cs e = cc
starts-word zwsp c cs e = cc
starts-word blank c cs e = cc

letter-passes : (c : ℕ) → class_of c ≡ letter → in_word c ≡ true
unfolding in_word
letter-passes c e = rw e

module _ (t : List ℕ) (at : ℕ) (x : Lexeme) (kind : x.kind ≡ Word) where
  word-is : (c : ℕ) (cs : List ℕ) → chars_from t at ≡ c ∷ cs → x ≡ lexeme_at at (first (class_of c) c cs) → LeftWord t at x.end.0 x.chars.0 x.glues.0 x.reach.0
  unfolding lexeme_at first chars_of size_of ender_of need_of
  word-is c cs e q =
      let k : class_of c ≡ letter = starts-word (class_of c) c cs (ap (λ (y : Lexeme). y.kind) (sym q) ∙ kind) in
      let ws = c ∷ run in_word cs in
      let rest = after in_word cs in
      let is : x ≡ lexeme_at at (word ws (ender rest)) = q ∙ ap (λ (d : Class). lexeme_at at (first d c cs)) k in
      let ends : x.end.0 ≡ at + size ws = ap (λ (y : Lexeme). y.end.0) is in
      let all : chars_from t at ≡ ws ++ rest = e ∙ ap (λ (l : List ℕ). c ∷ l) (sym (run-after in_word cs)) in
      let behind : chars_from t x.end.0 ≡ rest = ap (chars_from t) ends ∙ chars_after t ws rest at all in
      record {
        letters = ws;
        are = all ∙ ap (λ (l : List ℕ). ws ++ l) (sym behind);
        word = (letter-passes c k, run-pass in_word cs);
        stops = subst (Stops in_word) (sym behind) (after-stops in_word cs);
        count = ap (λ (y : Lexeme). y.chars.0) is;
        ends = ends;
        weight = omega (arith, ap (λ (y : Lexeme). y.glues.0) is);
        reached = omega (arith, ap (λ (y : Lexeme). y.reach.0) is, ends, ap ender behind);
      }

  pub left_word : lexed_at at (tokens (chars_from t at)) ≡ Some x → LeftWord t at x.end.0 x.chars.0 x.glues.0 x.reach.0
  unfolding lexed_at
  left_word e = go (chars_from t at) refl
    where
      go : (cs : List ℕ) → chars_from t at ≡ cs → LeftWord t at x.end.0 x.chars.0 x.glues.0 x.reach.0
      go [] p =
          let q : None ≡ Some x = rw (p, tokens_none) at e in
          let z : ◌≡◌ {A = ℕ} 0 1 = cc in
          absurd (omega arith)
      go (c ∷ cs) p =
          let q : Some (lexeme_at at (first (class_of c) c cs)) ≡ Some x = rw (p, tokens-step c cs) at e in
          word-is c cs p (cc)

-- ---- and back

-- The lexeme of such a word.
pub record ReadWord (t : List ℕ) (at end chars gluing reach : ℕ) : Type 0 where
  pub lexeme : Lexeme
  pub read : lexed_at at (tokens (chars_from t at)) ≡ Some lexeme
  pub kind : lexeme.kind ≡ Word
  pub end_is : lexeme.end.0 ≡ end
  pub chars-is : lexeme.chars.0 ≡ chars
  pub few-glue : lexeme.glues.0 ≤ gluing
  pub reach-is : lexeme.reach.0 ≡ reach

letters-read : (t : List ℕ) (at end chars gluing reach c : ℕ) (ws : List ℕ) (l : LeftWord t at end chars gluing reach) → l.letters ≡ c ∷ ws
    → ReadWord t at end chars gluing reach
unfolding lexed_at lexeme_at first in_word chars_of size_of ender_of need_of
letters-read t at end chars gluing reach c ws l e =
    let rest = chars_from t end in
    let pass : Pass in_word (c ∷ ws) = subst (Pass in_word) e l.word in
    let runs = run_only in_word ws rest pass.1 l.stops in
    let k : class_of c ≡ letter = letter_of (class_of c) pass.0 in
    let all : chars_from t at ≡ c ∷ (ws ++ rest) = l.are ∙ ap (λ (z : List ℕ). z ++ rest) e in
    let x = lexeme_at at (word (c ∷ ws) (ender rest)) in
    let ends : at + size (c ∷ ws) ≡ end = sym (l.ends ∙ ap (λ (z : List ℕ). at + size z) e) in
    record {
      lexeme = x;
      read = rw (all, tokens-step c (ws ++ rest), k, runs.0, runs.1);
      kind = refl;
      end_is = ends;
      chars-is = sym (l.count ∙ ap length e);
      few-glue = omega (arith, l.weight, ap glues e);
      reach-is = omega (arith, l.reached, ends);
    }

pub left-read : (t : List ℕ) (at end chars gluing reach : ℕ) (l : LeftWord t at end chars gluing reach) → 1 ≤ chars → ReadWord t at end chars gluing reach
left-read t at end chars gluing reach l some = go l.letters refl
  where
    go : (ws : List ℕ) → l.letters ≡ ws → ReadWord t at end chars gluing reach
    go [] e = absurd (omega (arith, l.count, ap length e))
    go (c ∷ ws) e = letters-read t at end chars gluing reach c ws l e

-- ---- without its first characters

pass-drop : (k : ℕ) (ws : List ℕ) → Pass in_word ws → Pass in_word (drop k ws)
pass-drop zero ws p = p
pass-drop (suc k) [] p = tt
pass-drop (suc k) (c ∷ ws) p = pass-drop k ws p.1

module _ (t : List ℕ) (at end chars gluing reach : ℕ) (l : LeftWord t at end chars gluing reach) where
  pub left-between : Between t at end chars
  left-between =
      let ws = l.letters in
      let front : take chars (chars_from t at) ≡ ws = rw (l.are, l.count) (take-append_seam ws (chars_from t end)) in
      record { all = rw (l.are, length-append) (omega (arith, l.count)); ends = rw front l.ends }

  module _ (next k : ℕ) (some : k ≤ chars) (b : Between t at next k) where
    abbrev front : List ℕ
    front = take k l.letters

    abbrev others : List ℕ
    others = drop k l.letters

    both : front ++ others ≡ l.letters
    both = take-append-drop k l.letters

    all : chars_from t at ≡ front ++ (others ++ chars_from t end)
    all = l.are ∙ ap (λ (z : List ℕ). z ++ chars_from t end) (sym both) ∙ append_assoc front others (chars_from t end)

    many : length front ≡ k
    many = length-take-le k l.letters (omega (arith, l.count))

    taken : take k (chars_from t at) ≡ front
    taken =
        ap (take k) all ∙ ap (λ (n : ℕ). take n (front ++ (others ++ chars_from t end))) (sym many) ∙ take-append_seam front (others ++ chars_from t end)

    starts : next ≡ at + size front
    starts = b.ends ∙ ap (λ (z : List ℕ). at + size z) taken

    pub left-on : LeftWord t next end (chars - k) gluing reach
    left-on =
        record {
          letters = others;
          are = ap (chars_from t) starts ∙ chars_after t front (others ++ chars_from t end) at all;
          word = pass-drop k l.letters l.word;
          stops = l.stops;
          count = omega (arith, l.count, length-drop k l.letters);
          ends = omega (arith, l.ends, starts, size_append front others, ap size both);
          weight = omega (arith, l.weight, glues_append front others, ap glues both);
          reached = l.reached;
        }

    pub left-inside : at + k ≤ next
    left-inside = omega (arith, starts, length-size front, many)
