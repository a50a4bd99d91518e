-- The lookahead for the next word's width as its loop runs: how far was looked before, and what is left of the text.
-- Assumes nothing.
use Prim.Native.Nat.{ℕ, ◌+◌, ◌*◌, max, ◌≤◌}
use Rattle.std.specs.Prelude.{None, Option, Some}
use Rattle.meaning.specs.declared.counts.Pixels.{Pixels}
use native.Mathlib.Omega.{arith}
use mathlib.Core.Path.{◌≡◌, refl, sym, ◌∙◌}
use mathlib.Core.List.{List, [], ◌∷◌}
use Rattle.meaning.specs.Tokens.{Tok, newLine, carriageReturn, tab, softHyphen, space, word, tokens, chars_of, size_of, need_of, kind_of}
use Rattle.meaning.specs.Lookahead.{Ahead, further, added, next_width}
use Rattle.meaning.specs.declared.tokens.TokenKind.TheVariants.{Word, Break}
use Rattle.parser.specs.Lexing.{chars_from}
use Rattle.parser.specs.declared.lexeme.Lexeme.{Lexeme}
use Rattle.moves.specs.FineLaws.{times_bound}
use Rattle.steps.specs.Lexed.{Lexes}
use Rattle.steps.specs.Stepping.{ahead_of}
use Rattle.steps.specs.declared.foreseen.WidthAhead.{WidthAhead}
use Rattle.steps.specs.Ahead.{known_of}
use Rattle.steps.specs.KindLaws.{Ends}

known-added : (w : Option Pixels) (n : ℕ) → known_of (added w n) ≡ known_of w + n
unfolding added
known-added None n = omega arith
known-added (Some v) n = refl

-- What a lookahead answers that had looked up to an offset before.
unfoldable pub ahead_from : (reach : ℕ) → Ahead → WidthAhead
ahead_from reach a = record { width = a.width; reach = record { 0 = max reach a.reach } }

pub ahead-zero : (a : Ahead) → ahead_from 0 a ≡ ahead_of a
unfolding ahead_from
ahead-zero a = let e : max 0 a.reach ≡ a.reach = omega arith in rw e

ahead-further : (r here : ℕ) (a : Ahead) → ahead_from r (further here a) ≡ ahead_from (max r here) a
unfolding ahead_from
ahead-further r here a = let e : max r (max here a.reach) ≡ max (max r here) a.reach = omega arith in rw e

module _ (g : ℕ) (w : Option Pixels) (at : ℕ) (ts : List Tok) where
  width_word : (u : Tok) → kind_of u ≡ Word
      → next_width g w at (u ∷ ts) ≡ further (at + need_of u) (next_width g (added w (chars_of u * g)) (at + size_of u) ts)
  unfolding next_width chars_of
  width_word newLine e = cc
  width_word carriageReturn e = cc
  width_word tab e = cc
  width_word softHyphen e = cc
  width_word (space cs n b) e = cc
  width_word (word cs b) e = refl

  width_break : (u : Tok) → kind_of u ≡ Break → next_width g w at (u ∷ ts) ≡ record { width = added w g; reach = at + need_of u }
  unfolding next_width
  width_break newLine e = cc
  width_break carriageReturn e = cc
  width_break tab e = cc
  width_break softHyphen e = refl
  width_break (space cs n b) e = cc
  width_break (word cs b) e = cc

  width-ends : (u : Tok) → Ends (kind_of u) → next_width g w at (u ∷ ts) ≡ record { width = w; reach = at + need_of u }
  unfolding next_width
  width-ends newLine e = refl
  width-ends carriageReturn e = refl
  width-ends tab e = refl
  width-ends softHyphen e = absurd e
  width-ends (space cs n b) e = refl
  width-ends (word cs b) e = absurd e

abbrev answer : Option Pixels → ℕ → WidthAhead
answer w r = record { width = w; reach = record { 0 = r } }

-- One turn of the loop: the next lexeme is x.
module _ (t : List ℕ) (at : ℕ) (x : Lexeme) (l : Lexes t at x) (g : ℕ) (w : Option Pixels) (r : ℕ) where
  abbrev asked : WidthAhead
  asked = ahead_from r (next_width g w at (tokens (chars_from t at)))

  pub ahead-word : x.kind ≡ Word → (w' : Option Pixels) (r' : ℕ) → w' ≡ added w (x.chars.0 * g) → r' ≡ max r x.reach.0
      → ahead_from r' (next_width g w' x.end.0 (tokens (chars_from t x.end.0))) ≡ asked
  ahead-word e w' r' p q =
      let rest = tokens (chars_from t x.end.0) in
      rw (p, q, l.step, width_word g w at rest l.tok (sym l.kind ∙ e), ahead-further r _ _, ← l.reach, ← l.chars, ← l.end)

  pub ahead_break : x.kind ≡ Break → (w' : Option Pixels) (r' : ℕ) → w' ≡ added w g → r' ≡ max r x.reach.0 → answer w' r' ≡ asked
  unfolding ahead_from
  ahead_break e w' r' p q = rw (p, q, l.reach, l.step, width_break g w at _ l.tok (sym l.kind ∙ e))

  pub ahead-ends : Ends x.kind → (r' : ℕ) → r' ≡ max r x.reach.0 → answer w r' ≡ asked
  unfolding ahead_from
  ahead-ends e r' q = rw (q, l.reach, l.step, width-ends g w at _ l.tok (rw l.kind at e))

  -- Widths stay below 64 pixels a byte.
  pub word-known : g ≤ 64 → known_of w ≤ 64 * at → known_of (added w (x.chars.0 * g)) ≤ 64 * x.end.0
  word-known b h = omega (arith, known-added w (x.chars.0 * g), times_bound x.chars.0 g l.few b, l.longer)

pub ahead-end : (t : List ℕ) (at g : ℕ) (w : Option Pixels) (r : ℕ) → tokens (chars_from t at) ≡ [] → (r' : ℕ) → r' ≡ max r (at + 1)
    → answer w r' ≡ ahead_from r (next_width g w at (tokens (chars_from t at)))
unfolding ahead_from next_width
ahead-end t at g w r e r' q = rw (q, e)
