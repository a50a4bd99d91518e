-- What a token that was read at an offset of a text says of the text.
-- Assumes nothing.
use Rattle.std.specs.Prelude.{ℕ, ◌+◌, ◌-◌, ◌≤◌, ◌<◌, ◌≡◌, refl, List, [], ◌∷◌, ◌++◌, length, drop, None, Some}
use Rattle.std.proofs.Common.{arith, sym, ap, ◌∙◌, subst, length-drop, take_at}
use Rattle.utf8.specs.Encoding.{size}
use Rattle.utf8.specs.Sizes.{size_append}
use Rattle.utf8.specs.Decoding.{valid_prefix}
use Rattle.utf8.specs.Prefix.{prefix-within}
use Rattle.meaning.specs.Characters.{class_of}
use Rattle.meaning.specs.Tokens.{Tok, newLine, carriageReturn, tab, softHyphen, space, word, first, others, tokens, chars_of, size_of, ender_of, need_of, kind_of, count_of}
use Rattle.laws.specs.Spell.{text_of, SoundTok}
use Rattle.laws.specs.TokenLaws.{tokens_none, tokens-step, tokens_cover, tokens-sound, first-text, size-text, chars-size, sound-size}
use Rattle.laws.specs.Reaches.{need_bound}
use Rattle.parser.specs.NextLaws.{chars_after, next-none}
use Rattle.parser.specs.Lexing.{chars_from, glues_of, lexeme_at, lexed_at}
use Rattle.parser.specs.declared.lexeme.Lexeme.{Lexeme}
use Rattle.steps.specs.Stepping.{tok_of}

-- The characters from an offset on lie in the text.
pub chars-within : (t : List ℕ) (at : ℕ) → size (chars_from t at) ≤ length t - at
unfolding chars_from valid_prefix
chars-within t at = rw (length-drop at t) at (prefix-within (drop at t))

-- The token that is read as x at an offset of the text t, and where it stands there.
pub record Lexes (t : List ℕ) (at : ℕ) (x : Lexeme) : Type 0 where
  pub tok : Tok
  -- the tokens from here on are it and those from its end on
  pub step : tokens (chars_from t at) ≡ tok ∷ tokens (chars_from t x.end.0)
  pub text : chars_from t at ≡ text_of tok ++ chars_from t x.end.0
  pub sound : SoundTok tok (chars_from t x.end.0)
  -- it is what x says
  pub is : x ≡ lexeme_at at tok
  pub named : tok_of t at x ≡ tok
  pub kind : x.kind ≡ kind_of tok
  pub end : x.end.0 ≡ at + size_of tok
  pub chars : x.chars.0 ≡ chars_of tok
  pub count : x.count.0 ≡ count_of tok
  pub glues : x.glues.0 ≡ glues_of tok
  pub reach : x.reach.0 ≡ at + need_of tok
  -- it lies in the text
  pub longer : at < x.end.0
  pub within : x.end.0 ≤ length t
  pub few : x.chars.0 ≤ x.end.0 - at
  pub fewer : x.count.0 ≤ x.chars.0
  pub looks : x.reach.0 ≤ length t + 1

pub tok-named : (t : List ℕ) (at : ℕ) (u : Tok) (r : List ℕ) → chars_from t at ≡ text_of u ++ r → tok_of t at (lexeme_at at u) ≡ u
unfolding tok_of lexeme_at chars_of need_of size_of ender_of
tok-named t at newLine r h = refl
tok-named t at carriageReturn r h = refl
tok-named t at tab r h = refl
tok-named t at softHyphen r h = refl
tok-named t at (space cs n e) r h =
    let q : at + (size cs + e) - (at + size cs) ≡ e = omega arith in
    rw (h, take_at cs r (length cs) refl, q)
tok-named t at (word cs e) r h =
    let q : at + (size cs + e) - (at + size cs) ≡ e = omega arith in
    rw (h, take_at cs r (length cs) refl, q)

pub counts-chars : (u : Tok) (cs : List ℕ) → SoundTok u cs → count_of u ≤ chars_of u
unfolding chars_of
counts-chars newLine cs h = omega arith
counts-chars carriageReturn cs h = omega arith
counts-chars tab cs h = omega arith
counts-chars softHyphen cs h = omega arith
counts-chars (space ws n e) cs h = h.1
counts-chars (word ws e) cs h = omega arith

-- A token that stands at an offset, before the characters r.
module _ (t : List ℕ) (at : ℕ) (u : Tok) (r : List ℕ) (h : chars_from t at ≡ text_of u ++ r) (s : SoundTok u r) where
  pub rest-is : chars_from t (at + size_of u) ≡ r
  rest-is = rw (size-text u) (chars_after t (text_of u) r at h)

  pub inside : at + size_of u + size r ≤ length t
  inside = omega (arith, sound-size u r s, size-text u, size_append (text_of u) r, rw h at (chars-within t at))

  lexes-tok : tokens (chars_from t at) ≡ u ∷ tokens r → Lexes t at (lexeme_at at u)
  unfolding lexeme_at
  lexes-tok k =
      record {
        tok = u;
        step = rw rest-is k;
        text = rw rest-is h;
        sound = rw rest-is s;
        is = refl;
        named = tok-named t at u r h;
        kind = refl;
        end = refl;
        chars = refl;
        count = refl;
        glues = refl;
        reach = refl;
        longer = omega (arith, sound-size u r s);
        within = omega (arith, inside);
        few = omega (arith, chars-size u);
        fewer = counts-chars u r s;
        looks = omega (arith, inside, need_bound u r s);
      }

lexes-chars : (t : List ℕ) (at : ℕ) (x : Lexeme) (cs : List ℕ) → chars_from t at ≡ cs → lexed_at at (tokens cs) ≡ Some x → Lexes t at x
unfolding lexed_at
lexes-chars t at x [] h e = let z : ◌≡◌ {A = ℕ} 0 1 = cc (rw tokens_none at e) in absurd (omega arith)
lexes-chars t at x (c ∷ cs) h e =
    let u = first (class_of c) c cs in
    let r = others (class_of c) cs in
    let q : lexeme_at at u ≡ x = cc (rw (tokens-step c cs) at e) in
    subst (Lexes t at) q
    (lexes-tok t at u r (h ∙ sym (first-text c cs)) (rw (tokens_cover r) at (rw (tokens-step c cs) at (tokens-sound (c ∷ cs))).0) (ap tokens h ∙ tokens-step c cs))

-- What stands at an offset where a token is read, and where the text's end is.
pub lexes : (t : List ℕ) (at : ℕ) (x : Lexeme) → lexed_at at (tokens (chars_from t at)) ≡ Some x → Lexes t at x
lexes t at x e = lexes-chars t at x (chars_from t at) refl e

pub lexes-end : (t : List ℕ) (at : ℕ) → lexed_at at (tokens (chars_from t at)) ≡ None → tokens (chars_from t at) ≡ []
lexes-end t at e = next-none t at e
