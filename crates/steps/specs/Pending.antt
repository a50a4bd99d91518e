-- What a line begins with: the resumed rest as one token, or else the token at its offset.
-- Assumes nothing.
use Rattle.std.specs.Prelude.{ℕ, zero, suc, ◌+◌, ◌≤◌, ◌≡◌, refl, List, [], ◌∷◌, ◌++◌, length, take, drop, None, Some}
use Rattle.std.proofs.Common.{arith, sym, subst, take-append-drop, length-take-le}
use Rattle.std.proofs.Math.Path.{ap}
use Rattle.utf8.specs.Encoding.{size}
use Rattle.meaning.specs.Tokens.{Tok, space, ender, tokens, size_of, need_of}
use Rattle.meaning.specs.Line.{held_tokens}
use Rattle.laws.specs.Spell.{text_of, SoundTok}
use Rattle.meaning.specs.declared.tokens.TokenKind.TheVariants.{Whitespace}
use Rattle.laws.specs.TokenLaws.{sound-size}
use Rattle.laws.specs.Reaches.{need_bound}
use Rattle.parser.specs.Lexing.{chars_from, lexeme_at, lexed_at}
use Rattle.parser.specs.declared.lexeme.Lexeme.{Lexeme}
use Rattle.steps.specs.Stepping.{tok_of}
use Rattle.steps.specs.Lexed.{lexes, tok-named, rest-is, inside}
use Rattle.steps.specs.Ready.{Standing}
use Rattle.steps.specs.declared.step.Resumed.{Resumed}

-- A resumed rest is the text's first characters from an offset on.
pub record RestFits (t : List ℕ) (at : ℕ) (r : Resumed) : Type 0 where
  pub within : r.chars.0 ≤ length (chars_from t at)
  pub counts : r.count.0 ≤ r.chars.0
  pub ends : (r.chars.0 ≡ 0 → ⊥) → r.end.0 ≡ at + size (take r.chars.0 (chars_from t at))

-- Such a rest as one token, ended by a character of so many bytes.
unfoldable pub rest_lexeme : Resumed → (ender : ℕ) → Lexeme
rest_lexeme r e =
    record {
      kind = Whitespace;
      end = r.end;
      chars = r.chars;
      count = r.count;
      glues = record { 0 = 0 };
      reach = record { 0 = r.end.0 + e };
    }

-- The first token at an offset, after a rest of so many characters and spaces, is read as x.
pub record Pending (t : List ℕ) (at chars count : ℕ) (x : Lexeme) : Type 0 where
  pub stands : Standing t at x
  pub first : held_tokens chars count (chars_from t at) ≡ tok_of t at x ∷ tokens (chars_from t x.end.0)
  pub end : x.end.0 ≡ at + size_of (tok_of t at x)
  pub reach : x.reach.0 ≡ at + need_of (tok_of t at x)

-- A token that stands at an offset, before the characters r.
module _ (t : List ℕ) (at : ℕ) (u : Tok) (r : List ℕ) (h : chars_from t at ≡ text_of u ++ r) (s : SoundTok u r) where
  stands-tok : Standing t at (lexeme_at at u)
  unfolding lexeme_at
  stands-tok =
      let n = tok-named t at u r h in
      let e = rest-is t at u r h s in
      let i = inside t at u r h s in
      record {
        is = ap (lexeme_at at) (sym n);
        text = rw (n, e) (sym h);
        sound = rw (n, e) s;
        longer = omega (arith, sound-size u r s);
        within = omega arith;
        looks = omega (arith, need_bound u r s);
      }

  pending-tok : (chars count : ℕ) → held_tokens chars count (chars_from t at) ≡ u ∷ tokens r → Pending t at chars count (lexeme_at at u)
  unfolding lexeme_at
  pending-tok chars count k =
      let n = tok-named t at u r h in
      record { stands = stands-tok; first = rw (n, rest-is t at u r h s) k; end = rw n; reach = rw n }

-- It is what stands there.
pending-read : (t : List ℕ) (at chars count : ℕ) (x : Lexeme) → chars ≤ length (chars_from t at) → count ≤ chars
    → lexed_at at (held_tokens chars count (chars_from t at)) ≡ Some x → Pending t at chars count x
unfolding held_tokens lexed_at
pending-read t at zero count x h g e =
    let l = lexes t at x e in
    subst (Pending t at zero count) (sym l.is) (pending-tok t at l.tok (chars_from t x.end.0) l.text l.sound zero count l.step)
pending-read t at (suc k) count x h g e =
    let cs = chars_from t at in
    let r = drop (suc k) cs in
    let u = space (take (suc k) cs) count (ender r) in
    let l = length-take-le (suc k) cs h in
    let q : lexeme_at at u ≡ x = cc in
    subst (Pending t at (suc k) count) q
    (pending-tok t at u r (sym (take-append-drop (suc k) cs)) (omega arith, omega arith, omega arith) (suc k) count refl)

pub pending : (t : List ℕ) (at : ℕ) (r : Resumed) (x : Lexeme) → RestFits t at r
    → lexed_at at (held_tokens r.chars.0 r.count.0 (chars_from t at)) ≡ Some x → Pending t at r.chars.0 r.count.0 x
pending t at r x f e = pending-read t at r.chars.0 r.count.0 x f.within f.counts e

-- Nothing stands at the text's end.
pub none-pending : (at : ℕ) (ts : List Tok) → lexed_at at ts ≡ None → ts ≡ []
unfolding lexed_at
none-pending at [] e = refl
none-pending at (u ∷ ts) e = cc
