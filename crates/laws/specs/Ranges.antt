-- The byte ranges of a text's tokens: they follow one another and cover the text (rule 3).
-- Assumes nothing.
use Rattle.std.specs.Prelude.{ℕ, ◌+◌, ◌<◌, ◌≡◌, refl, List, [], ◌∷◌}
use Rattle.std.proofs.Common.{arith}
use Rattle.utf8.specs.Encoding.{size}
use Rattle.meaning.specs.Tokens.{Tok, size_of, tokens, ranged}
use Rattle.meaning.specs.declared.tokens.Token.{Token}
use Rattle.laws.specs.Spell.{spell, Sound}
use Rattle.laws.specs.TokenLaws.{tokens_cover, tokens-sound, size-spell, sound-size}

-- The first range starts at an offset, each next one where the one before it ends, and the last ends at `to`. None is empty.
abbrev pub Follow : (at : ℕ) → List Token → (to : ℕ) → Type 0
Follow at [] to = at ≡ to
Follow at (t ∷ ts) to = (t.start.0 ≡ at) × (at < t.end.0) × Follow t.end.0 ts to

pub ranged-follow : (at : ℕ) (ts : List Tok) → Sound ts → Follow at (ranged at ts) (at + size (spell ts))
unfolding ranged spell size
ranged-follow at [] s = omega arith
ranged-follow at (t ∷ ts) s =
    let e : at + size (spell (t ∷ ts)) ≡ at + size_of t + size (spell ts) = omega (arith, size-spell t ts) in
    (refl, omega (arith, sound-size t (spell ts) s.0), rw e (ranged-follow (at + size_of t) ts s.1))

-- The tokens of a text that starts at an offset.
pub tokens-follow : (at : ℕ) (cs : List ℕ) → Follow at (ranged at (tokens cs)) (at + size cs)
tokens-follow at cs = rw (tokens_cover cs) at (ranged-follow at (tokens cs) (tokens-sound cs))
