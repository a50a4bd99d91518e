-- The tokens of a line's text, the first of which may be what was held (rule 9).
-- Assumes nothing.
use Rattle.std.specs.Prelude.{ℕ, zero, suc, ◌≤◌, ◌≡◌, List, length, drop}
use Rattle.std.proofs.Common.{arith, take-append-drop, length-take-le}
use Rattle.meaning.specs.LineIter.{Held}
use Rattle.meaning.specs.Line.{held_tokens, line_tokens}
use Rattle.laws.specs.Spell.{spell, Sound}
use Rattle.laws.specs.TokenLaws.{tokens_cover, tokens-sound}

held_cover : (n count : ℕ) (cs : List ℕ) → spell (held_tokens n count cs) ≡ cs
unfolding held_tokens spell
held_cover zero count cs = tokens_cover cs
held_cover (suc k) count cs = rw (tokens_cover (drop (suc k) cs)) (take-append-drop (suc k) cs)

-- They are the text.
pub line-tokens_cover : (h : Held) (cs : List ℕ) → spell (line_tokens h cs) ≡ cs
unfolding line_tokens
line-tokens_cover h cs = held_cover h.chars h.count cs

held-sound : (n count : ℕ) (cs : List ℕ) → n ≤ length cs → count ≤ n → Sound (held_tokens n count cs)
unfolding held_tokens
held-sound zero count cs g h = tokens-sound cs
held-sound (suc k) count cs g h =
    let r = drop (suc k) cs in
    ((rw (length-take-le (suc k) cs g) (omega arith), rw (length-take-le (suc k) cs g) h, rw (tokens_cover r) (omega arith)), tokens-sound r)

-- What is held lies within the text, and counts no more spaces than it has characters.
pub line-tokens-sound : (h : Held) (cs : List ℕ) → h.chars ≤ length cs → h.count ≤ h.chars → Sound (line_tokens h cs)
unfolding line_tokens
line-tokens-sound h cs = held-sound h.chars h.count cs
