-- What a line takes, holds and reaches: its two passes are over the same text (rule 10, rule 12).
-- Assumes nothing.
use Rattle.std.specs.Prelude.{ℕ, ◌+◌, ◌≤◌, ◌≡◌, refl, length, take, drop}
use Rattle.std.proofs.Math.Path.{subst}
use mathlib.Core.List.{List}
use Rattle.std.proofs.Common.{arith, length-drop}
use Rattle.utf8.specs.Encoding.{size}
use Rattle.meaning.specs.Tokens.{Tok}
use Rattle.meaning.specs.Alignment.{plain_spaces}
use Rattle.meaning.specs.LineIter.{Held}
use Rattle.meaning.specs.Line.{Line, line_tokens, start_place, measuring, placing, line_of, lay_line}
use Rattle.meaning.specs.declared.settings.Settings.{Settings}
use Rattle.meaning.specs.declared.line.LineEnd.TheVariants.{EndOfText}
use Rattle.laws.specs.Spell.{spell, Sound}
use Rattle.laws.specs.LineTokens.{line-tokens_cover, line-tokens-sound}
use Rattle.laws.specs.PassBounds.{pass-chars, pass-held, pass-reach-low, pass-reach-high, pass-end, pass-takes}

-- All of it, of a line at the front of the text cs.
record Bounds (cs : List ℕ) (l : Line) : Type 0 where
  chars : l.chars + l.held.chars ≤ length cs
  held : l.held.count ≤ l.held.chars
  low : size (take (l.chars + l.held.chars) cs) ≤ l.reach
  high : l.reach ≤ size cs + 1
  end : l.ended ≡ EndOfText → (l.chars ≡ length cs) × (l.held.chars ≡ 0) × (l.reach ≡ size cs + 1)
  takes : (l.ended ≡ EndOfText → ⊥) → 1 ≤ l.chars

bounds : (s : Settings) (ts : List Tok) → Sound ts → Bounds (spell ts) (line_of s ts)
unfolding line_of measuring start_place
bounds s ts h =
    let placed = placing s (measuring s ts) in
    let p = start_place s 0 (plain_spaces s) in
    let q = start_place s placed.left.0 placed.spaces in
    record {
      chars = pass-chars s q 0 ts h;
      held = pass-held s q 0 ts h;
      low = omega (arith, pass-reach-low s q 0 ts h);
      high = omega (arith, pass-reach-high s p 0 ts h, pass-reach-high s q 0 ts h);
      end =
          λ e.
          let f = pass-end s q 0 ts h e in
          (f.0, f.1, omega (arith, pass-reach-high s p 0 ts h, pass-reach-high s q 0 ts h));
      takes = pass-takes s q 0 ts h (record { empty = refl; unmoved = refl });
    }

module _ (s : Settings) (h : Held) (cs : List ℕ) (f : h.chars ≤ length cs) (g : h.count ≤ h.chars) where
  laid : Bounds cs (lay_line s h cs)
  unfolding lay_line
  laid =
      subst (λ (c : List ℕ). Bounds c (line_of s (line_tokens h cs))) (line-tokens_cover h cs)
      (bounds s (line_tokens h cs) (line-tokens-sound h cs f g))

  -- No more is taken and held than there is, and no more spaces are held than characters.
  pub line-chars : (lay_line s h cs).chars + (lay_line s h cs).held.chars ≤ length cs
  line-chars = laid.chars

  pub line-held : (lay_line s h cs).held.count ≤ (lay_line s h cs).held.chars
  line-held = laid.held

  -- What is held stands in front of what is left: the next line starts as this one did.
  pub line-rest : (lay_line s h cs).held.chars ≤ length (drop (lay_line s h cs).chars cs)
  line-rest = rw length-drop (omega (arith, line-chars))

  -- A line that does not end the text takes a character.
  pub line-takes : ((lay_line s h cs).ended ≡ EndOfText → ⊥) → 1 ≤ (lay_line s h cs).chars
  line-takes = laid.takes

  -- What was taken and held was examined, and nothing past the character after the text, which stands for its end.
  pub line-reach-low : size (take ((lay_line s h cs).chars + (lay_line s h cs).held.chars) cs) ≤ (lay_line s h cs).reach
  line-reach-low = laid.low

  pub line-reach-high : (lay_line s h cs).reach ≤ size cs + 1
  line-reach-high = laid.high

  -- A line that ends the text takes all of it, holds nothing, and has met the text's end.
  pub line-end : (lay_line s h cs).ended ≡ EndOfText
      → ((lay_line s h cs).chars ≡ length cs) × ((lay_line s h cs).held.chars ≡ 0) × ((lay_line s h cs).reach ≡ size cs + 1)
  line-end = laid.end
