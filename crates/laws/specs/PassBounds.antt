-- What a pass takes, holds and reaches, whatever the settings and wherever it starts (rule 8).
-- Assumes nothing.
use Rattle.std.specs.Prelude.{ℕ, ◌+◌, ◌≤◌, ◌≡◌, refl, List, [], ◌∷◌, ◌++◌, length, take, drop}
use Rattle.std.proofs.Common.{add_assoc, arith, length-append, take-append-drop}
use Rattle.std.proofs.lemmas.List.{take-append-le}
use Rattle.std.proofs.Math.Seq.{take-append-add}
use Rattle.utf8.specs.Encoding.{size}
use Rattle.utf8.specs.Sizes.{size_append}
use Rattle.meaning.specs.Tokens.{Tok, chars_of, size_of, need_of}
use Rattle.meaning.specs.LineIter.{Step, go, stop, Ran, step, pass_on, process}
use Rattle.meaning.specs.declared.settings.Settings.{Settings}
use Rattle.meaning.specs.declared.cursor.Place.{Place}
use Rattle.meaning.specs.declared.line.LineEnd.TheVariants.{EndOfText}
use Rattle.laws.specs.Spell.{text_of, spell, SoundTok, Sound}
use Rattle.laws.specs.TokenLaws.{chars-text, size-text, size-spell, sound-chars}
use Rattle.laws.specs.Reaches.{here-bound}
use Rattle.laws.specs.Steps.{Untouched, SoundStep, step-sound, looked_of, step-reach}

-- A part of a text takes no more bytes than the text.
pub size-take : (k : ℕ) (cs : List ℕ) → size (take k cs) ≤ size cs
size-take k cs = omega (arith, rw take-append-drop at (size_append (take k cs) (drop k cs)))

-- The text of a token, and of those after it.
pub spell-length : (t : Tok) (ts : List Tok) → length (spell (t ∷ ts)) ≡ chars_of t + length (spell ts)
unfolding spell
spell-length t ts = rw (chars-text t) (length-append (text_of t) (spell ts))

part-size : (k : ℕ) (t : Tok) (ts : List Tok) → k ≤ chars_of t → size (take k (spell (t ∷ ts))) ≤ size_of t
unfolding spell
part-size k t ts h =
    rw (take-append-le k (text_of t) (spell ts) (omega (arith, chars-text t)), size-text t) (size-take k (text_of t))

-- A token and k characters after it.
pub whole-text : (k : ℕ) (t : Tok) (cs : List ℕ) → size (take (chars_of t + k) (text_of t ++ cs)) ≡ size_of t + size (take k cs)
whole-text k t cs = rw (chars-text t, size-text t, take-append-add (text_of t) cs k) (size_append (text_of t) (take k cs))

whole-size : (k : ℕ) (t : Tok) (ts : List Tok) → size (take (chars_of t + k) (spell (t ∷ ts))) ≡ size_of t + size (take k (spell ts))
unfolding spell
whole-size k t ts = whole-text k t (spell ts)

-- All of it, of a pass over the text cs from an offset on.
record Bounds (p : Place) (at : ℕ) (cs : List ℕ) (r : Ran) : Type 0 where
  chars : r.chars + r.held.chars ≤ length cs
  held : r.held.count ≤ r.held.chars
  low : at + size (take (r.chars + r.held.chars) cs) ≤ r.reach
  high : r.reach ≤ at + size cs + 1
  end : r.ended ≡ EndOfText → (r.chars ≡ length cs) × (r.held.chars ≡ 0) × (at + size cs + 1 ≤ r.reach)
  takes : Untouched p → (r.ended ≡ EndOfText → ⊥) → 1 ≤ r.chars

-- A step, and what holds of the pass after it.
pass_on_lem : (p : Place) (at : ℕ) (t : Tok) (ts : List Tok) (x : Step) (more : Place → Ran) → SoundTok t (spell ts)
    → SoundStep (chars_of t) p x → looked_of x ≤ at + size (spell (t ∷ ts)) + 1
    → ((q : Place) → Bounds q (at + size_of t) (spell ts) (more q))
    → Bounds p at (spell (t ∷ ts)) (pass_on (at + need_of t) (chars_of t) x more)
unfolding need_of
pass_on_lem p at t ts (go q ds r) more h x near b =
    let m = more q in
    let l = b q in
    record {
      chars = omega (arith, spell-length t ts, l.chars);
      held = l.held;
      low = rw (add_assoc (chars_of t) m.chars m.held.chars) (omega (arith, whole-size (m.chars + m.held.chars) t ts, l.low));
      high = omega (arith, size-spell t ts, here-bound at t ts h, l.high);
      end = λ e. let f = l.end e in (omega (arith, spell-length t ts), f.1, omega (arith, size-spell t ts));
      takes = λ _ _. omega (arith, sound-chars t (spell ts) h);
    }
pass_on_lem p at t ts (stop e ds k g d r) more h x near b =
    record {
      chars = omega (arith, spell-length t ts, x.within);
      held = x.held;
      low = omega (arith, part-size (k + g.chars) t ts x.within);
      high = omega (arith, here-bound at t ts h);
      end = λ q. absurd (x.inside q);
      takes = λ f _. x.takes f;
    }

bounds : (s : Settings) (p : Place) (at : ℕ) (ts : List Tok) → Sound ts → Bounds p at (spell ts) (process s p at ts)
unfolding process spell size
bounds s p at [] h =
    record {
      chars = omega arith;
      held = omega arith;
      low = omega arith;
      high = omega arith;
      end = λ _. (refl, refl, omega arith);
      takes = λ _ f. absurd (f refl);
    }
bounds s p at (t ∷ ts) h =
    pass_on_lem p at t ts (step s p at t ts) (λ q. process s q (at + size_of t) ts) h.0
    (step-sound s p at t ts h.0) (step-reach s p at t ts h.1) (λ q. bounds s q (at + size_of t) ts h.1)

module _ (s : Settings) (p : Place) (at : ℕ) (ts : List Tok) (h : Sound ts) where
  -- No more is taken and held than there is, and no more spaces are held than characters.
  pub pass-chars : (process s p at ts).chars + (process s p at ts).held.chars ≤ length (spell ts)
  pass-chars = (bounds s p at ts h).chars

  pub pass-held : (process s p at ts).held.count ≤ (process s p at ts).held.chars
  pass-held = (bounds s p at ts h).held

  -- What was taken and held was examined, and nothing past the character after the text, which stands for its end.
  pub pass-reach-low : at + size (take ((process s p at ts).chars + (process s p at ts).held.chars) (spell ts)) ≤ (process s p at ts).reach
  pass-reach-low = (bounds s p at ts h).low

  pub pass-reach-high : (process s p at ts).reach ≤ at + size (spell ts) + 1
  pass-reach-high = (bounds s p at ts h).high

  -- A line that ends the text takes all of it, holds nothing, and has met the text's end.
  pub pass-end : (process s p at ts).ended ≡ EndOfText
      → ((process s p at ts).chars ≡ length (spell ts)) × ((process s p at ts).held.chars ≡ 0)
      × (at + size (spell ts) + 1 ≤ (process s p at ts).reach)
  pass-end = (bounds s p at ts h).end

  -- From where a pass starts, a line that does not end the text takes a character.
  pub pass-takes : Untouched p → ((process s p at ts).ended ≡ EndOfText → ⊥) → 1 ≤ (process s p at ts).chars
  pass-takes = (bounds s p at ts h).takes
