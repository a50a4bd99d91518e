-- A pass takes no more of a text than fills its line, token by token, if it drops nothing (rule 8, rule 9).
-- Assumes nothing.
use Rattle.std.specs.Prelude.{ℕ, ◌+◌, ◌≤◌, ◌≡◌, refl, Bool, true, not, length, take, drop}
use Rattle.std.proofs.Common.{ap, ◌∙◌, length-drop}
use mathlib.Core.List.{List, [], ◌∷◌, ◌++◌}
use native.Mathlib.Omega.{arith}
use Rattle.std.proofs.lemmas.List.{take-append-le, drop-append-le}
use Rattle.std.proofs.Math.Seq.{drop-append-add}
use Rattle.meaning.specs.Tokens.{Tok, newLine, carriageReturn, tab, softHyphen, space, word, chars_of, size_of, need_of}
use Rattle.meaning.specs.Characters.{in_run}
use Rattle.meaning.specs.LineIter.{Step, go, stop, step, Ran, pass_on, process}
use Rattle.meaning.specs.declared.settings.Settings.{Settings}
use Rattle.meaning.specs.declared.cursor.Place.{Place}
use Rattle.meaning.specs.declared.line.LineEnd.TheVariants.{EndOfText}
use Rattle.laws.specs.Spell.{text_of, spell, Sound}
use Rattle.laws.specs.Runs.{Pass}
use Rattle.laws.specs.TokenLaws.{chars-text}
use Rattle.laws.specs.Steps.{SoundStep, step-sound}
use Rattle.columns.specs.Filling.{empty_line, fill_all}
use Rattle.columns.specs.StepFilling.{InBox, standing, filled_in, Roomy, Known, step_room}

-- A part of what stands in front, behind its first characters.
part-first : (k j : ℕ) (xs cs : List ℕ) → k + j ≤ length xs → take j (drop k (xs ++ cs)) ≡ take j (drop k xs)
part-first k j xs cs h =
    ap (take j) (drop-append-le k xs cs (omega arith)) ∙ take-append-le j (drop k xs) cs (rw length-drop (omega arith))

-- Of all these tokens it is known.
abbrev pub AllKnown : List Tok → Type 0
AllKnown [] = Unit {0}
AllKnown (t ∷ ts) = Known true (spell ts) t × AllKnown ts

-- The first of them may be held.
abbrev pub KnownFrom : (begun : Bool) → List Tok → Type 0
KnownFrom b [] = Unit {0}
KnownFrom b (t ∷ ts) = Known b (spell ts) t × AllKnown ts

pub known_from : (b : Bool) (ts : List Tok) → AllKnown ts → KnownFrom b ts
known_from b [] h = tt
known_from b (newLine ∷ ts) h = (tt, h.1)
known_from b (carriageReturn ∷ ts) h = (tt, h.1)
known_from b (tab ∷ ts) h = (tt, h.1)
known_from b (softHyphen ∷ ts) h = (tt, h.1)
known_from b (space cs n e ∷ ts) h = ((h.0.0, λ _. h.0.1 refl), h.1)
known_from b (word cs e ∷ ts) h = h

-- The text cs from a pass's place on fills no more lines than what the pass leaves of it from the next line on, if nothing is dropped; what is
-- held is of a run; and if the pass ends the text, it fills no line more.
pub record Filled (s : Settings) (l : ℕ) (p : Place) (cs : List ℕ) (r : Ran) : Type 0 where
  pub room : r.dropped ≡ 0 → (filled_in s (standing l p) cs).lines ≤ (filled_in s (empty_line (l + 1)) (drop r.chars cs)).lines
  pub held : Pass in_run (take r.held.chars (drop r.chars cs))
  pub end : r.ended ≡ EndOfText → (filled_in s (standing l p) cs).lines ≤ l

past_token : (t : Tok) (cs : List ℕ) (k : ℕ) → drop (chars_of t + k) (text_of t ++ cs) ≡ drop k cs
past_token t cs k = rw (chars-text t) (drop-append-add (text_of t) cs k)

module _ (s : Settings) (some : 1 ≤ s.glyph.0) (l : ℕ) where
  filled_on : (p : Place) (here : ℕ) (t : Tok) (cs : List ℕ) (x : Step) (more : Place → Ran) → SoundStep (chars_of t) p x
      → Roomy s l p (text_of t) cs x → ((q : Place) → InBox s q → Filled s l q cs (more q))
      → Filled s l p (text_of t ++ cs) (pass_on here (chars_of t) x more)
  filled_on p here t cs (go q ds r) more sound x f =
      let m = more q in
      let i = f q x.0 in
      let rest = past_token t cs m.chars in
      record {
        room = λ d. rw rest (omega (arith, x.1, i.room d));
        held = rw rest i.held;
        end = λ e. omega (arith, x.1, i.end e);
      }
  filled_on p here t cs (stop e ds k h d r) more sound x f =
      let xs = text_of t in
      let inside : k + h.chars ≤ length xs = omega (arith, sound.within, chars-text t) in
      record {
        room = λ z. rw (drop-append-le k xs cs (omega arith)) (x.0 z);
        held = rw (part-first k h.chars xs cs inside) x.1;
        end = λ q. absurd (sound.inside q);
      }

  -- From where the cursor stands in the box.
  pub pass_fills : (ts : List Tok) (p : Place) (at : ℕ) → Sound ts → KnownFrom (not p.empty) ts → InBox s p
      → Filled s l p (spell ts) (process s p at ts)
  unfolding process spell fill_all
  pass_fills [] p at sound known f = record { room = λ _. omega arith; held = tt; end = λ _. omega arith }
  pass_fills (t ∷ ts) p at sound known f =
      filled_on p (at + need_of t) t (spell ts) (step s p at t ts) (λ q. process s q (at + size_of t) ts)
      (step-sound s p at t ts sound.0) (step_room s some l p at f t ts sound.0 known.0)
      (λ q g. pass_fills ts q (at + size_of t) sound.1 (known_from (not q.empty) ts known.1) g)
