-- The tokens of a line up to the first that ends it are of the text's first part; and what a line holds is of the first part of what is
-- left (rule 2, rule 9).
-- Assumes nothing.
use Rattle.std.specs.Prelude.{ℕ, zero, suc, ◌+◌, ◌≤◌, ◌≡◌, refl, Bool, false, length, drop}
use Rattle.std.proofs.Common.{sym, inl, inr, arith}
use Rattle.std.proofs.Math.Path.{subst}
use mathlib.Core.List.{List, [], ◌∷◌, ◌++◌}
use Rattle.std.proofs.Math.Seq.{drop-append-add}
use Rattle.basis.specs.Choice.{pick}
use Rattle.meaning.specs.Characters.{class_of, in_word, in_run}
use Rattle.meaning.specs.Tokens.{Tok, newLine, carriageReturn, tab, softHyphen, space, word, tokens, chars_of, size_of, need_of}
use Rattle.meaning.specs.LineIter.{Held, Step, go, stop, step, Ran, pass_on, process}
use Rattle.meaning.specs.Line.{held_tokens, line_tokens, start_place, measuring, placing, line_of, lay_line}
use Rattle.meaning.specs.declared.settings.Settings.{Settings}
use Rattle.meaning.specs.declared.cursor.Place.{Place}
use Rattle.laws.specs.Spell.{text_of, spell, Sound}
use Rattle.laws.specs.Runs.{Pass}
use Rattle.laws.specs.Longest.{AllLongest, tokens-longest}
use Rattle.laws.specs.TokenLaws.{chars-text}
use Rattle.laws.specs.Steps.{SoundStep, step-sound}
use Rattle.laws.specs.LineTokens.{line-tokens_cover, line-tokens-sound}
use Rattle.laws.specs.LineBounds.{line-held}
use Rattle.widths.specs.LineParts.{breaks, others_break, in_part, first_part, first-within, part-joined, part-rest, first_passes}

-- No word and no space run of these has an end of a line.
abbrev pub InParts : List Tok → Type 0
InParts [] = Unit {0}
InParts (newLine ∷ ts) = InParts ts
InParts (carriageReturn ∷ ts) = InParts ts
InParts (tab ∷ ts) = InParts ts
InParts (softHyphen ∷ ts) = InParts ts
InParts (space cs n e ∷ ts) = Pass in_part cs × InParts ts
InParts (word cs e ∷ ts) = Pass in_part cs × InParts ts

-- ---- the tokens of a text

passes_on : (f : ℕ → Bool) → f 0x000A ≡ false → f 0x000D ≡ false → (cs : List ℕ) → Pass f cs → Pass in_part cs
passes_on f a b [] h = tt
passes_on f a b (c ∷ cs) h = (rw (others_break f a b c h.0), passes_on f a b cs h.1)

word-passes : (cs : List ℕ) → Pass in_word cs → Pass in_part cs
unfolding in_word class_of pick
word-passes = passes_on in_word refl refl

run-passes : (cs : List ℕ) → Pass in_run cs → Pass in_part cs
unfolding in_run class_of pick
run-passes = passes_on in_run refl refl

zero-width-passes : Pass in_part (0x200B ∷ [])
unfolding breaks pick
zero-width-passes = (refl, tt)

longest_in_parts : (ts : List Tok) → AllLongest ts → InParts ts
longest_in_parts [] l = tt
longest_in_parts (newLine ∷ ts) l = longest_in_parts ts l.1
longest_in_parts (carriageReturn ∷ ts) l = longest_in_parts ts l.1
longest_in_parts (tab ∷ ts) l = longest_in_parts ts l.1
longest_in_parts (softHyphen ∷ ts) l = longest_in_parts ts l.1
longest_in_parts (space cs n e ∷ ts) (inl a, l) = (subst (Pass in_part) (sym a.is) zero-width-passes, longest_in_parts ts l)
longest_in_parts (space cs n e ∷ ts) (inr s, l) = (run-passes cs s.all, longest_in_parts ts l)
longest_in_parts (word cs e ∷ ts) l = (word-passes cs l.0.all, longest_in_parts ts l.1)

held_in-parts : (k n : ℕ) (cs : List ℕ) → k ≤ first_part cs → InParts (held_tokens k n cs)
unfolding held_tokens
held_in-parts zero n cs h = longest_in_parts (tokens cs) (tokens-longest cs)
held_in-parts (suc k) n cs h =
    (first_passes (suc k) cs h, longest_in_parts (tokens (drop (suc k) cs)) (tokens-longest (drop (suc k) cs)))

-- So of a line that begins with what is held, if that is of the first part.
pub line_in_parts : (h : Held) (cs : List ℕ) → h.chars ≤ first_part cs → InParts (line_tokens h cs)
unfolding line_tokens
line_in_parts h cs f = held_in-parts h.chars h.count cs f

-- ---- what is held

-- What stands behind k characters of a part, and what may be held of it.
within-part : (k h : ℕ) (xs ys : List ℕ) → Pass in_part xs → k + h ≤ length xs → h ≤ first_part (drop k (xs ++ ys))
within-part k h xs ys p f =
    let all = part-joined xs ys p in
    omega (arith, all, part-rest k (xs ++ ys) (omega (arith, all)))

abbrev HeldPart : List ℕ → Ran → Type 0
HeldPart cs r = r.held.chars ≤ first_part (drop r.chars cs)

on-held : (p : Place) (here : ℕ) (t : Tok) (ts : List Tok) (x : Step) (more : Place → Ran) → Pass in_part (text_of t) → SoundStep (chars_of t) p x
    → ((q : Place) → HeldPart (spell ts) (more q)) → HeldPart (spell (t ∷ ts)) (pass_on here (chars_of t) x more)
unfolding spell
on-held p here t ts (go q ds r) more f x g =
    rw (chars-text t, drop-append-add (text_of t) (spell ts) (more q).chars) (g q)
on-held p here t ts (stop e ds k h d r) more f x g =
    within-part k h.chars (text_of t) (spell ts) f (omega (arith, x.within, chars-text t))

pass-held-part : (s : Settings) (p : Place) (at : ℕ) (ts : List Tok) → Sound ts → InParts ts → HeldPart (spell ts) (process s p at ts)
unfolding process step breaks pick
pass-held-part s p at [] h f = omega arith
pass-held-part s p at (newLine ∷ ts) h f = omega arith
pass-held-part s p at (carriageReturn ∷ ts) h f = omega arith
pass-held-part s p at (tab ∷ ts) h f =
    on-held p (at + need_of tab) tab ts (step s p at tab ts) (λ q. process s q (at + size_of tab) ts) (refl, tt) (step-sound s p at tab ts h.0)
    (λ q. pass-held-part s q (at + size_of tab) ts h.1 f)
pass-held-part s p at (softHyphen ∷ ts) h f =
    on-held p (at + need_of softHyphen) softHyphen ts (step s p at softHyphen ts) (λ q. process s q (at + size_of softHyphen) ts) (refl, tt)
    (step-sound s p at softHyphen ts h.0) (λ q. pass-held-part s q (at + size_of softHyphen) ts h.1 f)
pass-held-part s p at (space cs n e ∷ ts) h f =
    let t = space cs n e in
    on-held p (at + need_of t) t ts (step s p at t ts) (λ q. process s q (at + size_of t) ts) f.0 (step-sound s p at t ts h.0)
    (λ q. pass-held-part s q (at + size_of t) ts h.1 f.1)
pass-held-part s p at (word cs e ∷ ts) h f =
    let t = word cs e in
    on-held p (at + need_of t) t ts (step s p at t ts) (λ q. process s q (at + size_of t) ts) f.0 (step-sound s p at t ts h.0)
    (λ q. pass-held-part s q (at + size_of t) ts h.1 f.1)

-- What is held before a line is of the first part of its text, and counts no more spaces than it has characters.
abbrev pub HeldFirst : Held → List ℕ → Type 0
HeldFirst h cs = (h.chars ≤ first_part cs) × (h.count ≤ h.chars)

pub first-sound : (h : Held) (cs : List ℕ) → HeldFirst h cs → Sound (line_tokens h cs)
first-sound h cs f = line-tokens-sound h cs (omega (arith, f.0, first-within cs)) f.1

module _ (s : Settings) (h : Held) (cs : List ℕ) (f : HeldFirst h cs) where
  line-held-part : (lay_line s h cs).held.chars ≤ first_part (drop (lay_line s h cs).chars cs)
  unfolding lay_line line_of
  line-held-part =
      let ts = line_tokens h cs in
      let placed = placing s (measuring s ts) in
      let q = start_place s placed.left.0 placed.spaces in
      subst (λ (c : List ℕ). HeldPart c (process s q 0 ts)) (line-tokens_cover h cs) (pass-held-part s q 0 ts (first-sound h cs f) (line_in_parts h cs f.0))

  -- Then so is what it holds itself.
  pub line-held-first : HeldFirst (lay_line s h cs).held (drop (lay_line s h cs).chars cs)
  line-held-first = (line-held-part, line-held s h cs (omega (arith, f.0, first-within cs)) f.1)
