-- Places in a text where a line may start (rule 10).
-- Assumes nothing.
use Rattle.std.specs.Prelude.{ℕ, suc, ◌+◌, ◌≤◌, ◌<◌, ◌≡◌, refl, List, [], ◌++◌, length, take, drop}
use Rattle.std.proofs.Common.{arith, ap, ◌∙◌, append_assoc, length-append, length-drop, take-append-drop}
use Rattle.utf8.specs.Encoding.{size}
use Rattle.utf8.specs.Sizes.{size_append}
use Rattle.meaning.specs.LineIter.{Held, nothing_held}
use Rattle.meaning.specs.Line.{lay_line}
use Rattle.meaning.specs.Layout.{Row, unless_ended}
use Rattle.meaning.specs.declared.settings.Settings.{Settings}
use Rattle.meaning.specs.declared.line.LineEnd.{LineEnd}
use Rattle.meaning.specs.declared.line.LineEnd.TheVariants.{EndOfText}
use Rattle.laws.specs.LineBounds.{line-chars, line-held, line-rest, line-takes}
use Rattle.laws.specs.RowInduction.{unless_cases}

-- The cases of what follows a line, for two texts at once.
pub unless_both : (R : List Row → List Row → Type 0) (e : LineEnd) (xs ys : List Row)
    → (e ≡ EndOfText → R [] []) → ((e ≡ EndOfText → ⊥) → R xs ys)
    → R (unless_ended e xs) (unless_ended e ys)
unless_both R e xs ys r f =
    unless_cases (λ zs. R zs (unless_ended e ys)) e xs (λ q. unless_cases (R []) e ys r (λ d. absurd (d q)))
    (λ d. unless_cases (R xs) e ys (λ q. absurd (d q)) f)

-- A place in a text where a line may start: what stands before it and after it, and what is held there.
pub record Stand (text : List ℕ) (start : ℕ) (held : Held) (part : List ℕ) : Type 0 where
  pub front : List ℕ
  pub is : text ≡ front ++ part
  pub at : start ≡ size front
  pub chars : held.chars ≤ length part
  pub count : held.count ≤ held.chars

-- Where a text begins, with nothing held.
pub first-stand : (text : List ℕ) → Stand text 0 nothing_held text
unfolding size
first-stand text = record { front = []; is = refl; at = refl; chars = omega arith; count = omega arith }

-- From one line's start to the next.
pub next-stand : (s : Settings) (text : List ℕ) (start : ℕ) (h : Held) (cs : List ℕ) → Stand text start h cs
    → Stand text (start + size (take (lay_line s h cs).chars cs)) (lay_line s h cs).held (drop (lay_line s h cs).chars cs)
next-stand s text start h cs p =
    let k = (lay_line s h cs).chars in
    record {
      front = p.front ++ take k cs;
      is = p.is ∙ rw (append_assoc, take-append-drop);
      at = omega (arith, size_append p.front (take k cs));
      chars = line-rest s h cs p.chars p.count;
      count = line-held s h cs p.chars p.count;
    }

-- There are fewer characters after a line that does not end the text.
pub next-fewer : (s : Settings) (h : Held) (cs : List ℕ) → h.chars ≤ length cs → h.count ≤ h.chars
    → ((lay_line s h cs).ended ≡ EndOfText → ⊥) → (n : ℕ) → length cs < suc n → length (drop (lay_line s h cs).chars cs) < n
next-fewer s h cs k c d n b = rw length-drop (omega (arith, line-takes s h cs k c d, line-chars s h cs k c))

-- A place in a text is one in every text that begins with it.
pub stand-on : (text : List ℕ) (start : ℕ) (h : Held) (p y : List ℕ) → Stand text start h p → Stand (text ++ y) start h (p ++ y)
stand-on text start h p y q =
    record {
      front = q.front;
      is = ap (λ (t : List ℕ). t ++ y) q.is ∙ append_assoc q.front p y;
      at = q.at;
      chars = rw length-append (omega (arith, q.chars));
      count = q.count;
    }

-- A text's bytes, by those before and after a place in it.
pub stand-size : (text : List ℕ) (start : ℕ) (h : Held) (cs : List ℕ) → Stand text start h cs → size text ≡ start + size cs
stand-size text start h cs p = rw (p.is, size_append) (omega (arith, p.at))
