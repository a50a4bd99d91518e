-- Where laying again meets an old line, the text that is left and what is held are the same before and after the edit.
-- Assumes nothing.
use Rattle.std.specs.Prelude.{ℕ, ◌+◌, ◌≤◌, ◌≡◌, true, ◌&&◌, List, ◌++◌, leb, eqb, length, take}
use Rattle.std.proofs.Common.{arith, sym, ◌∙◌, append_assoc, ne_eqb, leb-true, eqb-true}
use Rattle.basis.specs.Choice.{pick, and_true}
use Rattle.basis.specs.Order.{by_eq}
use Rattle.utf8.specs.Encoding.{size}
use Rattle.utf8.specs.Sizes.{size_append}
use Rattle.meaning.specs.LineIter.{Held}
use Rattle.meaning.specs.Line.{Line, rest_of, entry_at}
use Rattle.meaning.specs.Edit.{moved, moved_rest, meets}
use Rattle.meaning.specs.declared.edit.Edit.{Edit}
use Rattle.meaning.specs.declared.line.Rest.{Rest}
use Rattle.laws.specs.Suffixes.{shorter_suffix, same_ends, same_count, take-size}
use Rattle.laws.specs.Rests.{rest-none, rest_some}
use Rattle.laws.specs.Stands.{Stand, stand-size}

-- The edit replaces the characters mid, after pre, by ins.
pub record Replaces (ed : Edit) (pre mid ins : List ℕ) : Type 0 where
  pub from : ed.from.0 ≡ size pre
  pub to : ed.to.0 ≡ size pre + size mid
  pub inserted : ed.inserted.0 ≡ size ins

-- The four tests of `meets`.
pub record Met (ed : Edit) (start : ℕ) (rest : Rest) (at : ℕ) (held : Rest) : Type 0 where
  pub behind : ed.to.0 ≤ at
  pub same : moved ed at ≡ start
  pub end : (moved_rest ed held).end.0 ≡ rest.end.0
  pub count : held.count.0 ≡ rest.count.0

pub meets-says : (ed : Edit) (start : ℕ) (rest : Rest) (at before : ℕ) (h : Held) (cs : List ℕ) (l : Line)
    → meets ed start rest (entry_at at before h cs l) ≡ true → Met ed start rest at (rest_of at h cs)
unfolding meets entry_at
meets-says ed start rest at before h cs l e =
    let r = rest_of at h cs in
    let a = leb ed.to.0 at in
    let b = eqb (moved ed at) start in
    let c = eqb (moved_rest ed r).end.0 rest.end.0 in
    let abc = and_true (a && b && c) (eqb r.count.0 rest.count.0) e in
    let ab = and_true (a && b) c abc.0 in
    let f = and_true a b ab.0 in
    record {
      behind = leb-true ed.to.0 at f.0;
      same = eqb-true (moved ed at) start f.1;
      end = eqb-true (moved_rest ed r).end.0 rest.end.0 ab.1;
      count = eqb-true r.count.0 rest.count.0 abc.1;
    }

-- A rest that is moved with its line is the same in the same text.
pub held_same : (ed : Edit) (start at : ℕ) (g h : Held) (cs : List ℕ) → g.chars ≤ length cs → g.count ≤ g.chars
    → h.chars ≤ length cs → h.count ≤ h.chars → Met ed start (rest_of start h cs) at (rest_of at g cs) → g ≡ h
unfolding moved moved_rest pick
held_same ed start at g h cs a b c d m =
    by_eq g.chars 0
    (λ p. by_eq h.chars 0
    (λ q.
    let k : g.chars ≡ h.chars = omega arith in
    let n : g.count ≡ h.count = omega arith in
    λ i. record { chars = k i; count = n i })
    (λ q. absurd (omega (arith, rw (rest-none at g cs p, rest_some start h cs q) at m.end, take-size h.chars cs c))))
    (λ p.
    let some = take-size g.chars cs a in
    let moves = rw (rest_some at g cs p, ne_eqb (at + size (take g.chars cs)) 0 (λ z. omega arith)) at m.end in
    by_eq h.chars 0
    (λ q. absurd (omega (arith, rw (rest-none start h cs q) at moves)))
    (λ q.
    let z : size (take g.chars cs) ≡ size (take h.chars cs) = omega (arith, rw (rest_some start h cs q) at moves) in
    let k : g.chars ≡ h.chars = same_count g.chars h.chars cs a c z in
    let n : g.count ≡ h.count = rw (rest_some at g cs p, rest_some start h cs q) at m.count in
    λ i. record { chars = k i; count = n i }))

module _ (ed : Edit) (pre mid ins post : List ℕ) (r : Replaces ed pre mid ins) where
  -- What is left behind the replaced characters is left after the edit.
  pub part_same : (start at : ℕ) (g h : Held) (old new : List ℕ)
      → Stand (pre ++ (mid ++ post)) at g old → Stand (pre ++ (ins ++ post)) start h new
      → ed.to.0 ≤ at → moved ed at ≡ start → old ≡ new
  unfolding moved
  part_same start at g h old new p q b e =
      let x = stand-size (pre ++ (mid ++ post)) at g old p in
      let y = stand-size (pre ++ (ins ++ post)) start h new q in
      let v : size (pre ++ (mid ++ post)) ≡ size pre + (size mid + size post) = simp size_append in
      let w : size (pre ++ (ins ++ post)) ≡ size pre + (size ins + size post) = simp size_append in
      let f = shorter_suffix p.front old (pre ++ mid) post (sym p.is ∙ rw append_assoc) (omega arith) in
      let g = shorter_suffix q.front new (pre ++ ins) post (sym q.is ∙ rw append_assoc) (omega arith) in
      same_ends post old new f g (omega arith)
