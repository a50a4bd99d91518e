-- How wide the parts of a text between its ends of lines are, laid out in one line each: the widest has room for any line (rule 2, rule 4).
-- Assumes nothing.
use Prim.Native.Nat.{ℕ, zero, suc, ◌+◌, ◌*◌, ◌≤◌, max}
use Rattle.std.specs.Prelude.{◌≡◌, true, false, drop}
use Rattle.std.proofs.Math.Path.{refl}
use Rattle.std.proofs.Common.{subst}
use mathlib.Core.List.{List, [], ◌∷◌, ◌++◌}
use Rattle.std.proofs.Math.Nat.{zero-mul, mul-le-mul_right}
use native.Mathlib.Omega.{arith}
use Rattle.std.proofs.lemmas.Bool.{not-true}
use Rattle.std.proofs.Math.ListN.{length}
use Rattle.basis.specs.Choice.{pick, pick_true, pick-false, pick_cases, by_test}
use Rattle.basis.specs.Order.{by_le}
use Rattle.meaning.specs.Tokens.{Tok, newLine, carriageReturn, tab, softHyphen, space, word}
use Rattle.meaning.specs.LineIter.{Held}
use Rattle.meaning.specs.Line.{line_tokens}
use Rattle.laws.specs.Spell.{spell, Sound}
use Rattle.laws.specs.Runs.{Pass}
use Rattle.laws.specs.LineTokens.{line-tokens_cover}
use Rattle.widths.specs.TabFree.{is_tab}
use Rattle.widths.specs.LineParts.{breaks, in_part, first_part, longest_part, part-over, part-on}
use Rattle.widths.specs.PartTokens.{InParts, line_in_parts, HeldFirst, first-sound}
use Rattle.widths.specs.TabStops.{next_stop, stop-more}
use Rattle.widths.specs.RoomyBoxes.{end_of, end_more}

-- Behind one more character: a tab goes to its stop, and no less than a glyph is counted for it.
unfoldable pub past_char : (g tab at c : ℕ) → ℕ
past_char g t at c = pick (is_tab c) (max (next_stop t at) (at + g)) (at + g)

-- Behind the first part, from a place on.
unfoldable pub part_end : (g tab at : ℕ) → List ℕ → ℕ
part_end g t at [] = at
part_end g t at (c ∷ cs) =
    let more = part_end g t (past_char g t at c) cs in
    pick (breaks c) at more

unfoldable pub widest_part : (g tab : ℕ) → List ℕ → ℕ
widest_part g t [] = 0
widest_part g t (c ∷ cs) = max (part_end g t 0 (c ∷ cs)) (widest_part g t cs)

module _ (g t : ℕ) where
  -- ---- one character more

  pub past_least : (at c : ℕ) → at + g ≤ past_char g t at c
  unfolding past_char
  past_least at c = pick_cases (λ n. at + g ≤ n) (is_tab c) (λ _. omega arith) (λ _. omega arith)

  past_more : (a b c : ℕ) → a ≤ b → past_char g t a c ≤ past_char g t b c
  unfolding past_char pick
  past_more a b c h = by_test (is_tab c) (λ e. rw e (omega (arith, stop-more t a b h))) (λ e. rw e (omega arith))

  past-tab : (at : ℕ) → next_stop t at ≤ past_char g t at 0x0009
  unfolding past_char pick
  past-tab at = omega arith

  pub end-over : (at c : ℕ) (cs : List ℕ) → breaks c ≡ true → part_end g t at (c ∷ cs) ≡ at
  unfolding part_end
  end-over at c cs e = pick_true (breaks c) _ _ e

  pub end_on : (at c : ℕ) (cs : List ℕ) → breaks c ≡ false → part_end g t at (c ∷ cs) ≡ part_end g t (past_char g t at c) cs
  unfolding part_end
  end_on at c cs e = pick-false (breaks c) _ _ e

  -- ---- a part

  -- From further on it ends no sooner.
  pub part-more : (cs : List ℕ) (a b : ℕ) → a ≤ b → part_end g t a cs ≤ part_end g t b cs
  unfolding part_end
  part-more [] a b h = h
  part-more (c ∷ cs) a b h =
      by_test (breaks c) (λ e. omega (arith, end-over a c cs e, end-over b c cs e))
      (λ e. omega (arith, end_on a c cs e, end_on b c cs e, part-more cs (past_char g t a c) (past_char g t b c) (past_more a b c h)))

  -- It has a glyph's room for each character.
  glyphs-over : (c : ℕ) (cs : List ℕ) (at : ℕ) → breaks c ≡ true → at + first_part (c ∷ cs) * g ≤ part_end g t at (c ∷ cs)
  glyphs-over c cs at e = rw (part-over c cs e, end-over at c cs e) (omega (arith, zero-mul g))

  glyphs-on : (c : ℕ) (cs : List ℕ) (at : ℕ) → breaks c ≡ false
      → past_char g t at c + first_part cs * g ≤ part_end g t (past_char g t at c) cs → at + first_part (c ∷ cs) * g ≤ part_end g t at (c ∷ cs)
  glyphs-on c cs at e h = rw (part-on c cs e, end_on at c cs e) (omega (arith, h, past_least at c))

  part-glyphs : (cs : List ℕ) (at : ℕ) → at + first_part cs * g ≤ part_end g t at cs
  unfolding part_end first_part
  part-glyphs [] at = omega (arith, zero-mul g)
  part-glyphs (c ∷ cs) at =
      by_test (breaks c) (λ e. glyphs-over c cs at e) (λ e. glyphs-on c cs at e (part-glyphs cs (past_char g t at c)))

  -- Behind characters with no end of a line among them it goes on.
  pub end-joined : (xs ys : List ℕ) (at : ℕ) → Pass in_part xs → part_end g t (at + length xs * g) ys ≤ part_end g t at (xs ++ ys)
  end-joined [] ys at p = part-more ys (at + 0 * g) at (omega (arith, zero-mul g))
  end-joined (x ∷ xs) ys at p =
      let on : part_end g t at ((x ∷ xs) ++ ys) ≡ part_end g t (past_char g t at x) (xs ++ ys) = end_on at x (xs ++ ys) (not-true (breaks x) p.0) in
      let more : part_end g t (at + length (x ∷ xs) * g) ys ≤ part_end g t (past_char g t at x + length xs * g) ys =
      part-more ys (at + length (x ∷ xs) * g) (past_char g t at x + length xs * g) (omega (arith, past_least at x)) in
      omega (arith, on, more, end-joined xs ys (past_char g t at x) p.1)

  -- ---- the widest

  pub first-widest : (cs : List ℕ) → part_end g t 0 cs ≤ widest_part g t cs
  unfolding part_end widest_part
  first-widest [] = omega arith
  first-widest (c ∷ cs) = omega arith

  pub widest-rest : (k : ℕ) (cs : List ℕ) → widest_part g t (drop k cs) ≤ widest_part g t cs
  unfolding widest_part
  widest-rest zero cs = omega arith
  widest-rest (suc k) [] = omega arith
  widest-rest (suc k) (c ∷ cs) = omega (arith, widest-rest k cs)

  -- It has a glyph's room for each character of the longest.
  pub longest-wide : (cs : List ℕ) → longest_part cs * g ≤ widest_part g t cs
  unfolding longest_part widest_part
  longest-wide [] = omega (arith, zero-mul g)
  longest-wide (c ∷ cs) = larger (first_part (c ∷ cs)) (longest_part cs) _ _ (omega (arith, part-glyphs (c ∷ cs) 0)) (longest-wide cs)
    where
      larger : (m n a b : ℕ) → m * g ≤ a → n * g ≤ b → max m n * g ≤ max a b
      larger m n a b h k =
          by_le m n
          (λ l. let e : max m n ≡ n = omega arith in rw e (omega arith))
          (λ l. let e : max m n ≡ m = omega arith in rw e (omega arith))

  -- ---- tokens

  -- They take the cursor no further than their characters.
  tokens-end : (ts : List Tok) (at : ℕ) → Sound ts → InParts ts → end_of g t at ts ≤ part_end g t at (spell ts)
  unfolding end_of spell breaks pick part_end
  tokens-end [] at h f = omega arith
  tokens-end (newLine ∷ ts) at h f = omega (arith, end-over at 0x000A (spell ts) refl)
  tokens-end (carriageReturn ∷ ts) at h f = omega (arith, end-over at 0x000D (spell ts) refl)
  tokens-end (tab ∷ ts) at h f =
      omega (arith, end_on at 0x0009 (spell ts) refl, part-more (spell ts) (next_stop t at) (past_char g t at 0x0009) (past-tab at), tokens-end ts (next_stop t at) h.1 f)
  tokens-end (softHyphen ∷ ts) at h f =
      omega (arith, end_on at 0x00AD (spell ts) refl, part-more (spell ts) (at + g) (past_char g t at 0x00AD) (past_least at 0x00AD), tokens-end ts (at + g) h.1 f)
  tokens-end (space cs n e ∷ ts) at h f =
      let fewer = end_more g t ts (at + n * g) (at + length cs * g) (omega (arith, mul-le-mul_right g h.0.1)) in
      omega (arith, fewer, tokens-end ts (at + length cs * g) h.1 f.1, end-joined cs (spell ts) at f.0)
  tokens-end (word cs e ∷ ts) at h f =
      omega (arith, tokens-end ts (at + length cs * g) h.1 f.1, end-joined cs (spell ts) at f.0)

  -- So of a line, whatever it begins with.
  pub line-end : (h : Held) (cs : List ℕ) → HeldFirst h cs → end_of g t 0 (line_tokens h cs) ≤ widest_part g t cs
  line-end h cs f =
      let ts = line_tokens h cs in
      let end = subst (λ (c : List ℕ). end_of g t 0 ts ≤ part_end g t 0 c) (line-tokens_cover h cs) (tokens-end ts 0 (first-sound h cs f) (line_in_parts h cs f.0)) in
      omega (arith, end, first-widest cs)
