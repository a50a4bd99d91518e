-- What a pass looks at beyond the token at hand takes whole glyphs too, where there is no tab: so it finds the same in two boxes that
-- the glyphs of the tokens ahead do not tell apart (rule 8).
-- Assumes nothing.
use Rattle.std.specs.Prelude.{ℕ, ◌+◌, ◌*◌, ◌≤◌, ◌≡◌, refl, List, [], ◌∷◌, length, None, Option, Some}
use Rattle.meaning.specs.declared.counts.Pixels.{Pixels}
use Rattle.std.proofs.Common.{sym, subst, add-mul, one-mul, arith}
use Rattle.basis.specs.Choice.{pick}
use Rattle.meaning.specs.Tokens.{Tok, newLine, carriageReturn, tab, softHyphen, space, word, size_of}
use Rattle.meaning.specs.Lookahead.{added, next_width}
use Rattle.laws.specs.Spell.{spell, Sound}
use Rattle.widths.specs.LineParts.{breaks, first_part, part-on, part-joined}
use Rattle.widths.specs.PartTokens.{InParts}

-- How many glyphs these tokens move the cursor by at most, up to the first that ends a line. A tab moves it by none of them.
unfoldable pub most_glyphs : List Tok → ℕ
most_glyphs [] = 0
most_glyphs (newLine ∷ ts) = 0
most_glyphs (carriageReturn ∷ ts) = 0
most_glyphs (tab ∷ ts) = most_glyphs ts
most_glyphs (softHyphen ∷ ts) = 1 + most_glyphs ts
most_glyphs (space cs n e ∷ ts) = n + most_glyphs ts
most_glyphs (word cs e ∷ ts) = length cs + most_glyphs ts

-- ---- how wide the next word is

-- A width of at most n glyphs.
pub record Glyphs (g n width : ℕ) : Type 0 where
  pub count : ℕ
  pub is : width ≡ count * g
  pub few : count ≤ n

abbrev pub InGlyphs : (g n : ℕ) → Option Pixels → Type 0
InGlyphs g n None = Unit {0}
InGlyphs g n (Some u) = Glyphs g n u.0

more-glyphs : (g n k : ℕ) (u : Option Pixels) → InGlyphs g n u → InGlyphs g (n + k) u
more-glyphs g n k None h = tt
more-glyphs g n k (Some u) h = record { count = h.count; is = h.is; few = omega (arith, h.few) }

added-glyphs : (g n k : ℕ) (u : Option Pixels) → InGlyphs g n u → InGlyphs g (n + k) (added u (k * g))
unfolding added
added-glyphs g n k None h = record { count = k; is = refl; few = omega arith }
added-glyphs g n k (Some u) h =
    record { count = h.count + k; is = rw h.is (sym (add-mul h.count k g)); few = omega (arith, h.few) }

-- It is of whole glyphs, of no more than the tokens looked at have.
pub ahead-glyphs : (g : ℕ) (ts : List Tok) (n at : ℕ) (u : Option Pixels) → InGlyphs g n u → InGlyphs g (n + most_glyphs ts) (next_width g u at ts).width
unfolding next_width most_glyphs
ahead-glyphs g [] n at u h = more-glyphs g n 0 u h
ahead-glyphs g (newLine ∷ ts) n at u h = more-glyphs g n 0 u h
ahead-glyphs g (carriageReturn ∷ ts) n at u h = more-glyphs g n 0 u h
ahead-glyphs g (tab ∷ ts) n at u h = more-glyphs g n (most_glyphs ts) u h
ahead-glyphs g (space cs k e ∷ ts) n at u h = more-glyphs g n (k + most_glyphs ts) u h
ahead-glyphs g (softHyphen ∷ ts) n at u h =
    let one = subst (λ (k : ℕ). InGlyphs g (n + 1) (added u k)) (one-mul g) (added-glyphs g n 1 u h) in
    let d : n + 1 + most_glyphs ts ≡ n + (1 + most_glyphs ts) = omega arith in
    subst (λ (k : ℕ). InGlyphs g k (added u g)) d (more-glyphs g (n + 1) (most_glyphs ts) (added u g) one)
ahead-glyphs g (word cs e ∷ ts) n at u h =
    let d : n + length cs + most_glyphs ts ≡ n + (length cs + most_glyphs ts) = omega arith in
    let v = added u (length cs * g) in
    let from = at + size_of (word cs e) in
    subst (λ (k : ℕ). InGlyphs g k (next_width g v from ts).width) d
    (ahead-glyphs g ts (n + length cs) from v (added-glyphs g n (length cs) u h))

-- ---- how many there are

-- No more than characters of the text's first part.
pub glyphs-part : (ts : List Tok) → Sound ts → InParts ts → most_glyphs ts ≤ first_part (spell ts)
unfolding most_glyphs spell breaks pick
glyphs-part [] h f = omega arith
glyphs-part (newLine ∷ ts) h f = omega arith
glyphs-part (carriageReturn ∷ ts) h f = omega arith
glyphs-part (tab ∷ ts) h f = omega (arith, part-on 0x0009 (spell ts) refl, glyphs-part ts h.1 f)
glyphs-part (softHyphen ∷ ts) h f = omega (arith, part-on 0x00AD (spell ts) refl, glyphs-part ts h.1 f)
glyphs-part (space cs n e ∷ ts) h f = omega (arith, part-joined cs (spell ts) f.0, glyphs-part ts h.1 f.1, h.0.1)
glyphs-part (word cs e ∷ ts) h f = omega (arith, part-joined cs (spell ts) f.0, glyphs-part ts h.1 f.1)
