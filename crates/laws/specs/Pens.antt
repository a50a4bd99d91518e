-- Where the pen goes: by the widths of what is drawn, and over a word no further than the cursor where nothing glues, or where a
-- space is as wide as any character (rule 8, rule 13).
-- Assumes nothing.
use Rattle.std.specs.Prelude.{ℕ, zero, suc, ◌+◌, ◌-◌, ◌*◌, ◌≤◌, ◌≡◌, refl, ◌⊎◌, List, [], ◌∷◌, ◌++◌, length, take}
use Rattle.std.proofs.Common.{sym, ap, ◌∙◌, inl, inr, add-mul, arith}
use Rattle.basis.specs.Choice.{pick, by_test}
use Rattle.meaning.specs.Characters.{glue}
use Rattle.meaning.specs.SpaceConfig.{spaces_width, spaces_after}
use Rattle.meaning.specs.Words.{Drawn, glues, drawn_word}
use Rattle.meaning.specs.Line.{noted, measured}
use Rattle.meaning.specs.declared.cursor.Spaces.{Spaces}
use Rattle.meaning.specs.declared.line.EventKind.{EventKind}
use Rattle.meaning.specs.declared.line.EventKind.TheVariants.{Space, Printed, Move}
use Rattle.meaning.specs.declared.line.Measure.{Measure}
use Rattle.laws.specs.Measuring.{printed_at, glues-length, glues_append, spaces-none, word-measured}

-- ---- the pen

unfoldable pub pen_after : ℕ → List Drawn → ℕ
pen_after pen [] = pen
pen_after pen (d ∷ ds) = pen_after (pen + d.width) ds

pub pen_append : (pen : ℕ) (ds es : List Drawn) → pen_after pen (ds ++ es) ≡ pen_after (pen_after pen ds) es
unfolding pen_after
pen_append pen [] es = refl
pen_append pen (d ∷ ds) es = pen_append (pen + d.width) ds es

-- It never goes back.
pub pen-low : (pen : ℕ) (ds : List Drawn) → pen ≤ pen_after pen ds
unfolding pen_after
pen-low pen [] = omega arith
pen-low pen (d ∷ ds) = omega (arith, pen-low (pen + d.width) ds)

pub noted-pen : (k : EventKind) (pen n : ℕ) (m : Measure) → (noted k pen n m).pen.0 ≡ pen
noted-pen Space pen n m = refl
noted-pen Printed pen n m = refl
noted-pen Move pen n m = refl

-- It is the pen of the measure.
pub measured-pen : (m : Measure) (ds : List Drawn) → (measured m ds).pen.0 ≡ pen_after m.pen.0 ds
unfolding measured pen_after
measured-pen m [] = refl
measured-pen m (d ∷ ds) =
    measured-pen (noted d.kind (m.pen.0 + d.width) (m.spaces.0 + d.count) m) ds
    ∙ ap (λ (x : ℕ). pen_after x ds) (noted-pen d.kind (m.pen.0 + d.width) (m.spaces.0 + d.count) m)

-- ---- words

-- Spaces as wide as any character.
pub record Plain (g : ℕ) (sp : Spaces) : Type 0 where
  pub width : sp.width.0 ≡ g
  pub extra : sp.extra.0 ≡ 0

-- Pen and cursor go alike over these characters.
abbrev pub Even : (g : ℕ) → Spaces → List ℕ → Type 0
Even g sp cs = Plain g sp ⊎ (glues cs ≡ 0)

pub plain-after : (g : ℕ) (sp : Spaces) (n : ℕ) → Plain g sp → Plain g (spaces_after sp n)
unfolding spaces_after
plain-after g sp n h = record { width = h.width; extra = omega (arith, h.extra) }

parts : (n k g : ℕ) → k ≤ n → (n - k) * g + k * g ≡ n * g
parts n k g h =
    let e : n - k + k ≡ n = omega arith in
    sym (add-mul (n - k) k g) ∙ ap (λ (x : ℕ). x * g) e

pub plain-width : (g : ℕ) (sp : Spaces) (n : ℕ) → Plain g sp → spaces_width sp n ≡ n * g
unfolding spaces_width
plain-width g sp n h = rw (h.width, h.extra) (omega arith)

even-width : (g : ℕ) (sp : Spaces) (cs : List ℕ) → Even g sp cs → (length cs - glues cs) * g + spaces_width sp (glues cs) ≡ length cs * g
even-width g sp cs (inl h) = rw (plain-width g sp (glues cs) h) (parts (length cs) (glues cs) g (glues-length cs))
even-width g sp cs (inr e) = rw (e, spaces-none sp) (omega (arith, parts (length cs) 0 g (omega arith)))

-- A word that is drawn so takes a glyph for each character, as the cursor does.
pub word-pen : (pen g : ℕ) (sp : Spaces) (at : ℕ) (cs : List ℕ) → Even g sp cs → pen_after pen (drawn_word g sp at cs) ≡ pen + length cs * g
word-pen pen g sp at cs h =
    let m = printed_at pen 0 in
    let e = ap (λ (x : Measure). x.pen.0) (word-measured m g sp at cs) in
    omega (arith, measured-pen m (drawn_word g sp at cs), e, even-width g sp cs h)

-- ---- parts of a text

glues-part : (k : ℕ) (xs ys : List ℕ) → glues (take k xs) ≤ glues (take k (xs ++ ys))
unfolding glues pick
glues-part zero xs ys = omega arith
glues-part (suc k) [] ys = omega arith
glues-part (suc k) (x ∷ xs) ys =
    by_test (glue x) (λ e. simp e (omega (arith, glues-part k xs ys))) (λ e. simp e (omega (arith, glues-part k xs ys)))

module _ (g : ℕ) (sp : Spaces) where
  pub even-part : (k : ℕ) (xs ys : List ℕ) → Even g sp (take k (xs ++ ys)) → Even g sp (take k xs)
  even-part k xs ys (inl h) = inl h
  even-part k xs ys (inr e) = inr (omega (arith, glues-part k xs ys))

  pub even-first : (xs ys : List ℕ) → Even g sp (xs ++ ys) → Even g sp xs
  even-first xs ys (inl h) = inl h
  even-first xs ys (inr e) = inr (omega (arith, glues_append xs ys))

  -- What follows, with the spaces that are left.
  pub even-rest : (left : Spaces) (xs ys : List ℕ) → (Plain g sp → Plain g left) → Even g sp (xs ++ ys) → Even g left ys
  even-rest left xs ys f (inl h) = inl (f h)
  even-rest left xs ys f (inr e) = inr (omega (arith, glues_append xs ys))
