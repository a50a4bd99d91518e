-- A word drawn character by character: what is still to be drawn, after a stretch that is open.
-- Assumes nothing.
use Rattle.std.specs.Prelude.{ℕ, ◌+◌, ◌*◌, ◌≤◌, ◌≡◌, refl, true, false, List, [], ◌∷◌, ◌++◌, eqb, length}
use Rattle.std.proofs.Common.{ap, ◌∙◌, append-nil, append_assoc, add-zero, arith, eq-eqb, ne_eqb, length-append}
use Rattle.basis.specs.Choice.{pick, by_test}
use Rattle.utf8.specs.Encoding.{bytes, size}
use Rattle.utf8.specs.Sizes.{bytes_range, size_append}
use Rattle.meaning.specs.Characters.{glue}
use Rattle.meaning.specs.SpaceConfig.{spaces_width, spaces_after}
use Rattle.meaning.specs.Words.{Drawn, drawn, Stretches, last, glued, grow, stretches, printed_first, drawn_stretches, drawn_word}
use Rattle.meaning.specs.declared.cursor.Spaces.{Spaces}
use Rattle.meaning.specs.declared.line.EventKind.TheVariants.{Space, Printed}
use Rattle.parser.specs.GlueLaws.{by-glue}

-- A stretch of a width, from one offset to another, and the space after it. An empty one is not printed.
unfoldable pub closed : (from to wide end : ℕ) → Spaces → List Drawn
closed from to wide end sp =
    let space = drawn Space to end 1 (spaces_width sp 1) ∷ [] in
    pick (eqb to from) space (drawn Printed from to 0 wide ∷ space)

-- What is drawn of a word whose open stretch began at an offset and is so wide, from another offset on.
unfoldable pub rest_drawn : (glyph : ℕ) → Spaces → (from at wide : ℕ) → List ℕ → List Drawn
rest_drawn g sp from at wide [] = drawn Printed from at 0 wide ∷ []
rest_drawn g sp from at wide (c ∷ cs) =
    let end = at + bytes c in
    let after = rest_drawn g (spaces_after sp 1) end end 0 cs in
    let more = rest_drawn g sp from end (wide + g) cs in
    pick (glue c) (closed from at wide end sp ++ after) more

-- ---- it is the word's

-- A stretch put before the first one.
prefixed : List ℕ → Stretches → Stretches
prefixed w (last v) = last (w ++ v)
prefixed w (glued v c more) = glued (w ++ v) c more

prefixed-none : (s : Stretches) → prefixed [] s ≡ s
unfolding prefixed
prefixed-none (last v) = refl
prefixed-none (glued v c more) = refl

prefixed-grow : (w : List ℕ) (c : ℕ) (s : Stretches) → prefixed w (grow c s) ≡ prefixed (w ++ (c ∷ [])) s
unfolding prefixed grow
prefixed-grow w c (last v) = rw (append_assoc w (c ∷ []) v)
prefixed-grow w c (glued v g more) = rw (append_assoc w (c ∷ []) v)

closed_is : (g : ℕ) (sp : Spaces) (from : ℕ) (w : List ℕ) (end : ℕ) (more : List Drawn)
    → closed from (from + size w) (length w * g) end sp ++ more
    ≡ printed_first g from w (drawn Space (from + size w) end 1 (spaces_width sp 1) ∷ more)
unfolding closed printed_first size pick
closed_is g sp from [] end more = rw (eq-eqb (from + 0) from (add-zero from))
closed_is g sp from (c ∷ w) end more =
    let d : (from + (bytes c + size w) ≡ from) → ⊥ = λ e. omega (arith, bytes_range c) in
    rw (ne_eqb (from + (bytes c + size w)) from d)

size_none : size [] ≡ 0
unfolding size
size_none = refl

size-one : (c : ℕ) → size (c ∷ []) ≡ bytes c
unfolding size
size-one c = omega arith

rest-is : (g : ℕ) (sp : Spaces) (from at wide : ℕ) (w cs : List ℕ) → at ≡ from + size w → wide ≡ length w * g
    → rest_drawn g sp from at wide cs ≡ drawn_stretches g sp from (prefixed w (stretches cs))
unfolding rest_drawn drawn_stretches prefixed stretches pick
rest-is g sp from at wide w [] a b = rw (append-nil w, a, b)
rest-is g sp from at wide w (c ∷ cs) a b =
    by_test (glue c)
    (λ e.
    let end = from + size w + bytes c in
    let after : rest_drawn g (spaces_after sp 1) end end 0 cs ≡ drawn_stretches g (spaces_after sp 1) end (prefixed [] (stretches cs))
    = rest-is g (spaces_after sp 1) end end 0 [] cs (omega (arith, size_none)) (omega arith) in
    rw (e, append-nil w, a, b, after, prefixed-none (stretches cs)) (closed_is g sp from w end _))
    (λ e.
    rw (e, prefixed-grow w c (stretches cs))
    (rest-is g sp from (at + bytes c) (wide + g) (w ++ (c ∷ [])) cs (omega (arith, size_append w (c ∷ []), size-one c))
    (rw (length-append w (c ∷ [])) (omega arith))))

pub word-is : (g : ℕ) (sp : Spaces) (at : ℕ) (cs : List ℕ) → rest_drawn g sp at at 0 cs ≡ drawn_word g sp at cs
unfolding drawn_word
word-is g sp at cs = rest-is g sp at at 0 [] cs (omega (arith, size_none)) (omega arith) ∙ ap (drawn_stretches g sp at) (prefixed-none (stretches cs))

-- ---- one character more, in a text

module _ (g : ℕ) (sp : Spaces) (from at wide : ℕ) (c : ℕ) (cs : List ℕ) where
  pub rest-glues : glue c ≡ true
      → rest_drawn g sp from at wide (c ∷ cs)
      ≡ closed from at wide (at + bytes c) sp ++ rest_drawn g (spaces_after sp 1) (at + bytes c) (at + bytes c) 0 cs
  unfolding rest_drawn pick
  rest-glues e = rw e

  pub rest-grows : glue c ≡ false → rest_drawn g sp from at wide (c ∷ cs) ≡ rest_drawn g sp from (at + bytes c) (wide + g) cs
  unfolding rest_drawn pick
  rest-grows e = rw e

pub rest-ends : (g : ℕ) (sp : Spaces) (from at wide : ℕ) → rest_drawn g sp from at wide [] ≡ drawn Printed from at 0 wide ∷ []
unfolding rest_drawn
rest-ends g sp from at wide = refl

-- ---- how much there is of it: no more than the word has bytes

-- Gluing characters are no single bytes.
glue-bytes : (c : ℕ) → glue c ≡ true → 2 ≤ bytes c
unfolding bytes pick
glue-bytes = by-glue (λ c. 2 ≤ bytes c) (omega arith) (omega arith) (omega arith)

closed-few : (from to wide end : ℕ) (sp : Spaces) (ds : List Drawn) → length (closed from to wide end sp ++ ds) ≤ 2 + length ds
unfolding closed pick
closed-few from to wide end sp ds = by_test (eqb to from) (λ e. rw e (omega arith)) (λ e. rw e (omega arith))

-- An empty stretch is not printed.
closed-one : (at wide end : ℕ) (sp : Spaces) (ds : List Drawn) → length (closed at at wide end sp ++ ds) ≡ 1 + length ds
unfolding closed pick
closed-one at wide end sp ds = rw (eq-eqb at at refl) (omega arith)

-- A stretch that is open may have one thing more.
rest-few : (g : ℕ) (sp : Spaces) (from at wide : ℕ) (cs : List ℕ) → length (rest_drawn g sp from at wide cs) ≤ size cs + 1
unfolding rest_drawn size pick
rest-few g sp from at wide [] = omega arith
rest-few g sp from at wide (c ∷ cs) =
    let end = at + bytes c in
    let after = rest_drawn g (spaces_after sp 1) end end 0 cs in
    by_test (glue c)
    (λ e. rw e (omega (arith, closed-few from at wide end sp after, rest-few g (spaces_after sp 1) end end 0 cs, glue-bytes c e)))
    (λ e. rw e (omega (arith, rest-few g sp from end (wide + g) cs)))

whole-few : (g : ℕ) (sp : Spaces) (at : ℕ) (cs : List ℕ) → 1 ≤ length cs → length (rest_drawn g sp at at 0 cs) ≤ size cs
unfolding rest_drawn size pick
whole-few g sp at [] h = absurd (omega arith)
whole-few g sp at (c ∷ cs) h =
    let end = at + bytes c in
    let after = rest_drawn g (spaces_after sp 1) end end 0 cs in
    by_test (glue c)
    (λ e. rw e (omega (arith, closed-one at 0 end sp after, rest-few g (spaces_after sp 1) end end 0 cs, glue-bytes c e)))
    (λ e. rw e (omega (arith, rest-few g sp at end (0 + g) cs, bytes_range c)))

pub word-few : (g : ℕ) (sp : Spaces) (at : ℕ) (cs : List ℕ) → 1 ≤ length cs → length (drawn_word g sp at cs) ≤ size cs
word-few g sp at cs h = rw (word-is g sp at cs) at (whole-few g sp at cs h)
