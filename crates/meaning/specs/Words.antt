-- Rule 7 and rule 8, `process_word`: a printed word is drawn stretch by stretch, with a space for each gluing character.
-- Assumes nothing.
use Rattle.std.specs.Prelude.{ℕ, suc, ◌+◌, ◌*◌, List, [], ◌∷◌, length}
use Rattle.basis.specs.Choice.{pick}
use Rattle.utf8.specs.Encoding.{bytes, size}
use Rattle.meaning.specs.Characters.{glue}
use Rattle.meaning.specs.SpaceConfig.{spaces_width, spaces_after}
use Rattle.meaning.specs.declared.cursor.Spaces.{Spaces}
use Rattle.meaning.specs.declared.line.EventKind.{EventKind}
use Rattle.meaning.specs.declared.line.EventKind.TheVariants.{Space, Printed}

-- What a pass draws: its bytes from the line's start, the spaces that it counts, and its width.
pub record Drawn : Type 0 where
  pub kind : EventKind
  pub from : ℕ
  pub to : ℕ
  pub count : ℕ
  pub width : ℕ

abbrev pub drawn : EventKind → (from to count width : ℕ) → Drawn
drawn kind from to count width = record { kind = kind; from = from; to = to; count = count; width = width }

-- A word, cut at its gluing characters.
pub data Stretches : Type 0 where
  last : List ℕ → Stretches
  glued : List ℕ → ℕ → Stretches → Stretches

unfoldable pub grow : ℕ → Stretches → Stretches
grow c (last w) = last (c ∷ w)
grow c (glued w g more) = glued (c ∷ w) g more

unfoldable pub stretches : List ℕ → Stretches
stretches [] = last []
stretches (c ∷ cs) =
    let more = stretches cs in
    pick (glue c) (glued [] c more) (grow c more)

-- How many gluing characters there are: each uses up a space.
unfoldable pub glues : List ℕ → ℕ
glues [] = 0
glues (c ∷ cs) =
    let n = glues cs in
    pick (glue c) (suc n) n

-- An empty stretch before a gluing character is not printed; the last stretch is, empty or not.
unfoldable pub printed_first : (glyph at : ℕ) → List ℕ → List Drawn → List Drawn
printed_first g at [] more = more
printed_first g at (c ∷ cs) more = drawn Printed at (at + size (c ∷ cs)) 0 (length (c ∷ cs) * g) ∷ more

unfoldable pub drawn_stretches : (glyph : ℕ) → Spaces → (at : ℕ) → Stretches → List Drawn
drawn_stretches g sp at (last w) = drawn Printed at (at + size w) 0 (length w * g) ∷ []
drawn_stretches g sp at (glued w c more) =
    let from = at + size w in
    let to = from + bytes c in
    printed_first g at w (drawn Space from to 1 (spaces_width sp 1) ∷ drawn_stretches g (spaces_after sp 1) to more)

unfoldable pub drawn_word : (glyph : ℕ) → Spaces → (at : ℕ) → List ℕ → List Drawn
drawn_word g sp at cs = drawn_stretches g sp at (stretches cs)
