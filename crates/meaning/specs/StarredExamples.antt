-- The examples of layouts, edits and tokens in one table, and one theorem over it: each comes out as it is written.
-- Rule 2, rule 8, rule 10, rule 12, rule 13, laying again.
-- Assumes nothing.
use Rattle.std.specs.Prelude.{◌≡◌, refl, List, [], ◌∷◌, ◌++◌, map}
use Rattle.meaning.specs.Examples.{Example, examples}
use Rattle.meaning.specs.Examples as layouts
use Rattle.meaning.specs.EditExamples.{EditExample, edit_examples}
use Rattle.meaning.specs.EditExamples as edits
use Rattle.meaning.specs.SmallExamples.{TokenExample, token_examples, tokens_found}

-- An example is of a layout, of an edit, or of tokens: what is written down of each is another record.
pub data Shown : Type 0 where
  layout : Example → Shown
  edit : EditExample → Shown
  tokens : TokenExample → Shown

abbrev pub shown : List Shown
shown = map layout examples ++ (map edit edit_examples ++ map tokens token_examples)

-- What the definitions make of an example.
unfoldable pub computed : Shown → Shown
computed (layout e) = layout (layouts.computed e)
computed (edit e) = edit (edits.computed e)
computed (tokens e) = tokens (tokens_found e)

pub shown_hold : map computed shown ≡ shown
unfolding computed layouts.computed edits.computed tokens_found
shown_hold = refl
