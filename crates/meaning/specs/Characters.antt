-- Rule 1 and rule 2: what each character does in a text. A character is a scalar value.
-- Assumes nothing.
use Rattle.std.specs.Prelude.{ℕ, Bool, true, false, ◌&&◌, ◌||◌, not, eqb}
use Rattle.basis.specs.Choice.{pick}
use Rattle.utf8.specs.WhiteSpace.{is_white}

-- White space that holds a word together and is drawn as one space: U+00A0, U+2007 and U+202F.
unfoldable pub glue : ℕ → Bool
glue c = eqb c 0x00A0 || eqb c 0x2007 || eqb c 0x202F

-- LF, CR, tab, U+00AD, U+200B, any other white space that does not glue, and what words are made of.
pub data Class : Type 0 where
  lf cr ht shy zwsp blank letter : Class

unfoldable pub class_of : ℕ → Class
class_of c =
    pick (eqb c 0x000A) lf
    (pick (eqb c 0x000D) cr
    (pick (eqb c 0x0009) ht
    (pick (eqb c 0x00AD) shy
    (pick (eqb c 0x200B) zwsp
    (pick (is_white c && not (glue c)) blank letter)))))

abbrev pub word_class : Class → Bool
word_class letter = true
word_class lf = false
word_class cr = false
word_class ht = false
word_class shy = false
word_class zwsp = false
word_class blank = false

-- A word goes on with this character.
unfoldable pub in_word : ℕ → Bool
in_word c = word_class (class_of c)

abbrev pub run_class : Class → Bool
run_class blank = true
run_class zwsp = true
run_class lf = false
run_class cr = false
run_class ht = false
run_class shy = false
run_class letter = false

-- A space run goes on with this character.
unfoldable pub in_run : ℕ → Bool
in_run c = run_class (class_of c)
