-- Rule 2 and rule 3: a text is a list of tokens, each the longest of its kind.
-- Assumes nothing.
use Rattle.std.specs.Prelude.{ℕ, zero, suc, ◌+◌, Bool, List, [], ◌∷◌, eqb, length}
use Rattle.basis.specs.Choice.{pick}
use Rattle.utf8.specs.Encoding.{bytes, size}
use Rattle.meaning.specs.Characters.{Class, lf, cr, ht, shy, zwsp, blank, letter, class_of, in_word, in_run}
use Rattle.meaning.specs.declared.tokens.Token.{Token}
use Rattle.meaning.specs.declared.tokens.TokenKind.{TokenKind}
use Rattle.meaning.specs.declared.tokens.TokenKind.TheVariants.{NewLine, CarriageReturn, Tab, Whitespace, Word, Break}

-- A token and its characters. A space run has its count. Of a word and of a space run the last number is how many bytes the
-- character has that ends it: 1 where the text's end does, 0 for U+200B by itself, which nothing has to end.
pub data Tok : Type 0 where
  newLine carriageReturn tab softHyphen : Tok
  space : (chars : List ℕ) → (count ender : ℕ) → Tok
  word : (chars : List ℕ) → (ender : ℕ) → Tok

-- The characters of the longest run at the front, and those after it.
unfoldable pub run : (ℕ → Bool) → List ℕ → List ℕ
run f [] = []
run f (c ∷ cs) =
    let more = c ∷ run f cs in
    pick (f c) more []

unfoldable pub after : (ℕ → Bool) → List ℕ → List ℕ
after f [] = []
after f (c ∷ cs) =
    let more = after f cs in
    pick (f c) more (c ∷ cs)

-- Bytes of the character that ends what stands before.
unfoldable pub ender : List ℕ → ℕ
ender [] = 1
ender (c ∷ cs) = bytes c

-- The characters of a space run but for U+200B.
unfoldable pub counted : List ℕ → ℕ
counted [] = 0
counted (c ∷ cs) =
    let n = counted cs in
    pick (eqb c 0x200B) n (suc n)

-- Rule 2: the token that a character starts, and the characters after that token.
unfoldable pub first : Class → ℕ → List ℕ → Tok
first lf c cs = newLine
first cr c cs = carriageReturn
first ht c cs = tab
first shy c cs = softHyphen
first zwsp c cs = space (c ∷ []) 0 0
first blank c cs = space (c ∷ run in_run cs) (counted (c ∷ run in_run cs)) (ender (after in_run cs))
first letter c cs = word (c ∷ run in_word cs) (ender (after in_word cs))

unfoldable pub others : Class → List ℕ → List ℕ
others lf cs = cs
others cr cs = cs
others ht cs = cs
others shy cs = cs
others zwsp cs = cs
others blank cs = after in_run cs
others letter cs = after in_word cs

-- One token after the other is taken off the front: there are no more tokens than characters.
unfoldable pub tokens_by : ℕ → List ℕ → List Tok
tokens_by zero cs = []
tokens_by (suc n) [] = []
tokens_by (suc n) (c ∷ cs) = first (class_of c) c cs ∷ tokens_by n (others (class_of c) cs)

unfoldable pub tokens : List ℕ → List Tok
tokens cs = tokens_by (length cs) cs

-- How many characters a token has, how many bytes they take, and how many bytes are examined to find it.
unfoldable pub chars_of : Tok → ℕ
chars_of newLine = 1
chars_of carriageReturn = 1
chars_of tab = 1
chars_of softHyphen = 1
chars_of (space cs n e) = length cs
chars_of (word cs e) = length cs

unfoldable pub size_of : Tok → ℕ
size_of newLine = 1
size_of carriageReturn = 1
size_of tab = 1
size_of softHyphen = 2
size_of (space cs n e) = size cs
size_of (word cs e) = size cs

unfoldable pub ender_of : Tok → ℕ
ender_of newLine = 0
ender_of carriageReturn = 0
ender_of tab = 0
ender_of softHyphen = 0
ender_of (space cs n e) = e
ender_of (word cs e) = e

unfoldable pub need_of : Tok → ℕ
need_of t = size_of t + ender_of t

-- Rule 3: what a caller gets of a token.
abbrev pub kind_of : Tok → TokenKind
kind_of newLine = NewLine
kind_of carriageReturn = CarriageReturn
kind_of tab = Tab
kind_of softHyphen = Break
kind_of (space cs n e) = Whitespace
kind_of (word cs e) = Word

abbrev pub count_of : Tok → ℕ
count_of newLine = 0
count_of carriageReturn = 0
count_of tab = 0
count_of softHyphen = 0
count_of (space cs n e) = n
count_of (word cs e) = 0

-- The tokens with their byte ranges, the first of which starts at a given offset.
unfoldable pub ranged : ℕ → List Tok → List Token
ranged at [] = []
ranged at (t ∷ ts) =
    record {
      kind = kind_of t;
      start = record { 0 = at };
      end = record { 0 = at + size_of t };
      count = record { 0 = count_of t };
    }
    ∷ ranged (at + size_of t) ts
