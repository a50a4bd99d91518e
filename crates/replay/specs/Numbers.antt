-- The numbers of a line: decimals of at most 32 bits with one space between any two.
-- Assumes nothing.
use Rattle.std.specs.Prelude.{ℕ, ◌+◌, ◌-◌, ◌*◌, ◌&&◌, List, [], ◌∷◌, ◌++◌, eqb, leb, ltb, length, Option, None, Some, Result, Ok, Err, is_some, unwrap_or}
use Rattle.basis.specs.Choice.{pick}
use Rattle.replay.specs.declared.malformed.Malformed.{Malformed}

-- What was read of a number: nothing yet, or its value so far.
abbrev pub unbegun : Option ℕ
unbegun = None

abbrev pub begun_at : ℕ → Option ℕ
begun_at v = Some v

-- What a byte does: a digit grows the number, a space ends it.
unfoldable pub fed_of : Option ℕ → (b : ℕ) → Result (Option ℕ) Malformed
fed_of n b =
    let value = unwrap_or n 0 in
    pick (eqb b 32) (pick (is_some n) (Ok None) (Err (record {})))
    (pick (leb 48 b && leb b 57 && leb (10 * value + (b - 48)) 0xFFFFFFFF) (Ok (Some (10 * value + (b - 48)))) (Err (record {})))

-- The rest of the line after a byte, from the numbers so far and the value of the one that is being read.
abbrev pub feed_on : Result (Option ℕ) Malformed → (room : ℕ) → List ℕ → (value : ℕ) → (List ℕ → Option ℕ → List ℕ) → List ℕ
feed_on (Ok (Some v)) room ns value more = more ns (begun_at v)
feed_on (Ok None) room ns value more = let m = more (ns ++ value ∷ []) unbegun in pick (ltb (length ns) room) m []
feed_on (Err e) room ns value more = []

unfoldable pub read_from : (room : ℕ) → List ℕ → Option ℕ → List ℕ → List ℕ
read_from room ns n [] = pick (is_some n && ltb (length ns) room) (ns ++ unwrap_or n 0 ∷ []) []
read_from room ns n (b ∷ bs) = feed_on (fed_of n b) room ns (unwrap_or n 0) (λ ms m. read_from room ms m bs)

-- The numbers of a line, none if it is no such list or has more than there is room for.
unfoldable pub line_numbers : (room : ℕ) → List ℕ → List ℕ
line_numbers room line = read_from room [] unbegun line
