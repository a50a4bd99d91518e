-- Positions in UTF-8: where characters begin, by the characters and by the bytes, and how many there are (refusal 6).
-- Assumes nothing.
use Rattle.std.specs.Prelude.{Bool, true, false, not, List, [], ◌∷◌, ℕ, suc, ◌-◌, ltb, eqb, length, get_or}
use Rattle.basis.specs.Choice.{pick}
use Rattle.basis.specs.Order.{within}
use Rattle.utf8.specs.Encoding.{bytes}

-- Table 3-6: is a byte one that stands after the first of a sequence, 80 to BF.
abbrev pub cont : ℕ → Bool
cont b = within 0x80 0xBF b

-- Is a position the front, the end, or between two characters: the front is, and any other is one behind the first character's
-- bytes (Table 3-6).
unfoldable pub boundary : List ℕ → ℕ → Bool
boundary [] i = eqb i 0
boundary (c ∷ cs) i =
    let rest = boundary cs (i - bytes c) in
    pick (eqb i 0) true (pick (ltb i (bytes c)) false rest)

-- The same by one look at the bytes: the position is the end, or the byte there is no continuation (Table 3-6).
unfoldable pub boundary_at : List ℕ → ℕ → Bool
boundary_at s i = pick (ltb i (length s)) (not (cont (get_or s i 0))) (eqb i (length s))

-- How many bytes are no continuation (Table 3-6): each character has one such byte, its first.
unfoldable pub count_chars : List ℕ → ℕ
count_chars [] = 0
count_chars (b ∷ s) = let rest = count_chars s in pick (cont b) rest (suc rest)
