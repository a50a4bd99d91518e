-- UTF-8 as it is read: the sequence at the front of a list of bytes, and the characters of a text, one after the other. After
-- Tables 3-6 and 3-7 of the Unicode Standard.
-- Refusal 4.
-- Assumes nothing.
use Rattle.std.specs.Prelude.{List, [], ◌∷◌, ℕ, zero, suc, pred, ◌+◌, ◌*◌, ◌%◌, ltb, length, take, drop}
use Rattle.basis.specs.Choice.{pick}
use Rattle.utf8.specs.Encoding.{size}
use Rattle.utf8.specs.WellFormed.{well_formed}
use Rattle.utf8.specs.declared.sequence.Decoded.{Decoded}
use Rattle.utf8.specs.declared.sequence.Decoded.TheVariants.{Char, Bad, End}

-- Table 3-6: how many bytes the sequence has that a byte leads, by its run of one bits. No one bit is one byte, a run of two to
-- four is that many; a run of one, as every byte after the first has, or above four leads none, 0.
unfoldable pub seq_len : ℕ → ℕ
seq_len a = pick (ltb a 0x80) 1 (pick (ltb a 0xC0) 0 (pick (ltb a 0xE0) 2 (pick (ltb a 0xF0) 3 (pick (ltb a 0xF8) 4 0))))

-- Table 3-6 from right to left: the bits of two, three and four bytes, put together.
abbrev pub value2 : ℕ → ℕ → ℕ
value2 a b = a % 32 * 64 + b % 64

abbrev pub value3 : ℕ → ℕ → ℕ → ℕ
value3 a b c = (a % 16 * 64 + b % 64) * 64 + c % 64

abbrev pub value4 : ℕ → ℕ → ℕ → ℕ → ℕ
value4 a b c d = ((a % 8 * 64 + b % 64) * 64 + c % 64) * 64 + d % 64

-- The number that a sequence stands for (Table 3-6).
unfoldable pub value : List ℕ → ℕ
value [] = 0
value (a ∷ []) = a
value (a ∷ b ∷ []) = value2 a b
value (a ∷ b ∷ c ∷ []) = value3 a b c
value (a ∷ b ∷ c ∷ d ∷ s) = value4 a b c d

-- What a sequence by itself is read as: a well-formed one (Table 3-7) as its value (Table 3-6).
unfoldable pub char_of : List ℕ → Decoded
char_of s = pick (well_formed s) (Char (value s) (length s)) Bad

-- What a list of bytes starts with: as many bytes as the first one says (Table 3-6), if they are well-formed (Table 3-7).
unfoldable pub decode_head : List ℕ → Decoded
decode_head [] = End
decode_head (a ∷ s) = char_of (take (seq_len a) (a ∷ s))

-- What stands at a position of a text (Tables 3-6 and 3-7).
unfoldable pub decode_at : List ℕ → ℕ → Decoded
decode_at t i = decode_head (drop i t)

-- What a character makes of its number and length, and the empty list where there is no character.
abbrev pub on_char : Decoded → (ℕ → ℕ → List ℕ) → List ℕ
on_char (Char c n) f = f c n
on_char Bad f = []
on_char End f = []

-- The characters that follow one another once k bytes are passed: after each, the rest of its bytes are (Table 3-6).
unfoldable pub decode_after : ℕ → List ℕ → List ℕ
decode_after k [] = []
decode_after zero (a ∷ s) = on_char (decode_head (a ∷ s)) (λ c n. c ∷ decode_after (pred n) s)
decode_after (suc k) (a ∷ s) = decode_after k s

-- The scalar values of a text, from the front to the first byte that starts no well-formed sequence (Table 3-7).
unfoldable pub decode_all : List ℕ → List ℕ
decode_all s = decode_after 0 s

-- How many bytes they take: the length of the longest prefix that is UTF-8 (D92).
unfoldable pub valid_prefix : List ℕ → ℕ
valid_prefix s = size (decode_all s)
