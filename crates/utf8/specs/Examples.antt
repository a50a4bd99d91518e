-- Examples of the Unicode Standard, computed.
-- Assumes nothing.
use Rattle.std.specs.Prelude.{◌≡◌, refl, true, false, List, [], ◌∷◌, ℕ}
use Rattle.basis.specs.Choice.{pick}
use Rattle.utf8.specs.Encoding.{encode, bytes, size, encode_all}
use Rattle.utf8.specs.WellFormed.{rows, fits, some_fits, well_formed}
use Rattle.utf8.specs.Decoding.{seq_len, value, char_of, decode_head, decode_after, decode_all, valid_prefix}
use Rattle.utf8.specs.Places.{boundary, boundary_at, count_chars}
use Rattle.utf8.specs.WhiteSpace.{white_spaces, member, is_white}
use Rattle.utf8.specs.declared.sequence.Decoded.TheVariants.{Bad, End}

-- The four characters of D92's example and their bytes.
abbrev characters : List ℕ
characters = 0x4D ∷ 0x430 ∷ 0x4E8C ∷ 0x10302 ∷ []

abbrev their_bytes : List ℕ
their_bytes = 0x4D ∷ 0xD0 ∷ 0xB0 ∷ 0xE4 ∷ 0xBA ∷ 0x8C ∷ 0xF0 ∷ 0x90 ∷ 0x8C ∷ 0x82 ∷ []

-- D92, each alone and all of them: written
one_byte : encode 0x4D ≡ 0x4D ∷ []
unfolding encode pick
one_byte = refl

two_bytes : encode 0x430 ≡ 0xD0 ∷ 0xB0 ∷ []
unfolding encode pick
two_bytes = refl

three-bytes : encode 0x4E8C ≡ 0xE4 ∷ 0xBA ∷ 0x8C ∷ []
unfolding encode pick
three-bytes = refl

four_bytes : encode 0x10302 ≡ 0xF0 ∷ 0x90 ∷ 0x8C ∷ 0x82 ∷ []
unfolding encode pick
four_bytes = refl

written : encode_all characters ≡ their_bytes
unfolding encode_all encode pick
written = refl

-- and read.
read_back : decode_all their_bytes ≡ characters
unfolding decode_all decode_after decode_head char_of well_formed rows some_fits fits value seq_len pick
read_back = refl

-- Ill-formed by Table 3-7: the overlong C0 AF and E0 9F 80, a surrogate, past 10FFFF, and a sequence that is cut short.
overlong : decode_head (0xC0 ∷ 0xAF ∷ []) ≡ Bad
unfolding decode_head char_of well_formed rows some_fits fits value seq_len pick
overlong = refl

overlong-three : decode_head (0xE0 ∷ 0x9F ∷ 0x80 ∷ []) ≡ Bad
unfolding decode_head char_of well_formed rows some_fits fits value seq_len pick
overlong-three = refl

surrogate : decode_head (0xED ∷ 0xA0 ∷ 0x80 ∷ []) ≡ Bad
unfolding decode_head char_of well_formed rows some_fits fits value seq_len pick
surrogate = refl

too_large : decode_head (0xF4 ∷ 0x90 ∷ 0x80 ∷ 0x80 ∷ []) ≡ Bad
unfolding decode_head char_of well_formed rows some_fits fits value seq_len pick
too_large = refl

cut_short : decode_head (0xE2 ∷ 0x82 ∷ []) ≡ Bad
unfolding decode_head char_of well_formed rows some_fits fits value seq_len pick
cut_short = refl

nothing : decode_head [] ≡ End
unfolding decode_head
nothing = refl

-- A letter and a sequence that lacks its last byte: the valid prefix is the letter.
first_bad : valid_prefix (0x61 ∷ 0xF1 ∷ 0x80 ∷ 0x80 ∷ 0xE1 ∷ 0x80 ∷ 0xC2 ∷ 0x62 ∷ []) ≡ 1
unfolding valid_prefix size bytes decode_all decode_after decode_head char_of well_formed rows some_fits fits value seq_len pick
first_bad = refl

-- Positions in the example: 3 is where 4E8C begins, 4 lies within it, 10 is the end.
begins : boundary characters 3 ≡ true
unfolding boundary bytes pick
begins = refl

inside : boundary_at their_bytes 4 ≡ false
unfolding boundary_at pick
inside = refl

ends : boundary_at their_bytes 10 ≡ true
unfolding boundary_at pick
ends = refl

counted : count_chars their_bytes ≡ 4
unfolding count_chars pick
counted = refl

-- IDEOGRAPHIC SPACE is white, ZERO WIDTH SPACE is not.
ideographic_space : is_white 0x3000 ≡ true
unfolding is_white member white_spaces
ideographic_space = refl

zero-width-space : is_white 0x200B ≡ false
unfolding is_white member white_spaces
zero-width-space = refl
