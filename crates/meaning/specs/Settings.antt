-- "Numbers" of the scope: which numbers a setting may have (refusal 1, refusal 2).
-- Assumes nothing.
use Rattle.std.specs.Prelude.{ℕ, Bool, ◌&&◌, leb, eqb, ℤ, pos, negsuc}
use Rattle.std.specs.Int.Signed.{le_z}
use Rattle.basis.specs.Order.{within}
use Rattle.meaning.specs.declared.settings.Settings.{Settings}

-- The box top lies from -4,096 to 4,096 (`negsuc n` is -(n + 1)).
unfoldable pub top_in_range : ℤ → Bool
top_in_range z = le_z (negsuc 4095) z && le_z z (pos 4096)

-- The seven sizes in pixels, in the scope's order: glyph, box width, tab width, line spacing, paragraph spacing, base, box height.
unfoldable pub sizes_in_range : (glyph width tab spacing paragraph base height : ℕ) → Bool
sizes_in_range glyph width tab spacing paragraph base height =
    within 1 64 glyph && leb width 4096 && leb tab 4096 && leb spacing 4096 && leb paragraph 4096 && within 1 64 base && leb height 4096

-- Leading spaces are off or on; a word of which no character fits is dropped or waits.
abbrev pub is_switch : ℕ → Bool
is_switch n = leb n 1

-- The setting of trailing spaces is retired: only its 0 is left.
abbrev pub is_retired : ℕ → Bool
is_retired n = eqb n 0

-- Every setting but the two alignments is in its range.
unfoldable pub in_range : Settings → Bool
in_range s =
    sizes_in_range s.glyph.0 s.width.0 s.tab.0 s.spacing.0 s.paragraph.0 s.base.0 s.height.0
    && top_in_range s.top
    && is_switch s.leading
    && is_retired s.trailing
    && is_switch s.wrap

-- Alignment: 0 left, 1 centre, 2 right, 3 justified.
abbrev pub known_alignment : ℕ → Bool
known_alignment a = leb a 3

-- Vertical alignment: 0 top, 1 middle, 2 bottom.
abbrev pub known_vertical : ℕ → Bool
known_vertical v = leb v 2

-- The settings made of thirteen numbers, in the scope's order.
unfoldable pub settings_of : (glyph width tab spacing paragraph base height : ℕ) → ℤ → (alignment vertical leading trailing wrap : ℕ) → Settings
settings_of glyph width tab spacing paragraph base height top alignment vertical leading trailing wrap =
    record {
      glyph = record { 0 = glyph };
      width = record { 0 = width };
      tab = record { 0 = tab };
      spacing = record { 0 = spacing };
      paragraph = record { 0 = paragraph };
      base = record { 0 = base };
      height = record { 0 = height };
      top = top;
      alignment = alignment;
      vertical = vertical;
      leading = leading;
      trailing = trailing;
      wrap = wrap;
    }
