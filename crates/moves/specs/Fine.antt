-- What the calls within take for granted, and the public calls check: no sum in them can wrap.
-- Assumes nothing.
use Rattle.std.specs.Prelude.{◌≤◌}
use Rattle.meaning.specs.declared.settings.Settings.{Settings}
use Rattle.meaning.specs.declared.cursor.LineCursor.{LineCursor}
use Rattle.meaning.specs.declared.cursor.Spaces.{Spaces}
use Rattle.meaning.specs.declared.cursor.Place.{Place}

-- The settings that a line depends on are in range.
abbrev pub FineSettings : Settings → Type 0
FineSettings s =
    (1 ≤ s.glyph.0) × (s.glyph.0 ≤ 64) × (s.width.0 ≤ 4096) × (s.tab.0 ≤ 4096) × (s.alignment ≤ 3)
    × (s.leading ≤ 1)

-- The cursor stands in 0..box width.
abbrev pub FineCursor : LineCursor → Type 0
FineCursor c = (c.position.0 ≤ c.width.0) × (c.width.0 ≤ 4096) × (c.tab.0 ≤ 4096)

-- Spaces that rule 6 can give: a glyph's width and at most the whole box.
abbrev pub FineSpaces : Spaces → Type 0
FineSpaces sp = (1 ≤ sp.width.0) × (sp.width.0 ≤ 4160) × (sp.extra.0 ≤ 65535)

abbrev pub FinePlace : Place → Type 0
FinePlace p = FineCursor p.cursor × FineSpaces p.spaces
