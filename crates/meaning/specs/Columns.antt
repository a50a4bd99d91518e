-- A box width for a text that may have so many lines and must lose no character. That a wider box has fewer lines is not assumed.
-- Rule 10.
-- Assumes nothing.
use Rattle.std.specs.Prelude.{ℕ, zero, suc, Bool, true, false, ◌&&◌, List, [], ◌∷◌, eqb, None, Ok, Option, Result, Some}
use Rattle.meaning.specs.declared.refusals.Refusal.{Refusal}
use Rattle.basis.specs.Choice.{pick}
use Rattle.meaning.specs.Layout.{layout}
use Rattle.meaning.specs.Pages.{within_lines}
use Rattle.meaning.specs.declared.settings.Settings.{Settings}
use Rattle.meaning.specs.declared.line.Entry.{Entry}

-- No line of these dropped a character.
unfoldable pub all_kept : List Entry → Bool
all_kept [] = true
all_kept (e ∷ es) =
    let more = all_kept es in
    pick (eqb e.dropped.0 0) more false

-- Laid so, a text has at most h lines and loses no character.
unfoldable pub fits_whole : Settings → (h : ℕ) → List ℕ → Bool
fits_whole s h cs = within_lines s h cs && all_kept (layout s cs)

-- The same settings with another box width.
unfoldable pub with_width : Settings → (w : ℕ) → Settings
with_width s w =
    record {
      glyph = s.glyph;
      width = record { 0 = w };
      tab = s.tab;
      spacing = s.spacing;
      paragraph = s.paragraph;
      base = s.base;
      height = s.height;
      top = s.top;
      alignment = s.alignment;
      vertical = s.vertical;
      leading = s.leading;
      trailing = s.trailing;
      wrap = s.wrap;
    }

-- The smallest of n widths, from w on, in which it fits so.
unfoldable pub narrowest_from : Settings → (h : ℕ) → List ℕ → (w n : ℕ) → Option ℕ
narrowest_from s h cs w zero = None
narrowest_from s h cs w (suc n) =
    let more = narrowest_from s h cs (suc w) n in
    pick (fits_whole (with_width s w) h cs) (Some w) more

-- The widest box that the settings allow; each width from 0 to it is tried.
abbrev pub widest_box : ℕ
widest_box = 4096

unfoldable pub narrowest : Settings → (h : ℕ) → List ℕ → Option ℕ
narrowest s h cs = narrowest_from s h cs 0 (suc widest_box)
