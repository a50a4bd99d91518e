-- A pass over a text without tabs, with plain spaces, does the same in two boxes that the glyphs of its tokens do not tell apart: token
-- by token the cursors stand after the same count of glyphs (rule 8, rule 9).
-- Assumes nothing.
use Rattle.std.specs.Prelude.{ℕ, ◌≤◌, ◌≡◌, List, length}
use Rattle.meaning.specs.Tokens.{Tok}
use Rattle.meaning.specs.LineIter.{process}
use Rattle.meaning.specs.Columns.{with_width}
use Rattle.meaning.specs.declared.settings.Settings.{Settings}
use Rattle.meaning.specs.declared.cursor.LineCursor.{LineCursor}
use Rattle.meaning.specs.declared.cursor.Place.{Place}
use Rattle.laws.specs.Pens.{Plain}
use Rattle.widths.specs.TabFree.{TabFree}
use Rattle.widths.specs.GlyphRoom.{Near, fits-alike, room-alike, near-moved, near-still, near-one, moved-alike}
use Rattle.widths.specs.GlyphLooks.{most_glyphs}
use Rattle.widths.specs.TwinPasses.{Twins, at_cursor, pass_same}

-- Cursors that these tokens, none of them a tab, do not tell apart by their glyphs.
abbrev Untold : ℕ → List Tok → LineCursor → LineCursor → Type 0
Untold g ts x y = TabFree ts × Near g (most_glyphs ts) x y

untold_twins : (g : ℕ) → 1 ≤ g → Twins g (Untold g)
unfolding most_glyphs
untold_twins g some =
    record {
      fits = λ ts x y n m h. fits-alike g some (most_glyphs ts) x y n m.1 h;
      room = λ ts x y n m h e. room-alike g some (most_glyphs ts) x y n m.1 h e;
      moved = λ ts x y m. moved-alike g some (most_glyphs ts) x y m.1;
      at-space = λ cs n e ts x y m. ((m.0, near-moved g some (most_glyphs ts) x y n m.1), (m.0, near-still g some (most_glyphs ts) n x y m.1));
      at-word = λ cs e ts x y m. (m.0, near-moved g some (most_glyphs ts) x y (length cs) m.1);
      at-hyphen = λ ts x y m. ((m.0, near-one g some (most_glyphs ts) x y m.1), (m.0, near-still g some (most_glyphs ts) 1 x y m.1));
      at-tab = λ ts x y m. absurd m.0;
      past-tab = λ ts x y m _. absurd m.0;
      at_edge_lem = λ ts x y m _. absurd m.0;
    }

pub pass-by-glyphs : (s : Settings) (w v : ℕ) → 1 ≤ s.glyph.0 → (ts : List Tok) (p : Place) (y : LineCursor) (at : ℕ) → TabFree ts
    → Plain s.glyph.0 p.spaces → Near s.glyph.0 (most_glyphs ts) p.cursor y
    → process (with_width s w) p at ts ≡ process (with_width s v) (at_cursor p y) at ts
pass-by-glyphs s w v some ts p y at free plain m =
    pass_same s w v some (Untold s.glyph.0) (untold_twins s.glyph.0 some) (λ ts x y m. absurd m.0) ts p y at plain (free, m)
