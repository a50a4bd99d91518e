-- A line does not depend on line spacing, paragraph spacing, base, box height, box top and vertical alignment, and so no layout does.
-- Rule 10.
-- Assumes nothing.
use Prim.Native.Nat.{ℕ, zero, suc, ◌+◌}
use Rattle.meaning.specs.declared.counts.Pixels.{Pixels}
use Rattle.std.specs.Prelude.{◌≡◌, List, [], ◌∷◌, map, pos, length, take, drop, None, Option, Some}
use Rattle.std.proofs.Math.Path.{refl, sym, ap}
use Rattle.std.proofs.Common.{◌∙◌}
use Rattle.utf8.specs.Encoding.{size}
use Rattle.meaning.specs.Tokens.{Tok, newLine, carriageReturn, tab, softHyphen, space, word, chars_of, size_of, need_of}
use Rattle.meaning.specs.Alignment.{plain_spaces, justified, place}
use Rattle.meaning.specs.Lookahead.{next_width}
use Rattle.meaning.specs.LineIter.{Held, nothing_held, skips, draws_space, cut_run, on_space, on_tab, hyphenated, on_break, unfit_word, cut_word, on_word, Step, step, Ran, pass_on, process}
use Rattle.meaning.specs.Line.{unmeasured, measured, line_tokens, start_place, Line, drawn_line, measuring, placing, line_of, lay_line}
use Rattle.meaning.specs.Layout.{Row, row_at, unless_ended, rows_by, rows, entry_of_row, layout, all_events, layout_events}
use Rattle.meaning.specs.declared.settings.Settings.{Settings}
use Rattle.meaning.specs.declared.cursor.Place.{Place}
use Rattle.meaning.specs.declared.line.Entry.{Entry}
use Rattle.meaning.specs.declared.line.Event.{Event}

-- The settings that a line depends on are the same.
pub record SameLines (s s' : Settings) : Type 0 where
  pub glyph : s.glyph ≡ s'.glyph
  pub width : s.width ≡ s'.width
  pub tab : s.tab ≡ s'.tab
  pub alignment : s.alignment ≡ s'.alignment
  pub leading : s.leading ≡ s'.leading
  pub wrap : s.wrap ≡ s'.wrap

-- ---- why: a line is the same with the others at 0

abbrev line_settings : Settings → Settings
line_settings s =
    record {
      glyph = s.glyph;
      width = s.width;
      tab = s.tab;
      spacing = record { 0 = 0 };
      paragraph = record { 0 = 0 };
      base = record { 0 = 0 };
      height = record { 0 = 0 };
      top = pos 0;
      alignment = s.alignment;
      vertical = 0;
      leading = s.leading;
      trailing = 0;
      wrap = s.wrap;
    }

break_alone : (s : Settings) (p : Place) (at : ℕ) (w : Option Pixels) (reach : ℕ) → on_break s p at w reach ≡ on_break (line_settings s) p at w reach
unfolding on_break hyphenated
break_alone s p at None reach = refl
break_alone s p at (Some w) reach = refl

step_alone : (s : Settings) (p : Place) (at : ℕ) (t : Tok) (ts : List Tok) → step s p at t ts ≡ step (line_settings s) p at t ts
unfolding step on_tab on_space on_word skips draws_space cut_run cut_word unfit_word
step_alone s p at newLine ts = refl
step_alone s p at carriageReturn ts = refl
step_alone s p at tab ts = refl
step_alone s p at softHyphen ts =
    let ahead = next_width s.glyph.0 None (at + size_of softHyphen) ts in
    break_alone s p at ahead.width ahead.reach
step_alone s p at (space cs n e) ts = refl
step_alone s p at (word cs e) ts = refl

process_alone : (s : Settings) (ts : List Tok) (p : Place) (at : ℕ) → process s p at ts ≡ process (line_settings s) p at ts
unfolding process
process_alone s [] p at = refl
process_alone s (t ∷ ts) p at =
    λ i. pass_on (at + need_of t) (chars_of t) (step_alone s p at t ts i) (λ q. process_alone s ts q (at + size_of t) i)

line_alone : (s : Settings) (ts : List Tok) → line_of s ts ≡ line_of (line_settings s) ts
unfolding line_of measuring placing place justified plain_spaces start_place
line_alone s ts =
    λ i.
    let r = process_alone s ts (start_place s 0 (plain_spaces s)) 0 i in
    let p = placing s r in
    drawn_line p (measured unmeasured r.drawn).width.0 r.reach
    (process_alone s ts (start_place s p.left.0 p.spaces) 0 i)

module _ {s s' : Settings} (e : SameLines s s') where
  same : line_settings s ≡ line_settings s'
  same =
      λ i.
      record {
        glyph = e.glyph i;
        width = e.width i;
        tab = e.tab i;
        spacing = record { 0 = 0 };
        paragraph = record { 0 = 0 };
        base = record { 0 = 0 };
        height = record { 0 = 0 };
        top = pos 0;
        alignment = e.alignment i;
        vertical = 0;
        leading = e.leading i;
        trailing = 0;
        wrap = e.wrap i;
      }

  pub same_line : (h : Held) (cs : List ℕ) → lay_line s h cs ≡ lay_line s' h cs
  unfolding lay_line
  same_line h cs =
      let ts = line_tokens h cs in
      line_alone s ts ∙ ap (λ (x : Settings). line_of x ts) same ∙ sym (line_alone s' ts)

  rows-by : (n start before : ℕ) (h : Held) (cs : List ℕ) → rows_by n s start before h cs ≡ rows_by n s' start before h cs
  unfolding rows_by
  rows-by zero start before h cs = refl
  rows-by (suc n) start before h cs =
      λ i.
      let l = same_line h cs i in
      let next = start + size (take l.chars cs) in
      row_at start before h cs l ∷ unless_ended l.ended (rows-by n next (before + l.chars) l.held (drop l.chars cs) i)

  pub same_rows : (cs : List ℕ) → rows s cs ≡ rows s' cs
  unfolding rows
  same_rows cs = rows-by (suc (length cs)) 0 0 nothing_held cs

  pub same_layout : (cs : List ℕ) → layout s cs ≡ layout s' cs
  unfolding layout
  same_layout cs = ap (map entry_of_row) (same_rows cs)

  pub same-events : (cs : List ℕ) → layout_events s cs ≡ layout_events s' cs
  unfolding layout_events
  same-events cs = ap all_events (same_rows cs)
