-- Rule 7, rule 8 and rule 9, `process`: one pass over a line, token by token.
-- Assumes nothing.
use Rattle.std.specs.Prelude.{ℕ, ◌+◌, ◌-◌, ◌*◌, ◌/◌, max, min, Bool, true, false, ◌&&◌, ◌||◌, not, List, [], ◌∷◌, ◌++◌, eqb, length, take, None, Option, Some}
use Rattle.meaning.specs.declared.counts.Pixels.{Pixels}
use Rattle.basis.specs.Choice.{pick}
use Rattle.utf8.specs.Encoding.{size}
use Rattle.meaning.specs.Tokens.{Tok, newLine, carriageReturn, tab, softHyphen, space, word, chars_of, size_of, need_of}
use Rattle.meaning.specs.Cursor.{room_of, fits_in, advance, has_moved, tab_width}
use Rattle.meaning.specs.SpaceConfig.{spaces_width, spaces_after}
use Rattle.meaning.specs.Lookahead.{Looked, next_fits, next_width}
use Rattle.meaning.specs.Words.{Drawn, drawn, glues, drawn_word}
use Rattle.meaning.specs.declared.settings.Settings.{Settings}
use Rattle.meaning.specs.declared.cursor.Place.{Place}
use Rattle.meaning.specs.declared.line.LineEnd.{LineEnd}
use Rattle.meaning.specs.declared.line.LineEnd.TheVariants.{NewLine, CarriageReturn, EndOfText, LineBreak}
use Rattle.meaning.specs.declared.line.EventKind.TheVariants.{Space, Printed, Move}

-- Rule 9: what is left of a cut space run, its characters and its count. No characters: nothing is left.
pub record Held : Type 0 where
  pub chars : ℕ
  pub count : ℕ

abbrev pub nothing_held : Held
nothing_held = record { chars = 0; count = 0 }

-- What a token does. Either it is taken whole and the pass goes on from a place; or the line ends, with so many of the token's
-- characters taken, something held, and characters dropped. Both draw, and have looked as far as `reach`, 0 for not at all.
pub data Step : Type 0 where
  go : Place → List Drawn → (reach : ℕ) → Step
  stop : LineEnd → List Drawn → (chars : ℕ) → Held → (dropped reach : ℕ) → Step

-- The switches.
abbrev pub leading_on : Settings → Bool
leading_on s = eqb s.leading 1

abbrev pub wrap_on : Settings → Bool
wrap_on s = eqb s.wrap 1

-- Leading white space is skipped where the setting is off and the line still empty.
unfoldable pub skips : Settings → Place → Bool
skips s p = p.empty && not (leading_on s)

-- `should_draw_whitespace`: at the front of a line, or if the next word fits, the only one that looks.
unfoldable pub draws_space : Settings → Place → (at : ℕ) → List Tok → Looked
draws_space s p at ts =
    pick p.empty (record { fits = true; reach = 0 }) (next_fits s.glyph.0 p.cursor p.spaces at ts)

-- A width, or 0.
unfoldable pub when : Bool → ℕ → ℕ
when b w = pick b w 0

-- A place with its cursor moved on, or with n spaces used up.
abbrev pub moved_on : Place → ℕ → Place
moved_on p w = record { cursor = advance p.cursor w; spaces = p.spaces; empty = p.empty }

abbrev pub used_up : Place → ℕ → Place
used_up p n = record { cursor = p.cursor; spaces = spaces_after p.spaces n; empty = p.empty }

-- Rule 9: of a run of n spaces that is too wide the spaces that fit are counted, with no width, and one more is taken. The rest is held.
abbrev pub held_after : (chars count k : ℕ) → Held
held_after chars count k = pick (eqb (chars - k) 0) nothing_held (record { chars = chars - k; count = count - k })

unfoldable pub cut_run : Place → (at : ℕ) → List ℕ → (n width : ℕ) → Step
cut_run p at cs n width =
    let single = width / n in
    let fitting = room_of p.cursor / single in
    let taken = min (fitting + 1) n in
    let shown = drawn Space at (at + size (take fitting cs)) fitting 0 ∷ [] in
    stop LineBreak (pick (eqb fitting 0) [] shown) taken (held_after (length cs) n taken) 0 0

-- A space run, whose n spaces are used up whatever becomes of it.
unfoldable pub on_space : Settings → Place → (at : ℕ) → List ℕ → (n : ℕ) → Looked → Step
on_space s p at cs n look =
    let width = spaces_width p.spaces n in
    let to = at + size cs in
    pick (skips s p) (go (used_up p n) (drawn Space at to n 0 ∷ []) 0)
    (pick (fits_in p.cursor width)
    (go (moved_on (used_up p n) width) (drawn Space at to n (when look.fits width) ∷ []) look.reach)
    (cut_run p at cs n width))

-- A tab that does not fit carries pen and cursor to the edge: both by the room.
abbrev pub beyond_tab : Place → (at : ℕ) → Step
beyond_tab p at =
    let room = room_of p.cursor in
    go (moved_on p room) (drawn Move at (at + 1) 0 room ∷ []) 0

unfoldable pub on_tab : Settings → Place → (at : ℕ) → Looked → Step
on_tab s p at look =
    let width = tab_width p.cursor in
    pick (skips s p) (go p [] 0)
    (pick (fits_in p.cursor width)
    (go (moved_on p width) (drawn (pick look.fits Space Move) at (at + 1) 0 width ∷ []) look.reach)
    (beyond_tab p at))

-- A "-" is printed if it fits. The line ends there unless it is still empty, and keeps a soft hyphen whose "-" did not fit.
unfoldable pub hyphenated : Settings → Place → (at reach : ℕ) → Step
hyphenated s p at reach =
    let glyph = s.glyph.0 in
    let hyphen = drawn Printed at (at + 2) 0 glyph ∷ [] in
    pick (fits_in p.cursor glyph)
    (pick p.empty (go (moved_on p glyph) hyphen reach) (stop LineBreak hyphen 1 nothing_held 0 reach))
    (pick p.empty (go p [] reach) (stop LineBreak [] 0 nothing_held 0 reach))

-- A soft hyphen shows only if a word follows, and if that word does not fit or the line is still empty.
unfoldable pub on_break : Settings → Place → (at : ℕ) → Option Pixels → (reach : ℕ) → Step
on_break s p at None reach = go p [] reach
on_break s p at (Some w) reach = pick (p.empty || not (fits_in p.cursor w.0)) (hyphenated s p at reach) (go p [] reach)

-- A word waits for the next line, or is dropped whole.
abbrev pub waiting_word : Step
waiting_word = stop LineBreak [] 0 nothing_held 0 0

abbrev pub dropped_word : List ℕ → Step
dropped_word cs = stop LineBreak [] (length cs) nothing_held (length cs) 0

-- A word of which no character fits, on an empty line: with wrap on it waits if the cursor has left its starting place. Where it
-- has not, the next line would have no more room for it.
unfoldable pub unfit_word : Settings → Place → List ℕ → Step
unfit_word s p cs = pick (wrap_on s && has_moved p.cursor) waiting_word (dropped_word cs)

-- A word too wide for an empty line gives its longest fitting part.
unfoldable pub cut_word : Settings → Place → (at : ℕ) → List ℕ → Step
cut_word s p at cs =
    let fitting = room_of p.cursor / s.glyph.0 in
    pick (eqb fitting 0) (unfit_word s p cs)
    (stop LineBreak (drawn_word s.glyph.0 p.spaces at (take fitting cs)) fitting nothing_held 0 0)

-- The place after a printed word: its gluing characters move the cursor by one glyph each, and use up a space each.
abbrev pub after_word : Settings → Place → List ℕ → Place
after_word s p cs =
    record { cursor = advance p.cursor (length cs * s.glyph.0); spaces = spaces_after p.spaces (glues cs); empty = false }

-- A word that does not fit waits for the next line, if this one is not empty.
unfoldable pub on_word : Settings → Place → (at : ℕ) → List ℕ → Step
on_word s p at cs =
    pick (fits_in p.cursor (length cs * s.glyph.0))
    (go (after_word s p cs) (drawn_word s.glyph.0 p.spaces at cs) 0)
    (pick p.empty (cut_word s p at cs) waiting_word)

-- What the token t at the offset `at` does, with the tokens ts after it to look at.
unfoldable pub step : Settings → Place → (at : ℕ) → Tok → List Tok → Step
step s p at newLine ts = stop NewLine (drawn Space at (at + 1) 0 0 ∷ []) 1 nothing_held 0 0
step s p at carriageReturn ts = stop CarriageReturn (drawn Space at (at + 1) 0 0 ∷ []) 1 nothing_held 0 0
step s p at tab ts = on_tab s p at (draws_space s (moved_on p (tab_width p.cursor)) (at + size_of tab) ts)
step s p at softHyphen ts =
    let ahead = next_width s.glyph.0 None (at + size_of softHyphen) ts in
    on_break s p at ahead.width ahead.reach
step s p at (space cs n e) ts =
    on_space s p at cs n (draws_space s (moved_on (used_up p n) (spaces_width p.spaces n)) (at + size_of (space cs n e)) ts)
step s p at (word cs e) ts = on_word s p at cs

-- What a pass gives: how the line ends, what is drawn, the characters taken and dropped, what is held, how far was looked.
pub record Ran : Type 0 where
  pub ended : LineEnd
  pub drawn : List Drawn
  pub chars : ℕ
  pub held : Held
  pub dropped : ℕ
  pub reach : ℕ

-- A step, and the rest of the pass after it. `here` is the offset after the token and the character that ends it.
abbrev pub pass_on : (here chars : ℕ) → Step → (Place → Ran) → Ran
pass_on here n (go q ds r) more =
    let m = more q in
    record {
      ended = m.ended;
      drawn = ds ++ m.drawn;
      chars = n + m.chars;
      held = m.held;
      dropped = m.dropped;
      reach = max here (max r m.reach);
    }
pass_on here n (stop e ds k h d r) more =
    record { ended = e; drawn = ds; chars = k; held = h; dropped = d; reach = max here r }

-- The pass from a place and an offset on. At the end of the text the line ends.
unfoldable pub process : Settings → Place → (at : ℕ) → List Tok → Ran
process s p at [] = record { ended = EndOfText; drawn = []; chars = 0; held = nothing_held; dropped = 0; reach = at + 1 }
process s p at (t ∷ ts) = pass_on (at + need_of t) (chars_of t) (step s p at t ts) (λ q. process s q (at + size_of t) ts)
