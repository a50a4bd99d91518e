-- With words that wait, left aligned and in a box that has room for a glyph, no line of any text drops anything.
-- Rule 8, rule 10, rule 12.
-- Assumes nothing.
use Rattle.std.specs.Prelude.{ℕ, zero, suc, ◌+◌, ◌*◌, ◌/◌, ◌≤◌, ◌<◌, ◌≡◌, true, ◌&&◌, ◌||◌, eqb, length, None, Option, Some}
use Rattle.meaning.specs.declared.counts.Pixels.{Pixels}
use Rattle.std.proofs.Math.Path.{refl}
use Rattle.std.proofs.Math.Bool.{false, not}
use mathlib.Core.List.{List, [], ◌∷◌}
use Rattle.std.proofs.Common.{mul-zero, le-div_iff_mul-le, arith}
use borrow.Author.Tests.{eqb-true, eq-eqb, not-false}
use Rattle.basis.specs.Choice.{pick_true, pick_cases}
use Rattle.meaning.specs.Tokens.{Tok, newLine, carriageReturn, tab, softHyphen, space, word, chars_of, size_of, need_of}
use Rattle.meaning.specs.Cursor.{room_of, fits_in, advance, has_moved, tab_width}
use Rattle.meaning.specs.SpaceConfig.{spaces_width}
use Rattle.meaning.specs.Lookahead.{Looked}
use Rattle.meaning.specs.Alignment.{place}
use Rattle.meaning.specs.LineIter.{Held, Step, go, stop, skips, cut_run, on_space, on_tab, hyphenated, on_break, wrap_on, unfit_word, cut_word, on_word, step, Ran, pass_on, process}
use Rattle.meaning.specs.Line.{line_tokens, start_place, measuring, placing, line_of, lay_line, entry_at}
use Rattle.meaning.specs.Layout.{layout}
use Rattle.meaning.specs.declared.settings.Settings.{Settings}
use Rattle.meaning.specs.declared.cursor.Spaces.{Spaces}
use Rattle.meaning.specs.declared.cursor.Place.{Place}
use Rattle.meaning.specs.declared.line.Entry.{Entry}
use Rattle.laws.specs.Steps.{too_wide}
use Rattle.laws.specs.RowInduction.{Each, each_line}

-- Settings by which words wait and the box has room for a glyph.
pub record Waits (s : Settings) : Type 0 where
  pub left : s.alignment ≡ 0
  pub room : s.glyph.0 ≤ s.width.0
  pub wrap : s.wrap ≡ 1

-- No line of these dropped a character.
abbrev pub DropNothing : List Entry → Type 0
DropNothing = Each (λ (e : Entry). e.dropped.0 ≡ 0)

-- A place of a pass that started at the box's left.
record FromLeft (s : Settings) (p : Place) : Type 0 where
  width : p.cursor.width.0 ≡ s.width.0
  start : p.cursor.start.0 ≡ 0

-- A step goes on from such a place, or stops and drops nothing.
abbrev Keeps : Settings → Step → Type 0
Keeps s (go q ds r) = FromLeft s q
Keeps s (stop e ds k h d r) = d ≡ 0

some-width : (n g m : ℕ) → m < n * g → 1 ≤ g
some-width n zero m h = omega (arith, mul-zero n)
some-width n (suc g) m h = omega arith

module _ (s : Settings) (w : Waits s) where
  module _ (p : Place) (at : ℕ) (f : FromLeft s p) where
    moved_keeps : (n : ℕ) (sp : Spaces) (b : _) → FromLeft s (record { cursor = advance p.cursor n; spaces = sp; empty = b })
    unfolding advance
    moved_keeps n sp b = record { width = f.width; start = f.start }

    space-keeps : (cs : List ℕ) (n : ℕ) (look : Looked) → Keeps s (on_space s p at cs n look)
    unfolding on_space cut_run
    space-keeps cs n look =
        pick_cases (Keeps s) (skips s p) (λ _. record { width = f.width; start = f.start }) λ _.
        pick_cases (Keeps s) (fits_in p.cursor (spaces_width p.spaces n)) (λ _. moved_keeps _ _ _) (λ _. refl)

    tab-keeps : (look : Looked) → Keeps s (on_tab s p at look)
    unfolding on_tab
    tab-keeps look =
        pick_cases (Keeps s) (skips s p) (λ _. f) λ _.
        pick_cases (Keeps s) (fits_in p.cursor (tab_width p.cursor)) (λ _. moved_keeps _ _ _) (λ _. moved_keeps _ _ _)

    break_keeps : (v : Option Pixels) (r : ℕ) → Keeps s (on_break s p at v r)
    unfolding on_break hyphenated
    break_keeps None r = f
    break_keeps (Some v) r =
        pick_cases (Keeps s) (p.empty || not (fits_in p.cursor v.0))
        (λ _.
        pick_cases (Keeps s) (fits_in p.cursor s.glyph.0) (λ _. pick_cases (Keeps s) p.empty (λ _. moved_keeps _ _ _) (λ _. refl))
        (λ _. pick_cases (Keeps s) p.empty (λ _. f) (λ _. refl)))
        (λ _. f)

    -- Where the cursor has not moved the whole box is left, and a character fits.
    unmoved-fits : 1 ≤ s.glyph.0 → room_of p.cursor / s.glyph.0 ≡ 0 → wrap_on s && has_moved p.cursor ≡ false → ⊥
    unfolding has_moved room_of
    unmoved-fits some z e =
        let stays : has_moved p.cursor ≡ false = rw (eq-eqb s.wrap 1 w.wrap) at e in
        let same = eqb-true p.cursor.position.0 p.cursor.start.0 (not-false _ stays) in
        let all : 1 * s.glyph.0 ≤ room_of p.cursor = omega (arith, same, f.start, f.width, w.room) in
        omega (arith, z, (le-div_iff_mul-le some).1 all)

    word_keeps : (cs : List ℕ) → Keeps s (on_word s p at cs)
    unfolding on_word cut_word unfit_word
    word_keeps cs =
        pick_cases (Keeps s) (fits_in p.cursor (length cs * s.glyph.0)) (λ _. moved_keeps _ _ _) λ wide.
        pick_cases (Keeps s) p.empty
        (λ _.
        pick_cases (Keeps s) (eqb (room_of p.cursor / s.glyph.0) 0)
        (λ z. pick_cases (Keeps s) (wrap_on s && has_moved p.cursor) (λ _. refl)
        (λ e. absurd (unmoved-fits (some-width (length cs) s.glyph.0 _ (too_wide p.cursor _ wide)) (eqb-true (room_of p.cursor / s.glyph.0) 0 z) e)))
        (λ _. refl))
        (λ _. refl)

  step_keeps : (p : Place) (at : ℕ) → FromLeft s p → (t : Tok) (ts : List Tok) → Keeps s (step s p at t ts)
  unfolding step
  step_keeps p at f newLine ts = refl
  step_keeps p at f carriageReturn ts = refl
  step_keeps p at f tab ts = tab-keeps p at f _
  step_keeps p at f softHyphen ts = break_keeps p at f _ _
  step_keeps p at f (space cs n e) ts = space-keeps p at f cs n _
  step_keeps p at f (word cs e) ts = word_keeps p at f cs

  on-keeps : (here n : ℕ) (x : Step) (more : Place → Ran) → Keeps s x → ((q : Place) → FromLeft s q → (more q).dropped ≡ 0)
      → (pass_on here n x more).dropped ≡ 0
  on-keeps here n (go q ds r) more k f = f q k
  on-keeps here n (stop e ds c h d r) more k f = k

  pass-keeps : (ts : List Tok) (p : Place) (at : ℕ) → FromLeft s p → (process s p at ts).dropped ≡ 0
  unfolding process
  pass-keeps [] p at f = refl
  pass-keeps (t ∷ ts) p at f =
      on-keeps (at + need_of t) (chars_of t) (step s p at t ts) (λ q. process s q (at + size_of t) ts) (step_keeps p at f t ts)
      (λ q g. pass-keeps ts q (at + size_of t) g)

  -- A left aligned line is drawn from the box's left.
  from-left : (ts : List Tok) → (placing s (measuring s ts)).left.0 ≡ 0
  unfolding placing place
  from-left ts = rw (pick_true (eqb s.alignment 0) _ _ (eq-eqb s.alignment 0 w.left))

  pub nothing-dropped : (h : Held) (cs : List ℕ) → (lay_line s h cs).dropped ≡ 0
  unfolding lay_line line_of start_place
  nothing-dropped h cs =
      let ts = line_tokens h cs in
      pass-keeps ts (start_place s (placing s (measuring s ts)).left.0 (placing s (measuring s ts)).spaces) 0
      (record { width = refl; start = from-left ts })

  pub layout-keeps : (cs : List ℕ) → DropNothing (layout s cs)
  unfolding entry_at
  layout-keeps = each_line s (λ (e : Entry). e.dropped.0 ≡ 0) (λ start before h cs. nothing-dropped h cs)
