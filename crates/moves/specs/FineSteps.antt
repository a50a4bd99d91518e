-- A step from a fine place leads to one, and what it measures grows by no more than the token's bytes and characters allow.
-- Assumes nothing.
use Rattle.std.specs.Prelude.{ℕ, ◌+◌, ◌-◌, ◌*◌, ◌/◌, ◌≤◌, ◌<◌, min, ◌≡◌, refl, Bool, true, false, ◌&&◌, ◌||◌, List, [], ◌∷◌, eqb, take, None, Option, Some}
use Rattle.meaning.specs.declared.counts.Pixels.{Pixels}
use Rattle.std.proofs.Math.Bool.{not}
use Rattle.std.proofs.Common.{mul-le-mul_left, mul-le-mul_right, div-mul-le_self, le-div_iff_mul-le, arith, leb-true, le-leb}
use Rattle.std.proofs.Math.ListN.{length, length-take}
use Rattle.basis.specs.Choice.{pick_cases}
use Rattle.basis.specs.Order.{by_le}
use Rattle.utf8.specs.Encoding.{size}
use Rattle.meaning.specs.Tokens.{Tok, newLine, carriageReturn, tab, softHyphen, space, word, chars_of, size_of}
use Rattle.meaning.specs.Cursor.{room_of, fits_in, advance, has_moved, tab_width}
use Rattle.meaning.specs.SpaceConfig.{spaces_width, spaces_after}
use Rattle.meaning.specs.Lookahead.{Looked}
use Rattle.meaning.specs.Alignment.{plain_spaces}
use Rattle.meaning.specs.Words.{Drawn, drawn, glues, drawn_word}
use Rattle.meaning.specs.LineIter.{when, skips, moved_on, Step, go, stop, cut_run, on_space, on_tab, hyphenated, on_break, wrap_on, unfit_word, cut_word, on_word, step}
use Rattle.meaning.specs.Line.{noted, measured, start_place}
use Rattle.meaning.specs.declared.settings.Settings.{Settings}
use Rattle.meaning.specs.declared.cursor.LineCursor.{LineCursor}
use Rattle.meaning.specs.declared.cursor.Spaces.{Spaces}
use Rattle.meaning.specs.declared.cursor.Place.{Place}
use Rattle.meaning.specs.declared.line.EventKind.{EventKind}
use Rattle.meaning.specs.declared.line.EventKind.TheVariants.{Space, Printed, Move}
use Rattle.meaning.specs.declared.line.Measure.{Measure}
use Rattle.laws.specs.Spell.{spell, SoundTok}
use Rattle.laws.specs.Steps.{too_wide, some-spaces}
use Rattle.laws.specs.TokenLaws.{length-size}
use Rattle.laws.specs.Measuring.{glues-length, word-measured}
use Rattle.moves.specs.Fine.{FineSettings, FineCursor, FineSpaces, FinePlace}

-- ---- where a pass starts

pub plain_fine : (s : Settings) → FineSettings s → FineSpaces (plain_spaces s)
unfolding plain_spaces
plain_fine s f = omega arith

pub start_fine : (s : Settings) (left : ℕ) (sp : Spaces) → FineSettings s → left ≤ s.width.0 → FineSpaces sp
    → FinePlace (start_place s left sp)
unfolding start_place
start_fine s left sp f h g = (omega arith, g)

-- ---- what is drawn

-- The pen moves on by so much at most, and so many spaces at most are counted.
pub record Grows (m : Measure) (wide many : ℕ) (ds : List Drawn) : Type 0 where
  pub pen : (measured m ds).pen.0 ≤ m.pen.0 + wide
  pub spaces : (measured m ds).spaces.0 ≤ m.spaces.0 + many

grows_none : (m : Measure) (wide many : ℕ) → Grows m wide many []
unfolding measured
grows_none m wide many = record { pen = omega arith; spaces = omega arith }

noted-is : (k : EventKind) (pen spaces : ℕ) (m : Measure) → ((noted k pen spaces m).pen.0 ≡ pen) × ((noted k pen spaces m).spaces.0 ≡ spaces)
noted-is Space pen spaces m = (refl, refl)
noted-is Printed pen spaces m = (refl, refl)
noted-is Move pen spaces m = (refl, refl)

grows_one : (m : Measure) (wide many : ℕ) (k : EventKind) (from to n w : ℕ) → w ≤ wide → n ≤ many
    → Grows m wide many (drawn k from to n w ∷ [])
unfolding measured
grows_one m wide many k from to n w f g =
    let e = noted-is k (m.pen.0 + w) (m.spaces.0 + n) m in
    record { pen = omega arith; spaces = omega arith }

-- A word's characters take a glyph or a space each.
word_width : (g n k : ℕ) (sp : Spaces) → g ≤ 64 → FineSpaces sp → k ≤ n → (n - k) * g + spaces_width sp k ≤ 8192 * n
unfolding spaces_width
word_width g n k sp f h l = omega (arith, mul-le-mul_left (n - k) f, mul-le-mul_left k h.1)

grows-word : (m : Measure) (wide many g : ℕ) (sp : Spaces) (at : ℕ) (cs : List ℕ) → g ≤ 64 → FineSpaces sp
    → 8192 * length cs ≤ wide → length cs ≤ many → Grows m wide many (drawn_word g sp at cs)
grows-word m wide many g sp at cs f h a b =
    let l = glues-length cs in
    record {
      pen = rw (word-measured m g sp at cs) (omega (arith, word_width g (length cs) (glues cs) sp f h l));
      spaces = rw (word-measured m g sp at cs) (omega arith);
    }

-- ---- a step

-- Where a pass goes on: in the same box, and after a token of so many bytes and characters.
pub record FineGo (p : Place) (m : Measure) (z n : ℕ) (q : Place) (ds : List Drawn) : Type 0 where
  pub place : FinePlace q
  pub width : q.cursor.width ≡ p.cursor.width
  pub tab : q.cursor.tab ≡ p.cursor.tab
  pub extra : q.spaces.extra.0 ≤ p.spaces.extra.0
  pub grows : Grows m (8192 * z) n ds

-- A cut run counts the spaces that would fit if none had an extra pixel, so it may count more than it has.
abbrev pub FineStep : Place → Measure → (bytes chars : ℕ) → Step → Type 0
FineStep p m z n (go q ds r) = FineGo p m z n q ds
FineStep p m z n (stop e ds k h d r) = Grows m (8192 * z) (n + p.spaces.extra.0) ds

fit_room : (c : LineCursor) (w : ℕ) → fits_in c w ≡ true → w ≤ c.width.0 - c.position.0
unfolding fits_in room_of
fit_room c w e = leb-true w (c.width.0 - c.position.0) e

room_fits : (c : LineCursor) → fits_in c (room_of c) ≡ true
unfolding fits_in
room_fits c = le-leb (room_of c) (room_of c) (omega arith)

room_small : (c : LineCursor) → FineCursor c → room_of c ≤ 4096
unfolding room_of
room_small c h = omega arith

-- A cursor that moves on by what fits.
advance_fine : (c : LineCursor) (w : ℕ) → FineCursor c → fits_in c w ≡ true → FineCursor (advance c w) × (w ≤ 4096)
unfolding advance
advance_fine c w h e = omega (arith, fit_room c w e)

after_fine : (sp : Spaces) (n : ℕ) → FineSpaces sp → FineSpaces (spaces_after sp n) × ((spaces_after sp n).extra.0 ≤ sp.extra.0)
unfolding spaces_after
after_fine sp n h = omega arith

when-small : (b : Bool) (w : ℕ) → when b w ≤ w
unfolding when
when-small b w = pick_cases (λ n. n ≤ w) b (λ _. omega arith) (λ _. omega arith)

-- Into less room than n spaces take go no more spaces, each without an extra pixel, than n and the extra pixels.
cut-count : (room : ℕ) (sp : Spaces) (n : ℕ) → FineSpaces sp → 1 ≤ n → room < spaces_width sp n
    → room / (spaces_width sp n / n) ≤ n + sp.extra.0
unfolding spaces_width
cut-count room sp n h f less =
    let w = sp.width.0 in
    let single = (n * w + min n sp.extra.0) / n in
    let fitting = room / single in
    let wide : w ≤ single = (le-div_iff_mul-le f).1 (omega arith) in
    by_le fitting (n + sp.extra.0) (λ e. e) λ e.
    absurd (omega (arith, div-mul-le_self room single, mul-le-mul_left fitting wide, mul-le-mul_right w e, mul-le-mul_left sp.extra.0 h.0))

module _ (s : Settings) (p : Place) (at : ℕ) (m : Measure) (fs : FineSettings s) (fp : FinePlace p) where
  -- The pass goes on from where it stands, or further on in the line.
  stays : {z n : ℕ} {ds : List Drawn} → Grows m (8192 * z) n ds → FineGo p m z n p ds
  stays g = record { place = fp; width = refl; tab = refl; extra = omega arith; grows = g }

  moves : (w : ℕ) {z n : ℕ} {ds : List Drawn} → fits_in p.cursor w ≡ true → (w ≤ 4096 → Grows m (8192 * z) n ds)
      → FineGo p m z n (moved_on p w) ds
  unfolding advance
  moves w e g =
      let a = advance_fine p.cursor w fp.0 e in
      record { place = (a.0, fp.1); width = refl; tab = refl; extra = omega arith; grows = g a.1 }

  cut-run_fine : (cs : List ℕ) (n : ℕ) → 1 ≤ size cs → n ≤ length cs → fits_in p.cursor (spaces_width p.spaces n) ≡ false
      → FineStep p m (size cs) (length cs) (cut_run p at cs n (spaces_width p.spaces n))
  unfolding cut_run
  cut-run_fine cs n h g wide =
      let width = spaces_width p.spaces n in
      let room = room_of p.cursor in
      let fitting = room / (width / n) in
      let small = room_small p.cursor fp.0 in
      let less = too_wide p.cursor width wide in
      pick_cases (Grows m (8192 * size cs) (length cs + p.spaces.extra.0)) (eqb fitting 0) (λ _. grows_none m _ _)
      (λ _.
      grows_one m _ _ Space _ _ _ _
      (omega arith)
      (omega (arith, cut-count room p.spaces n fp.1 (some-spaces p.spaces n room less) less)))

  on-space_fine : (cs : List ℕ) (n : ℕ) (look : Looked) → 1 ≤ size cs → n ≤ length cs → FineStep p m (size cs) (length cs) (on_space s p at cs n look)
  unfolding on_space advance
  on-space_fine cs n look h g =
      let P = FineStep p m (size cs) (length cs) in
      let w = spaces_width p.spaces n in
      let spaces = after_fine p.spaces n fp.1 in
      pick_cases P (skips s p)
      (λ _. record { place = (fp.0, spaces.0); width = refl; tab = refl; extra = spaces.1; grows = grows_one m _ _ Space _ _ _ _ (omega arith) g }) λ _.
      pick_cases P (fits_in p.cursor w)
      (λ e.
      let a = advance_fine p.cursor w fp.0 e in
      record { place = (a.0, spaces.0); width = refl; tab = refl; extra = spaces.1; grows = grows_one m _ _ Space _ _ _ _ (omega (arith, when-small look.fits w)) g })
      (λ e. cut-run_fine cs n h g e)

  on-tab_fine : (look : Looked) → FineStep p m 1 1 (on_tab s p at look)
  unfolding on_tab
  on-tab_fine look =
      let P = FineStep p m 1 1 in
      let w = tab_width p.cursor in
      pick_cases P (skips s p) (λ _. stays (grows_none m _ _)) λ _.
      pick_cases P (fits_in p.cursor w)
      (λ e. moves w e (λ h. grows_one m _ _ _ _ _ _ _ (omega arith) (omega arith)))
      (λ _. moves (room_of p.cursor) (room_fits p.cursor) (λ h. grows_one m _ _ Move _ _ _ _ (omega arith) (omega arith)))

  hyphen_fine : (reach : ℕ) → FineStep p m 2 1 (hyphenated s p at reach)
  unfolding hyphenated
  hyphen_fine reach =
      let P = FineStep p m 2 1 in
      pick_cases P (fits_in p.cursor s.glyph.0)
      (λ e.
      pick_cases P p.empty (λ _. moves s.glyph.0 e (λ h. grows_one m _ _ Printed _ _ _ _ (omega arith) (omega arith)))
      (λ _. grows_one m _ _ Printed _ _ _ _ (omega arith) (omega arith)))
      (λ _. pick_cases P p.empty (λ _. stays (grows_none m _ _)) (λ _. grows_none m _ _))

  on_break_fine : (w : Option Pixels) (reach : ℕ) → FineStep p m 2 1 (on_break s p at w reach)
  unfolding on_break
  on_break_fine None reach = stays (grows_none m _ _)
  on_break_fine (Some w) reach =
      pick_cases (FineStep p m 2 1) (p.empty || not (fits_in p.cursor w.0)) (λ _. hyphen_fine reach)
      (λ _. stays (grows_none m _ _))

  cut-word_fine : (cs : List ℕ) → FineStep p m (size cs) (length cs) (cut_word s p at cs)
  unfolding cut_word unfit_word
  cut-word_fine cs =
      let fitting = room_of p.cursor / s.glyph.0 in
      let part = length-take fitting cs in
      let P = FineStep p m (size cs) (length cs) in
      pick_cases P (eqb fitting 0) (λ _. pick_cases P (wrap_on s && has_moved p.cursor) (λ _. grows_none m _ _) (λ _. grows_none m _ _))
      (λ _. grows-word m _ _ s.glyph.0 p.spaces at (take fitting cs) fs.1 fp.1 (omega (arith, length-size cs)) (omega arith))

  on-word_fine : (cs : List ℕ) → FineStep p m (size cs) (length cs) (on_word s p at cs)
  unfolding on_word advance
  on-word_fine cs =
      let P = FineStep p m (size cs) (length cs) in
      let w = length cs * s.glyph.0 in
      let spaces = after_fine p.spaces (glues cs) fp.1 in
      pick_cases P (fits_in p.cursor w)
      (λ e.
      let a = advance_fine p.cursor w fp.0 e in
      record {
        place = (a.0, spaces.0);
        width = refl;
        tab = refl;
        extra = spaces.1;
        grows = grows-word m _ _ s.glyph.0 p.spaces at cs fs.1 fp.1 (omega (arith, length-size cs)) (omega arith);
      }) λ _.
      pick_cases P p.empty (λ _. cut-word_fine cs) (λ _. grows_none m _ _)

-- Whatever a token does.
pub step_fine : (s : Settings) (p : Place) (at : ℕ) (m : Measure) (t : Tok) (ts : List Tok) → FineSettings s → FinePlace p
    → SoundTok t (spell ts) → FineStep p m (size_of t) (chars_of t) (step s p at t ts)
unfolding step size_of chars_of
step_fine s p at m newLine ts fs fp h = grows_one m _ _ Space _ _ _ _ (omega arith) (omega arith)
step_fine s p at m carriageReturn ts fs fp h = grows_one m _ _ Space _ _ _ _ (omega arith) (omega arith)
step_fine s p at m tab ts fs fp h = on-tab_fine s p at m fs fp _
step_fine s p at m softHyphen ts fs fp h = on_break_fine s p at m fs fp _ _
step_fine s p at m (space cs n e) ts fs fp h = on-space_fine s p at m fs fp cs n _ (omega (arith, length-size cs)) h.1
step_fine s p at m (word cs e) ts fs fp h = on-word_fine s p at m fs fp cs
