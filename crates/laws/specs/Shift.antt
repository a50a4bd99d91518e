-- A pass from an offset d further on answers the same, with what it draws and how far it looked moved by d (rule 8).
-- Assumes nothing.
use Rattle.std.specs.Prelude.{ℕ, ◌+◌, ◌*◌, ◌/◌, max, ◌≡◌, refl, Bool, true, false, ◌&&◌, ◌||◌, List, [], ◌∷◌, ◌++◌, eqb, length, take, None, Option, Some}
use Rattle.meaning.specs.declared.counts.Pixels.{Pixels}
use Rattle.std.proofs.Common.{ap, add-zero}
use Rattle.std.proofs.Math.Bool.{not}
use Rattle.std.proofs.Math.Nat.{add_assoc}
use native.Mathlib.Omega.{arith}
use Rattle.basis.specs.Choice.{pick, pick_under}
use Rattle.utf8.specs.Encoding.{bytes, size}
use Rattle.meaning.specs.Tokens.{Tok, newLine, carriageReturn, tab, softHyphen, space, word, chars_of, size_of, need_of}
use Rattle.meaning.specs.Cursor.{room_of, fits_in, advance, has_moved, tab_width}
use Rattle.meaning.specs.SpaceConfig.{spaces_width, spaces_after}
use Rattle.meaning.specs.Lookahead.{Looked, goes_on, next_fits, Ahead, added, next_width}
use Rattle.meaning.specs.Words.{Drawn, drawn, Stretches, last, glued, stretches, printed_first, drawn_stretches, drawn_word}
use Rattle.meaning.specs.LineIter.{draws_space, skips, Step, go, stop, cut_run, on_space, on_tab, hyphenated, on_break, wrap_on, unfit_word, cut_word, on_word, step, Ran, pass_on, process}
use Rattle.meaning.specs.Line.{noted, measured, events_at}
use Rattle.meaning.specs.declared.settings.Settings.{Settings}
use Rattle.meaning.specs.declared.cursor.LineCursor.{LineCursor}
use Rattle.meaning.specs.declared.cursor.Spaces.{Spaces}
use Rattle.meaning.specs.declared.cursor.Place.{Place}
use Rattle.meaning.specs.declared.line.Measure.{Measure}
use Rattle.laws.specs.Steps.{looked_of}

-- ---- what is drawn

abbrev pub shifted_one : ℕ → Drawn → Drawn
shifted_one d x = drawn x.kind (d + x.from) (d + x.to) x.count x.width

-- All that is drawn, d bytes further on.
unfoldable pub shifted : ℕ → List Drawn → List Drawn
shifted d [] = []
shifted d (x ∷ xs) = shifted_one d x ∷ shifted d xs

pub shifted_append : (d : ℕ) (xs ys : List Drawn) → shifted d (xs ++ ys) ≡ shifted d xs ++ shifted d ys
unfolding shifted
shifted_append d [] ys = refl
shifted_append d (x ∷ xs) ys = ap (λ (l : List Drawn). shifted_one d x ∷ l) (shifted_append d xs ys)

-- It measures the same.
pub shifted-measured : (d : ℕ) (m : Measure) (xs : List Drawn) → measured m (shifted d xs) ≡ measured m xs
unfolding shifted measured
shifted-measured d m [] = refl
shifted-measured d m (x ∷ xs) = shifted-measured d (noted x.kind (m.pen.0 + x.width) (m.spaces.0 + x.count) m) xs

-- Its events are those of a line that starts d bytes further on.
pub shifted-events : (d start x : ℕ) (ds : List Drawn) → events_at start x (shifted d ds) ≡ events_at (start + d) x ds
unfolding shifted events_at
shifted-events d start x [] = refl
shifted-events d start x (e ∷ ds) =
    rw (add_assoc start d e.from, add_assoc start d e.to, shifted-events d start (x + e.width) ds)

-- ---- the lookaheads

-- The same answer, and the reach d bytes further on.
abbrev pub shifted_look : ℕ → Looked → Looked
shifted_look d l = record { fits = l.fits; reach = d + l.reach }

abbrev pub shifted_ahead : ℕ → Ahead → Ahead
shifted_ahead d a = record { width = a.width; reach = d + a.reach }

goes-shift : (b : Bool) (d here : ℕ) (l : Looked) → goes_on b (d + here) (shifted_look d l) ≡ shifted_look d (goes_on b here l)
unfolding goes_on
goes-shift true d here l = let e : max (d + here) (d + l.reach) ≡ d + max here l.reach = omega arith in rw e
goes-shift false d here l = refl

pub fits-shift : (g : ℕ) (c : LineCursor) (sp : Spaces) (d at : ℕ) (ts : List Tok)
    → next_fits g c sp (d + at) ts ≡ shifted_look d (next_fits g c sp at ts)
unfolding next_fits
fits-shift g c sp d at [] = rw (add_assoc d at 1)
fits-shift g c sp d at (newLine ∷ ts) = rw (add_assoc d at (need_of newLine))
fits-shift g c sp d at (carriageReturn ∷ ts) = rw (add_assoc d at (need_of carriageReturn))
fits-shift g c sp d at (softHyphen ∷ ts) = rw (add_assoc d at (need_of softHyphen))
fits-shift g c sp d at (word cs e ∷ ts) = rw (add_assoc d at (need_of (word cs e)))
fits-shift g c sp d at (tab ∷ ts) =
    rw (add_assoc d at (need_of tab), add_assoc d at (size_of tab), fits-shift g (advance c (tab_width c)) sp d (at + size_of tab) ts)
    (goes-shift _ d _ _)
fits-shift g c sp d at (space cs n e ∷ ts) =
    let t = space cs n e in
    rw (add_assoc d at (need_of t), add_assoc d at (size_of t), fits-shift g (advance c (spaces_width sp n)) (spaces_after sp n) d (at + size_of t) ts)
    (goes-shift _ d _ _)

pub width-shift : (g : ℕ) (w : Option Pixels) (d at : ℕ) (ts : List Tok)
    → next_width g w (d + at) ts ≡ shifted_ahead d (next_width g w at ts)
unfolding next_width
width-shift g w d at [] = rw (add_assoc d at 1)
width-shift g w d at (newLine ∷ ts) = rw (add_assoc d at (need_of newLine))
width-shift g w d at (carriageReturn ∷ ts) = rw (add_assoc d at (need_of carriageReturn))
width-shift g w d at (tab ∷ ts) = rw (add_assoc d at (need_of tab))
width-shift g w d at (space cs n e ∷ ts) = rw (add_assoc d at (need_of (space cs n e)))
width-shift g w d at (softHyphen ∷ ts) = rw (add_assoc d at (need_of softHyphen))
width-shift g w d at (word cs e ∷ ts) =
    let t = word cs e in
    let more = next_width g (added w (length cs * g)) (at + size_of t) ts in
    let far : max (d + (at + need_of t)) (d + more.reach) ≡ d + max (at + need_of t) more.reach = omega arith in
    rw (add_assoc d at (need_of t), add_assoc d at (size_of t), width-shift g (added w (length cs * g)) d (at + size_of t) ts, far)

-- ---- words

printed-shift : (g d at : ℕ) (w : List ℕ) (more : List Drawn)
    → printed_first g (d + at) w (shifted d more) ≡ shifted d (printed_first g at w more)
unfolding shifted printed_first
printed-shift g d at [] more = refl
printed-shift g d at (c ∷ w) more = rw (add_assoc d at (size (c ∷ w)))

stretches-shift : (g : ℕ) (sp : Spaces) (d at : ℕ) (w : Stretches)
    → drawn_stretches g sp (d + at) w ≡ shifted d (drawn_stretches g sp at w)
unfolding shifted drawn_stretches
stretches-shift g sp d at (last w) = rw (add_assoc d at (size w))
stretches-shift g sp d at (glued w c more) =
    rw (add_assoc d at (size w), add_assoc d (at + size w) (bytes c), stretches-shift g (spaces_after sp 1) d (at + size w + bytes c) more)
    (printed-shift g d at w _)

pub word-shift : (g : ℕ) (sp : Spaces) (d at : ℕ) (cs : List ℕ) → drawn_word g sp (d + at) cs ≡ shifted d (drawn_word g sp at cs)
unfolding drawn_word
word-shift g sp d at cs = stretches-shift g sp d at (stretches cs)

-- ---- a step

-- The same step, with what it draws d bytes further on, that has looked as far as r.
abbrev pub shifted_step : (d r : ℕ) → Step → Step
shifted_step d r (go q ds _) = go q (shifted d ds) r
shifted_step d r (stop e ds k h n _) = stop e (shifted d ds) k h n r

-- A reach of 0 is no look, and stays so: only beside a reach of d or more are the two the same, moved.
pub record Shifted (d : ℕ) (x y : Step) : Type 0 where
  pub looked : ℕ
  pub is : y ≡ shifted_step d looked x
  pub reach : max d looked ≡ d + looked_of x

-- Two choices by one test.
both : {X Y : Type 0} (R : X → Y → Type 0) (t : Bool) {x y : X} {v w : Y} → R x v → R y w → R (pick t x y) (pick t v w)
unfolding pick
both R true p q = p
both R false p q = q

-- What a step learns of the text after it.
record Seen (d : ℕ) (l k : Looked) : Type 0 where
  fits : k.fits ≡ l.fits
  reach : max d k.reach ≡ d + l.reach

draws-shift : (s : Settings) (p : Place) (d at : ℕ) (ts : List Tok) → Seen d (draws_space s p at ts) (draws_space s p (d + at) ts)
unfolding draws_space
draws-shift s p d at ts =
    both (Seen d) p.empty (record { fits = refl; reach = omega arith })
    (rw (fits-shift s.glyph.0 p.cursor p.spaces d at ts) (record { fits = refl; reach = omega arith }))

module _ (s : Settings) (p : Place) (d at : ℕ) where
  cut-run-shift : (cs : List ℕ) (n width : ℕ) → Shifted d (cut_run p at cs n width) (cut_run p (d + at) cs n width)
  unfolding cut_run shifted
  cut-run-shift cs n width =
      let fitting = room_of p.cursor / (width / n) in
      record { looked = 0; is = rw (pick_under (shifted d), add_assoc d at (size (take fitting cs))); reach = omega arith }

  on-space-shift : (cs : List ℕ) (n : ℕ) (l k : Looked) → Seen d l k → Shifted d (on_space s p at cs n l) (on_space s p (d + at) cs n k)
  unfolding on_space shifted
  on-space-shift cs n l k e =
      let w = spaces_width p.spaces n in
      rw (add_assoc d at (size cs), e.fits)
      (both (Shifted d) (skips s p) (record { looked = 0; is = refl; reach = omega arith })
      (both (Shifted d) (fits_in p.cursor w) (record { looked = k.reach; is = refl; reach = e.reach }) (cut-run-shift cs n w)))

  on-tab-shift : (l k : Looked) → Seen d l k → Shifted d (on_tab s p at l) (on_tab s p (d + at) k)
  unfolding on_tab shifted
  on-tab-shift l k e =
      rw (add_assoc d at 1, e.fits)
      (both (Shifted d) (skips s p) (record { looked = 0; is = refl; reach = omega arith })
      (both (Shifted d) (fits_in p.cursor (tab_width p.cursor)) (record { looked = k.reach; is = refl; reach = e.reach })
      (record { looked = 0; is = refl; reach = omega arith })))

  hyphen-shift : (r : ℕ) → Shifted d (hyphenated s p at r) (hyphenated s p (d + at) (d + r))
  unfolding hyphenated shifted
  hyphen-shift r =
      rw (add_assoc d at 2)
      (both (Shifted d) (fits_in p.cursor s.glyph.0)
      (both (Shifted d) p.empty (record { looked = d + r; is = refl; reach = omega arith }) (record { looked = d + r; is = refl; reach = omega arith }))
      (both (Shifted d) p.empty (record { looked = d + r; is = refl; reach = omega arith }) (record { looked = d + r; is = refl; reach = omega arith })))

  on_break-shift : (w : Option Pixels) (r : ℕ) → Shifted d (on_break s p at w r) (on_break s p (d + at) w (d + r))
  unfolding on_break shifted
  on_break-shift None r = record { looked = d + r; is = refl; reach = omega arith }
  on_break-shift (Some w) r =
      both (Shifted d) (p.empty || not (fits_in p.cursor w.0)) (hyphen-shift r)
      (record { looked = d + r; is = refl; reach = omega arith })

  cut-word-shift : (cs : List ℕ) → Shifted d (cut_word s p at cs) (cut_word s p (d + at) cs)
  unfolding cut_word unfit_word shifted
  cut-word-shift cs =
      both (Shifted d) (eqb (room_of p.cursor / s.glyph.0) 0)
      (both (Shifted d) (wrap_on s && has_moved p.cursor) (record { looked = 0; is = refl; reach = omega arith })
      (record { looked = 0; is = refl; reach = omega arith }))
      (record { looked = 0; is = rw word-shift; reach = omega arith })

  on-word-shift : (cs : List ℕ) → Shifted d (on_word s p at cs) (on_word s p (d + at) cs)
  unfolding on_word shifted
  on-word-shift cs =
      both (Shifted d) (fits_in p.cursor (length cs * s.glyph.0)) (record { looked = 0; is = rw word-shift; reach = omega arith })
      (both (Shifted d) p.empty (cut-word-shift cs) (record { looked = 0; is = refl; reach = omega arith }))

pub step-shift : (s : Settings) (p : Place) (d at : ℕ) (t : Tok) (ts : List Tok) → Shifted d (step s p at t ts) (step s p (d + at) t ts)
unfolding step shifted
step-shift s p d at newLine ts = rw (add_assoc d at 1) (record { looked = 0; is = refl; reach = omega arith })
step-shift s p d at carriageReturn ts = rw (add_assoc d at 1) (record { looked = 0; is = refl; reach = omega arith })
step-shift s p d at tab ts =
    rw (add_assoc d at (size_of tab)) (on-tab-shift s p d at _ _ (draws-shift s _ d (at + size_of tab) ts))
step-shift s p d at softHyphen ts =
    rw (add_assoc d at (size_of softHyphen), width-shift s.glyph.0 None d (at + size_of softHyphen) ts)
    (on_break-shift s p d at _ _)
step-shift s p d at (space cs n e) ts =
    rw (add_assoc d at (size_of (space cs n e))) (on-space-shift s p d at cs n _ _ (draws-shift s _ d (at + size_of (space cs n e)) ts))
step-shift s p d at (word cs e) ts = on-word-shift s p d at cs

-- ---- a pass

abbrev pub shifted_ran : ℕ → Ran → Ran
shifted_ran d r =
    record {
      ended = r.ended;
      drawn = shifted d r.drawn;
      chars = r.chars;
      held = r.held;
      dropped = r.dropped;
      reach = d + r.reach;
    }

pass-on-shift : (d here n : ℕ) (x y : Step) (f g : Place → Ran) → Shifted d x y → ((q : Place) → g q ≡ shifted_ran d (f q))
    → pass_on (d + here) n y g ≡ shifted_ran d (pass_on here n x f)
pass-on-shift d here n (go q ds r) y f g e h =
    let far : max (d + here) (max e.looked (d + (f q).reach)) ≡ d + max here (max r (f q).reach) = omega (arith, e.reach) in
    rw (e.is, h q, shifted_append d ds (f q).drawn, far)
pass-on-shift d here n (stop b ds k w m r) y f g e h =
    let far : max (d + here) e.looked ≡ d + max here r = omega (arith, e.reach) in
    rw (e.is, far)

pub process-shift : (s : Settings) (p : Place) (d at : ℕ) (ts : List Tok) → process s p (d + at) ts ≡ shifted_ran d (process s p at ts)
unfolding process shifted
process-shift s p d at [] = rw (add_assoc d at 1)
process-shift s p d at (t ∷ ts) =
    rw (add_assoc d at (need_of t), add_assoc d at (size_of t))
    (pass-on-shift d (at + need_of t) (chars_of t) (step s p at t ts) (step s p (d + at) t ts) _ _ (step-shift s p d at t ts)
    (λ q. process-shift s q d (at + size_of t) ts))

-- A pass from an offset is the pass from the front, moved by the offset.
pub process-from : (s : Settings) (p : Place) (at : ℕ) (ts : List Tok) → process s p at ts ≡ shifted_ran at (process s p 0 ts)
process-from s p at ts = rw add-zero at (process-shift s p at 0 ts)

module _ (s : Settings) (p : Place) (d at : ℕ) (ts : List Tok) where
  -- Its events are those of a line that starts d bytes further on.
  pub pass-events : (start x : ℕ) → events_at start x (process s p (d + at) ts).drawn ≡ events_at (start + d) x (process s p at ts).drawn
  pass-events start x = rw (process-shift s p d at ts) (shifted-events d start x (process s p at ts).drawn)
