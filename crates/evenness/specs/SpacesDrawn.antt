-- The spaces that a pass draws are those that rule 5 gives it, one after the other: an event that counts n spaces after k others is
-- as wide as n spaces after k, or leaves the pen standing (rule 5, rule 8).
-- Assumes nothing.
use Rattle.std.specs.Prelude.{ℕ, ◌+◌, ◌*◌, ◌/◌, ◌≤◌, ◌≡◌, refl, Bool, ◌&&◌, ◌||◌, List, [], ◌∷◌, ◌++◌, eqb, length, take, None, Option, Some}
use Rattle.meaning.specs.declared.counts.Pixels.{Pixels}
use Rattle.std.proofs.Common.{sym, ap, subst}
use Rattle.std.proofs.Math.Bool.{not}
use native.Mathlib.Omega.{arith}
use Rattle.basis.specs.Choice.{pick_cases}
use Rattle.utf8.specs.Encoding.{bytes, size}
use Rattle.meaning.specs.Tokens.{Tok, newLine, carriageReturn, tab, softHyphen, space, word, chars_of, size_of, need_of}
use Rattle.meaning.specs.Cursor.{room_of, fits_in, has_moved, tab_width}
use Rattle.meaning.specs.SpaceConfig.{spaces_width, spaces_after}
use Rattle.meaning.specs.Lookahead.{Looked}
use Rattle.meaning.specs.Words.{Drawn, Stretches, last, glued, stretches, glues, printed_first, drawn_stretches, drawn_word}
use Rattle.meaning.specs.LineIter.{when, skips, Step, go, stop, cut_run, on_space, on_tab, hyphenated, on_break, wrap_on, unfit_word, cut_word, on_word, step, Ran, pass_on, process}
use Rattle.meaning.specs.Line.{noted, measured}
use Rattle.meaning.specs.declared.settings.Settings.{Settings}
use Rattle.meaning.specs.declared.cursor.Spaces.{Spaces}
use Rattle.meaning.specs.declared.cursor.Place.{Place}
use Rattle.meaning.specs.declared.line.EventKind.{EventKind}
use Rattle.meaning.specs.declared.line.EventKind.TheVariants.{Space, Printed, Move}
use Rattle.meaning.specs.declared.line.Measure.{Measure}
use Rattle.laws.specs.Measuring.{spaces-after, printed_at, word-measured}
use Rattle.laws.specs.EvenSpaces.{after_none}
use Rattle.laws.specs.LastPrint.{if_more, kept_if, to_last_print, counted_in}

-- A space event that counts spaces and moves the pen is as wide as they are; other events count none.
abbrev pub AsWide : Spaces → EventKind → (count width : ℕ) → Type 0
AsWide sp Printed n w = n ≡ 0
AsWide sp Space n w = 1 ≤ n → 1 ≤ w → w ≡ spaces_width sp n
AsWide sp Move n w = n ≡ 0

-- One after the other.
abbrev pub Along : Spaces → List Drawn → Type 0
Along sp [] = Unit {0}
Along sp (d ∷ ds) = AsWide sp d.kind d.count d.width × Along (spaces_after sp d.count) ds

-- ---- lists

pub along_append : (sp : Spaces) (ds es : List Drawn) → Along sp ds → Along (spaces_after sp (counted_in ds)) es → Along sp (ds ++ es)
unfolding counted_in
along_append sp [] es f g = subst (λ (x : Spaces). Along x es) (after_none sp) g
along_append sp (d ∷ ds) es f g =
    (f.0, along_append (spaces_after sp d.count) ds es f.1 (subst (λ (x : Spaces). Along x es) (sym (spaces-after sp d.count (counted_in ds))) g))

along-kept : (k : EventKind) (sp : Spaces) (d : Drawn) (xs : List Drawn) → AsWide sp d.kind d.count d.width
    → Along (spaces_after sp d.count) xs → Along sp (kept_if k d xs)
unfolding if_more
along-kept Printed sp d xs f g = (f, g)
along-kept Space sp d [] f g = tt
along-kept Space sp d (x ∷ xs) f g = (f, g)
along-kept Move sp d [] f g = tt
along-kept Move sp d (x ∷ xs) f g = (f, g)

-- So up to the last print.
pub along-first : (sp : Spaces) (ds : List Drawn) → Along sp ds → Along sp (to_last_print ds)
unfolding to_last_print
along-first sp [] f = tt
along-first sp (d ∷ ds) f = along-kept d.kind sp d (to_last_print ds) f.0 (along-first (spaces_after sp d.count) ds f.1)

-- ---- words

along-printed : (g : ℕ) (sp : Spaces) (at : ℕ) (w : List ℕ) (more : List Drawn) → Along sp more → Along sp (printed_first g at w more)
unfolding printed_first
along-printed g sp at [] more f = f
along-printed g sp at (c ∷ w) more f = (refl, subst (λ (x : Spaces). Along x more) (sym (after_none sp)) f)

along-stretches : (g : ℕ) (sp : Spaces) (at : ℕ) (w : Stretches) → Along sp (drawn_stretches g sp at w)
unfolding drawn_stretches
along-stretches g sp at (last w) = (refl, tt)
along-stretches g sp at (glued w c more) =
    along-printed g sp at w _ (λ _ _. refl, along-stretches g (spaces_after sp 1) (at + size w + bytes c) more)

pub along-word : (g : ℕ) (sp : Spaces) (at : ℕ) (cs : List ℕ) → Along sp (drawn_word g sp at cs)
unfolding drawn_word
along-word g sp at cs = along-stretches g sp at (stretches cs)

noted-spaces : (k : EventKind) (pen n : ℕ) (m : Measure) → (noted k pen n m).spaces.0 ≡ n
noted-spaces Space pen n m = refl
noted-spaces Printed pen n m = refl
noted-spaces Move pen n m = refl

measured-spaces : (m : Measure) (ds : List Drawn) → (measured m ds).spaces.0 ≡ m.spaces.0 + counted_in ds
unfolding measured counted_in
measured-spaces m [] = omega arith
measured-spaces m (d ∷ ds) =
    let n = m.spaces.0 + d.count in
    let next = noted d.kind (m.pen.0 + d.width) n m in
    omega (arith, measured-spaces next ds, noted-spaces d.kind (m.pen.0 + d.width) n m)

-- A word counts what glues in it.
pub word-counted : (g : ℕ) (sp : Spaces) (at : ℕ) (cs : List ℕ) → counted_in (drawn_word g sp at cs) ≡ glues cs
word-counted g sp at cs =
    let m = printed_at 0 0 in
    omega (arith, measured-spaces m (drawn_word g sp at cs), ap (λ (x : Measure). x.spaces.0) (word-measured m g sp at cs))

-- ---- steps

-- A step draws so, and leaves the spaces after those that it counted.
abbrev AlongStep : Spaces → Step → Type 0
AlongStep sp (go q ds r) = Along sp ds × (q.spaces ≡ spaces_after sp (counted_in ds))
AlongStep sp (stop e ds k h d r) = Along sp ds

module _ (s : Settings) (p : Place) (at : ℕ) where
  abbrev P : Step → Type 0
  P = AlongStep p.spaces

  none-counted : p.spaces ≡ spaces_after p.spaces 0
  none-counted = sym (after_none p.spaces)

  space-when : (b : Bool) (n : ℕ) → 1 ≤ n → 1 ≤ when b (spaces_width p.spaces n) → when b (spaces_width p.spaces n) ≡ spaces_width p.spaces n
  unfolding when
  space-when b n h =
      pick_cases (λ w. 1 ≤ w → w ≡ spaces_width p.spaces n) b (λ _ _. refl) (λ _ f. absurd (omega arith))

  space-along : (cs : List ℕ) (n : ℕ) (look : Looked) → P (on_space s p at cs n look)
  unfolding on_space cut_run counted_in
  space-along cs n look =
      let wide = spaces_width p.spaces n in
      let fitting = room_of p.cursor / (wide / n) in
      let all : n + 0 ≡ n = omega arith in
      pick_cases P (skips s p) (λ _. ((λ _ f. absurd (omega arith), tt), rw all)) λ _.
      pick_cases P (fits_in p.cursor wide) (λ _. ((space-when look.fits n, tt), rw all)) λ _.
      pick_cases (Along p.spaces) (eqb fitting 0) (λ _. tt) (λ _. (λ _ f. absurd (omega arith), tt))

  tab-along : (look : Looked) → P (on_tab s p at look)
  unfolding on_tab counted_in
  tab-along look =
      pick_cases P (skips s p) (λ _. (tt, none-counted)) λ _.
      pick_cases P (fits_in p.cursor (tab_width p.cursor))
      (λ _. ((pick_cases (λ (k : EventKind). AsWide p.spaces k 0 (tab_width p.cursor)) look.fits (λ _ f _. absurd (omega arith)) (λ _. refl), tt), none-counted))
      (λ _. ((refl, tt), none-counted))

  hyphen-along : (reach : ℕ) → P (hyphenated s p at reach)
  unfolding hyphenated counted_in
  hyphen-along reach =
      pick_cases P (fits_in p.cursor s.glyph.0)
      (λ _. pick_cases P p.empty (λ _. ((refl, tt), none-counted)) (λ _. (refl, tt)))
      (λ _. pick_cases P p.empty (λ _. (tt, none-counted)) (λ _. tt))

  break_along : (v : Option Pixels) (reach : ℕ) → P (on_break s p at v reach)
  unfolding on_break counted_in
  break_along None reach = (tt, none-counted)
  break_along (Some v) reach =
      pick_cases P (p.empty || not (fits_in p.cursor v.0)) (λ _. hyphen-along reach) (λ _. (tt, none-counted))

  cut-word-along : (cs : List ℕ) → P (cut_word s p at cs)
  unfolding cut_word unfit_word
  cut-word-along cs =
      let fitting = room_of p.cursor / s.glyph.0 in
      pick_cases P (eqb fitting 0) (λ _. pick_cases P (wrap_on s && has_moved p.cursor) (λ _. tt) (λ _. tt))
      (λ _. along-word s.glyph.0 p.spaces at (take fitting cs))

  word-along : (cs : List ℕ) → P (on_word s p at cs)
  unfolding on_word
  word-along cs =
      let g = s.glyph.0 in
      pick_cases P (fits_in p.cursor (length cs * g))
      (λ _. (along-word g p.spaces at cs, rw (word-counted g p.spaces at cs))) λ _.
      pick_cases P p.empty (λ _. cut-word-along cs) (λ _. tt)

  step-along : (t : Tok) (ts : List Tok) → P (step s p at t ts)
  unfolding step
  step-along newLine ts = (λ f _. absurd (omega arith), tt)
  step-along carriageReturn ts = (λ f _. absurd (omega arith), tt)
  step-along tab ts = tab-along _
  step-along softHyphen ts = break_along _ _
  step-along (space cs n e) ts = space-along cs n _
  step-along (word cs e) ts = word-along cs

-- ---- the pass

on-along : (sp : Spaces) (here n : ℕ) (x : Step) (more : Place → Ran) → AlongStep sp x → ((q : Place) → Along q.spaces (more q).drawn)
    → Along sp (pass_on here n x more).drawn
on-along sp here n (go q ds r) more f g =
    along_append sp ds (more q).drawn f.0 (subst (λ (x : Spaces). Along x (more q).drawn) f.1 (g q))
on-along sp here n (stop e ds k h d r) more f g = f

-- A pass draws its spaces so, whatever the text and the settings.
pub pass-along : (s : Settings) (ts : List Tok) (p : Place) (at : ℕ) → Along p.spaces (process s p at ts).drawn
unfolding process
pass-along s [] p at = tt
pass-along s (t ∷ ts) p at =
    on-along p.spaces (at + need_of t) (chars_of t) (step s p at t ts) (λ q. process s q (at + size_of t) ts) (step-along s p at t ts)
    (λ q. pass-along s ts q (at + size_of t))
