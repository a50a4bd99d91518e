-- The pen of a pass does not pass the cursor, and the cursor does not pass the box, where nothing glues or spaces are plain: so a pass
-- ends inside the box (rule 4, rule 8, rule 9).
-- Assumes nothing.
use Rattle.std.specs.Prelude.{ℕ, ◌+◌, ◌-◌, ◌*◌, ◌/◌, ◌≤◌, min, ◌≡◌, refl, Bool, true, false, ◌&&◌, ◌||◌, eqb, None, Option, Some}
use Rattle.meaning.specs.declared.counts.Pixels.{Pixels}
use Rattle.std.proofs.Common.{sym, arith}
use Rattle.std.proofs.Math.Bool.{not}
use mathlib.Core.List.{List, [], ◌∷◌, ◌++◌}
use Rattle.std.proofs.Math.Nat.{div-mul-le_self, mul-le-mul_right}
use borrow.Author.Tests.{leb-true}
use Rattle.std.proofs.Math.ListN.{length, take, length-take}
use Rattle.std.proofs.Math.Seq.{take-append-add}
use Rattle.basis.specs.Choice.{pick_cases}
use Rattle.meaning.specs.Tokens.{Tok, newLine, carriageReturn, tab, softHyphen, space, word, chars_of, size_of, need_of}
use Rattle.meaning.specs.Cursor.{room_of, fits_in, advance, has_moved, tab_width}
use Rattle.meaning.specs.SpaceConfig.{spaces_width}
use Rattle.meaning.specs.Lookahead.{Looked}
use Rattle.meaning.specs.Words.{Drawn, glues, drawn_word}
use Rattle.meaning.specs.LineIter.{when, skips, Step, go, stop, cut_run, on_space, on_tab, hyphenated, on_break, wrap_on, unfit_word, cut_word, on_word, step, Ran, pass_on, process}
use Rattle.meaning.specs.declared.settings.Settings.{Settings}
use Rattle.meaning.specs.declared.cursor.LineCursor.{LineCursor}
use Rattle.meaning.specs.declared.cursor.Spaces.{Spaces}
use Rattle.meaning.specs.declared.cursor.Place.{Place}
use Rattle.laws.specs.Spell.{text_of, spell}
use Rattle.laws.specs.TokenLaws.{chars-text}
use Rattle.laws.specs.Pens.{pen_after, pen_append, Plain, plain-after, Even, word-pen, even-part, even-first, even-rest}

-- The pen not past the cursor, and the cursor not past the box.
pub record Within (s : Settings) (p : Place) (pen : ℕ) : Type 0 where
  pub pen-by : pen ≤ p.cursor.position.0
  pub cursor_by : p.cursor.position.0 ≤ s.width.0
  pub box : p.cursor.width.0 ≡ s.width.0

-- What a step takes of its token's characters.
abbrev taken_of : Step → List ℕ → List ℕ
taken_of (go q ds r) cs = cs
taken_of (stop e ds k h d r) cs = take k cs

-- After a step the pass stands so again and has plain spaces if it had; or the line ends inside the box.
abbrev Inside : Settings → Spaces → (pen : ℕ) → Step → Type 0
Inside s sp pen (go q ds r) = Within s q (pen_after pen ds) × (Plain s.glyph.0 sp → Plain s.glyph.0 q.spaces)
Inside s sp pen (stop e ds k h d r) = pen_after pen ds ≤ s.width.0

when-small : (b : Bool) (w : ℕ) → when b w ≤ w
unfolding when
when-small b w = pick_cases (λ n. n ≤ w) b (λ _. omega arith) (λ _. omega arith)

module _ (s : Settings) (p : Place) (at pen : ℕ) (w : Within s p pen) where
  room-is : p.cursor.position.0 + room_of p.cursor ≡ s.width.0
  unfolding room_of
  room-is = omega (arith, w.cursor_by, w.box)

  fits_by : (n : ℕ) → fits_in p.cursor n ≡ true → n ≤ room_of p.cursor
  unfolding fits_in
  fits_by n e = leb-true n (room_of p.cursor) e

  -- The cursor goes on by what there is room for, and the pen by no more.
  moves : (n x : ℕ) (sp : Spaces) (b : Bool) → n ≤ room_of p.cursor → x ≤ pen + n
      → Within s (record { cursor = advance p.cursor n; spaces = sp; empty = b }) x
  unfolding advance
  moves n x sp b h g =
      record { pen-by = omega (arith, w.pen-by); cursor_by = omega (arith, room-is); box = w.box }

  stays : (sp : Spaces) → Within s (record { cursor = p.cursor; spaces = sp; empty = p.empty }) (pen + 0)
  stays sp = record { pen-by = omega (arith, w.pen-by); cursor_by = w.cursor_by; box = w.box }

  ends : (n : ℕ) → n ≤ room_of p.cursor → pen + n ≤ s.width.0
  ends n h = omega (arith, room-is, w.pen-by)

  abbrev P : Step → Type 0
  P = Inside s p.spaces pen

  cut-run-inside : (cs : List ℕ) (n width : ℕ) → P (cut_run p at cs n width)
  unfolding cut_run pen_after
  cut-run-inside cs n width =
      let fitting = room_of p.cursor / (width / n) in
      pick_cases (λ (ds : List Drawn). pen_after pen ds ≤ s.width.0) (eqb fitting 0) (λ _. omega (arith, ends 0 (omega arith)))
      (λ _. ends 0 (omega arith))

  space-inside : (cs : List ℕ) (n : ℕ) (look : Looked) → P (on_space s p at cs n look)
  unfolding on_space pen_after
  space-inside cs n look =
      let wide = spaces_width p.spaces n in
      let plain = plain-after s.glyph.0 p.spaces n in
      pick_cases P (skips s p) (λ _. (stays _, plain)) λ _.
      pick_cases P (fits_in p.cursor wide)
      (λ e. (moves wide _ _ _ (fits_by wide e) (omega (arith, when-small look.fits wide)), plain))
      (λ _. cut-run-inside cs n wide)

  tab-inside : (look : Looked) → P (on_tab s p at look)
  unfolding on_tab pen_after
  tab-inside look =
      let wide = tab_width p.cursor in
      pick_cases P (skips s p) (λ _. (w, λ h. h)) λ _.
      pick_cases P (fits_in p.cursor wide) (λ e. (moves wide _ _ _ (fits_by wide e) (omega arith), λ h. h))
      (λ _. (moves (room_of p.cursor) _ _ _ (omega arith) (omega arith), λ h. h))

  hyphen-inside : (reach : ℕ) → P (hyphenated s p at reach)
  unfolding hyphenated pen_after
  hyphen-inside reach =
      let glyph = s.glyph.0 in
      pick_cases P (fits_in p.cursor glyph)
      (λ e. pick_cases P p.empty (λ _. (moves glyph _ _ _ (fits_by glyph e) (omega arith), λ h. h)) (λ _. ends glyph (fits_by glyph e)))
      (λ _. pick_cases P p.empty (λ _. (w, λ h. h)) (λ _. omega (arith, ends 0 (omega arith))))

  break_inside : (v : Option Pixels) (reach : ℕ) → P (on_break s p at v reach)
  unfolding on_break pen_after
  break_inside None reach = (w, λ h. h)
  break_inside (Some v) reach =
      pick_cases P (p.empty || not (fits_in p.cursor v.0)) (λ _. hyphen-inside reach) (λ _. (w, λ h. h))

  -- A word's case needs to know of the characters that it takes.
  abbrev OfWord : List ℕ → Step → Type 0
  OfWord cs x = Even s.glyph.0 p.spaces (taken_of x cs) → P x

  nothing-drawn : pen ≤ s.width.0
  nothing-drawn = omega (arith, ends 0 (omega arith))

  cut-word-inside : (cs : List ℕ) → OfWord cs (cut_word s p at cs)
  unfolding cut_word unfit_word pen_after
  cut-word-inside cs =
      let g = s.glyph.0 in
      let fitting = room_of p.cursor / g in
      pick_cases (OfWord cs) (eqb fitting 0)
      (λ _. pick_cases (OfWord cs) (wrap_on s && has_moved p.cursor) (λ _ _. nothing-drawn) (λ _ _. nothing-drawn))
      (λ _ h.
      let part = take fitting cs in
      let few : length part ≤ fitting = omega (arith, length-take fitting cs) in
      omega (arith, word-pen pen g p.spaces at part h, ends (length part * g) (omega (arith, mul-le-mul_right g few, div-mul-le_self (room_of p.cursor) g))))

  word-inside : (cs : List ℕ) → OfWord cs (on_word s p at cs)
  unfolding on_word pen_after
  word-inside cs =
      let g = s.glyph.0 in
      pick_cases (OfWord cs) (fits_in p.cursor (length cs * g))
      (λ e h. (moves (length cs * g) _ _ _ (fits_by (length cs * g) e) (omega (arith, word-pen pen g p.spaces at cs h)), plain-after g p.spaces (glues cs)))
      (λ _. pick_cases (OfWord cs) p.empty (λ _. cut-word-inside cs) (λ _ _. nothing-drawn))

  step-inside : (t : Tok) (ts : List Tok) → Even s.glyph.0 p.spaces (taken_of (step s p at t ts) (text_of t)) → P (step s p at t ts)
  unfolding step pen_after
  step-inside newLine ts h = ends 0 (omega arith)
  step-inside carriageReturn ts h = ends 0 (omega arith)
  step-inside tab ts h = tab-inside _
  step-inside softHyphen ts h = break_inside _ _
  step-inside (space cs n e) ts h = space-inside cs n _
  step-inside (word cs e) ts h = word-inside cs h

module _ (s : Settings) where
  abbrev Text : Spaces → List ℕ → Type 0
  Text = Even s.glyph.0

  -- The characters of a token and of what follows it.
  whole_part : (k : ℕ) (t : Tok) (cs : List ℕ) → take (chars_of t + k) (text_of t ++ cs) ≡ text_of t ++ take k cs
  whole_part k t cs = rw (chars-text t) (take-append-add (text_of t) cs k)

  step-taken : (sp : Spaces) (here : ℕ) (t : Tok) (cs : List ℕ) (x : Step) (more : Place → Ran)
      → Text sp (take (pass_on here (chars_of t) x more).chars (text_of t ++ cs)) → Text sp (taken_of x (text_of t))
  step-taken sp here t cs (go q ds r) more h = even-first s.glyph.0 sp (text_of t) _ (rw (whole_part (more q).chars t cs) at h)
  step-taken sp here t cs (stop e ds k g d r) more h = even-part s.glyph.0 sp k (text_of t) cs h

  on-inside : (sp : Spaces) (pen here : ℕ) (t : Tok) (cs : List ℕ) (x : Step) (more : Place → Ran)
      → Text sp (take (pass_on here (chars_of t) x more).chars (text_of t ++ cs)) → Inside s sp pen x
      → ((q : Place) (y : ℕ) → Within s q y → Text q.spaces (take (more q).chars cs) → pen_after y (more q).drawn ≤ s.width.0)
      → pen_after pen (pass_on here (chars_of t) x more).drawn ≤ s.width.0
  on-inside sp pen here t cs (go q ds r) more h k f =
      rw (pen_append pen ds (more q).drawn)
      (f q (pen_after pen ds) k.0 (even-rest s.glyph.0 sp q.spaces (text_of t) _ k.1 (rw (whole_part (more q).chars t cs) at h)))
  on-inside sp pen here t cs (stop e ds c g d r) more h k f = k

  -- From where pen and cursor stand inside the box, a pass ends inside it.
  pub pass-inside : (ts : List Tok) (p : Place) (at pen : ℕ) → Within s p pen → Text p.spaces (take (process s p at ts).chars (spell ts))
      → pen_after pen (process s p at ts).drawn ≤ s.width.0
  unfolding process spell pen_after
  pass-inside [] p at pen w h = omega (arith, w.pen-by, w.cursor_by)
  pass-inside (t ∷ ts) p at pen w h =
      let more : Place → Ran = λ q. process s q (at + size_of t) ts in
      let x = step s p at t ts in
      on-inside p.spaces pen (at + need_of t) t (spell ts) x more h
      (step-inside s p at pen w t ts (step-taken p.spaces (at + need_of t) t (spell ts) x more h))
      (λ q y v g. pass-inside ts q (at + size_of t) y v g)
