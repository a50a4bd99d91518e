-- What a token takes of a line fills no more of it than the cursor has gone: a character of a word moves it by a glyph, behind a word so
-- does each space, and a tab moves it to the next stop or to the edge; and the cursor does not pass the box (rule 4, rule 8, rule 9).
-- Assumes nothing.
use Prim.Native.Nat.{ℕ, zero, suc, ◌+◌, ◌*◌, ◌/◌, ◌≤◌, min}
use Rattle.meaning.specs.declared.counts.Pixels.{Pixels}
use Rattle.std.specs.Prelude.{◌≡◌, Bool, true, false, ◌&&◌, ◌||◌, eqb, take, drop, None, Option, Some, unwrap_or}
use Rattle.std.proofs.Math.Path.{refl, sym, ap}
use Rattle.std.proofs.Common.{subst, ◌∙◌, div-mul-le_self, mul-le-mul_right, arith, length-take, take-append-drop}
use Rattle.std.proofs.Math.Bool.{not}
use Rattle.std.proofs.lemmas.Bool.{false≢true}
use mathlib.Core.List.{List, [], ◌∷◌, ◌++◌, append_assoc}
use Rattle.std.proofs.Math.Nat.{zero-mul, mul-le-mul_left}
use borrow.Author.Tests.{leb-true}
use Rattle.std.proofs.Math.ListN.{length}
use Rattle.basis.specs.Choice.{pick_cases, pick-false, by_test, and_true}
use Rattle.meaning.specs.Tokens.{Tok, newLine, carriageReturn, tab, softHyphen, space, word, counted}
use Rattle.meaning.specs.Cursor.{room_of, fits_in, advance, has_moved, tab_width}
use Rattle.meaning.specs.SpaceConfig.{spaces_width, spaces_after}
use Rattle.meaning.specs.Lookahead.{Looked}
use Rattle.meaning.specs.Characters.{in_word, in_run}
use Rattle.meaning.specs.LineIter.{Step, go, stop, held_after, leading_on, skips, cut_run, on_space, on_tab, hyphenated, on_break, wrap_on, unfit_word, cut_word, on_word, step}
use Rattle.meaning.specs.declared.settings.Settings.{Settings}
use Rattle.meaning.specs.declared.cursor.Spaces.{Spaces}
use Rattle.meaning.specs.declared.cursor.Place.{Place}
use Rattle.laws.specs.Spell.{text_of, spell, SoundTok}
use Rattle.laws.specs.Runs.{Pass, Stops}
use Rattle.laws.specs.Steps.{too_wide, some-spaces}
use Rattle.widths.specs.TabStops.{next_stop, tab-to}
use Rattle.columns.specs.Filling.{along_of, apart_if, apart_none, apart_moves, empty_line, fill_other, fill_blank, fill_by, fill_all, fill_append, Under, under_self, under-fewer, under-by, fill_under}
use Rattle.columns.specs.TokenFilling.{run-still, run-rested, run_fills, word_fills, tab_fills, hyphen_fills, new-line_fills, return_fills}
use Rattle.columns.specs.declared.filling.Fill.{Fill}

-- ---- parts of characters that pass a test

pub pass-parts : (f : ℕ → Bool) (k : ℕ) (cs : List ℕ) → Pass f cs → Pass f (take k cs) × Pass f (drop k cs)
pass-parts f zero cs h = (tt, h)
pass-parts f (suc k) [] h = (tt, tt)
pass-parts f (suc k) (c ∷ cs) h = let r = pass-parts f k cs h.1 in ((h.0, r.0), r.1)

-- ---- a place

-- The cursor stands in the box, and spaces are a glyph wide at least.
pub record InBox (s : Settings) (p : Place) : Type 0 where
  pub width : p.cursor.width.0 ≡ s.width.0
  pub tab : p.cursor.tab.0 ≡ s.tab.0
  pub low : p.cursor.position.0 ≤ s.width.0
  pub wide : s.glyph.0 ≤ p.spaces.width.0

-- A pass at a place, so many lines being before its own, and the word before it being over.
abbrev pub standing : (lines : ℕ) → Place → Fill
standing l p = record { lines = l; at = p.cursor.position.0; begun = not p.empty; part = apart_if (not p.empty) }

abbrev pub filled_in : Settings → Fill → List ℕ → Fill
filled_in s x cs = fill_all in_word s.glyph.0 s.tab.0 s.width.0 x cs

-- A token's characters cs, and the rest of the text after them. From where a step goes on, the rest fills as many lines at least; so it does
-- from the next line on, where the line ends, with what was not taken, if nothing is dropped. What is held is of a run.
abbrev pub GoesOn : Settings → ℕ → Place → (cs rest : List ℕ) → Place → Type 0
GoesOn s l p cs rest q = InBox s q × ((filled_in s (standing l p) (cs ++ rest)).lines ≤ (filled_in s (standing l q) rest).lines)

abbrev pub EndsThere : Settings → ℕ → Place → (cs rest : List ℕ) → (taken held dropped : ℕ) → Type 0
EndsThere s l p cs rest k h d =
    (d ≡ 0 → (filled_in s (standing l p) (cs ++ rest)).lines ≤ (filled_in s (empty_line (l + 1)) (drop k cs ++ rest)).lines)
    × Pass in_run (take h (drop k cs))

abbrev pub Roomy : Settings → ℕ → Place → (cs rest : List ℕ) → Step → Type 0
Roomy s l p cs rest (go q ds r) = GoesOn s l p cs rest q
Roomy s l p cs rest (stop e ds k h d r) = EndsThere s l p cs rest k h.chars d

-- What is known of a token and the text after it, where the line has a word or not: a run counts its spaces, but for one that is held before
-- the line.
abbrev pub Known : (begun : Bool) → (rest : List ℕ) → Tok → Type 0
Known b rest newLine = Unit {0}
Known b rest carriageReturn = Unit {0}
Known b rest tab = Unit {0}
Known b rest softHyphen = Unit {0}
Known b rest (space cs n e) = Pass in_run cs × (b ≡ true → counted cs ≤ n)
Known b rest (word cs e) = Pass in_word cs × Stops in_word rest

module _ (s : Settings) (some : 1 ≤ s.glyph.0) (l : ℕ) (p : Place) (at : ℕ) (f : InBox s p) where
  abbrev g : ℕ
  g = s.glyph.0

  abbrev w : ℕ
  w = s.width.0

  abbrev position : ℕ
  position = p.cursor.position.0

  abbrev x : Fill
  x = standing l p

  -- The same line, filled up to a place.
  abbrev filled_to : (to : ℕ) → Fill
  filled_to n = record { lines = l; at = n; begun = not p.empty; part = apart_if (not p.empty) }

  room-is : position + room_of p.cursor ≡ w
  unfolding room_of
  room-is = omega (arith, f.width, f.low)

  fits_by : (n : ℕ) → fits_in p.cursor n ≡ true → n ≤ room_of p.cursor
  unfolding fits_in
  fits_by n e = leb-true n (room_of p.cursor) e

  -- Where the cursor goes on by what there is room for.
  box-on : (n : ℕ) (sp : Spaces) (b : Bool) → n ≤ room_of p.cursor → sp.width.0 ≡ p.spaces.width.0
      → InBox s (record { cursor = advance p.cursor n; spaces = sp; empty = b })
  unfolding advance
  box-on n sp b h e = record { width = f.width; tab = f.tab; low = omega (arith, room-is); wide = omega (arith, f.wide) }

  -- Skipped is what stands on an empty line.
  skipped : skips s p ≡ true → not p.empty ≡ false
  unfolding skips
  skipped e = rw (and_true p.empty (not (leading_on s)) e).0 refl

  -- ---- the rest of the text

  -- From no further it fills no more lines.
  fills_no_more : (rest : List ℕ) (a b : Fill) → Under w a b → (filled_in s a rest).lines ≤ (filled_in s b rest).lines
  fills_no_more rest a b u = (fill_under g s.tab.0 some w w (omega arith) in_word rest a b u).lines

  apart : (xs rest : List ℕ) → filled_in s x (xs ++ rest) ≡ filled_in s (filled_in s x xs) rest
  apart xs rest = fill_append in_word g s.tab.0 w x xs rest

  goes : (xs rest : List ℕ) (y : Fill) → Under w (filled_in s x xs) y → (filled_in s x (xs ++ rest)).lines ≤ (filled_in s y rest).lines
  goes xs rest y u = omega (arith, ap (λ (z : Fill). z.lines) (apart xs rest), fills_no_more rest _ y u)

  -- The line has ended behind k characters, and nothing of them moves along.
  ends : (xs rest : List ℕ) (k : ℕ) → along_of (filled_in s x (take k xs)) ≡ 0 → (filled_in s x (take k xs)).lines ≡ l
      → (filled_in s x (xs ++ rest)).lines ≤ (filled_in s (empty_line (l + 1)) (drop k xs ++ rest)).lines
  ends xs rest k none same =
      let next = drop k xs ++ rest in
      let whole : xs ++ rest ≡ take k xs ++ next =
      ap (λ (ys : List ℕ). ys ++ rest) (sym (take-append-drop k xs)) ∙ append_assoc (take k xs) (drop k xs) rest in
      let u = under-fewer w (filled_in s x (take k xs)) (empty_line (l + 1)) none (omega (arith, same)) in
      omega (arith, ap (λ (ys : List ℕ). (filled_in s x ys).lines) whole, goes (take k xs) next (empty_line (l + 1)) u)

  no_word : (c : ℕ) (z : Fill) → in_word c ≡ false → fill_by in_word g s.tab.0 w z c ≡ fill_by in_word g s.tab.0 w (fill_other z) c
  unfolding fill_by fill_blank
  no_word c z e = pick-false (in_word c) _ _ e ∙ sym (pick-false (in_word c) _ _ e)

  -- Behind a word comes no character of one: whether the word would have moved along does not matter.
  word_over : (rest : List ℕ) (z y : Fill) → Stops in_word rest → Under w (fill_other z) y → (filled_in s z rest).lines ≤ (filled_in s y rest).lines
  unfolding fill_all
  word_over [] z y h u = u.lines
  word_over (c ∷ cs) z y h u =
      let same : fill_by in_word g s.tab.0 w z c ≡ fill_by in_word g s.tab.0 w (fill_other z) c = no_word c z h in
      omega (arith, ap (λ (v : Fill). (filled_in s v cs).lines) same, fills_no_more (c ∷ cs) (fill_other z) y u)

  -- ---- a space run

  module _ (cs rest : List ℕ) (n : ℕ) (more : 1 ≤ length cs) (run : Pass in_run cs) (counts : not p.empty ≡ true → counted cs ≤ n) where
    spaces-wide : n * g ≤ spaces_width p.spaces n
    unfolding spaces_width
    spaces-wide = omega (arith, mul-le-mul_left n f.wide)

    run_at : (filled_in s x cs).at ≤ position + spaces_width p.spaces n
    run_at =
        by_test (not p.empty)
        (λ e. omega (arith, (run_fills g s.tab.0 w cs x run).at, mul-le-mul_right g (counts e), spaces-wide))
        (λ e. omega (arith, run-still g s.tab.0 w cs x run e))

    -- The pass then stands so far on, or further.
    run-under : (to : ℕ) → (filled_in s x cs).at ≤ to → Under w (filled_in s x cs) (filled_to to)
    run-under to h =
        let r = run_fills g s.tab.0 w cs x run in
        let rested = run-rested g s.tab.0 w cs x more run in
        under-by w _ _ rested.0 (omega (arith, r.lines)) (λ _ _. h) (λ _ b. sym r.begun ∙ b) (λ _ m. apart_moves (not p.empty) ∙ sym r.begun ∙ rested.1 m)

    cut-ends : (k : ℕ) → 1 ≤ k → (filled_in s x (cs ++ rest)).lines ≤ (filled_in s (empty_line (l + 1)) (drop k cs ++ rest)).lines
    cut-ends k h =
        let part = (pass-parts in_run k cs run).0 in
        let taken : 1 ≤ length (take k cs) = omega (arith, length-take k cs, more) in
        ends cs rest k (run-rested g s.tab.0 w (take k cs) x taken part).0 (run_fills g s.tab.0 w (take k cs) x part).lines

    space-room : (look : Looked) → Roomy s l p cs rest (on_space s p at cs n look)
    unfolding on_space cut_run spaces_after advance
    space-room look =
        let wide = spaces_width p.spaces n in
        let taken = min (room_of p.cursor / (wide / n) + 1) n in
        let P = Roomy s l p cs rest in
        pick_cases P (skips s p)
        (λ e. (
          record { width = f.width; tab = f.tab; low = f.low; wide = f.wide },
          goes cs rest x (run-under position (omega (arith, run-still g s.tab.0 w cs x run (skipped e)))),
        ))
        λ _.
        pick_cases P (fits_in p.cursor wide) (λ e. (box-on _ _ _ (fits_by _ e) refl, goes cs rest _ (run-under (position + wide) run_at)))
        (λ e. (
          λ _. cut-ends taken (omega (arith, some-spaces p.spaces n _ (too_wide p.cursor wide e))),
          (pass-parts in_run (held_after (length cs) n taken).chars (drop taken cs) (pass-parts in_run taken cs run).1).0,
        ))

  -- ---- a tab

  tab-stop : next_stop s.tab.0 position ≡ position + tab_width p.cursor
  tab-stop = subst (λ (t : ℕ). next_stop t position ≡ position + tab_width p.cursor) f.tab (tab-to p.cursor)

  -- The pass stands as far on as the tab goes, or at the edge.
  tab-under : (to : ℕ) → position ≤ to → (not p.empty ≡ true → min (next_stop s.tab.0 position) w ≤ to)
      → Under w (filled_in s x (0x0009 ∷ [])) (filled_to to)
  tab-under to a b =
      let P : Fill → Type 0 = λ (z : Fill). Under w z (filled_to to) in
      subst P (sym (tab_fills g s.tab.0 w x))
      (pick_cases P (not p.empty) (λ h. under-by w _ _ (apart_none (not p.empty)) (omega arith) (λ _ _. b h) (λ _ e. e) (λ _ e. e))
      (λ _. under-by w _ _ refl (omega arith) (λ _ _. a) (λ _ e. e) (λ _ e. absurd (false≢true e))))

  tab-room : (rest : List ℕ) (look : Looked) → Roomy s l p (0x0009 ∷ []) rest (on_tab s p at look)
  unfolding on_tab advance
  tab-room rest look =
      let P = Roomy s l p (0x0009 ∷ []) rest in
      pick_cases P (skips s p)
      (λ e. (
        record { width = f.width; tab = f.tab; low = f.low; wide = f.wide },
        goes (0x0009 ∷ []) rest x (tab-under position (omega arith) (λ h. absurd (false≢true (sym (skipped e) ∙ h)))),
      ))
      λ _.
      pick_cases P (fits_in p.cursor (tab_width p.cursor))
      (λ e. (box-on _ _ _ (fits_by _ e) refl, goes (0x0009 ∷ []) rest _ (tab-under _ (omega arith) (λ _. omega (arith, tab-stop)))))
      (λ _. (box-on _ _ _ (omega arith) refl, goes (0x0009 ∷ []) rest _ (tab-under _ (omega arith) (λ _. omega (arith, room-is)))))

  -- ---- a soft hyphen

  abbrev hyphen : List ℕ
  hyphen = 0x00AD ∷ []

  hyphen-on : (n : ℕ) → Under w (filled_in s x hyphen) (filled_to (position + n))
  hyphen-on n =
      let P : Fill → Type 0 = λ (z : Fill). Under w z (filled_to (position + n)) in
      subst P (sym (hyphen_fills g s.tab.0 w x)) (under-by w _ _ refl (omega arith) (λ _ _. omega arith) (λ _ e. e) (λ _ e. absurd (false≢true e)))

  stays : (rest : List ℕ) → GoesOn s l p hyphen rest p
  stays rest =
      let u = under-by w (fill_other x) x refl (omega arith) (λ _ _. omega arith) (λ _ e. e) (λ _ e. absurd (false≢true e)) in
      (f, goes hyphen rest x (subst (λ (z : Fill). Under w z x) (sym (hyphen_fills g s.tab.0 w x)) u))

  hyphen-ends : (rest : List ℕ) → (filled_in s x (hyphen ++ rest)).lines ≤ (filled_in s (empty_line (l + 1)) (drop 1 hyphen ++ rest)).lines
  hyphen-ends rest =
      let is = hyphen_fills g s.tab.0 w x in
      ends hyphen rest 1 (ap along_of is) (ap (λ (z : Fill). z.lines) is)

  break_room : (rest : List ℕ) (v : Option Pixels) (r : ℕ) → Roomy s l p hyphen rest (on_break s p at v r)
  unfolding on_break hyphenated advance fill_all
  break_room rest None r = stays rest
  break_room rest (Some v) r =
      let P = Roomy s l p hyphen rest in
      pick_cases P (p.empty || not (fits_in p.cursor v.0))
      (λ _.
      pick_cases P (fits_in p.cursor g)
      (λ e. pick_cases P p.empty (λ _. (box-on _ _ _ (fits_by _ e) refl, goes hyphen rest _ (hyphen-on g))) (λ _. (λ _. hyphen-ends rest, tt)))
      (λ _. pick_cases P p.empty (λ _. stays rest) (λ _. (λ _. ends hyphen rest 0 (apart_none (not p.empty)) refl, tt))))
      (λ _. stays rest)

  -- ---- a word

  -- So many characters of a word are taken on an empty line, for which there is room.
  part-ends : (cs rest : List ℕ) (k : ℕ) → Pass in_word cs → p.empty ≡ true → k * g ≤ room_of p.cursor
      → (filled_in s x (cs ++ rest)).lines ≤ (filled_in s (empty_line (l + 1)) (drop k cs ++ rest)).lines
  part-ends cs rest k all e h =
      let few : length (take k cs) ≤ k = omega (arith, length-take k cs) in
      let r = word_fills g s.tab.0 w (take k cs) x (pass-parts in_word k cs all).0 (omega (arith, room-is, mul-le-mul_right g few)) in
      ends cs rest k (ap (λ (n : Option ℕ). unwrap_or n 0) (r.part (rw e refl))) r.lines

  word_room : (cs rest : List ℕ) → Pass in_word cs → Stops in_word rest → Roomy s l p cs rest (on_word s p at cs)
  unfolding on_word cut_word unfit_word advance fill_all spaces_after
  word_room cs rest all over =
      let P = Roomy s l p cs rest in
      pick_cases P (fits_in p.cursor (length cs * g))
      (λ e.
      let r = word_fills g s.tab.0 w cs x all (omega (arith, room-is, fits_by _ e)) in
      let u = under-by w (fill_other (filled_in s x cs)) (record { lines = l; at = position + length cs * g; begun = true; part = Some 0 }) refl
      (omega (arith, r.lines)) (λ _ _. omega (arith, r.at)) (λ _ _. refl) (λ _ _. refl) in
      (box-on _ _ _ (fits_by _ e) refl, omega (arith, ap (λ (z : Fill). z.lines) (apart cs rest), word_over rest (filled_in s x cs) _ over u)))
      λ _.
      pick_cases P p.empty
      (λ e.
      pick_cases P (eqb (room_of p.cursor / g) 0)
      (λ _. pick_cases P (wrap_on s && has_moved p.cursor) (λ _. (λ _. ends cs rest 0 (apart_none (not p.empty)) refl, tt))
      (λ _. (λ d. part-ends cs rest (length cs) all e (omega (arith, ap (λ (n : ℕ). n * g) d, zero-mul g)), tt)))
      (λ _. (λ _. part-ends cs rest (room_of p.cursor / g) all e (div-mul-le_self (room_of p.cursor) g), tt)))
      (λ _. (λ _. ends cs rest 0 (apart_none (not p.empty)) refl, tt))

  -- ---- any token

  line-ends : (c : ℕ) (rest : List ℕ) → filled_in s x (c ∷ []) ≡ empty_line (l + 1)
      → (filled_in s x ((c ∷ []) ++ rest)).lines ≤ (filled_in s (empty_line (l + 1)) (drop 1 (c ∷ []) ++ rest)).lines
  line-ends c rest is = goes (c ∷ []) rest (empty_line (l + 1)) (subst (λ (z : Fill). Under w z (empty_line (l + 1))) (sym is) (under_self w _))

  pub step_room : (t : Tok) (ts : List Tok) → SoundTok t (spell ts) → Known (not p.empty) (spell ts) t
      → Roomy s l p (text_of t) (spell ts) (step s p at t ts)
  unfolding step
  step_room newLine ts sound h = (λ _. line-ends 0x000A (spell ts) (new-line_fills g s.tab.0 w x), tt)
  step_room carriageReturn ts sound h = (λ _. line-ends 0x000D (spell ts) (return_fills g s.tab.0 w x), tt)
  step_room tab ts sound h = tab-room (spell ts) _
  step_room softHyphen ts sound h = break_room (spell ts) _ _
  step_room (space cs n e) ts sound h = space-room cs (spell ts) n sound.0 h.0 h.1 _
  step_room (word cs e) ts sound h = word_room cs (spell ts) h.0 h.1
