-- A pass over a text with neither tabs nor soft hyphens: a space that is not drawn wide has no print behind it, so up to the last
-- print no counted space leaves the pen standing but one that is skipped at the line's front (rule 8).
-- Assumes nothing.
use Rattle.std.specs.Prelude.{ℕ, ◌+◌, ◌*◌, ◌/◌, ◌≤◌, ◌≡◌, Bool, true, false, ◌&&◌, ◌||◌, not, List, [], ◌∷◌, ◌++◌, eqb, length, take}
use Rattle.std.proofs.Math.Path.{refl}
use Rattle.std.proofs.Common.{sym, ap, subst, ◌∙◌, mul-le-mul_right, arith}
use Rattle.std.proofs.lemmas.Bool.{false≢true}
use Rattle.basis.specs.Choice.{pick_cases, pick_true, by_test}
use Rattle.utf8.specs.Encoding.{bytes, size}
use Rattle.meaning.specs.Tokens.{Tok, newLine, carriageReturn, tab, softHyphen, space, word, size_of}
use Rattle.meaning.specs.Cursor.{room_of, fits_in}
use Rattle.meaning.specs.SpaceConfig.{spaces_width, spaces_after}
use Rattle.meaning.specs.Lookahead.{Looked, goes_on, next_fits}
use Rattle.meaning.specs.Words.{Drawn, drawn, Stretches, last, glued, stretches, printed_first, drawn_stretches, drawn_word}
use Rattle.meaning.specs.LineIter.{when, leading_on, skips, draws_space, moved_on, used_up, after_word, step, process}
use Rattle.meaning.specs.declared.settings.Settings.{Settings}
use Rattle.meaning.specs.declared.cursor.Spaces.{Spaces}
use Rattle.meaning.specs.declared.cursor.Place.{Place}
use Rattle.meaning.specs.declared.line.EventKind.{EventKind}
use Rattle.meaning.specs.declared.line.EventKind.TheVariants.{Space}
use Rattle.laws.specs.LastPrint.{if_more, to_last_print, AllOf, all_append, all_first}
use Rattle.evenness.specs.SpacesAtEdge.{NoTabAt, MovesAt, none-taken}
use Rattle.evenness.specs.PassSteps.{behind, shows, space-skipped, space-goes, space-cut, word-goes, word-waits, word_cut, word-unfit}

-- Neither a tab nor a soft hyphen is among them.
abbrev pub Simple : List Tok → Type 0
Simple [] = Unit {0}
Simple (newLine ∷ ts) = Simple ts
Simple (carriageReturn ∷ ts) = Simple ts
Simple (tab ∷ ts) = ⊥
Simple (softHyphen ∷ ts) = ⊥
Simple (space cs n e ∷ ts) = Simple ts
Simple (word cs e ∷ ts) = Simple ts

-- Neither of two tests holds.
pub either-false : (p q : Bool) → p || q ≡ false → p ≡ false
either-false true q e = e
either-false false q e = refl

pub either-neither : (p q : Bool) → p || q ≡ false → q ≡ false
either-neither true q e = absurd (false≢true (sym e))
either-neither false q e = e

pub when_true : (b : Bool) (w : ℕ) → b ≡ true → when b w ≡ w
unfolding when
when_true b w e = pick_true b w 0 e

-- ---- a space that is not drawn wide

not-empty : (s : Settings) (p : Place) → p.empty ≡ false → skips s p ≡ false
unfolding skips
not-empty s p e = ap (λ (b : Bool). b && not (leading_on s)) e

as_empty : (s : Settings) (p : Place) (n w : ℕ) → skips s p ≡ skips s (moved_on (used_up p n) w)
unfolding skips
as_empty s p n w = refl

pub one-space : (from to n w : ℕ) (more : List Drawn) → to_last_print more ≡ [] → to_last_print (drawn Space from to n w ∷ more) ≡ []
unfolding to_last_print if_more
one-space from to n w more e = ap (if_more (drawn Space from to n w)) e

-- Where the next word does not fit, nothing more is printed.
next-none : (s : Settings) (ts : List Tok) (p : Place) (at : ℕ) → Simple ts → p.empty ≡ false
    → (next_fits s.glyph.0 p.cursor p.spaces at ts).fits ≡ false → to_last_print (process s p at ts).drawn ≡ []
unfolding next_fits goes_on process step to_last_print if_more size_of
next-none s [] p at h e f = refl
next-none s (newLine ∷ ts) p at h e f = refl
next-none s (carriageReturn ∷ ts) p at h e f = refl
next-none s (tab ∷ ts) p at h e f = absurd h
next-none s (softHyphen ∷ ts) p at h e f = absurd h
next-none s (word cs b ∷ ts) p at h e f = ap to_last_print (word-waits s p at cs ts b f e)
next-none s (space cs n b ∷ ts) p at h e f =
    let wide = spaces_width p.spaces n in
    let next = behind s p at cs ts b n in
    by_test (fits_in p.cursor wide)
    (λ t.
    ap to_last_print (space-goes s p at cs ts b n (not-empty s p e) t)
    ∙ one-space at (at + size cs) n (when (shows s p at cs ts b n) wide) (process s next (at + size cs) ts).drawn
    (next-none s ts next (at + size cs) h e (rw t at f)))
    (λ t. space-cut s p at cs ts b n (not-empty s p e) t)

-- Nor where a space is not drawn wide.
pub hidden-none : (s : Settings) (ts : List Tok) (p : Place) (at : ℕ) → Simple ts → (draws_space s p at ts).fits ≡ false
    → to_last_print (process s p at ts).drawn ≡ []
unfolding draws_space
hidden-none s ts p at h =
    let look = next_fits s.glyph.0 p.cursor p.spaces at ts in
    pick_cases (λ (r : Looked). r.fits ≡ false → to_last_print (process s p at ts).drawn ≡ []) p.empty
    (λ _ f. absurd (false≢true (sym f)))
    (λ e f. next-none s ts p at h e f)

-- ---- what leaves the pen standing, and tabs

-- No counted space stands before the first word.
abbrev pub NoFront : List Tok → Type 0
NoFront [] = Unit {0}
NoFront (newLine ∷ ts) = Unit {0}
NoFront (carriageReturn ∷ ts) = Unit {0}
NoFront (tab ∷ ts) = NoFront ts
NoFront (softHyphen ∷ ts) = NoFront ts
NoFront (space cs n e ∷ ts) = (n ≡ 0) × NoFront ts
NoFront (word cs e ∷ ts) = Unit {0}

-- No tab, and no counted space that leaves the pen standing.
abbrev pub SmoothAt : EventKind → (count width : ℕ) → Type 0
SmoothAt k n w = NoTabAt k n w × MovesAt k n w

some-width : (sp : Spaces) (n : ℕ) → 1 ≤ sp.width.0 → 1 ≤ n → 1 ≤ spaces_width sp n
unfolding spaces_width
some-width sp n h f = omega (arith, mul-le-mul_right sp.width.0 f)

smooth-printed : (g at : ℕ) (w : List ℕ) (more : List Drawn) → AllOf SmoothAt more → AllOf SmoothAt (printed_first g at w more)
unfolding printed_first
smooth-printed g at [] more f = f
smooth-printed g at (c ∷ w) more f = ((tt, tt), f)

smooth-stretches : (g : ℕ) (sp : Spaces) (at : ℕ) (w : Stretches) → 1 ≤ sp.width.0 → AllOf SmoothAt (drawn_stretches g sp at w)
unfolding drawn_stretches spaces_after
smooth-stretches g sp at (last w) h = ((tt, tt), tt)
smooth-stretches g sp at (glued w c more) h =
    smooth-printed g at w _
    ((λ e. absurd (omega arith), λ f. some-width sp 1 h f), smooth-stretches g (spaces_after sp 1) (at + size w + bytes c) more h)

smooth-word : (g : ℕ) (sp : Spaces) (at : ℕ) (cs : List ℕ) → 1 ≤ sp.width.0 → AllOf SmoothAt (drawn_word g sp at cs)
unfolding drawn_word
smooth-word g sp at cs h = smooth-stretches g sp at (stretches cs) h

pub smooth-none : (ds : List Drawn) → to_last_print ds ≡ [] → AllOf SmoothAt (to_last_print ds)
smooth-none ds e = subst (AllOf SmoothAt) (sym e) tt

-- ---- from a token on

-- From any place where these tokens are next, unless spaces are skipped at the front, neither comes up to the last print.
abbrev pub SmoothFrom : Settings → (at : ℕ) → List Tok → Type 0
SmoothFrom s at ts =
    (p : Place) → (skips s p ≡ true → NoFront ts) → 1 ≤ p.spaces.width.0 → AllOf SmoothAt (to_last_print (process s p at ts).drawn)

smooth-by : (ds es : List Drawn) → ds ≡ es → AllOf SmoothAt (to_last_print es) → AllOf SmoothAt (to_last_print ds)
smooth-by ds es e h = subst (λ (xs : List Drawn). AllOf SmoothAt (to_last_print xs)) (sym e) h

module _ (s : Settings) (at : ℕ) (cs : List ℕ) (ts : List Tok) (e : ℕ) (simple : Simple ts) (more : SmoothFrom s (at + size cs) ts)
    (p : Place) (w : 1 ≤ p.spaces.width.0) where
  module _ (n : ℕ) where
    abbrev all : List Drawn
    all = (process s p at (space cs n e ∷ ts)).drawn

    abbrev wide : ℕ
    wide = spaces_width p.spaces n

    pub skipped-smooth : skips s p ≡ true → (n ≡ 0) × NoFront ts → AllOf SmoothAt (to_last_print all)
    unfolding spaces_after
    skipped-smooth t k =
        smooth-by all _ (space-skipped s p at cs ts e n t)
        (all_append SmoothAt (drawn Space at (at + size cs) n 0 ∷ []) (process s (used_up p n) (at + size cs) ts).drawn
        ((λ _. refl, λ f. absurd (omega (arith, k.0))), tt) (more (used_up p n) (λ _. k.1) w))

    module _ (t : skips s p ≡ false) (u : fits_in p.cursor wide ≡ true) where
      abbrev next : Place
      next = behind s p at cs ts e n

      abbrev seen : Bool
      seen = shows s p at cs ts e n

      abbrev rest : List Drawn
      rest = (process s next (at + size cs) ts).drawn

      abbrev one : List Drawn
      one = drawn Space at (at + size cs) n (when seen wide) ∷ []

      -- A space that is drawn wide, and one that is not.
      seen-smooth : seen ≡ true → AllOf SmoothAt (to_last_print (one ++ rest))
      unfolding spaces_after
      seen-smooth v =
          let drew : when seen wide ≡ wide = when_true seen wide v in
          all_append SmoothAt one rest ((λ z. drew ∙ none-taken p.spaces n z, λ f. omega (arith, drew, some-width p.spaces n w f)), tt)
          (more next (λ x. absurd (false≢true (sym t ∙ as_empty s p n wide ∙ x))) w)

      unseen_smooth : seen ≡ false → AllOf SmoothAt (to_last_print (one ++ rest))
      unseen_smooth v = smooth-none (one ++ rest) (one-space at (at + size cs) n (when seen wide) rest (hidden-none s ts next (at + size cs) simple v))

      pub fitting-smooth : AllOf SmoothAt (to_last_print all)
      fitting-smooth = smooth-by all _ (space-goes s p at cs ts e n t u) (by_test seen seen-smooth unseen_smooth)

  abbrev printed : List Drawn
  printed = (process s p at (word cs e ∷ ts)).drawn

  -- A word on a line that has room for it.
  fits-smooth : fits_in p.cursor (length cs * s.glyph.0) ≡ true → AllOf SmoothAt (to_last_print printed)
  unfolding spaces_after
  fits-smooth t =
      let after = after_word s p cs in
      smooth-by printed _ (word-goes s p at cs ts e t)
      (all_append SmoothAt (drawn_word s.glyph.0 p.spaces at cs) (process s after (at + size cs) ts).drawn
      (smooth-word s.glyph.0 p.spaces at cs w) (more after (λ x. absurd (false≢true (sym (not-empty s after refl) ∙ x))) w))

  -- A part of a word, or none of it, on an empty line.
  cut-smooth : fits_in p.cursor (length cs * s.glyph.0) ≡ false → p.empty ≡ true → AllOf SmoothAt (to_last_print printed)
  unfolding to_last_print
  cut-smooth t u =
      let part = drawn_word s.glyph.0 p.spaces at (take (room_of p.cursor / s.glyph.0) cs) in
      by_test (eqb (room_of p.cursor / s.glyph.0) 0) (λ v. smooth-none printed (ap to_last_print (word-unfit s p at cs ts e t u v)))
      (λ v. smooth-by printed part (word_cut s p at cs ts e t u v) (all_first SmoothAt part (smooth-word _ p.spaces at _ w)))

  pub printed-smooth : AllOf SmoothAt (to_last_print printed)
  unfolding to_last_print
  printed-smooth =
      by_test (fits_in p.cursor (length cs * s.glyph.0)) fits-smooth
      (λ t. by_test p.empty (cut-smooth t) (λ u. smooth-none printed (ap to_last_print (word-waits s p at cs ts e t u))))
