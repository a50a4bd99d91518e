-- What a pass draws from a space run or a word on, case by case (rule 8).
-- Assumes nothing.
use Rattle.std.specs.Prelude.{ℕ, ◌+◌, ◌*◌, ◌/◌, ◌≡◌, Bool, true, false, ◌&&◌, eqb, length, take}
use Rattle.std.proofs.Math.Path.{refl}
use mathlib.Core.List.{List, [], ◌∷◌, ◌++◌}
use Rattle.basis.specs.Choice.{pick_cases, pick_true, pick-false}
use Rattle.utf8.specs.Encoding.{size}
use Rattle.meaning.specs.Tokens.{Tok, space, word, chars_of, size_of, need_of}
use Rattle.meaning.specs.Cursor.{room_of, fits_in, has_moved}
use Rattle.meaning.specs.SpaceConfig.{spaces_width}
use Rattle.meaning.specs.Words.{Drawn, drawn, drawn_word}
use Rattle.meaning.specs.LineIter.{when, skips, draws_space, moved_on, used_up, cut_run, on_space, wrap_on, unfit_word, cut_word, after_word, on_word, Step, step, pass_on, process}
use Rattle.meaning.specs.declared.settings.Settings.{Settings}
use Rattle.meaning.specs.declared.cursor.Place.{Place}
use Rattle.meaning.specs.declared.line.EventKind.TheVariants.{Space}
use Rattle.laws.specs.LastPrint.{if_more, to_last_print}

module _ (s : Settings) (p : Place) (at : ℕ) (cs : List ℕ) (ts : List Tok) (e : ℕ) where
  -- ---- a space run

  module _ (n : ℕ) where
    abbrev wide : ℕ
    wide = spaces_width p.spaces n

    -- The place behind it where it fits, and whether it is drawn wide.
    abbrev pub behind : Place
    behind = moved_on (used_up p n) (spaces_width p.spaces n)

    abbrev pub shows : Bool
    shows = (draws_space s behind (at + size cs) ts).fits

    pub space-skipped : skips s p ≡ true
        → (process s p at (space cs n e ∷ ts)).drawn ≡ drawn Space at (at + size cs) n 0 ∷ (process s (used_up p n) (at + size cs) ts).drawn
    unfolding process step on_space size_of
    space-skipped a = rw (pick_true (skips s p) _ _ a) refl

    pub space-goes : skips s p ≡ false → fits_in p.cursor wide ≡ true
        → (process s p at (space cs n e ∷ ts)).drawn ≡ drawn Space at (at + size cs) n (when shows wide) ∷ (process s behind (at + size cs) ts).drawn
    unfolding process step on_space size_of
    space-goes a b = rw (pick-false (skips s p) _ _ a, pick_true (fits_in p.cursor wide) _ _ b) refl

    -- One that does not fit has no print behind it.
    pub space-cut : skips s p ≡ false → fits_in p.cursor wide ≡ false → to_last_print (process s p at (space cs n e ∷ ts)).drawn ≡ []
    unfolding process step on_space cut_run to_last_print if_more
    space-cut a b =
        rw (pick-false (skips s p) _ _ a, pick-false (fits_in p.cursor wide) _ _ b)
        (pick_cases (λ (ds : List Drawn). to_last_print ds ≡ []) (eqb (room_of p.cursor / (wide / n)) 0) (λ _. refl) (λ _. refl))

  -- ---- a word

  pub word-goes : fits_in p.cursor (length cs * s.glyph.0) ≡ true
      → (process s p at (word cs e ∷ ts)).drawn
      ≡ drawn_word s.glyph.0 p.spaces at cs ++ (process s (after_word s p cs) (at + size cs) ts).drawn
  unfolding process step on_word size_of
  word-goes a = rw (pick_true (fits_in p.cursor (length cs * s.glyph.0)) _ _ a) refl

  pub word-waits : fits_in p.cursor (length cs * s.glyph.0) ≡ false → p.empty ≡ false → (process s p at (word cs e ∷ ts)).drawn ≡ []
  unfolding process step on_word
  word-waits a b = rw (pick-false (fits_in p.cursor (length cs * s.glyph.0)) _ _ a, pick-false p.empty _ _ b) refl

  module _ (a : fits_in p.cursor (length cs * s.glyph.0) ≡ false) (b : p.empty ≡ true) where
    abbrev fitting : ℕ
    fitting = room_of p.cursor / s.glyph.0

    pub word_cut : eqb fitting 0 ≡ false
        → (process s p at (word cs e ∷ ts)).drawn ≡ drawn_word s.glyph.0 p.spaces at (take fitting cs)
    unfolding process step on_word cut_word
    word_cut c =
        rw (pick-false (fits_in p.cursor (length cs * s.glyph.0)) _ _ a, pick_true p.empty _ _ b, pick-false (eqb fitting 0) _ _ c) refl

    pub word-unfit : eqb fitting 0 ≡ true → (process s p at (word cs e ∷ ts)).drawn ≡ []
    unfolding process step on_word cut_word unfit_word
    word-unfit c =
        let t = word cs e in
        rw (pick-false (fits_in p.cursor (length cs * s.glyph.0)) _ _ a, pick_true p.empty _ _ b, pick_true (eqb fitting 0) _ _ c)
        (pick_cases (λ (x : Step). (pass_on (at + need_of t) (chars_of t) x (λ q. process s q (at + size_of t) ts)).drawn ≡ []) (wrap_on s && has_moved p.cursor) (λ _. refl) (λ _. refl))
