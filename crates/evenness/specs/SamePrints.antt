-- In a text with neither tabs nor soft hyphens the draw of a justified line makes the same prints as its measure: its spaces are wider
-- by no more than the room that the measure left (rule 6, rule 8, rule 10).
-- Assumes nothing.
use Rattle.std.specs.Prelude.{ℕ, ◌+◌, ◌*◌, ◌/◌, ◌≤◌, ◌<◌, ◌≡◌, Bool, true, false, eqb, take}
use Rattle.std.proofs.Math.Path.{refl, sym, ap, subst}
use Rattle.std.proofs.Common.{◌∙◌, inl, ⊎_elim, add-zero, le-div_iff_mul-le}
use Rattle.std.proofs.lemmas.Bool.{false≢true}
use mathlib.Core.List.{List, [], ◌∷◌, ◌++◌, append-nil}
use Rattle.std.proofs.Math.Nat.{div-mul-le_self, lt_of_mul-lt-mul_right}
use native.Mathlib.Omega.{arith}
use borrow.Author.Tests.{leb-false, eqb-true, eq-eqb}
use Rattle.std.proofs.Math.ListN.{length, length-take}
use Rattle.basis.specs.Choice.{by_test}
use Rattle.utf8.specs.Encoding.{size}
use Rattle.meaning.specs.Tokens.{Tok, newLine, carriageReturn, tab, softHyphen, space, word, size_of}
use Rattle.meaning.specs.Cursor.{room_of, fits_in, advance}
use Rattle.meaning.specs.SpaceConfig.{spaces_width}
use Rattle.meaning.specs.Words.{Drawn, glues, drawn_word}
use Rattle.meaning.specs.LineIter.{when, skips, used_up, after_word, step, process}
use Rattle.meaning.specs.declared.settings.Settings.{Settings}
use Rattle.meaning.specs.declared.cursor.Place.{Place}
use Rattle.laws.specs.LastPrint.{to_last_print, width_of, counted_in, prints}
use Rattle.evenness.specs.SpacesDrawn.{word-counted}
use Rattle.evenness.specs.PrintEnds.{word_end}
use Rattle.evenness.specs.PassSteps.{behind, shows, space-skipped, space-goes, space-cut, word-goes, word-waits, word_cut, word-unfit}
use Rattle.evenness.specs.SimplePasses.{Simple, when_true, one-space, hidden-none}
use Rattle.evenness.specs.PrintedWords.{prints_append, no_prints, word-prints, word_width}
use Rattle.evenness.specs.SideBySide.{Spread, Beside, Onward, onward-space, OnWord, onward-word, room-left, has_room, has_none, measured-wide, drawn-wide, beside_space, beside_skipped, beside_word, skip-alike, fits-behind, no_narrower}

module _ (s : Settings) (m : Spread s) where
  abbrev g : ℕ
  g = s.glyph.0

  -- ---- a token, and what follows it

  -- From any two places side by side the two passes over these tokens print the same.
  abbrev pub Same : (at : ℕ) → List Tok → Type 0
  Same at ts =
      (p q : Place) (k : ℕ) → Beside s m p q k → Onward s m p.cursor.position.0 k (process s p at ts).drawn
      → prints (process s p at ts).drawn ≡ prints (process s q at ts).drawn

  module _ (at : ℕ) (cs : List ℕ) (ts : List Tok) (e : ℕ) (more : Same (at + size cs) ts) (p q : Place) (k : ℕ) (b : Beside s m p q k) where
    abbrev x : ℕ
    x = p.cursor.position.0

    module _ (n : ℕ) (simple : Simple ts) (h : Onward s m x k (process s p at (space cs n e ∷ ts)).drawn) where
      abbrev measure : List Drawn
      measure = (process s p at (space cs n e ∷ ts)).drawn

      abbrev draw : List Drawn
      draw = (process s q at (space cs n e ∷ ts)).drawn

      skipped-same : skips s p ≡ true → prints measure ≡ prints draw
      unfolding prints
      skipped-same t =
          let f = space-skipped s p at cs ts e n t in
          let onward = onward-space s m x k at (at + size cs) n 0 _ (subst (Onward s m x k) f h) in
          ap prints f
          ∙ more (used_up p n) (used_up q n) (k + n) (beside_skipped s m p q k b n)
          (subst (λ (y : ℕ). Onward s m y (k + n) (process s (used_up p n) (at + size cs) ts).drawn) (add-zero x) onward)
          ∙ sym (ap prints (space-skipped s q at cs ts e n (sym (skip-alike s m p q k b) ∙ t)))

      none-same : to_last_print measure ≡ [] → to_last_print draw ≡ [] → prints measure ≡ prints draw
      none-same u v = no_prints measure u ∙ sym (no_prints draw v)

      module _ (t : skips s p ≡ false) where
        not-skipped : skips s q ≡ false
        not-skipped = sym (skip-alike s m p q k b) ∙ t

        abbrev fits : Bool
        fits = fits_in p.cursor (spaces_width p.spaces n)

        abbrev next : Place
        next = behind s p at cs ts e n

        abbrev seen : Bool
        seen = shows s p at cs ts e n

        -- What is left of the measure behind a space that fits.
        behind-space : fits ≡ true → Onward s m (x + spaces_width p.spaces n) (k + n) (process s next (at + size cs) ts).drawn
        behind-space u =
            let w = spaces_width p.spaces n in
            by_test seen
            (λ v.
            subst (λ (y : ℕ). Onward s m (x + y) (k + n) (process s next (at + size cs) ts).drawn) (when_true seen w v)
            (onward-space s m x k at (at + size cs) n (when seen w) _ (subst (Onward s m x k) (space-goes s p at cs ts e n t u) h)))
            (λ v. inl (hidden-none s ts next (at + size cs) simple v))

        -- It fits in the draw too, or nothing is printed behind it.
        drawn-cut : fits ≡ true → fits_in q.cursor (spaces_width q.spaces n) ≡ false → to_last_print measure ≡ []
        drawn-cut u v =
            let w = spaces_width p.spaces n in
            ⊎_elim (λ o. ap to_last_print (space-goes s p at cs ts e n t u) ∙ one-space at (at + size cs) n (when seen w) _ o)
            (λ o. absurd (false≢true (sym v ∙ fits-behind s m p q k n b (omega (arith, o.1)) (omega (arith, o.0)))))
            (behind-space u)

        space-fits : fits ≡ true → prints measure ≡ prints draw
        unfolding prints advance
        space-fits u =
            by_test (fits_in q.cursor (spaces_width q.spaces n))
            (λ v.
            ap prints (space-goes s p at cs ts e n t u)
            ∙ more next (behind s q at cs ts e n) (k + n) (beside_space s m p q k b n) (behind-space u)
            ∙ sym (ap prints (space-goes s q at cs ts e n not-skipped v)))
            (λ v. none-same (drawn-cut u v) (space-cut s q at cs ts e n not-skipped v))

        space-unfit : fits ≡ false → prints measure ≡ prints draw
        space-unfit u =
            let v =
            has_none s m p q k b (spaces_width p.spaces n) (spaces_width q.spaces n)
            (omega (arith, measured-wide s m p q k b n, drawn-wide s m p q k b n, no_narrower s m k n)) u in
            none-same (space-cut s p at cs ts e n t u) (space-cut s q at cs ts e n not-skipped v)

      space-same : prints measure ≡ prints draw
      space-same =
          by_test (skips s p) skipped-same
          (λ t. by_test (fits_in p.cursor (spaces_width p.spaces n)) (space-fits t) (space-unfit t))

    -- ---- a word

    module _ (h : Onward s m x k (process s p at (word cs e ∷ ts)).drawn) where
      abbrev found : List Drawn
      found = (process s p at (word cs e ∷ ts)).drawn

      abbrev drew : List Drawn
      drew = (process s q at (word cs e ∷ ts)).drawn

      word_fits : fits_in p.cursor (length cs * g) ≡ true → prints found ≡ prints drew
      unfolding advance
      word_fits t =
          let ds = drawn_word g p.spaces at cs in
          let end = word_end g p.spaces at cs in
          let f = word-goes s p at cs ts e t in
          let o = onward-word s m x k ds _ end.whole end.some (subst (Onward s m x k) f h) in
          let w = word_width g p.spaces at cs b.plain in
          let n = word-counted g p.spaces at cs in
          let u = has_room s m p q k b (length cs * g) (omega (arith, o.count_by)) (omega (arith, o.width-by, w)) in
          let left = (process s (after_word s p cs) (at + size cs) ts).drawn in
          let onward = subst (λ (y : ℕ). Onward s m (x + y) (k + glues cs) left) w (subst (λ (y : ℕ). Onward s m (x + width_of ds) (k + y) left) n o.onward) in
          ap prints f
          ∙ prints_append ds left
          ∙ ap (λ (ps : List Drawn). ps ++ prints left) (word-prints g p.spaces q.spaces at cs)
          ∙ ap (λ (ps : List Drawn). prints (drawn_word g q.spaces at cs) ++ ps)
          (more (after_word s p cs) (after_word s q cs) (k + glues cs) (beside_word s m p q k b cs) onward)
          ∙ sym (ap prints (word-goes s q at cs ts e u) ∙ prints_append (drawn_word g q.spaces at cs) (process s (after_word s q cs) (at + size cs) ts).drawn)

      module _ (t : fits_in p.cursor (length cs * g) ≡ false) where
        unfit : fits_in q.cursor (length cs * g) ≡ false
        unfit = has_none s m p q k b (length cs * g) (length cs * g) (omega arith) t

        word-both_wait : p.empty ≡ false → prints found ≡ prints drew
        word-both_wait u = ap prints (word-waits s p at cs ts e t u) ∙ sym (ap prints (word-waits s q at cs ts e unfit (sym b.empty ∙ u)))

        module _ (u : p.empty ≡ true) where
          also_empty : q.empty ≡ true
          also_empty = sym b.empty ∙ u

          abbrev fitting : ℕ
          fitting = room_of p.cursor / g

          abbrev drawn-fitting : ℕ
          drawn-fitting = room_of q.cursor / g

          fewer : drawn-fitting ≤ fitting
          unfolding room_of
          fewer =
              (le-div_iff_mul-le m.some).1
              (omega (arith, div-mul-le_self (room_of q.cursor) g, b.ahead, b.box, b.box-drawn))

          word-neither : eqb fitting 0 ≡ true → prints found ≡ prints drew
          word-neither v =
              let none : drawn-fitting ≡ 0 = omega (arith, fewer, eqb-true fitting 0 v) in
              ap prints (word-unfit s p at cs ts e t u v) ∙ sym (ap prints (word-unfit s q at cs ts e unfit also_empty (eq-eqb drawn-fitting 0 none)))

          module _ (v : eqb fitting 0 ≡ false) where
            part-onward : OnWord s m x k (width_of (drawn_word g p.spaces at (take fitting cs))) (counted_in (drawn_word g p.spaces at (take fitting cs))) []
            part-onward =
                let ds = drawn_word g p.spaces at (take fitting cs) in
                let end = word_end g p.spaces at (take fitting cs) in
                onward-word s m x k ds [] end.whole end.some (subst (Onward s m x k) (word_cut s p at cs ts e t u v ∙ sym (append-nil ds)) h)

            -- The word is longer.
            longer : fitting ≤ length cs
            unfolding fits_in
            longer =
                let less : fitting * g < length cs * g = omega (arith, div-mul-le_self (room_of p.cursor) g, leb-false (length cs * g) (room_of p.cursor) t) in
                omega (arith, lt_of_mul-lt-mul_right g less)

            as_many : fitting ≤ drawn-fitting
            unfolding room_of
            as_many =
                let w = word_width g p.spaces at (take fitting cs) b.plain in
                let l : length (take fitting cs) ≡ fitting = omega (arith, length-take fitting cs, longer) in
                (le-div_iff_mul-le m.some).1
                (omega (
                  arith,
                  part-onward.width-by,
                  w,
                  ap (λ (n : ℕ). n * g) l,
                  room-left s m p q k b (omega (arith, part-onward.count_by)),
                  b.box-drawn,
                ))

            word-both-cut : prints found ≡ prints drew
            word-both-cut =
                let same : fitting ≡ drawn-fitting = omega (arith, fewer, as_many) in
                let w : eqb drawn-fitting 0 ≡ false = ap (λ (n : ℕ). eqb n 0) (sym same) ∙ v in
                ap prints (word_cut s p at cs ts e t u v)
                ∙ word-prints g p.spaces q.spaces at (take fitting cs)
                ∙ ap (λ (n : ℕ). prints (drawn_word g q.spaces at (take n cs))) same
                ∙ sym (ap prints (word_cut s q at cs ts e unfit also_empty w))

      word_same : prints found ≡ prints drew
      word_same =
          by_test (fits_in p.cursor (length cs * g)) word_fits
          (λ t.
          by_test p.empty (λ u. by_test (eqb (room_of p.cursor / g) 0) (word-neither t u) (word-both-cut t u)) (word-both_wait t))

  -- ---- all tokens

  pub same-prints : (ts : List Tok) (at : ℕ) → Simple ts → Same at ts
  unfolding process step prints size_of
  same-prints [] at f p q k b h = refl
  same-prints (newLine ∷ ts) at f p q k b h = refl
  same-prints (carriageReturn ∷ ts) at f p q k b h = refl
  same-prints (tab ∷ ts) at f p q k b h = absurd f
  same-prints (softHyphen ∷ ts) at f p q k b h = absurd f
  same-prints (space cs n e ∷ ts) at f p q k b h = space-same at cs ts e (same-prints ts (at + size cs) f) p q k b n f h
  same-prints (word cs e ∷ ts) at f p q k b h = word_same at cs ts e (same-prints ts (at + size cs) f) p q k b h
