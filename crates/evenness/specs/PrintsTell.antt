-- Where the last print of a pass ends tells how many spaces are counted before it, whatever room the pass had and however wide its
-- spaces were. So two passes that print the same count the same (rule 8, rule 10).
-- Assumes nothing.
use Prim.Native.Nat.{ℕ, zero, suc, ◌+◌, ◌-◌, ◌*◌, ◌/◌, ◌≤◌, ◌<◌}
use Rattle.meaning.specs.declared.counts.Pixels.{Pixels}
use Rattle.std.specs.Prelude.{◌≡◌, ◌&&◌, ◌||◌, ◌⊎◌, eqb, length, take, drop, None, Option, Some}
use Rattle.std.proofs.Math.Path.{refl, sym, ap, subst}
use Rattle.std.proofs.Common.{◌∙◌, ⊎_elim, add-zero, take-append-drop}
use Rattle.std.proofs.Math.Bool.{not}
use Rattle.std.proofs.Math.Logic.{inl, inr}
use mathlib.Core.List.{List, [], ◌∷◌, ◌++◌}
use native.Mathlib.Omega.{arith}
use borrow.Author.Tests.{eqb-false}
use Rattle.std.proofs.Math.Seq.{take-length}
use Rattle.basis.specs.Choice.{pick_cases}
use Rattle.utf8.specs.Encoding.{size}
use Rattle.utf8.specs.Sizes.{bytes_range, size_append}
use Rattle.meaning.specs.Tokens.{Tok, newLine, carriageReturn, tab, softHyphen, space, word, tokens, chars_of, size_of, need_of}
use Rattle.meaning.specs.Cursor.{room_of, fits_in, has_moved, tab_width}
use Rattle.meaning.specs.SpaceConfig.{spaces_width}
use Rattle.meaning.specs.Lookahead.{Looked}
use Rattle.meaning.specs.Words.{Drawn, drawn, drawn_word}
use Rattle.meaning.specs.LineIter.{Held, skips, Step, go, stop, cut_run, on_space, on_tab, hyphenated, on_break, wrap_on, unfit_word, cut_word, on_word, step, Ran, pass_on, process}
use Rattle.meaning.specs.Line.{held_tokens, line_tokens}
use Rattle.meaning.specs.declared.settings.Settings.{Settings}
use Rattle.meaning.specs.declared.cursor.Place.{Place}
use Rattle.meaning.specs.declared.line.EventKind.{EventKind}
use Rattle.meaning.specs.declared.line.EventKind.TheVariants.{Printed}
use Rattle.laws.specs.Spell.{Sound}
use Rattle.laws.specs.TokenLaws.{tokens-sound}
use Rattle.laws.specs.LastPrint.{if_more, to_last_print, counted_in, counted_append, prints}
use Rattle.evenness.specs.SpacesDrawn.{word-counted}
use Rattle.evenness.specs.PrintEnds.{last_end, end_append, end-prints, AnyDrawn, some_append, print_more, print_none, end_none, word_end}
use Rattle.evenness.specs.SpacesBefore.{glues_before, counted_before, spaces_before, glues-by, glues-all, none_before, before_more}

-- ---- a pass

-- What is drawn has a last print, past an offset, and counts up to it what the tokens from there on have before its end.
pub record Told (at : ℕ) (ts : List Tok) (ds : List Drawn) : Type 0 where
  pub end : ℕ
  pub ends : (x : ℕ) → last_end x ds ≡ end
  pub past : at < end
  pub some : AnyDrawn (to_last_print ds)
  pub counted : counted_in (to_last_print ds) ≡ spaces_before end at ts

-- Or nothing is printed.
abbrev pub Tells : (at : ℕ) → List Tok → List Drawn → Type 0
Tells at ts ds = (to_last_print ds ≡ []) ⊎ Told at ts ds

-- Every word has a character.
abbrev pub Worded : List Tok → Type 0
Worded [] = Unit {0}
Worded (newLine ∷ ts) = Worded ts
Worded (carriageReturn ∷ ts) = Worded ts
Worded (tab ∷ ts) = Worded ts
Worded (softHyphen ∷ ts) = Worded ts
Worded (space cs n e ∷ ts) = Worded ts
Worded (word cs e ∷ ts) = (1 ≤ length cs) × Worded ts

-- A step that goes on counts what its token has, and if it prints it tells; so does the step that ends the line.
abbrev TellsStep : (at : ℕ) → Tok → List Tok → Step → Type 0
TellsStep at t ts (go q ds r) = ((n : ℕ) → size_of t ≤ n → counted_in ds ≡ counted_before n t) × Tells at (t ∷ ts) ds
TellsStep at t ts (stop e ds k h d r) = Tells at (t ∷ ts) ds

module _ (s : Settings) (p : Place) (at : ℕ) (ts : List Tok) where
  -- A part of a word, printed.
  part-told : (xs ys : List ℕ) (e : ℕ) → 1 ≤ size xs → Told at (word (xs ++ ys) e ∷ ts) (drawn_word s.glyph.0 p.spaces at xs)
  unfolding size_of
  part-told xs ys e h =
      let g = s.glyph.0 in
      let w = word_end g p.spaces at xs in
      let end = at + size xs in
      let behind : end - at ≡ size xs = omega arith in
      record {
        end = end;
        ends = w.ends;
        past = omega arith;
        some = subst AnyDrawn (sym w.whole) w.some;
        counted =
            ap counted_in w.whole ∙ word-counted g p.spaces at xs ∙ sym (glues-by xs ys)
            ∙ ap (λ (n : ℕ). glues_before n (xs ++ ys)) (sym behind)
            ∙ sym (add-zero (glues_before (end - at) (xs ++ ys)))
            ∙ ap (λ (n : ℕ). glues_before (end - at) (xs ++ ys) + n) (sym (none_before end (at + size (xs ++ ys)) ts (omega (arith, size_append xs ys))))
            ∙ sym (before_more end at (word (xs ++ ys) e) ts (omega arith));
      }

  word-told : (k : ℕ) (cs : List ℕ) (e : ℕ) → 1 ≤ size (take k cs) → Told at (word cs e ∷ ts) (drawn_word s.glyph.0 p.spaces at (take k cs))
  word-told k cs e h =
      subst (λ (ws : List ℕ). Told at (word ws e ∷ ts) (drawn_word s.glyph.0 p.spaces at (take k cs))) (take-append-drop k cs)
      (part-told (take k cs) (drop k cs) e h)

  -- A "-".
  hyphen-told : Told at (softHyphen ∷ ts) (drawn Printed at (at + 2) 0 s.glyph.0 ∷ [])
  unfolding size_of last_end to_last_print counted_in
  hyphen-told =
      record {
        end = at + 2;
        ends = λ x. refl;
        past = omega arith;
        some = tt;
        counted = sym (before_more (at + 2) at softHyphen ts (omega arith) ∙ ap (λ (n : ℕ). 0 + n) (none_before (at + 2) (at + 2) ts (omega arith)));
      }

  some_size : (k : ℕ) (cs : List ℕ) → 1 ≤ k → 1 ≤ length cs → 1 ≤ size (take k cs)
  unfolding size
  some_size zero cs h f = absurd (omega arith)
  some_size (suc k) [] h f = absurd (omega arith)
  some_size (suc k) (c ∷ cs) h f = omega (arith, (bytes_range c).0)

  space_tells : (cs : List ℕ) (n e : ℕ) (look : Looked) → TellsStep at (space cs n e) ts (on_space s p at cs n look)
  unfolding on_space cut_run counted_in to_last_print if_more
  space_tells cs n e look =
      let P = TellsStep at (space cs n e) ts in
      let wide = spaces_width p.spaces n in
      pick_cases P (skips s p) (λ _. (λ _ _. omega arith, inl refl)) λ _.
      pick_cases P (fits_in p.cursor wide) (λ _. (λ _ _. omega arith, inl refl)) λ _.
      pick_cases (Tells at (space cs n e ∷ ts)) (eqb (room_of p.cursor / (wide / n)) 0) (λ _. inl refl) (λ _. inl refl)

  tab_tells : (look : Looked) → TellsStep at tab ts (on_tab s p at look)
  unfolding on_tab counted_in to_last_print if_more
  tab_tells look =
      let P = TellsStep at tab ts in
      let w = tab_width p.cursor in
      pick_cases P (skips s p) (λ _. (λ _ _. refl, inl refl)) λ _.
      pick_cases P (fits_in p.cursor w)
      (λ _. (λ _ _. refl, pick_cases (λ (k : EventKind). Tells at (tab ∷ ts) (drawn k at (at + 1) 0 w ∷ [])) look.fits (λ _. inl refl) (λ _. inl refl)))
      (λ _. (λ _ _. refl, inl refl))

  hyphen_tells : (reach : ℕ) → TellsStep at softHyphen ts (hyphenated s p at reach)
  unfolding hyphenated counted_in to_last_print
  hyphen_tells reach =
      let P = TellsStep at softHyphen ts in
      pick_cases P (fits_in p.cursor s.glyph.0)
      (λ _. pick_cases P p.empty (λ _. (λ _ _. refl, inr hyphen-told)) (λ _. inr hyphen-told))
      (λ _. pick_cases P p.empty (λ _. (λ _ _. refl, inl refl)) (λ _. inl refl))

  break_tells : (v : Option Pixels) (reach : ℕ) → TellsStep at softHyphen ts (on_break s p at v reach)
  unfolding on_break counted_in to_last_print
  break_tells None reach = (λ _ _. refl, inl refl)
  break_tells (Some v) reach =
      pick_cases (TellsStep at softHyphen ts) (p.empty || not (fits_in p.cursor v.0)) (λ _. hyphen_tells reach) (λ _. (λ _ _. refl, inl refl))

  cut-word_tells : (cs : List ℕ) (e : ℕ) → 1 ≤ length cs → TellsStep at (word cs e) ts (cut_word s p at cs)
  unfolding cut_word unfit_word to_last_print
  cut-word_tells cs e h =
      let P = TellsStep at (word cs e) ts in
      let fitting = room_of p.cursor / s.glyph.0 in
      pick_cases P (eqb fitting 0) (λ _. pick_cases P (wrap_on s && has_moved p.cursor) (λ _. inl refl) (λ _. inl refl))
      (λ z. inr (word-told fitting cs e (some_size fitting cs (omega (arith, eqb-false fitting 0 z)) h)))

  whole-told : (cs : List ℕ) (e : ℕ) → 1 ≤ length cs → Told at (word cs e ∷ ts) (drawn_word s.glyph.0 p.spaces at cs)
  whole-told cs e h =
      subst (λ (ws : List ℕ). Told at (word cs e ∷ ts) (drawn_word s.glyph.0 p.spaces at ws)) (take-length cs)
      (word-told (length cs) cs e (some_size (length cs) cs h h))

  word_tells : (cs : List ℕ) (e : ℕ) → 1 ≤ length cs → TellsStep at (word cs e) ts (on_word s p at cs)
  unfolding on_word to_last_print size_of
  word_tells cs e h =
      let P = TellsStep at (word cs e) ts in
      let g = s.glyph.0 in
      pick_cases P (fits_in p.cursor (length cs * g))
      (λ _. (λ n f. word-counted g p.spaces at cs ∙ sym (glues-all n cs f), inr (whole-told cs e h))) λ _.
      pick_cases P p.empty (λ _. cut-word_tells cs e h) (λ _. inl refl)

  step_tells : (t : Tok) → Worded (t ∷ ts) → TellsStep at t ts (step s p at t ts)
  unfolding step to_last_print if_more
  step_tells newLine h = inl refl
  step_tells carriageReturn h = inl refl
  step_tells tab h = tab_tells _
  step_tells softHyphen h = break_tells _ _
  step_tells (space cs n e) h = space_tells cs n e _
  step_tells (word cs e) h = word_tells cs e h.0

rest_worded : (t : Tok) (ts : List Tok) → Worded (t ∷ ts) → Worded ts
rest_worded newLine ts h = h
rest_worded carriageReturn ts h = h
rest_worded tab ts h = h
rest_worded softHyphen ts h = h
rest_worded (space cs n e) ts h = h
rest_worded (word cs e) ts h = h.1

module _ (at : ℕ) (t : Tok) (ts : List Tok) (ds es : List Drawn) where
  -- Nothing is printed behind the token.
  last_tells : to_last_print es ≡ [] → Tells at (t ∷ ts) ds → Tells at (t ∷ ts) (ds ++ es)
  last_tells e (inl f) = inl (print_none ds es e ∙ f)
  last_tells e (inr f) =
      let same = print_none ds es e in
      inr
      (record {
        end = f.end;
        ends = λ x. end_append x ds es ∙ end_none (last_end x ds) es e ∙ f.ends x;
        past = f.past;
        some = subst AnyDrawn (sym same) f.some;
        counted = ap counted_in same ∙ f.counted;
      })

  -- The last print stands behind the token.
  more_tells : ((n : ℕ) → size_of t ≤ n → counted_in ds ≡ counted_before n t) → Told (at + size_of t) ts es → Told at (t ∷ ts) (ds ++ es)
  more_tells f g =
      let same = print_more ds es g.some in
      let past : at < g.end = omega (arith, g.past) in
      record {
        end = g.end;
        ends = λ x. end_append x ds es ∙ g.ends (last_end x ds);
        past = past;
        some = subst AnyDrawn (sym same) (some_append ds (to_last_print es) g.some);
        counted =
            ap counted_in same
            ∙ (omega (arith, counted_append ds (to_last_print es), f (g.end - at) (omega (arith, g.past)), g.counted, before_more g.end at t ts past));
      }

on_tells : (at here n : ℕ) (t : Tok) (ts : List Tok) (x : Step) (more : Place → Ran) → TellsStep at t ts x
    → ((q : Place) → Tells (at + size_of t) ts (more q).drawn) → Tells at (t ∷ ts) (pass_on here n x more).drawn
on_tells at here n t ts (go q ds r) more f g =
    ⊎_elim (λ e. last_tells at t ts ds (more q).drawn e f.1) (λ k. inr (more_tells at t ts ds (more q).drawn f.0 k)) (g q)
on_tells at here n t ts (stop e ds k h d r) more f g = f

-- Whatever room it has and however wide its spaces are.
pub pass_tells : (s : Settings) (ts : List Tok) (p : Place) (at : ℕ) → Worded ts → Tells at ts (process s p at ts).drawn
unfolding process to_last_print
pass_tells s [] p at h = inl refl
pass_tells s (t ∷ ts) p at h =
    on_tells at (at + need_of t) (chars_of t) t ts (step s p at t ts) (λ q. process s q (at + size_of t) ts) (step_tells s p at ts t h)
    (λ q. pass_tells s ts q (at + size_of t) (rest_worded t ts h))

-- ---- two passes

-- Where two passes print the same, they count the same spaces up to the last print.
pub same-counted : (at : ℕ) (ts : List Tok) (ds es : List Drawn) → Tells at ts ds → Tells at ts es → prints ds ≡ prints es
    → counted_in (to_last_print ds) ≡ counted_in (to_last_print es)
same-counted at ts ds es (inl f) (inl g) e = ap counted_in (f ∙ sym g)
same-counted at ts ds es (inr f) (inr g) e =
    let same : f.end ≡ g.end = sym (f.ends 0) ∙ sym (end-prints 0 ds) ∙ ap (last_end 0) e ∙ end-prints 0 es ∙ g.ends 0 in
    f.counted ∙ ap (λ (x : ℕ). spaces_before x at ts) same ∙ sym g.counted
same-counted at ts ds es (inl f) (inr g) e =
    absurd (omega (arith, end_none 0 ds f, end-prints 0 ds, ap (last_end 0) e, end-prints 0 es, g.ends 0, g.past))
same-counted at ts ds es (inr f) (inl g) e =
    absurd (omega (arith, end_none 0 es g, end-prints 0 ds, ap (last_end 0) e, end-prints 0 es, f.ends 0, f.past))

-- ---- the tokens of a line

sound_worded : (ts : List Tok) → Sound ts → Worded ts
sound_worded [] h = tt
sound_worded (newLine ∷ ts) h = sound_worded ts h.1
sound_worded (carriageReturn ∷ ts) h = sound_worded ts h.1
sound_worded (tab ∷ ts) h = sound_worded ts h.1
sound_worded (softHyphen ∷ ts) h = sound_worded ts h.1
sound_worded (space cs n e ∷ ts) h = sound_worded ts h.1
sound_worded (word cs e ∷ ts) h = (h.0.0, sound_worded ts h.1)

held_worded : (k n : ℕ) (cs : List ℕ) → Worded (held_tokens k n cs)
unfolding held_tokens
held_worded zero n cs = sound_worded (tokens cs) (tokens-sound cs)
held_worded (suc k) n cs = sound_worded (tokens (drop (suc k) cs)) (tokens-sound (drop (suc k) cs))

-- Those of any text, whatever is held before it.
pub line_worded : (h : Held) (cs : List ℕ) → Worded (line_tokens h cs)
unfolding line_tokens
line_worded h cs = held_worded h.chars h.count cs
