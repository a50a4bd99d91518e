-- What a pass draws of a resumed rest that it cuts (rule 9, rule 13).
-- Assumes nothing.
use Prim.Native.Nat.{ℕ, ◌+◌, ◌-◌, ◌/◌, ◌≤◌, ◌<◌, min}
use mathlib.Core.Path.{◌≡◌, refl, sym, ap, ◌∙◌}
use mathlib.Core.List.{List, [], ◌∷◌}
use native.Mathlib.Nat.{div-lt_iff_lt-mul}
use native.Mathlib.Omega.{arith}
use borrow.Author.Tests.{eq-eqb, ne_eqb}
use lib.Dec.{eqb}
use lib.ListN.{length, take}
use lib.Seq.{take-take}
use Rattle.basis.specs.Choice.{pick}
use Rattle.utf8.specs.Encoding.{size}
use Rattle.meaning.specs.Tokens.{ender}
use Rattle.meaning.specs.Cursor.{room_of}
use Rattle.meaning.specs.Words.{drawn}
use Rattle.meaning.specs.Line.{unmeasured}
use Rattle.meaning.specs.declared.settings.Settings.{Settings}
use Rattle.meaning.specs.declared.cursor.Place.{Place}
use Rattle.meaning.specs.declared.line.EventKind.TheVariants.{Space}
use Rattle.parser.specs.Lexing.{chars_from}
use Rattle.steps.specs.Pending.{Pending, pending, rest_lexeme}
use Rattle.steps.specs.Running.{PassReady}
use Rattle.steps.specs.declared.step.Resumed.{Resumed}
use Rattle.steps.proofs.RestLaws.{rest-inside, rest_read}
use Rattle.blanks.specs.CutRests.{CutRest, cut_end, cut-filled, thin-taken, cut-stops}
use Rattle.prints.specs.TokenDrawn.{grown_by, run_drawn}
use Rattle.prints.specs.TokenEvents.{run-drawn}
use Rattle.drawing.specs.Drawn.{drawn_from}
use Rattle.drawing.specs.PassDrawn.{stop-drawn}

module _ {s : Settings} {p : Place} {t : List ℕ} {at : ℕ} {r : Resumed} (h : PassReady s p t at r unmeasured) (c : CutRest s p at r) where
  abbrev Fitting : ℕ
  Fitting = room_of p.cursor / p.spaces.width.0

  -- Not all of its spaces fit.
  pub fitting-few : Fitting < r.count.0
  fitting-few = (div-lt_iff_lt-mul h.place.1.0).1 c.over

  -- They stand in the text.
  pub fitting-inside : at + Fitting ≤ length t
  fitting-inside = omega (arith, fitting-few, h.rest.counts, c.thin, rest-inside t at r h.rest (cut-filled h c))

  N : ℕ
  N = ender (chars_from t r.end.0)

  pended : Pending t at r.chars.0 r.count.0 (rest_lexeme r N)
  unfolding N
  pended = pending t at r _ h.rest (sym (rest_read t at r h.rest (cut-filled h c) N refl))

  cut-drawn : drawn_from s p t at r.chars.0 r.count.0 ≡ pick (eqb Fitting 0) [] (drawn Space at (at + Fitting) Fitting 0 ∷ [])
  unfolding run_drawn grown_by cut_end rest_lexeme pick
  cut-drawn =
      let x = rest_lexeme r N in
      let taken = min (Fitting + 1) r.count.0 in
      let e = cut-stops h c N taken pended refl in
      let count : 0 + Fitting - 0 ≡ Fitting = omega arith in
      let few : Fitting ≤ r.chars.0 = omega (arith, fitting-few, h.rest.counts) in
      let part : size (take Fitting (take r.chars.0 (chars_from t at))) ≡ Fitting =
      ap size (take-take Fitting r.chars.0 (chars_from t at) few) ∙ thin-taken h c Fitting few in
      stop-drawn s p t at r.chars.0 r.count.0 x unmeasured pended _ e
      ∙ run-drawn s p t at x unmeasured pended.stands refl
      ∙ ap (λ y. run_drawn t at x (grown_by unmeasured y)) e
      ∙ rw (count, part)

  pub cut-none : (n : ℕ) → n ≡ Fitting → n ≡ 0 → drawn_from s p t at r.chars.0 r.count.0 ≡ []
  unfolding pick
  cut-none n e z = cut-drawn ∙ rw (eq-eqb Fitting 0 (sym e ∙ z))

  pub cut-some-drawn : (n : ℕ) → n ≡ Fitting → (n ≡ 0 → ⊥) → drawn_from s p t at r.chars.0 r.count.0 ≡ drawn Space at (at + n) n 0 ∷ []
  unfolding pick
  cut-some-drawn n e z = cut-drawn ∙ rw (ne_eqb Fitting 0 (λ q. z (e ∙ q)), e)
