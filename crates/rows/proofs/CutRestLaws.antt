-- A line that resumes a rest too wide for its box: each of its passes cuts the rest (rule 9, rule 10).
-- Assumes nothing.
use Prim.Native.Nat.{ℕ, ◌+◌, ◌-◌, ◌/◌, ◌≤◌, min}
use native.Mathlib.Omega.{arith}
use mathlib.Core.Path.{◌≡◌, refl, sym, ap, ◌∙◌}
use mathlib.Core.Bool.{true, false≢true}
use mathlib.Core.List.{List}
use lib.Dec.{eqb}
use Rattle.basis.specs.Choice.{pick_cases}
use Rattle.meaning.specs.Tokens.{ender}
use Rattle.meaning.specs.Cursor.{room_of}
use Rattle.meaning.specs.Alignment.{plain_spaces, placed_left, place}
use Rattle.meaning.specs.Line.{unmeasured, start_place}
use Rattle.meaning.specs.declared.settings.Settings.{Settings}
use Rattle.meaning.specs.declared.line.LineEnd.TheVariants.{LineBreak}
use Rattle.meaning.specs.declared.line.Placed.{Placed}
use Rattle.parser.specs.Lexing.{chars_from}
use Rattle.moves.specs.FineSteps.{plain_fine}
use Rattle.steps.specs.Pending.{Pending, pending, rest_lexeme}
use Rattle.steps.specs.Running.{PassReady}
use Rattle.steps.specs.declared.step.Resumed.{Resumed}
use Rattle.steps.specs.declared.step.Ended.{Ended}
use Rattle.steps.proofs.RestLaws.{rest_read}
use Rattle.blanks.specs.CutRests.{CutRest, cut_end, cut-filled, thin-taken, cut-few, cut_ran}
use Rattle.placing.specs.LineFrom.{line_from}
use Rattle.placing.specs.Taken.{Taken, front-taken}
use Rattle.placing.specs.Laying.{LineReady, passed_from, plainly, placed_by, laid_at}
use Rattle.placing.specs.PlaceLaws.{place_fine}
use Rattle.placing.specs.LayLaws.{start-ready, laid_twice}
use Rattle.rows.specs.CutRests.{CutAgain}

-- A line of no width whose spaces do not count is placed with plain spaces.
plain-placed : (s : Settings) → place s LineBreak 0 0 ≡ placed_left (place s LineBreak 0 0).left.0 (plain_spaces s)
unfolding place
plain-placed s =
    let P : Placed → Type 0 = λ p. p ≡ placed_left p.left.0 (plain_spaces s) in
    pick_cases P (eqb s.alignment 0) (λ _. refl)
    (λ _. pick_cases P (eqb s.alignment 1) (λ _. refl)
    (λ _. pick_cases P (eqb s.alignment 2) (λ _. refl)
    (λ _. pick_cases P true (λ _. refl) (λ e. absurd (false≢true (sym e))))))

module _ {s : Settings} {t : List ℕ} {at : ℕ} {r : Resumed} (h : LineReady s t at r) (c : CutAgain s at r) where
  -- A pass over a line that starts so far from the left.
  module _ (left : ℕ) (inside : left ≤ s.width.0) where
    ready : PassReady s (start_place s left (plain_spaces s)) t at r unmeasured
    ready = start-ready h (placed_left left (plain_spaces s)) _ _ refl refl (plain_fine s h.settings) inside

    cuts : CutRest s (start_place s left (plain_spaces s)) at r
    unfolding start_place plain_spaces room_of
    cuts = record { over = omega (arith, c.over); leading = c.leading; even = refl; thin = c.thin }

    pub rest-filled : r.chars.0 ≡ 0 → ⊥
    rest-filled = cut-filled ready cuts

    module _ (n taken : ℕ) (ends : n ≡ ender (chars_from t r.end.0)) (e : taken ≡ min ((s.width.0 - left) / s.glyph.0 + 1) r.count.0) where
      pended : Pending t at r.chars.0 r.count.0 (rest_lexeme r n)
      pended = pending t at r _ h.rest (sym (rest_read t at r h.rest rest-filled n ends))

      cut-passed : cut_end at r ((s.width.0 - left) / s.glyph.0) taken (r.end.0 + n) ≡ passed_from s t at r (placed_left left (plain_spaces s))
      unfolding passed_from start_place plain_spaces room_of
      cut-passed = cut_ran ready cuts n taken pended e

      cut-taken : Taken t at (at + taken) taken
      unfolding start_place plain_spaces room_of
      cut-taken =
          let few = cut-few ready cuts n taken pended e in
          front-taken t at taken (omega (arith, h.rest.within)) (at + taken) (ap (λ (k : ℕ). at + k) (sym (thin-taken ready cuts taken few)))

  -- The line, from its drawing pass.
  pub rest-laid : (p : Placed) → p ≡ place s LineBreak 0 0 → (n : ℕ) → n ≡ ender (chars_from t r.end.0)
      → (taken : ℕ) → taken ≡ min ((s.width.0 - p.left.0) / s.glyph.0 + 1) r.count.0 → (e : Ended)
      → e ≡ cut_end at r ((s.width.0 - p.left.0) / s.glyph.0) taken (r.end.0 + n) → (before : ℕ)
      → laid_at at before r p 0 (r.end.0 + n) e taken ≡ line_from s t at before r
  unfolding placed_by cut_end
  rest-laid p q n ends taken f e g before =
      let first = cut_end at r ((s.width.0 - 0) / s.glyph.0) (min ((s.width.0 - 0) / s.glyph.0 + 1) r.count.0) (r.end.0 + n) in
      let inside : p.left.0 ≤ s.width.0 = rw q (place_fine s LineBreak 0 0 h.settings (omega arith)).1 in
      let plain : placed_left p.left.0 (plain_spaces s) ≡ p = rw q (sym (plain-placed s)) in
      laid_twice h (plainly s) first refl (cut-passed 0 (omega arith) n _ ends refl) 0 p _ refl q before taken
      e (g ∙ cut-passed p.left.0 inside n taken ends f ∙ ap (passed_from s t at r) plain) (rw g (cut-taken p.left.0 inside n taken ends f)) refl
