-- What a pass draws, token by token.
-- Assumes nothing.
use Rattle.std.specs.Prelude.{ℕ, ◌+◌, ◌≤◌}
use Rattle.std.proofs.Math.Path.{◌≡◌, refl, ap}
use Rattle.std.proofs.Common.{sym, ◌∙◌, arith}
use mathlib.Core.List.{List, [], ◌++◌}
use Rattle.meaning.specs.Tokens.{Tok, chars_of, size_of, need_of, tokens}
use Rattle.meaning.specs.LineIter.{Step, go, stop, Ran, pass_on, process}
use Rattle.meaning.specs.Line.{measured, held_tokens, unmeasured}
use Rattle.meaning.specs.declared.settings.Settings.{Settings}
use Rattle.meaning.specs.declared.cursor.Place.{Place}
use Rattle.meaning.specs.declared.counts.Offset.{Offset}
use Rattle.meaning.specs.declared.line.Measure.{Measure}
use Rattle.parser.specs.Lexing.{chars_from}
use Rattle.parser.specs.declared.lexeme.Lexeme.{Lexeme}
use Rattle.steps.specs.Stepping.{stepped_at, tok_of}
use Rattle.steps.specs.Ready.{step_from}
use Rattle.steps.specs.Pending.{Pending}
use Rattle.steps.specs.Running.{PassReady}
use Rattle.steps.specs.declared.step.Resumed.{Resumed}
use Rattle.steps.specs.declared.step.Ended.{Ended}
use Rattle.steps.specs.declared.step.Stepped.TheVariants.{Go, Stop}
use Rattle.ink.specs.declared.pen.Pen.{Pen}
use Rattle.drawing.specs.Drawn.{drawn_from}
use Rattle.prints.specs.TokenDrawn.{drawn_of, tok_drawn}

-- What drawing a pass takes for granted: the pass can run, and the pen and the count of events have room.
pub record DrawRoom (s : Settings) (p : Place) (t : List ℕ) (at : ℕ) (r : Resumed) (x k : ℕ) : Type 0 where
  pub pass : PassReady s p t at r unmeasured
  pub narrow : x ≤ 100000000
  pub few : k ≤ 500000000

abbrev pub pen_at : (k x : ℕ) → Pen
pen_at k x = record { next = k; x = record { 0 = x } }

-- ---- one token and the rest

module _ (m : Measure) (at : ℕ) (u : Tok) where
  goes-drawn : (here n : ℕ) (y : Step) (more : Place → Ran) (q : Place) (o : Measure) (r : Offset) → stepped_at m at u y ≡ Go q o r
      → ((pass_on here n y more).drawn ≡ drawn_of y ++ (more q).drawn) × (o ≡ measured m (drawn_of y))
  unfolding stepped_at
  goes-drawn here n (go p ds d) more q o r e =
      let f : p ≡ q = cc in
      let g : o ≡ measured m ds = cc in
      (rw f, g)
  goes-drawn here n (stop b ds k h d l) more q o r e = let z : ◌≡◌ {A = ℕ} 0 1 = cc in absurd (omega arith)

  stops-drawn : (here n : ℕ) (y : Step) (more : Place → Ran) (x : Ended) → stepped_at m at u y ≡ Stop x
      → (pass_on here n y more).drawn ≡ drawn_of y
  unfolding stepped_at
  stops-drawn here n (go p ds d) more x e = let z : ◌≡◌ {A = ℕ} 0 1 = cc in absurd (omega arith)
  stops-drawn here n (stop b ds k h d l) more x e = refl

module _ (s : Settings) (p : Place) (t : List ℕ) (at chars count : ℕ) where
  pub none-drawn : held_tokens chars count (chars_from t at) ≡ [] → drawn_from s p t at chars count ≡ []
  unfolding drawn_from process
  none-drawn e = ap (λ (ts : List Tok). (process s p at ts).drawn) e

  module _ (x : Lexeme) (m : Measure) (y : Pending t at chars count x) where
    pub go-drawn : (q : Place) (o : Measure) (r : Offset) → step_from s p t at x m ≡ Go q o r
        → (drawn_from s p t at chars count ≡ tok_drawn s p t at x ++ drawn_from s q t x.end.0 0 0) × (o ≡ measured m (tok_drawn s p t at x))
    unfolding drawn_from tok_drawn step_from process held_tokens
    go-drawn q o r e =
        let f = goes-drawn m at (tok_of t at x) (at + need_of (tok_of t at x)) (chars_of (tok_of t at x)) _
        (λ z. process s z (at + size_of (tok_of t at x)) (tokens (chars_from t x.end.0))) q o r e in
        let ds = tok_drawn s p t at x in (
          ap (λ (ts : List Tok). (process s p at ts).drawn) y.first ∙ f.0
              ∙ ap (λ (i : ℕ). ds ++ (process s q i (tokens (chars_from t x.end.0))).drawn) (sym y.end),
          f.1,
        )

    pub stop-drawn : (z : Ended) → step_from s p t at x m ≡ Stop z → drawn_from s p t at chars count ≡ tok_drawn s p t at x
    unfolding drawn_from tok_drawn step_from process
    stop-drawn z e =
        ap (λ (ts : List Tok). (process s p at ts).drawn) y.first
        ∙ stops-drawn m at (tok_of t at x) (at + need_of (tok_of t at x)) (chars_of (tok_of t at x)) _
        (λ q. process s q (at + size_of (tok_of t at x)) (tokens (chars_from t x.end.0))) z e
