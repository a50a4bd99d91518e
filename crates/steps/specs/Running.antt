-- One turn of a running pass: the token at an offset, what its step answers, and what stays fine after it.
-- Assumes nothing.
use Rattle.std.specs.Prelude.{ℕ, ◌+◌, ◌≤◌, max, ◌≡◌, refl, List, [], ◌∷◌, ◌++◌, length}
use Rattle.std.proofs.Common.{arith, sym, subst}
use Rattle.meaning.specs.Tokens.{Tok, tokens, chars_of, size_of, need_of}
use Rattle.meaning.specs.LineIter.{Step, go, stop, step}
use Rattle.meaning.specs.Line.{held_tokens}
use Rattle.meaning.specs.declared.settings.Settings.{Settings}
use Rattle.meaning.specs.declared.cursor.Place.{Place}
use Rattle.meaning.specs.declared.counts.Offset.{Offset}
use Rattle.meaning.specs.declared.line.LineEnd.TheVariants.{EndOfText}
use Rattle.meaning.specs.declared.line.Measure.{Measure}
use Rattle.laws.specs.Spell.{text_of, spell, SoundTok}
use Rattle.laws.specs.TokenLaws.{tokens_cover, chars-size}
use Rattle.laws.specs.Measuring.{measured-behind}
use Rattle.parser.specs.Lexing.{chars_from}
use Rattle.parser.specs.declared.lexeme.Lexeme.{Lexeme}
use Rattle.moves.specs.Fine.{FineSettings, FinePlace}
use Rattle.moves.specs.FineSteps.{FineStep, step_fine}
use Rattle.steps.specs.Stepping.{stepped_at, ran_from, tok_of}
use Rattle.steps.specs.Unrolled.{farther, farther-farther, nothing_resumed, ran_end, continued, ran_step}
use Rattle.steps.specs.Ready.{Small, step_from}
use Rattle.steps.specs.Pending.{RestFits, Pending}
use Rattle.steps.specs.Stopping.{ends_before}
use Rattle.steps.specs.declared.step.Resumed.{Resumed}
use Rattle.steps.specs.declared.step.Ended.{Ended}
use Rattle.steps.specs.declared.step.Stepped.{Stepped}
use Rattle.steps.specs.declared.step.Stepped.TheVariants.{Go, Stop}

-- What a running pass takes for granted: no sum can wrap, and its rest stands in the text.
pub record PassReady (s : Settings) (p : Place) (t : List ℕ) (at : ℕ) (r : Resumed) (m : Measure) : Type 0 where
  pub settings : FineSettings s
  pub place : FinePlace p
  pub short : length t ≤ 65535
  pub inside : at ≤ length t
  pub rest : RestFits t at r
  pub small : Small at m

-- After the first token a pass has no rest.
pub none-fits : (t : List ℕ) (at : ℕ) (r : Resumed) → r ≡ nothing_resumed → RestFits t at r
none-fits t at r e = rw e (record { within = omega arith; counts = omega arith; ends = λ d. absurd (d refl) })

pub none-held : (t : List ℕ) (at : ℕ) (r : Resumed) → r ≡ nothing_resumed
    → held_tokens r.chars.0 r.count.0 (chars_from t at) ≡ tokens (chars_from t at)
unfolding held_tokens
none-held t at r e = rw e

-- ---- what is measured stays small

abbrev FineGone : (end : ℕ) → Stepped → Type 0
FineGone end (Go q n r) = FinePlace q × Small end n
FineGone end (Stop e) = Unit {0}

module _ (p : Place) (at : ℕ) (m : Measure) (u : Tok) (small : Small at m) where
  gone_fine : (y : Step) → FineStep p m (size_of u) (chars_of u) y → FineGone (at + size_of u) (stepped_at m at u y)
  unfolding stepped_at
  gone_fine (go q ds r) f =
      let b = measured-behind m ds (small.2, small.3) in
      let g = f.grows in
      (f.place, (omega (arith, g.pen), omega (arith, g.spaces, chars-size u), b.0, b.1))
  gone_fine (stop e ds k h d r) f = tt

keeps : (s : Settings) (p : Place) (t : List ℕ) (at : ℕ) (m : Measure) (u : Tok) (end : ℕ) → FineSettings s → FinePlace p → Small at m
    → end ≡ at + size_of u → SoundTok u (chars_from t end) → FineGone end (stepped_at m at u (step s p at u (tokens (chars_from t end))))
keeps s p t at m u end fs fp h e d =
    let ts = tokens (chars_from t end) in
    let g : SoundTok u (spell ts) = rw tokens_cover d in
    subst (λ (n : ℕ). FineGone n (stepped_at m at u (step s p at u ts))) (sym e) (gone_fine p at m u h _ (step_fine s p at m u ts fs fp g))

pub step_keeps : (s : Settings) (p : Place) (t : List ℕ) (at chars count : ℕ) (x : Lexeme) (m : Measure) → FineSettings s → FinePlace p
    → Small at m → Pending t at chars count x → (q : Place) (n : Measure) (o : Offset) → step_from s p t at x m ≡ Go q n o
    → FinePlace q × Small x.end.0 n
unfolding step_from
step_keeps s p t at chars count x m fs fp h y q n o e =
    subst (FineGone x.end.0) e (keeps s p t at m (tok_of t at x) x.end.0 fs fp h y.end y.stands.sound)

-- ---- one turn

module _ (s : Settings) (p : Place) (t : List ℕ) (at chars count : ℕ) (m : Measure) where
  ran_tok : (u : Tok) (end here : ℕ) → end ≡ at + size_of u → here ≡ at + need_of u
      → held_tokens chars count (chars_from t at) ≡ u ∷ tokens (chars_from t end) → text_of u ++ chars_from t end ≡ chars_from t at
      → SoundTok u (chars_from t end)
      → ran_from s p t at chars count m ≡ continued s t end here (stepped_at m at u (step s p at u (tokens (chars_from t end))))
  ran_tok u end here e f k h d = rw (e, f) (ran_step s p t at chars count m u (rw e at k) (rw e at h) (rw e at d))

  ran_pending : (x : Lexeme) → Pending t at chars count x
      → ran_from s p t at chars count m ≡ continued s t x.end.0 x.reach.0 (step_from s p t at x m)
  unfolding step_from
  ran_pending x y =
      ran_tok (tok_of t at x) x.end.0 x.reach.0 y.end y.reach y.first y.stands.text y.stands.sound

  -- The pass has looked up to r so far.
  pub pass-goes : (r : ℕ) (x : Lexeme) → Pending t at chars count x → (q : Place) (n : Measure) (o : Offset)
      → step_from s p t at x m ≡ Go q n o → (k : ℕ) → k ≡ max r (max x.reach.0 o.0) → (h : Resumed) → h ≡ nothing_resumed
      → farther k (ran_from s q t x.end.0 h.chars.0 h.count.0 n) ≡ farther r (ran_from s p t at chars count m)
  unfolding continued
  pass-goes r x y q n o e k g h f = rw (g, f, ran_pending x y, e) (sym (farther-farther r (max x.reach.0 o.0) _))

  pub pass-stops : (r : ℕ) (x : Lexeme) → Pending t at chars count x → (e : Ended) → step_from s p t at x m ≡ Stop e
      → (k : ℕ) → k ≡ max r x.reach.0 → farther k e ≡ farther r (ran_from s p t at chars count m)
  unfolding continued
  pass-stops r x y e f k g = rw (g, ran_pending x y, f) (sym (farther-farther r x.reach.0 e))

  pub pass-ends : (r : ℕ) → held_tokens chars count (chars_from t at) ≡ [] → (k : ℕ) → k ≡ max r (at + 1)
      → ends_before EndOfText m at 0 k ≡ farther r (ran_from s p t at chars count m)
  unfolding ends_before farther
  pass-ends r e k g = rw (g, ran_end s p t at chars count m e)
