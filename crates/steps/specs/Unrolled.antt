-- The pass that a text gives from an offset on, token by token.
-- Assumes nothing.
use Rattle.std.specs.Prelude.{ℕ, ◌+◌, ◌≤◌, max, ◌≡◌, refl, List, [], ◌∷◌, ◌++◌, take}
use Rattle.std.proofs.Common.{add_assoc, add-zero, arith, eq-eqb}
use Rattle.std.proofs.lemmas.List.{take-append-le}
use Rattle.basis.specs.Choice.{pick}
use Rattle.basis.specs.Order.{by_eq}
use Rattle.utf8.specs.Encoding.{size}
use Rattle.meaning.specs.Tokens.{Tok, tokens, chars_of, size_of, need_of}
use Rattle.meaning.specs.Words.{Drawn}
use Rattle.meaning.specs.LineIter.{Held, Step, go, stop, step, Ran, pass_on, process}
use Rattle.meaning.specs.Line.{measured, held_tokens}
use Rattle.meaning.specs.declared.settings.Settings.{Settings}
use Rattle.meaning.specs.declared.cursor.Place.{Place}
use Rattle.meaning.specs.declared.line.LineEnd.{LineEnd}
use Rattle.meaning.specs.declared.line.LineEnd.TheVariants.{EndOfText}
use Rattle.meaning.specs.declared.line.Measure.{Measure}
use Rattle.laws.specs.Spell.{text_of, spell, SoundTok}
use Rattle.laws.specs.TokenLaws.{chars-text, tokens_cover}
use Rattle.laws.specs.Steps.{SoundStep, step-sound}
use Rattle.steps.specs.Cuts.{HoldsRest, WholeStep, step-whole}
use Rattle.laws.specs.PassBounds.{whole-text}
use Rattle.laws.specs.Measuring.{measured_append}
use Rattle.parser.specs.Lexing.{chars_from}
use Rattle.steps.specs.Stepping.{resumed_at, stepped_at, ended_at, ran_from}
use Rattle.steps.specs.declared.step.Resumed.{Resumed}
use Rattle.steps.specs.declared.step.Ended.{Ended}
use Rattle.steps.specs.declared.step.Stepped.{Stepped}
use Rattle.steps.specs.declared.step.Stepped.TheVariants.{Go, Stop}

-- ---- how far was looked

-- The same end of a pass, that has looked as far as an offset besides.
unfoldable pub farther : ℕ → Ended → Ended
farther n e =
    record {
      ended = e.ended;
      measure = e.measure;
      next = e.next;
      rest = e.rest;
      dropped = e.dropped;
      reach = record { 0 = max n e.reach.0 };
    }

pub farther-farther : (a b : ℕ) (e : Ended) → farther a (farther b e) ≡ farther (max a b) e
unfolding farther
farther-farther a b e = let m : max a (max b e.reach.0) ≡ max (max a b) e.reach.0 = omega arith in rw m

-- Where it has looked so far already.
pub farther-near : (n : ℕ) (e : Ended) → n ≤ e.reach.0 → farther n e ≡ e
unfolding farther
farther-near n e h = let m : max n e.reach.0 ≡ e.reach.0 = omega arith in rw m

-- ---- the end of the text

abbrev pub nothing_resumed : Resumed
nothing_resumed = record { end = record { 0 = 0 }; chars = record { 0 = 0 }; count = record { 0 = 0 } }

pub ran_end : (s : Settings) (p : Place) (t : List ℕ) (at chars count : ℕ) (m : Measure)
    → held_tokens chars count (chars_from t at) ≡ []
    → ran_from s p t at chars count m
    ≡ record {
      ended = EndOfText;
      measure = m;
      next = record { 0 = at };
      rest = nothing_resumed;
      dropped = record { 0 = 0 };
      reach = record { 0 = at + 1 };
    }
unfolding ran_from ended_at resumed_at process measured size pick
ran_end s p t at chars count m e = rw (e, add-zero at)

-- ---- a token that is taken whole

go-ended : (m : Measure) (at : ℕ) (u : Tok) (cs : List ℕ) (q : Place) (ds : List Drawn) (r : ℕ) (more : Ran)
    → ended_at m at (text_of u ++ cs) (pass_on (at + need_of u) (chars_of u) (go q ds r) (λ _. more))
    ≡ farther (max (at + need_of u) r) (ended_at (measured m ds) (at + size_of u) cs more)
unfolding ended_at farther
go-ended m at u cs q ds r more =
    let k = more.chars in
    let h = more.held.chars in
    let next : at + size (take (chars_of u + k) (text_of u ++ cs)) ≡ at + size_of u + size (take k cs) = omega (arith, whole-text k u cs) in
    let rest : at + size (take (chars_of u + (k + h)) (text_of u ++ cs)) ≡ at + size_of u + size (take (k + h) cs) = omega (arith, whole-text (k + h) u cs) in
    let far : max (at + need_of u) (max r more.reach) ≡ max (max (at + need_of u) r) more.reach = omega arith in
    rw (measured_append m ds more.drawn, next, add_assoc (chars_of u) k h, rest, far)

-- ---- a token that ends the line

-- How a pass ends at a token whose first k characters are taken.
abbrev pub stopped_at : Measure → (at : ℕ) → Tok → LineEnd → List Drawn → (k : ℕ) → Held → (dropped reach : ℕ) → Ended
stopped_at m at u e ds k h d r =
    record {
      ended = e;
      measure = measured m ds;
      next = record { 0 = at + size (take k (text_of u)) };
      rest = resumed_at (at + size_of u) h;
      dropped = record { 0 = d };
      reach = record { 0 = r };
    }

-- Where nothing is held, it does not matter where that would end.
resumed-none : (a b : ℕ) (h : Held) → h.chars ≡ 0 → resumed_at a h ≡ resumed_at b h
unfolding resumed_at pick
resumed-none a b h e = rw (eq-eqb h.chars 0 e)

-- What is held ends where the token does.
stop-rest : (at : ℕ) (u : Tok) (cs : List ℕ) (k : ℕ) (h : Held) → HoldsRest (chars_of u) k h
    → resumed_at (at + size (take (k + h.chars) (text_of u ++ cs))) h ≡ resumed_at (at + size_of u) h
unfolding size
stop-rest at u cs k h w =
    by_eq h.chars 0 (λ z. resumed-none _ _ h z) (λ d.
    let e : k + h.chars ≡ chars_of u + 0 = omega (arith, w d) in
    let f : at + size (take (chars_of u + 0) (text_of u ++ cs)) ≡ at + size_of u = omega (arith, whole-text 0 u cs) in
    rw (e, f))

stop-ended : (m : Measure) (at : ℕ) (u : Tok) (cs : List ℕ) (e : LineEnd) (ds : List Drawn) (k : ℕ) (h : Held) (d r : ℕ) (more : Place → Ran)
    → k ≤ chars_of u → HoldsRest (chars_of u) k h
    → ended_at m at (text_of u ++ cs) (pass_on (at + need_of u) (chars_of u) (stop e ds k h d r) more)
    ≡ farther (at + need_of u) (stopped_at m at u e ds k h d r)
unfolding ended_at farther
stop-ended m at u cs e ds k h d r more f w =
    rw (take-append-le k (text_of u) cs (omega (arith, chars-text u)), stop-rest at u cs k h w)

-- ---- one token of the pass

-- What a step leads to: the pass from after the token, or the end that it made.
unfoldable pub continued : Settings → List ℕ → (next here : ℕ) → Stepped → Ended
continued s t next here (Go q m r) = farther (max here r.0) (ran_from s q t next 0 0 m)
continued s t next here (Stop e) = farther here e

-- The first token u at an offset, and the text after it.
module _ (s : Settings) (p : Place) (t : List ℕ) (at chars count : ℕ) (m : Measure) (u : Tok)
    (is : held_tokens chars count (chars_from t at) ≡ u ∷ tokens (chars_from t (at + size_of u)))
    (text : text_of u ++ chars_from t (at + size_of u) ≡ chars_from t at)
  where
    pub ran_go : (q : Place) (ds : List Drawn) (r : ℕ) → step s p at u (tokens (chars_from t (at + size_of u))) ≡ go q ds r
        → ran_from s p t at chars count m ≡ farther (max (at + need_of u) r) (ran_from s q t (at + size_of u) 0 0 (measured m ds))
    unfolding ran_from process held_tokens
    ran_go q ds r e =
        let cs = chars_from t (at + size_of u) in
        rw (is, e, ← text) (go-ended m at u cs q ds r (process s q (at + size_of u) (tokens cs)))

    pub ran_stop : (e : LineEnd) (ds : List Drawn) (k : ℕ) (h : Held) (d r : ℕ)
        → step s p at u (tokens (chars_from t (at + size_of u))) ≡ stop e ds k h d r → k + h.chars ≤ chars_of u → HoldsRest (chars_of u) k h
        → ran_from s p t at chars count m ≡ farther (at + need_of u) (stopped_at m at u e ds k h d r)
    unfolding ran_from process
    ran_stop b ds k h d r e f w =
        let cs = chars_from t (at + size_of u) in
        rw (is, e, ← text) (stop-ended m at u cs b ds k h d r (λ q. process s q (at + size_of u) (tokens cs)) (omega arith) w)

    -- The same, from what the running step answers.
    stepped : (x : Step) → step s p at u (tokens (chars_from t (at + size_of u))) ≡ x → SoundStep (chars_of u) p x → WholeStep (chars_of u) x
        → ran_from s p t at chars count m ≡ continued s t (at + size_of u) (at + need_of u) (stepped_at m at u x)
    unfolding continued stepped_at
    stepped (go q ds r) e f w = ran_go q ds r e
    stepped (stop b ds k h d r) e f w = ran_stop b ds k h d r e f.within w

    pub ran_step : SoundTok u (chars_from t (at + size_of u))
        → ran_from s p t at chars count m
        ≡ continued s t (at + size_of u) (at + need_of u) (stepped_at m at u (step s p at u (tokens (chars_from t (at + size_of u)))))
    ran_step h =
        let ts = tokens (chars_from t (at + size_of u)) in
        let g : SoundTok u (spell ts) = rw tokens_cover h in
        stepped (step s p at u ts) refl (step-sound s p at u ts g) (step-whole s p at u ts g)
