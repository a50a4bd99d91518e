-- A pass that goes on over a token. What that looked at, the pass after it looks at too, so nothing is kept of it.
-- Assumes nothing.
use Rattle.std.specs.Prelude.{◌≡◌, refl, ℕ, ◌+◌, ◌≤◌, max, Some}
use Rattle.std.proofs.Common.{sym, ◌∙◌}
use Rattle.std.proofs.Math.Path.{subst}
use mathlib.Core.List.{List, [], ◌∷◌, ◌++◌}
use native.Mathlib.Omega.{arith}
use Rattle.basis.specs.Choice.{pick}
use Rattle.utf8.specs.Encoding.{bytes, size}
use Rattle.meaning.specs.Tokens.{Tok, newLine, carriageReturn, tab, softHyphen, space, word, ender, tokens, chars_of, size_of, need_of}
use Rattle.meaning.specs.LineIter.{Step, go, stop, step, Ran, pass_on, process}
use Rattle.meaning.specs.Line.{held_tokens, unmeasured}
use Rattle.meaning.specs.declared.settings.Settings.{Settings}
use Rattle.meaning.specs.declared.cursor.Place.{Place}
use Rattle.meaning.specs.declared.line.Measure.{Measure}
use Rattle.laws.specs.Spell.{text_of, spell, SoundTok, Sound}
use Rattle.laws.specs.TokenLaws.{tokens_cover, tokens-sound}
use Rattle.parser.specs.Lexing.{chars_from, lexed_at}
use Rattle.parser.specs.declared.lexeme.Lexeme.{Lexeme}
use Rattle.steps.specs.Stepping.{ended_at, ran_from}
use Rattle.steps.specs.Unrolled.{farther, farther-near, nothing_resumed}
use Rattle.steps.specs.Ready.{Ready, step_from}
use Rattle.steps.specs.Pending.{Pending, pending}
use Rattle.steps.specs.Running.{PassReady, none-fits, step_keeps, pass-goes, pass-stops}
use Rattle.strides.specs.Strides.{Onward}
use Rattle.steps.specs.declared.step.Resumed.{Resumed}
use Rattle.steps.specs.declared.step.Ended.{Ended}
use Rattle.steps.specs.declared.step.Stepped.TheVariants.{Go, Stop}

-- ---- how far a pass looks at least

on-reach : (here n : ℕ) (x : Step) (more : Place → Ran) → here ≤ (pass_on here n x more).reach
on-reach here n (go q ds r) more = omega arith
on-reach here n (stop e ds k h d r) more = omega arith

-- A token has at least the bytes of its first character.
first-bytes : (u : Tok) (cs : List ℕ) → SoundTok u cs → ender (text_of u ++ cs) ≤ size_of u
unfolding ender size_of size bytes pick
first-bytes newLine cs h = omega arith
first-bytes carriageReturn cs h = omega arith
first-bytes tab cs h = omega arith
first-bytes softHyphen cs h = omega arith
first-bytes (space [] n e) cs h = absurd (omega arith)
first-bytes (space (c ∷ ws) n e) cs h = omega arith
first-bytes (word [] e) cs h = absurd (omega arith)
first-bytes (word (c ∷ ws) e) cs h = omega arith

module _ (s : Settings) (p : Place) (t : List ℕ) (at : ℕ) (m : Measure) where
  tokens-reach : (ts : List Tok) → Sound ts → at + ender (spell ts) ≤ (process s p at ts).reach
  unfolding process need_of spell ender
  tokens-reach [] h = omega arith
  tokens-reach (u ∷ ts) h =
      omega (arith, first-bytes u (spell ts) h.0, on-reach (at + need_of u) (chars_of u) (step s p at u ts) (λ q. process s q (at + size_of u) ts))

  -- The character at its offset is looked at, be it the text's end.
  pub looks_on : at + ender (chars_from t at) ≤ (ran_from s p t at 0 0 m).reach.0
  unfolding ran_from ended_at held_tokens
  looks_on =
      let cs = chars_from t at in
      subst (λ (ds : List ℕ). at + ender ds ≤ (process s p at (tokens cs)).reach) (tokens_cover cs) (tokens-reach (tokens cs) (tokens-sound cs))

  first_reach : (u : Tok) (ts : List Tok) → held_tokens 0 0 (chars_from t at) ≡ u ∷ ts → at + need_of u ≤ (ran_from s p t at 0 0 m).reach.0
  unfolding ran_from ended_at process
  first_reach u ts e = rw e (on-reach (at + need_of u) (chars_of u) (step s p at u ts) (λ q. process s q (at + size_of u) ts))

  -- The first token is looked at to its end.
  pub looks-over : (x : Lexeme) → Pending t at 0 0 x → x.reach.0 ≤ (ran_from s p t at 0 0 m).reach.0
  looks-over x y = omega (arith, y.reach, first_reach _ _ y.first)

-- ---- a token that is read

pub read-pending : (t : List ℕ) (at : ℕ) (x : Lexeme) → lexed_at at (tokens (chars_from t at)) ≡ Some x → Pending t at 0 0 x
unfolding held_tokens
read-pending t at x e = pending t at nothing_resumed x (none-fits t at nothing_resumed refl) e

module _ {s : Settings} {p : Place} {t : List ℕ} {at : ℕ} {m : Measure} (r : PassReady s p t at nothing_resumed m) where
  module _ (x : Lexeme) (e : lexed_at at (tokens (chars_from t at)) ≡ Some x) where
    pub read-ready : Ready s p t at x m
    read-ready =
        record { settings = r.settings; place = r.place; short = r.short; stands = (read-pending t at x e).stands; small = r.small }

    -- It is taken, and what it looked at the pass after it looks at too.
    pub goes-onward : (q : Place) (n : Measure) (o : ℕ) → Go q n (record { 0 = o }) ≡ step_from s p t at x m
        → max x.reach.0 o ≤ (ran_from s q t x.end.0 0 0 n).reach.0 → Onward s p t at nothing_resumed m q x.end.0 n
    goes-onward q n o g h =
        let y = read-pending t at x e in
        let fine = step_keeps s p t at 0 0 x m r.settings r.place r.small y q n _ (sym g) in
        let far = max 0 (max x.reach.0 o) in
        record {
          same = sym (farther-near far (ran_from s q t x.end.0 0 0 n) (omega arith))
              ∙ pass-goes s p t at 0 0 m 0 x y q n _ (sym g) far refl nothing_resumed refl
              ∙ farther-near 0 (ran_from s p t at 0 0 m) (omega arith);
          ready = record {
            settings = r.settings;
            place = fine.0;
            short = r.short;
            inside = y.stands.within;
            rest = none-fits t x.end.0 nothing_resumed refl;
            small = fine.1;
          };
          forward = omega (arith, y.stands.longer);
        }

    -- It ends the pass.
    pub stops-onward : (d : Ended) → Stop d ≡ step_from s p t at x m → farther x.reach.0 d ≡ ran_from s p t at 0 0 m
    stops-onward d g =
        pass-stops s p t at 0 0 m 0 x (read-pending t at x e) d (sym g) x.reach.0 (omega arith) ∙ farther-near 0 (ran_from s p t at 0 0 m) (omega arith)

-- ---- one after the other

-- Whatever was measured, nothing measured is as good.
pub unmeasured-ready : {s : Settings} {p : Place} {t : List ℕ} {at : ℕ} {r : Resumed} {m : Measure} → PassReady s p t at r m → PassReady s p t at r unmeasured
unmeasured-ready h =
    record { settings = h.settings; place = h.place; short = h.short; inside = h.inside; rest = h.rest; small = omega arith }

module _ {s : Settings} {t : List ℕ} {r : Resumed} where
  pub onward-none : {p : Place} {at : ℕ} {m : Measure} → PassReady s p t at r m → Onward s p t at r m p at m
  onward-none h = record { same = refl; ready = h; forward = omega arith }

  pub onward-on : {p : Place} {at : ℕ} {m : Measure} {q : Place} {to : ℕ} {n : Measure} {v : Place} {end : ℕ} {o : Measure}
      → Onward s p t at r m q to n → Onward s q t to r n v end o → Onward s p t at r m v end o
  onward-on f g = record { same = g.same ∙ f.same; ready = g.ready; forward = omega (arith, f.forward, g.forward) }
