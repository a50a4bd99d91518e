-- The drawing of a line goes on over words: what is drawn from there on makes the same sheet.
-- Assumes nothing.
use Prim.Native.Nat.{ℕ, ◌+◌, ◌-◌, ◌*◌, ◌≤◌}
use Rattle.std.specs.Prelude.{Option, Some}
use Rattle.steps.specs.declared.foreseen.Look.{Look}
use mathlib.Core.Path.{◌≡◌, refl, sym, ap, subst, ◌∙◌}
use mathlib.Core.Bool.{true, false}
use mathlib.Core.List.{List, [], ◌∷◌, ◌++◌}
use native.Mathlib.Omega.{arith}
use lib.ListN.{length}
use Rattle.meaning.specs.Tokens.{tokens}
use Rattle.meaning.specs.Cursor.{fits_in, advance}
use Rattle.meaning.specs.SpaceConfig.{spaces_width}
use Rattle.meaning.specs.Words.{Drawn, drawn, drawn_word}
use Rattle.meaning.specs.LineIter.{moved_on, used_up}
use Rattle.meaning.specs.declared.settings.Settings.{Settings}
use Rattle.meaning.specs.declared.cursor.Place.{Place}
use Rattle.meaning.specs.declared.line.EventKind.TheVariants.{Space, Printed}
use Rattle.meaning.specs.declared.line.Measure.{Measure}
use Rattle.meaning.specs.declared.tokens.TokenKind.TheVariants.{Word}
use Rattle.parser.specs.Lexing.{chars_from, lexed_at}
use Rattle.pairs.specs.Pairs.{one_space, PairAt}
use Rattle.parser.specs.declared.lexeme.Lexeme.{Lexeme}
use Rattle.moves.specs.FineLaws.{fits-room}
use Rattle.steps.specs.Unrolled.{nothing_resumed}
use Rattle.steps.specs.Running.{PassReady}
use Rattle.steps.specs.Stopping.{word_place}
use Rattle.strides.specs.Strides.{waiting_at, Waits}
use Rattle.steps.specs.Foreseeing.{ForeseesFrom}
use Rattle.steps.specs.declared.step.Resumed.{Resumed}
use Rattle.strides.specs.declared.going.Waiting.{Waiting}
use Rattle.steps.specs.WordLaws.{word_at}
use Rattle.pairs.specs.PlainLaws.{plain_word, plain-read}
use Rattle.strides.specs.OnwardLaws.{read-pending, unmeasured-ready}
use Rattle.strides.specs.First.{Beginning}
use Rattle.strides.specs.declared.first.Begun.{Begun}
use Rattle.strides.specs.StrideLaws.{fits_in_lem, word-onward}
use Rattle.strides.specs.GoesLaws.{rest-none}
use Rattle.drawing.specs.Drawn.{drawn_from}
use Rattle.ink.specs.Sheet.{Sheet, sheet, drawn_on, on_append, widths, pen-after}
use Rattle.drawing.specs.DrawingOn.{PenReady, Drew, inked_at, Strode}
use Rattle.ink.specs.declared.pen.Pen.{Pen}
use Rattle.drawing.specs.declared.inked.Inked.{Inked}
use Rattle.drawing.proofs.StrideEvents.{one_word, here, word_first, space-shown}

-- ---- one after the other

module _ (q : Place) (to : ℕ) (v : Pen) {g : Inked} (is : g ≡ inked_at q to v) where
  pub strode_at : g.at ≡ to
  unfolding inked_at
  strode_at = ap (λ (g : Inked). g.at) is

  -- The line is not empty there.
  pub strode_full : q.empty ≡ false → g.place.empty ≡ false
  unfolding inked_at
  strode_full e = ap (λ (g : Inked). g.place.empty) is ∙ e

-- What is known of a look stays known there.
pub stays_foreseen : (s : Settings) (p : Place) (t : List ℕ) (at : ℕ) (r : Resumed) (f : Option Look) (o : Pen) (g : Inked) → g ≡ inked_at p at o
    → ForeseesFrom s p t at r f → ForeseesFrom s g.place t g.at r f
unfolding inked_at
stays_foreseen s p t at r f o g is h = rw is h

module _ {s : Settings} {t : List ℕ} {r : Resumed} {ev : List ℕ} {p : Place} {at : ℕ} {o : Pen} where
  pub drew-none : PenReady s p t at r o → Drew s t r ev p at o ev p at o
  drew-none h = record { same = refl; ready = h; forward = omega arith }

  pub drew-on : {u : List ℕ} {q : Place} {to : ℕ} {v : Pen} {w : List ℕ} {z : Place} {end : ℕ} {x : Pen}
      → Drew s t r ev p at o u q to v → Drew s t r u q to v w z end x → Drew s t r ev p at o w z end x
  drew-on f g = record { same = g.same ∙ f.same; ready = g.ready; forward = omega (arith, f.forward, g.forward) }

  -- Where a loop stopped, and nothing waits.
  pub strode_to : {u : List ℕ} {q : Place} {to : ℕ} {v : Pen} {g : Inked} → g ≡ inked_at q to v → Drew s t r ev p at o u q to v → Strode s t r ev p at o u g
  unfolding inked_at waiting_at
  strode_to {u} is f = subst (Strode s t r ev p at o u) (sym is) (record { onward = f; waits = λ d. absurd (d refl) })

  -- Where a word waits.
  pub strode_waits : {u : List ℕ} {q : Place} {to : ℕ} {v : Pen} (w : Waiting) → Drew s t r ev p at o u q to v
      → Waits s q t to w × (r.chars.0 ≡ 0) × (r.count.0 ≡ 0) → Strode s t r ev p at o u (record { place = q; at = to; pen = v; waits = w })
  strode_waits w f h = record { onward = f; waits = λ _. h }

  pub strode_on : {u : List ℕ} {q : Place} {to : ℕ} {v : Pen} {w : List ℕ} {g : Inked} → Drew s t r ev p at o u q to v → Strode s t r u q to v w g
      → Strode s t r ev p at o w g
  strode_on f g = record { onward = drew-on f g.onward; waits = g.waits }

-- ---- things that are drawn at once

module _ {s : Settings} {p : Place} {t : List ℕ} {at : ℕ} {o : Pen} (h : PenReady s p t at nothing_resumed o) (ev u : List ℕ) (v : Pen) where
  pub drew_things : (ds : List Drawn) (q : Place) (to : ℕ) (m : Measure) → drawn_from s p t at 0 0 ≡ ds ++ drawn_from s q t to 0 0
      → PassReady s q t to nothing_resumed m → sheet u v ≡ drawn_on (sheet ev o) ds → at + length ds ≤ to → widths ds + 8192 * at ≤ 8192 * to
      → Drew s t nothing_resumed ev p at o u q to v
  drew_things ds q to m law ready e few narrow =
      let a = pen-after ev u o v ds e in
      record {
        same = ap (λ (z : Sheet). drawn_on z (drawn_from s q t to 0 0)) e ∙ sym (on_append (sheet ev o) ds (drawn_from s q t to 0 0))
            ∙ ap (drawn_on (sheet ev o)) (sym law);
        ready = record { pass = unmeasured-ready ready; few = omega (arith, a.0, h.few); narrow = omega (arith, a.1, h.narrow) };
        forward = omega arith;
      }

  -- A word that fits.
  pub drew-letters : (x : Lexeme) → lexed_at at (tokens (chars_from t at)) ≡ Some x → x.kind ≡ Word → fits_in p.cursor (x.chars.0 * s.glyph.0) ≡ true
      → sheet u v ≡ drawn_on (sheet ev o) (drawn_word s.glyph.0 p.spaces at (word_at t at x))
      → Drew s t nothing_resumed ev p at o u (word_place s.glyph.0 p x.chars.0 x.glues.0) x.end.0 v
  drew-letters x d k f g =
      let on = word-onward h.pass x d k f _ _ refl refl in
      let law = word_first h.pass x d k f in
      drew_things _ _ x.end.0 _ law.0 on.ready g law.1 law.2

  -- A plain word that the line stands at.
  pub drew-first : {x : Begun} → Beginning s p t at x → sheet u v ≡ drawn_on (sheet ev o) (drawn Printed at x.end.0 0 (x.chars.0 * s.glyph.0) ∷ [])
      → Drew s t nothing_resumed ev p at o u x.place x.end.0 v
  drew-first {x} b g =
      let end = x.end.0 in
      let y = plain_word at end in
      let d = plain-read t at end b.word in
      subst (λ (z : Place). Drew s t nothing_resumed ev p at o u z end v) (sym b.place)
      (drew-letters y d refl b.fits
      (g ∙ ap (λ (n : ℕ). drawn_on (sheet ev o) (drawn Printed at end 0 (n * s.glyph.0) ∷ [])) b.chars
      ∙ ap (drawn_on (sheet ev o)) (sym (one_word t at y (here h.pass y d refl) s.glyph.0 p.spaces refl))))

  pub first-narrow : {x : Begun} → Beginning s p t at x → x.chars.0 * s.glyph.0 ≤ 4096
  first-narrow b =
      subst (λ (n : ℕ). n * s.glyph.0 ≤ 4096) (sym b.chars) (omega (arith, fits-room p.cursor _ b.fits, h.pass.place.0))

  -- A space before a word, both of which fit.
  pub drew-space : p.empty ≡ false → {next looked : ℕ} {x : Lexeme} → PairAt t at next looked x → (single : ℕ) → single ≡ spaces_width p.spaces 1
      → single + x.chars.0 * s.glyph.0 ≤ p.cursor.width.0 - p.cursor.position.0
      → sheet u v ≡ drawn_on (sheet ev o) (drawn Space at next 1 single ∷ [])
      → Drew s t nothing_resumed ev p at o u (moved_on (used_up p 1) single) next v
  unfolding widths advance
  drew-space e {next} {looked} {x} w single is room g =
      let c = h.pass.place.0 in
      let after = moved_on (used_up p 1) single in
      let there = space-shown h.pass e w single is (fits_in_lem p.cursor single (omega arith)) (fits_in_lem after.cursor (x.chars.0 * s.glyph.0) (omega arith)) in
      let l = (read-pending t at (one_space next looked) w.space).stands.longer in
      drew_things (drawn Space at next 1 single ∷ []) after next _ there.0 there.1 g (omega arith) (omega arith)

-- ---- where there is no rest

module _ {s : Settings} {p : Place} {t : List ℕ} {at : ℕ} {r : Resumed} {o : Pen} (h : PenReady s p t at r o) (e : r.chars.0 ≡ 0) where
  none-counted : r.count.0 ≡ 0
  none-counted = omega (arith, h.pass.rest.counts)

  pub pen-rest : PenReady s p t at nothing_resumed o
  pen-rest = record { pass = rest-none h.pass e; few = h.few; narrow = h.narrow }

  pub strode_rest : {ev u : List ℕ} {g : Inked} → Strode s t nothing_resumed ev p at o u g → Strode s t r ev p at o u g
  strode_rest {ev} {u} {g} f =
      let on = f.onward in
      let d = on.ready in
      let k = none-counted in
      record {
        onward = record {
          same = (λ i. drawn_on (sheet u g.pen) (drawn_from s g.place t g.at (e i) (k i))) ∙ on.same
              ∙ (λ i. drawn_on (sheet ev o) (drawn_from s p t at (sym e i) (sym k i)));
          ready = record {
            pass = record {
              settings = d.pass.settings;
              place = d.pass.place;
              short = d.pass.short;
              inside = d.pass.inside;
              rest = record { within = omega arith; counts = omega arith; ends = λ n. absurd (n e) };
              small = d.pass.small;
            };
            few = d.few;
            narrow = d.narrow;
          };
          forward = on.forward;
        };
        waits = λ n. ((f.waits n).0, e, k);
      }
