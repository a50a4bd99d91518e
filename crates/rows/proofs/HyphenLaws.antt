-- How a pass ends that begins with a soft hyphen, where the word behind it waits and where it is dropped (rule 8).
-- Assumes nothing.
use Prim.Native.Nat.{ℕ, ◌+◌, ◌≤◌, max}
use Rattle.std.specs.Prelude.{None, Option, Some}
use Rattle.steps.specs.declared.step.Ended.{Ended}
use native.Mathlib.Omega.{arith}
use mathlib.Core.Path.{◌≡◌, sym, ap, ◌∙◌}
use mathlib.Core.Bool.{true, false, ◌&&◌}
use mathlib.Core.List.{List}
use borrow.Author.Tests.{eq-eqb, ne_eqb}
use Rattle.meaning.specs.Tokens.{tokens}
use Rattle.meaning.specs.Cursor.{advance, has_moved}
use Rattle.meaning.specs.LineIter.{wrap_on}
use Rattle.meaning.specs.Line.{unmeasured, start_place}
use Rattle.meaning.specs.declared.tokens.TokenKind.TheVariants.{Word}
use Rattle.meaning.specs.declared.settings.Settings.{Settings}
use Rattle.meaning.specs.declared.cursor.LineCursor.{LineCursor}
use Rattle.meaning.specs.declared.cursor.Place.{Place}
use Rattle.meaning.specs.declared.cursor.Spaces.{Spaces}
use Rattle.meaning.specs.declared.line.LineEnd.TheVariants.{LineBreak}
use Rattle.parser.specs.Lexing.{chars_from, lexed_at}
use Rattle.parser.specs.Marks.{Mark}
use Rattle.parser.specs.declared.lexeme.Lexeme.{Lexeme}
use Rattle.steps.specs.Stepping.{ran_from}
use Rattle.steps.specs.Running.{PassReady}
use Rattle.steps.specs.Stopping.{ends_before}
use Rattle.steps.specs.declared.step.Resumed.{Resumed}
use Rattle.strides.specs.LoneHyphens.{Lone, lone_measure, lone-waits, lone_drops, lone_ran}
use Rattle.rows.specs.Hyphened.{Starts, HyphenedIs, Dashes, DashedIs}

-- The cursor leaves its starting place by a glyph.
leaves : (c : LineCursor) (g : ℕ) → 1 ≤ g → c.position.0 ≡ c.start.0 → has_moved (advance c g) ≡ true
unfolding has_moved advance
leaves c g h e = rw (ne_eqb (c.position.0 + g) c.start.0 (λ f. omega arith))

-- Where a pass starts it has not left it.
pub starts-at : (s : Settings) (left : ℕ) (sp : Spaces) (t : List ℕ) (at : ℕ) (r : Resumed) (p : Place) → p ≡ start_place s left sp → PassReady s p t at r unmeasured
    → Starts s p t at r
unfolding start_place
starts-at s left sp t at r p e h =
    record {
      ready = h;
      empty = ap (λ (q : Place). q.empty) e;
      stays = ap (λ (q : Place). q.cursor.position.0) e ∙ sym (ap (λ (q : Place). q.cursor.start.0) e);
    }

-- A rest of no characters is none.
pub resumes_none : (s : Settings) (p : Place) (t : List ℕ) (at : ℕ) (r : Resumed) → PassReady s p t at r unmeasured → r.chars.0 ≡ 0 → (h : Option Ended)
    → DashedIs s p t at h → HyphenedIs s p t at r h
resumes_none s p t at r f e None d = tt
resumes_none s p t at r f e (Some z) d =
    let k : r.count.0 ≡ 0 = omega (arith, f.rest.counts) in
    d ∙ (λ i. ran_from s p t at (sym e i) (sym k i) unmeasured)

module _ {s : Settings} {p : Place} {t : List ℕ} {at : ℕ} (d : Dashes s p t at) (x : Lexeme) (e : lexed_at (at + 2) (tokens (chars_from t (at + 2))) ≡ Some x)
    (k : x.kind ≡ Word) (b : Mark t x.end.0 2)
  where
    abbrev lone : Lone s p t at x
    lone = record { hyphen = d.hyphen; word = e; kind = k; empty = d.starts.empty; shown = d.shown; over = d.over }

    left : has_moved (advance p.cursor s.glyph.0) ≡ true
    left = leaves p.cursor s.glyph.0 d.starts.ready.settings.0 d.starts.stays

    pub waits_ran : s.wrap ≡ 1 → (reach : ℕ) → reach ≡ max x.reach.0 (x.end.0 + 2)
        → ends_before LineBreak (lone_measure d.starts.ready lone) (at + 2) 0 reach ≡ ran_from s p t at 0 0 unmeasured
    waits_ran w reach f =
        let on : wrap_on s && has_moved (advance p.cursor s.glyph.0) ≡ true = rw (eq-eqb s.wrap 1 w, left) in
        lone_ran d.starts.ready lone b (at + 2) 0 reach (lone-waits d.starts.ready lone on) f

    pub drops_ran : (s.wrap ≡ 1 → ⊥) → (reach : ℕ) → reach ≡ max x.reach.0 (x.end.0 + 2)
        → ends_before LineBreak (lone_measure d.starts.ready lone) x.end.0 x.chars.0 reach ≡ ran_from s p t at 0 0 unmeasured
    drops_ran w reach f =
        let off : wrap_on s && has_moved (advance p.cursor s.glyph.0) ≡ false = rw (ne_eqb s.wrap 1 w) in
        lone_ran d.starts.ready lone b x.end.0 x.chars.0 reach (lone_drops d.starts.ready lone off) f
