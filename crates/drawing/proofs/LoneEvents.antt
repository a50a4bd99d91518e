-- What is drawn of a line that is a "-" alone (rule 8, rule 13).
-- Assumes nothing.
use Prim.Native.Nat.{ℕ, ◌+◌, ◌-◌, ◌*◌, ◌/◌, ◌≤◌}
use mathlib.Core.Path.{◌≡◌, refl, sym, ap, ◌∙◌}
use mathlib.Core.Bool.{true, false, ◌&&◌}
use mathlib.Core.List.{List, [], ◌∷◌, ◌++◌}
use native.Mathlib.Omega.{arith}
use borrow.Author.Tests.{eq-eqb, ne_eqb}
use Rattle.basis.specs.Choice.{pick, pick_cases, by_test}
use Rattle.meaning.specs.Cursor.{room_of, fits_in, has_moved}
use Rattle.meaning.specs.Words.{drawn}
use Rattle.meaning.specs.LineIter.{Step, wrap_on, unfit_word, cut_word, on_word, step}
use Rattle.meaning.specs.Line.{unmeasured}
use Rattle.meaning.specs.declared.settings.Settings.{Settings}
use Rattle.meaning.specs.declared.cursor.Place.{Place}
use Rattle.meaning.specs.declared.tokens.TokenKind.TheVariants.{Break}
use Rattle.meaning.specs.declared.line.EventKind.TheVariants.{Printed}
use Rattle.parser.specs.Scanning.{alone_at}
use Rattle.parser.specs.MarkLaws.{mark-room}
use Rattle.parser.specs.declared.lexeme.Lexeme.{Lexeme}
use Rattle.steps.specs.Running.{PassReady}
use Rattle.steps.specs.Unrolled.{nothing_resumed}
use Rattle.steps.specs.WordLaws.{WordAt, word-at}
use Rattle.steps.specs.declared.step.Resumed.{Resumed}
use Rattle.steps.specs.declared.step.Stepped.{Stepped}
use Rattle.strides.specs.OnwardLaws.{read-pending}
use Rattle.strides.specs.GoesLaws.{rest-none}
use Rattle.strides.specs.MarkLaws.{hyphen-read}
use Rattle.strides.specs.LoneHyphens.{Lone, lone_place, lone_measure, lone-goes, lone-over, lone-none, lone-waits, lone_drops}
use Rattle.prints.specs.TokenDrawn.{drawn_of, tok_drawn, grown_by, print_drawn}
use Rattle.prints.specs.TokenEvents.{break_drawn}
use Rattle.drawing.specs.Drawn.{drawn_from}
use Rattle.drawing.specs.PassDrawn.{go-drawn, stop-drawn}
use Rattle.drawing.specs.LoneLines.{LoneLine}

-- Of a word of which no character fits nothing is drawn, be it dropped or not.
unfit-none : (s : Settings) (p : Place) (t : List ℕ) (at : ℕ) (x : Lexeme) → WordAt t at x → fits_in p.cursor (x.chars.0 * s.glyph.0) ≡ false → p.empty ≡ true
    → room_of p.cursor / s.glyph.0 ≡ 0 → tok_drawn s p t at x ≡ []
unfolding tok_drawn step on_word cut_word unfit_word pick
unfit-none s p t at x w e f z =
    rw (w.tok, ← w.chars, e, f, eq-eqb (room_of p.cursor / s.glyph.0) 0 z)
    (pick_cases (λ (y : Step). drawn_of y ≡ []) (wrap_on s && has_moved p.cursor) (λ _. refl) (λ _. refl))

module _ {s : Settings} {p : Place} {t : List ℕ} {at : ℕ} {x : Lexeme} (r : PassReady s p t at nothing_resumed unmeasured) (l : Lone s p t at x) where
  -- Behind the "-".
  word_none : drawn_from s (lone_place r l) t (at + 2) 0 0 ≡ []
  word_none =
      let y = read-pending t (at + 2) x l.word in
      let none = unfit-none s (lone_place r l) t (at + 2) x (word-at t (at + 2) x y.stands l.kind) (lone-over r l) l.empty (lone-none r l) in
      by_test (wrap_on s && has_moved (lone_place r l).cursor)
      (λ h. stop-drawn s (lone_place r l) t (at + 2) 0 0 x (lone_measure r l) y _ (sym (lone-waits r l h)) ∙ none)
      (λ h. stop-drawn s (lone_place r l) t (at + 2) 0 0 x (lone_measure r l) y _ (sym (lone_drops r l h)) ∙ none)

  dash_drawn : tok_drawn s p t at (alone_at Break (at + 2)) ≡ drawn Printed at (at + 2) 0 s.glyph.0 ∷ []
  unfolding alone_at print_drawn grown_by pick
  dash_drawn =
      let wide : 0 + s.glyph.0 - 0 ≡ s.glyph.0 = omega arith in
      break_drawn s p t at (alone_at Break (at + 2)) unmeasured r.settings.0 refl
      ∙ ap (λ (k : Stepped). print_drawn at (at + 2) (grown_by unmeasured k)) (sym (lone-goes r l))
      ∙ rw (wide, ne_eqb s.glyph.0 0 (λ e. omega (arith, r.settings.0)))

  all-drawn : drawn_from s p t at 0 0 ≡ drawn Printed at (at + 2) 0 s.glyph.0 ∷ []
  unfolding alone_at
  all-drawn =
      let y = read-pending t at _ (hyphen-read t at l.hyphen) in
      (go-drawn s p t at 0 0 (alone_at Break (at + 2)) unmeasured y (lone_place r l) (lone_measure r l) _ (sym (lone-goes r l))).0
      ∙ (λ i. dash_drawn i ++ word_none i)

module _ {s : Settings} {p : Place} {t : List ℕ} {at : ℕ} {r : Resumed} (h : PassReady s p t at r unmeasured) (l : LoneLine s p t at r) where
  pub lone-drawn : drawn_from s p t at r.chars.0 r.count.0 ≡ drawn Printed at (at + 2) 0 s.glyph.0 ∷ []
  lone-drawn =
      let k : r.count.0 ≡ 0 = omega (arith, h.rest.counts, l.none) in
      (λ i. drawn_from s p t at (l.none i) (k i)) ∙ all-drawn (rest-none h l.none) l.lone

  pub lone-inside : at + 2 ≤ 65535
  lone-inside = omega (arith, mark-room t at 2 l.lone.hyphen, h.short)
