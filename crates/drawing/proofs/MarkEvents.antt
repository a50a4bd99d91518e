-- What is drawn of a soft hyphen that does not show and of the word behind it, and of zero width spaces (rule 8, rule 13).
-- Assumes nothing.
use Prim.Native.Nat.{ℕ, ◌+◌, ◌≤◌, ◌<◌}
use mathlib.Core.Path.{◌≡◌, refl, sym, ap, subst, ◌∙◌}
use mathlib.Core.Bool.{false}
use mathlib.Core.List.{List, [], ◌∷◌, ◌++◌}
use native.Mathlib.Omega.{arith}
use lib.ListN.{take}
use Rattle.basis.specs.Choice.{pick}
use Rattle.meaning.specs.Words.{Drawn, drawn, drawn_word}
use Rattle.meaning.specs.Line.{unmeasured}
use Rattle.meaning.specs.declared.settings.Settings.{Settings}
use Rattle.meaning.specs.declared.cursor.Place.{Place}
use Rattle.meaning.specs.declared.tokens.TokenKind.TheVariants.{Whitespace, Break}
use Rattle.meaning.specs.declared.line.EventKind.TheVariants.{Space}
use Rattle.parser.specs.Lexing.{chars_from}
use Rattle.parser.specs.Scanning.{alone_at, word_of}
use Rattle.parser.specs.MarkLaws.{mark-room}
use Rattle.parser.specs.declared.scan.Scanned.{Scanned}
use Rattle.steps.specs.Unrolled.{nothing_resumed}
use Rattle.steps.specs.declared.step.Stepped.{Stepped}
use Rattle.strides.specs.OnwardLaws.{read-pending}
use Rattle.strides.specs.Marks.{Joining, Zeros}
use Rattle.strides.specs.MarkLaws.{hyphen-read, zero-read, hyphen-goes, hyphen-onward, joined-fits, joined_numbers, zero-goes, zeros_onward}
use Rattle.ink.specs.Sheet.{sheet, drawn_on, widths, on_none}
use Rattle.ink.specs.Stretching.{WordRoom}
use Rattle.ink.specs.declared.pen.Pen.{Pen}
use Rattle.prints.specs.TokenDrawn.{tok_drawn, grown_by, run_drawn, print_drawn}
use Rattle.prints.specs.TokenEvents.{run-drawn, break_drawn}
use Rattle.drawing.specs.Drawn.{drawn_from}
use Rattle.drawing.specs.PassDrawn.{go-drawn}
use Rattle.drawing.specs.DrawingOn.{PenReady, Drew}
use Rattle.drawing.proofs.OnwardEvents.{drew-on, drew_things, drew-letters}

module _ {s : Settings} {p : Place} {t : List ℕ} {at : ℕ} {o : Pen} (h : PenReady s p t at nothing_resumed o) where
  -- ---- zero width spaces

  module _ (e : p.empty ≡ false) (z : Zeros t at) where
    zero-drawn : drawn_from s p t at 0 0 ≡ (drawn Space at (at + 3) 0 0 ∷ []) ++ drawn_from s p t (at + 3) 0 0
    unfolding alone_at run_drawn grown_by pick
    zero-drawn =
        let x = alone_at Whitespace (at + 3) in
        let read = zero-read t at z.0 in
        let y = read-pending t at x read in
        let g = sym (zero-goes s p t unmeasured e at h.pass z.0) in
        let one : tok_drawn s p t at x ≡ drawn Space at (at + 3) 0 0 ∷ [] =
        run-drawn s p t at x unmeasured y.stands refl ∙ ap (λ (k : Stepped). run_drawn t at x (grown_by unmeasured k)) g in
        (go-drawn s p t at 0 0 x unmeasured y p unmeasured _ g).0 ∙ ap (λ (ds : List Drawn). ds ++ drawn_from s p t (at + 3) 0 0) one

    pub zero-put : (o.next ≤ 1000000000) × (o.x.0 + 0 < 4294967296) × (at ≤ 65535) × (at + 3 ≤ 65535)
    zero-put = let r = h.pass in omega (arith, h.few, h.narrow, r.inside, r.short, mark-room t at 3 z.0)

    pub zero-drew : (ev u : List ℕ) (v : Pen) → sheet u v ≡ drawn_on (sheet ev o) (drawn Space at (at + 3) 0 0 ∷ [])
        → Drew s t nothing_resumed ev p at o u p (at + 3) v
    unfolding widths
    zero-drew ev u v g =
        drew_things h ev u v (drawn Space at (at + 3) 0 0 ∷ []) p (at + 3) unmeasured zero-drawn (zeros_onward s p t unmeasured e h.pass z).ready g
        (omega arith) (omega arith)

  -- ---- a soft hyphen and a word

  module _ {w : Scanned} {q : Place} (j : Joining s p t at w q) where
    hyphen-drawn : drawn_from s p t at 0 0 ≡ drawn_from s p t (at + 2) 0 0
    unfolding alone_at print_drawn grown_by pick
    hyphen-drawn =
        let x = alone_at Break (at + 2) in
        let y = read-pending t at x (hyphen-read t at j.hyphen) in
        let g = sym (hyphen-goes h.pass j) in
        let none : tok_drawn s p t at x ≡ [] =
        break_drawn s p t at x unmeasured h.pass.settings.0 refl ∙ ap (λ (k : Stepped). print_drawn at (at + 2) (grown_by unmeasured k)) g in
        (go-drawn s p t at 0 0 x unmeasured y p unmeasured _ g).0 ∙ ap (λ (ds : List Drawn). ds ++ drawn_from s p t (at + 2) 0 0) none

    hyphen-drew : (ev : List ℕ) → Drew s t nothing_resumed ev p at o ev p (at + 2) o
    unfolding widths
    hyphen-drew ev =
        drew_things h ev ev o [] p (at + 2) unmeasured hyphen-drawn (hyphen-onward h.pass j).ready (sym (on_none (sheet ev o))) (omega arith) (omega arith)

    -- The word can be drawn.
    pub joined-room : (ev : List ℕ) → WordRoom t (at + 2) w.chars.0 s.glyph.0 p.spaces o
    joined-room ev =
        let l = (hyphen-drew ev).ready in
        let r = l.pass in
        record {
          short = r.short;
          inside = r.inside;
          many = (joined_numbers h.pass j).3;
          glyph = r.settings.1;
          spaces = r.place.1;
          few = omega (arith, l.few, r.inside, r.short);
          narrow = omega (arith, l.narrow, r.inside, r.short);
        }

    pub joined-drew : (ev u : List ℕ) (v : Pen)
        → sheet u v ≡ drawn_on (sheet ev o) (drawn_word s.glyph.0 p.spaces (at + 2) (take w.chars.0 (chars_from t (at + 2))))
        → Drew s t nothing_resumed ev p at o u q w.end.0 v
    unfolding word_of
    joined-drew ev u v g =
        subst (λ (l : Place). Drew s t nothing_resumed ev p at o u l w.end.0 v) (sym j.place)
        (drew-on (hyphen-drew ev) (drew-letters (hyphen-drew ev).ready ev u v (word_of w) j.word refl (joined-fits h.pass j) g))
