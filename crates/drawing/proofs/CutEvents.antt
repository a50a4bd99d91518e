-- What a pass draws of a word that is too wide for its line: the characters of it that fit (rule 8, rule 13).
-- Assumes nothing.
use Prim.Native.Nat.{ℕ, ◌-◌, ◌*◌, ◌/◌, ◌≤◌, ◌<◌}
use mathlib.Core.Path.{◌≡◌, refl, sym, ap, ◌∙◌}
use mathlib.Core.Bool.{false}
use mathlib.Core.List.{List, [], ◌∷◌}
use native.Mathlib.Nat.{le-div_iff_mul-le, div-lt_iff_lt-mul, div-le_self}
use native.Mathlib.Omega.{arith}
use borrow.Author.Tests.{lt-leb}
use lib.ListN.{length, take, drop, take-append-drop}
use lib.Seq.{take-take, length-take-le}
use Rattle.meaning.specs.Alignment.{plain_spaces}
use Rattle.meaning.specs.Cursor.{room_of, fits_in}
use Rattle.meaning.specs.Line.{unmeasured, start_place}
use Rattle.meaning.specs.Words.{drawn, glues, drawn_word}
use Rattle.meaning.specs.declared.settings.Settings.{Settings}
use Rattle.meaning.specs.declared.cursor.Place.{Place}
use Rattle.meaning.specs.declared.line.EventKind.TheVariants.{Printed}
use Rattle.laws.specs.Measuring.{glues_append}
use Rattle.parser.specs.Lexing.{chars_from, part_of}
use Rattle.parser.specs.declared.lexeme.Lexeme.{Lexeme}
use Rattle.steps.specs.Unrolled.{nothing_resumed}
use Rattle.steps.specs.Running.{PassReady}
use Rattle.steps.specs.Stopping.{word_measure}
use Rattle.steps.specs.WordLaws as word
use Rattle.strides.specs.OnwardLaws.{read-pending}
use Rattle.ink.specs.Sheet.{Sheet, drawn_on}
use Rattle.prints.specs.PrintEvents.{one_print}
use Rattle.prints.proofs.WordEvents.{word-parts}
use Rattle.drawing.specs.Drawn.{drawn_from}
use Rattle.drawing.specs.PassDrawn.{stop-drawn}
use Rattle.drawing.specs.PlainDrawn.{plain_start}
use Rattle.drawing.specs.CutDrawn.{CutToDraw}

module _ {s : Settings} {t : List ℕ} {at next most gluing left : ℕ} (h : PassReady s (plain_start s left) t at nothing_resumed unmeasured)
    (c : CutToDraw s t at next most gluing left)
  where
    abbrev p : Place
    p = plain_start s left

    abbrev x : Lexeme
    x = c.lexeme

    abbrev cs : List ℕ
    cs = chars_from t at

    -- What fits is no wider than the room.
    pub part-within : most * s.glyph.0 ≤ s.width.0 - left
    part-within = (le-div_iff_mul-le h.settings.0).0 (omega (arith, c.fitting))

    pub part-few : most ≤ s.width.0
    part-few = omega (arith, c.fitting, div-le_self (s.width.0 - left) s.glyph.0)

    here : word.WordAt t at x
    here = word.word-at t at x (read-pending t at x c.read).stands c.word

    unfit : fits_in p.cursor (x.chars.0 * s.glyph.0) ≡ false
    unfolding fits_in room_of start_place
    unfit =
        let more : (s.width.0 - left) / s.glyph.0 < x.chars.0 = omega (arith, c.fitting, c.long) in
        lt-leb (x.chars.0 * s.glyph.0) (s.width.0 - left) ((div-lt_iff_lt-mul h.settings.0).0 more)

    room : most ≡ room_of p.cursor / s.glyph.0
    unfolding room_of start_place
    room = c.fitting

    filled : most ≡ 0 → ⊥
    filled z = omega (arith, c.some)

    pub cut-drawn : (sh : Sheet) → drawn_on sh (drawn_word s.glyph.0 (plain_spaces s) at (take most cs)) ≡ drawn_on sh (drawn_from s p t at 0 0)
    unfolding start_place
    cut-drawn sh =
        let part = part_of at most cs in
        let n = word_measure s.glyph.0 (plain_spaces s) unmeasured most part.glues.0 in
        let stops = word.word-parts s p t at x unmeasured here unfit refl most part n room filled refl refl in
        word-parts sh s p t at x here unfit refl most room filled
        ∙ ap (drawn_on sh) (sym (stop-drawn s p t at 0 0 x unmeasured (read-pending t at x c.read) _ (sym stops)))

    -- Where nothing glues it is one print.
    smooth : gluing ≡ 0 → glues (take most cs) ≡ 0
    smooth z =
        let ws = take x.chars.0 cs in
        let same : take most ws ≡ take most cs = take-take most x.chars.0 cs (omega (arith, c.long)) in
        omega (arith, here.glues, c.few, glues_append (take most ws) (drop most ws), ap glues (take-append-drop most ws), ap glues same)

    pub one-part : gluing ≡ 0 → (sh : Sheet) → drawn_on sh (drawn Printed at next 0 (most * s.glyph.0) ∷ []) ≡ drawn_on sh (drawn_from s p t at 0 0)
    one-part z sh =
        let long : length (take most cs) ≡ most = length-take-le most cs c.ends.all in
        let print : drawn Printed at next 0 (most * s.glyph.0) ∷ [] ≡ drawn_word s.glyph.0 (plain_spaces s) at (take most cs) =
        (λ i. drawn Printed at (c.ends.ends i) 0 (sym long i * s.glyph.0) ∷ []) ∙ sym (one_print s.glyph.0 (plain_spaces s) at (take most cs) (smooth z)) in
        ap (drawn_on sh) print ∙ cut-drawn sh
