-- The end of a line of plain words, before the space behind which a word waits.
-- Assumes nothing.
use Prim.Native.Nat.{ℕ, ◌+◌, ◌-◌, ◌*◌, ◌/◌, ◌≤◌, ◌<◌}
use mathlib.Core.Path.{◌≡◌, refl, sym, ap, subst, ◌∙◌}
use mathlib.Core.Bool.{false}
use mathlib.Core.List.{List, [], ◌∷◌}
use native.Mathlib.Nat.{add-mul, one-mul, mul-le-mul_right, lt-div-mul-add}
use native.Mathlib.Omega.{arith}
use borrow.Author.Tests.{lt-leb}
use Rattle.basis.specs.Order.{by_eq}
use Rattle.meaning.specs.Characters.{in_word}
use Rattle.meaning.specs.Cursor.{room_of, fits_in}
use Rattle.meaning.specs.Words.{drawn}
use Rattle.meaning.specs.declared.settings.Settings.{Settings}
use Rattle.meaning.specs.declared.cursor.Place.{Place}
use Rattle.meaning.specs.declared.line.EventKind.TheVariants.{Space}
use Rattle.parser.specs.Lexing.{chars_from}
use Rattle.parser.specs.Scanning.{glue_of, scan_from, word_of}
use Rattle.parser.specs.LetterLaws.{letter-plain}
use Rattle.parser.specs.Ascii.{space-inside}
use Rattle.pairs.specs.Pairs.{PairAt}
use Rattle.pairs.specs.PairLaws.{blank-space, pair_is}
use Rattle.pairs.specs.PlainLaws.{plain-pair}
use Rattle.parser.specs.declared.lexeme.Lexeme.{Lexeme}
use Rattle.strides.specs.Strides.{waiting_at, Waits}
use Rattle.strides.specs.StrideLaws.{fits_in_lem}
use Rattle.strides.specs.declared.going.Waiting.{Waiting}
use Rattle.ink.specs.Sheet.{Sheet, sheet, drawn_on, on_none}
use Rattle.ink.specs.declared.pen.Pen.{Pen}
use Rattle.drawing.specs.Drawn.{drawn_from}
use Rattle.drawing.specs.PassDrawn.{pen_at}
use Rattle.drawing.specs.PlainDrawn.{plain_start, plain_place, PlainToDraw, DrewPlain}
use Rattle.drawing.proofs.StrideEvents.{waits-thin, waits-cut}
use Rattle.drawing.proofs.PlainEvents.{one_plain, columns}

module _ {s : Settings} {t : List ℕ} {at end left : ℕ} (d : PlainToDraw s t at end left) (some : 1 ≤ s.glyph.0) where
  abbrev most : ℕ
  most = s.width.0 / s.glyph.0

  abbrev last : Place
  last = plain_place s left (end - at)

  -- Some word waits behind the last space.
  record Behind : Type 0 where
    waiting : Waiting
    starts : waiting.next.0 ≡ end + 1
    waits : Waits s last t end waiting

  behind-by : (looked : ℕ) (x : Lexeme) → PairAt t end (end + 1) looked x
      → s.width.0 < left + (end - at) * s.glyph.0 + s.glyph.0 + x.chars.0 * s.glyph.0 → Behind
  unfolding plain_place waiting_at
  behind-by looked x pair over =
      record {
        waiting = waiting_at (end + 1) looked x.reach.0;
        starts = refl;
        waits = record { word = x; pair = pair; reach = refl; empty = refl; over = omega (arith, over, one_plain s) };
      }

  -- The words fill the line.
  behind-full : end ≡ at + most → Behind
  behind-full e =
      let g = s.glyph.0 in
      let next = end + 1 + 1 in
      let x = scan_from in_word glue_of next 1 0 (chars_from t next) in
      let n : end - at ≡ most = omega arith in
      behind-by next (word_of x)
      (pair_is t end 1 1 (blank-space t end d.line.words.space) (letter-plain t (end + 1) (d.line.full e).0) x refl)
      (omega (arith, ap (λ (k : ℕ). k * g) n, lt-div-mul-add {a = s.width.0} {b = g} some))

  -- They do not, and the word behind them ends past it.
  behind-longer : end < at + most → Behind
  behind-longer h =
      let g = s.glyph.0 in
      let f = d.line.longer h in
      let far = f.far in
      let w = f.word.letters.forward in
      let m : most + 1 ≤ far - at = omega (arith, f.over) in
      behind-by (end + 1 + 1) _ (plain-pair t end far (record { space = d.line.words.space; word = f.word }))
      (omega (
        arith,
        columns at end far g (omega (arith, d.line.words.forward)) (omega arith),
        mul-le-mul_right g m,
        add-mul most 1 g,
        one-mul g,
        lt-div-mul-add {a = s.width.0} {b = g} some,
      ))

  behind : Behind
  behind = by_eq end (at + most) behind-full (λ n. behind-longer (omega (arith, d.line.few, n)))

  module _ {ev u : List ℕ} {k : ℕ} {v : Pen} (f : DrewPlain s t left at ev (plain_start s left) at (pen_at k left) u end v) where
    abbrev Goal : Sheet → Type 0
    Goal z = z ≡ drawn_on (sheet ev (pen_at k left)) (drawn_from s (plain_start s left) t at 0 0)

    -- The last space does not fit, and is not drawn.
    pub ends-cut : s.width.0 < v.x.0 + s.glyph.0 → Goal (sheet u v)
    unfolding fits_in room_of plain_place
    ends-cut over =
        let b = behind in
        let wide : fits_in last.cursor s.glyph.0 ≡ false = lt-leb s.glyph.0 (s.width.0 - last.cursor.position.0) (omega (arith, f.pen)) in
        sym (on_none (sheet u v))
        ∙ ap (drawn_on (sheet u v)) (sym (waits-cut f.onward.ready.pass b.waiting b.waits s.glyph.0 (one_plain s) wide))
        ∙ f.onward.same

    -- It fits, and has no width.
    pub ends-thin : v.x.0 + s.glyph.0 ≤ s.width.0 → (z : List ℕ) (y : Pen)
        → sheet z y ≡ drawn_on (sheet u v) (drawn Space end (end + 1) 1 0 ∷ []) → Goal (sheet z y)
    unfolding plain_place
    ends-thin room z y e =
        let b = behind in
        let fits = fits_in_lem last.cursor s.glyph.0 (omega (arith, f.pen)) in
        let thin = waits-thin f.onward.ready.pass b.waiting b.waits s.glyph.0 (one_plain s) fits in
        let is : drawn_from s last t end 0 0 ≡ drawn Space end (end + 1) 1 0 ∷ []
        = subst (λ (n : ℕ). drawn_from s last t end 0 0 ≡ drawn Space end n 1 0 ∷ []) b.starts thin in
        e ∙ ap (drawn_on (sheet u v)) (sym is) ∙ f.onward.same

    pub last-put : (v.next ≤ 1000000000) × (v.x.0 + 0 < 4294967296) × (end ≤ 65535) × (end + 1 ≤ 65535)
    last-put =
        let r = f.onward.ready in
        omega (arith, r.few, r.narrow, r.pass.short, space-inside t end d.line.words.space)
