-- A line that ends where a space and a word do not both fit.
-- Assumes nothing.
use Rattle.std.specs.Prelude.{◌≡◌, true, false, List, ℕ, ◌+◌, ◌-◌, ◌*◌, ◌/◌, ◌<◌, max, take}
use Rattle.std.proofs.Math.Path.{refl, sym, ap}
use Rattle.std.proofs.Common.{◌∙◌, div-one, div-lt_iff_lt-mul}
use native.Mathlib.Omega.{arith}
use borrow.Author.Tests.{lt-leb, leb-false}
use Rattle.utf8.specs.Encoding.{size}
use Rattle.meaning.specs.Cursor.{room_of, fits_in, advance}
use Rattle.meaning.specs.SpaceConfig.{spaces_width}
use Rattle.meaning.specs.Line.{noted}
use Rattle.meaning.specs.declared.settings.Settings.{Settings}
use Rattle.meaning.specs.declared.cursor.Place.{Place}
use Rattle.meaning.specs.declared.line.EventKind.TheVariants.{Space}
use Rattle.meaning.specs.declared.line.LineEnd.{LineEnd}
use Rattle.meaning.specs.declared.line.LineEnd.TheVariants.{LineBreak}
use Rattle.meaning.specs.declared.line.Measure.{Measure}
use Rattle.parser.specs.Lexing.{chars_from, part_of}
use Rattle.pairs.specs.Pairs.{one_space}
use Rattle.steps.specs.Ahead.{look_at}
use Rattle.moves.specs.FineLaws.{fits-room}
use Rattle.steps.specs.Stepping.{ran_from}
use Rattle.steps.specs.Unrolled.{farther, nothing_resumed}
use Rattle.steps.specs.Runs.{CutRun, cut_answer}
use Rattle.steps.specs.Running.{PassReady}
use Rattle.steps.specs.Stopping.{ends_before}
use Rattle.strides.specs.Strides.{Onward, Waits}
use Rattle.strides.specs.declared.going.Waiting.{Waiting}
use Rattle.steps.specs.declared.step.Stepped.TheVariants.{Stop}
use Rattle.steps.specs.DrawLaws.{whole-hidden}
use Rattle.steps.specs.RunLaws.{none_left_lem, shown-none, run_end, cut-answer, space-cut}
use Rattle.steps.specs.WordLaws.{word-at, word-waits}
use Rattle.strides.specs.OnwardLaws.{read-pending, read-ready, stops-onward}
use Rattle.strides.specs.StrideLaws.{stays, behind, looks-word, space-goes}

-- It has looked as far as that and no farther.
pub far-ends : (e : LineEnd) (m : Measure) (next dropped reach : ℕ) → farther reach (ends_before e m next dropped 0) ≡ ends_before e m next dropped reach
unfolding farther ends_before
far-ends e m next dropped reach = let z : max reach 0 ≡ reach = omega arith in rw z

module _ {s : Settings} {p : Place} {t : List ℕ} {at : ℕ} {m : Measure} (r : PassReady s p t at nothing_resumed m) (v : Waiting) (w : Waits s p t at v) (wide : ℕ) (is : wide ≡ spaces_width p.spaces 1) where
  -- ---- the space fits

  module _ (f : fits_in p.cursor wide ≡ true) where
    abbrev after : Place
    after = behind r w.empty w.pair wide is f

    pub over-full : fits_in after.cursor (w.word.chars.0 * s.glyph.0) ≡ false
    unfolding fits_in room_of advance
    over-full =
        lt-leb (w.word.chars.0 * s.glyph.0) (p.cursor.width.0 - (p.cursor.position.0 + wide)) (omega (arith, w.over, fits-room p.cursor wide f))

    word-left : (n : Measure) → Onward s p t at nothing_resumed m after v.next.0 n → ends_before LineBreak n v.next.0 0 v.reach.0 ≡ ran_from s p t at 0 0 m
    word-left n there =
        let next = v.next.0 in
        let x = w.word in
        let y = word-at t next x (read-pending t next x w.pair.word).stands w.pair.kind in
        ap (ends_before LineBreak n next 0) (sym w.reach)
        ∙ sym (far-ends LineBreak n next 0 x.reach.0)
        ∙ stops-onward there.ready x w.pair.word _ (word-waits s after t next x n y over-full w.empty)
        ∙ there.same

    pub waits-thin : (n : Measure) → n ≡ noted Space (m.pen.0 + 0) (m.spaces.0 + 1) m
        → ends_before LineBreak n v.next.0 0 v.reach.0 ≡ ran_from s p t at 0 0 m
    waits-thin n g =
        let l = look_at false w.word.reach.0 in
        let y = one_space v.next.0 v.looked.0 in
        word-left n
        (space-goes r w.empty w.pair wide is f l n (omega arith)
        (whole-hidden s after t y wide m l (looks-word r w.empty w.pair wide is f false (sym over-full)) n g refl))

  -- ---- the space does not

  pub waits-cut : fits_in p.cursor wide ≡ false → ends_before LineBreak m v.next.0 0 v.looked.0 ≡ ran_from s p t at 0 0 m
  unfolding fits_in room_of ends_before part_of
  waits-cut f =
      let next = v.next.0 in
      let looked = v.looked.0 in
      let x = one_space next looked in
      let y = read-ready r x w.pair.space in
      let room = p.cursor.width.0 - p.cursor.position.0 in
      let cut : CutRun s p t at x wide m = record { ready = y; kind = refl; wide = is; over = f } in
      let less : room < 1 * (wide / 1) = rw (div-one wide) (omega (arith, leb-false wide room f)) in
      let some : 0 < wide / 1 = omega arith in
      let none : room / (wide / 1) ≡ 0 = omega (arith, (div-lt_iff_lt-mul some).1 less) in
      let from : next ≡ at + size (take 1 (chars_from t at)) = run_end t at x refl y.stands in
      let ends : Stop (ends_before LineBreak m (at + size (take 1 (chars_from t at))) 0 0) ≡ cut_answer s p t at x wide m
      = cut-answer cut room 1 m (part_of at 1 (chars_from t at)) nothing_resumed refl (omega arith) (sym (shown-none m _ none)) refl (none_left_lem next 1 1 1 (omega arith)) in
      sym (far-ends LineBreak m next 0 looked)
      ∙ ap (λ (k : ℕ). farther looked (ends_before LineBreak m k 0 0)) from
      ∙ stops-onward r x w.pair.space _ (ends ∙ space-cut y refl wide is (stays r w.empty w.pair) f)
