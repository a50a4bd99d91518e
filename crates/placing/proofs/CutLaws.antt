-- A line that begins with a word too wide for it: the word is cut at the same place however the line is placed by its measure.
-- Assumes nothing.
use mathlib.Core.Path.{◌≡◌, refl, sym, ap, subst, ◌∙◌}
use Rattle.std.specs.Prelude.{Some}
use mathlib.Core.Bool.{false}
use mathlib.Core.List.{List}
use Prim.Native.Nat.{ℕ, ◌+◌, ◌-◌, ◌*◌, ◌/◌, ◌≤◌, ◌<◌, min}
use native.Mathlib.Nat.{le-div_iff_mul-le}
use native.Mathlib.Omega.{arith}
use borrow.Author.Tests.{lt-leb}
use lib.ListN.{length, length-append}
use Rattle.meaning.specs.Tokens.{tokens}
use Rattle.meaning.specs.Cursor.{room_of, fits_in}
use Rattle.meaning.specs.SpaceConfig.{spaces_width}
use Rattle.meaning.specs.Alignment.{plain_spaces}
use Rattle.meaning.specs.Line.{unmeasured, start_place}
use Rattle.meaning.specs.declared.tokens.TokenKind.TheVariants.{Word}
use Rattle.meaning.specs.declared.settings.Settings.{Settings}
use Rattle.meaning.specs.declared.cursor.Place.{Place}
use Rattle.meaning.specs.declared.line.LineEnd.TheVariants.{LineBreak}
use Rattle.meaning.specs.declared.line.Measure.{Measure}
use Rattle.meaning.specs.declared.line.Placed.{Placed}
use Rattle.laws.specs.Measuring.{printed_at}
use Rattle.parser.specs.Lexing.{chars_from, lexed_at, part_of}
use Rattle.parser.specs.declared.lexeme.Lexeme.{Lexeme}
use Rattle.parser.specs.declared.part.Part.{Part}
use Rattle.moves.specs.Fine.{FineSpaces}
use Rattle.steps.specs.Unrolled.{nothing_resumed}
use Rattle.placing.specs.Laying.{LineReady, passed_from, plainly, placed_by}
use Rattle.steps.specs.Stopping.{word_measure, ends_before}
use Rattle.placing.specs.Taken.{Taken, front-taken, token_taken}
use Rattle.placing.specs.Quick.{SameEnd, DrawnAlike}
use Rattle.steps.specs.declared.step.Ended.{Ended}
use Rattle.steps.specs.WordLaws.{WordAt, word-at, part_small, word-parts}
use Rattle.strides.specs.OnwardLaws.{read-pending, stops-onward}
use Rattle.strides.specs.WaitLaws.{far-ends}
use Rattle.placing.specs.LayLaws.{start-ready, plain_ready, few-spaces}
use Rattle.placing.specs.FairLaws.{place-fair}
use Rattle.placing.proofs.CountLaws.{plain-width}
use Rattle.placing.proofs.CountingLaws.{most-within, most-over}
use Rattle.placing.proofs.QuickLaws.{same-before}

-- As many glyphs fit from the left of a line that has room for those that fit into the whole of it.
pub room-same : (width glyph left most : ℕ) → 1 ≤ glyph → most ≡ width / glyph → left + most * glyph ≤ width → most ≡ (width - left) / glyph
room-same width glyph left most g is h =
    let fitting = (width - left) / glyph in
    let low : most ≤ fitting = (le-div_iff_mul-le g).1 (omega arith) in
    let whole : fitting * glyph ≤ width - left = (le-div_iff_mul-le g).0 (omega arith) in
    let high : fitting ≤ width / glyph = (le-div_iff_mul-le g).1 (omega arith) in
    omega arith

module _ {s : Settings} {t : List ℕ} {at : ℕ} (h : LineReady s t at nothing_resumed) (x : Lexeme) (e : lexed_at at (tokens (chars_from t at)) ≡ Some x)
    (k : x.kind ≡ Word) {most : ℕ} (is : most ≡ s.width.0 / s.glyph.0) (some : most ≡ 0 → ⊥) (long : most < x.chars.0) {part : Part}
    (parted : part ≡ part_of at most (chars_from t at))
  where
    here : WordAt t at x
    here = word-at t at x (read-pending t at x e).stands k

    pub within : most * s.glyph.0 ≤ s.width.0
    within = most-within s.width.0 s.glyph.0 most most is (omega arith)

    unfit : (p : Place) → p.cursor.width.0 ≡ s.width.0 → fits_in p.cursor (x.chars.0 * s.glyph.0) ≡ false
    unfolding fits_in room_of
    unfit p w =
        lt-leb (x.chars.0 * s.glyph.0) (p.cursor.width.0 - p.cursor.position.0)
        (omega (arith, most-over s.width.0 s.glyph.0 most x.chars.0 h.settings.0 is long))

    -- A pass over such a line.
    cut-passed : (p : Placed) → FineSpaces p.spaces → p.left.0 + most * s.glyph.0 ≤ s.width.0
        → ends_before LineBreak (word_measure s.glyph.0 p.spaces unmeasured most part.glues.0) part.end.0 0 x.reach.0
        ≡ passed_from s t at nothing_resumed p
    unfolding passed_from start_place room_of
    cut-passed p f room =
        let start = start_place s p.left.0 p.spaces in
        let m = word_measure s.glyph.0 p.spaces unmeasured most part.glues.0 in
        let ready = start-ready h p start unmeasured refl refl f (omega arith) in
        let fitting = room-same s.width.0 s.glyph.0 p.left.0 most h.settings.0 is room in
        sym (far-ends LineBreak m part.end.0 0 x.reach.0)
        ∙ stops-onward ready x e _ (word-parts s start t at x unmeasured here (unfit start refl) refl most part m fitting some parted refl)

    -- What it measures.
    plain-measured : word_measure s.glyph.0 (plain_spaces s) unmeasured most part.glues.0 ≡ printed_at (most * s.glyph.0) part.glues.0
    unfolding word_measure spaces_width plain_spaces room_of start_place
    plain-measured =
        let g = part.glues.0 in
        let start = start_place s 0 (plain_spaces s) in
        let few = (part_small s start t at x unmeasured here (unfit start refl) refl most part (omega (arith, h.short, (read-pending t at x e).stands.within))
        (room-same s.width.0 s.glyph.0 0 most h.settings.0 is (omega (arith, within))) parted).1 in
        let a : 0 + (most - g) * s.glyph.0 + (g * s.glyph.0 + min g 0) ≡ most * s.glyph.0 = omega (arith, plain-width 0 most g s.glyph.0 few) in
        let b : 0 + g ≡ g = omega arith in
        λ i. printed_at (a i) (b i)

    pub cut-alike : (m : Measure) (r : Ended) → m ≡ printed_at (most * s.glyph.0) part.glues.0
        → r ≡ ends_before LineBreak m part.end.0 0 x.reach.0 → DrawnAlike s t at r
    unfolding placed_by ends_before
    cut-alike m r a b =
        let fine = plain_ready h (plainly s) _ refl refl in
        let plain : r ≡ ends_before LineBreak (word_measure s.glyph.0 (plain_spaces s) unmeasured most part.glues.0) part.end.0 0 x.reach.0
        = b ∙ ap (λ (n : Measure). ends_before LineBreak n part.end.0 0 x.reach.0) (a ∙ sym plain-measured) in
        let measured : r ≡ passed_from s t at nothing_resumed (plainly s) = plain ∙ cut-passed (plainly s) fine.0 (omega (arith, within)) in
        let n = r.measure.width.0 in
        let wide : n ≡ most * s.glyph.0 = ap (λ (q : Ended). q.measure.width.0) b ∙ ap (λ (k : Measure). k.width.0) a in
        let fair = place-fair s most 0 h.settings r.ended n r.measure.count.0 (few-spaces h (plainly s) r refl measured) (omega arith)
        (omega (arith, wide)) (omega (arith, wide, within)) in
        let p = placed_by s r in
        let d = word_measure s.glyph.0 p.spaces unmeasured most part.glues.0 in
        let same : SameEnd r (ends_before LineBreak d part.end.0 0 x.reach.0)
        = subst (λ (q : Ended). SameEnd q (ends_before LineBreak d part.end.0 0 x.reach.0)) (sym b) (same-before LineBreak m d part.end.0 x.reach.0) in
        record { measured = measured; drawn = subst (SameEnd r) (cut-passed p fair.spaces (omega (arith, fair.within))) same }

    -- It takes the part's characters.
    pub cut-taken : (m : Measure) (r : Ended) → r ≡ ends_before LineBreak m part.end.0 0 x.reach.0 → Taken t at r.next.0 most
    unfolding ends_before part_of
    cut-taken m r b =
        let word = token_taken t at x e in
        let all : x.chars.0 ≤ length (chars_from t at) = rw (word.stretch.are, length-append) (omega (arith, word.count)) in
        front-taken t at most (omega arith) r.next.0 (ap (λ (q : Ended). q.next.0) b ∙ ap (λ (q : Part). q.end.0) parted)
