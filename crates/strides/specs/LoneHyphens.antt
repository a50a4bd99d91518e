-- A soft hyphen at the front of a line that has room for its "-" and for no character more: the word behind it ends the line (rule 8).
-- Assumes nothing.
use Prim.Native.Nat.{ℕ, ◌+◌, ◌-◌, ◌*◌, ◌/◌, ◌≤◌, ◌<◌, max}
use Rattle.std.proofs.Common.{div-lt_iff_lt-mul, sym, ◌∙◌}
use native.Mathlib.Omega.{arith}
use Rattle.std.specs.Prelude.{◌≡◌, true, false, ◌&&◌, ◌||◌, not, length, None, Option, Some}
use Rattle.std.proofs.Math.Path.{refl, ap}
use mathlib.Core.List.{List, [], ◌∷◌}
use borrow.Author.Tests.{le-leb, lt-leb}
use Rattle.basis.specs.Choice.{pick}
use Rattle.meaning.specs.Tokens.{Tok, newLine, carriageReturn, tab, softHyphen, space, word, tokens, size_of, need_of}
use Rattle.meaning.specs.Cursor.{room_of, fits_in, advance, has_moved}
use Rattle.meaning.specs.Lookahead.{Ahead, added, next_width}
use Rattle.meaning.specs.LineIter.{hyphenated, moved_on, wrap_on}
use Rattle.meaning.specs.Line.{measured, noted, held_tokens}
use Rattle.meaning.specs.declared.tokens.TokenKind.TheVariants.{Word, Break}
use Rattle.meaning.specs.declared.settings.Settings.{Settings}
use Rattle.meaning.specs.declared.cursor.Place.{Place}
use Rattle.meaning.specs.declared.counts.Pixels.{Pixels}
use Rattle.meaning.specs.declared.line.EventKind.TheVariants.{Printed}
use Rattle.meaning.specs.declared.line.LineEnd.TheVariants.{LineBreak}
use Rattle.meaning.specs.declared.line.Measure.{Measure}
use Rattle.parser.specs.Lexing.{chars_from, lexed_at}
use Rattle.parser.specs.Scanning.{alone_at}
use Rattle.parser.specs.Marks.{Mark}
use Rattle.parser.specs.declared.lexeme.Lexeme.{Lexeme}
use Rattle.moves.specs.FineLaws.{times_bound}
use Rattle.steps.specs.Stepping.{ahead_of, stepped_at, ran_from}
use Rattle.steps.specs.Unrolled.{farther, farther-near, nothing_resumed}
use Rattle.steps.specs.Ready.{step_from}
use Rattle.steps.specs.Running.{PassReady, none-fits, step_keeps, pass-goes}
use Rattle.steps.specs.Stopping.{ends_before}
use Rattle.steps.specs.WordLaws.{word_at, WordAt, word-at, moved-waits, word_drops}
use Rattle.steps.specs.BreakLaws.{tok_break, break_shows}
use Rattle.steps.specs.declared.step.Stepped.TheVariants.{Go, Stop}
use Rattle.strides.specs.OnwardLaws.{read-pending, stops-onward}
use Rattle.strides.specs.MarkLaws.{hyphen-read, hyphen-first, look_join}

-- A soft hyphen before a word, in such a line.
pub record Lone (s : Settings) (p : Place) (t : List ℕ) (at : ℕ) (x : Lexeme) : Type 0 where
  pub hyphen : Mark t at 2
  pub word : lexed_at (at + 2) (tokens (chars_from t (at + 2))) ≡ Some x
  pub kind : x.kind ≡ Word
  pub empty : p.empty ≡ true
  pub shown : s.glyph.0 ≤ room_of p.cursor
  pub over : room_of p.cursor < s.glyph.0 + s.glyph.0

-- ---- a word is seen ahead

pub record Told (w : Option Pixels) : Type 0 where
  pub pixels : Pixels
  pub is : w ≡ Some pixels

-- A width that is seen stays seen.
stays-told : (g : ℕ) (v : Pixels) (at : ℕ) (ts : List Tok) → Told (next_width g (Some v) at ts).width
unfolding next_width added
stays-told g v at [] = record { pixels = v; is = refl }
stays-told g v at (newLine ∷ ts) = record { pixels = v; is = refl }
stays-told g v at (carriageReturn ∷ ts) = record { pixels = v; is = refl }
stays-told g v at (tab ∷ ts) = record { pixels = v; is = refl }
stays-told g v at (space cs n e ∷ ts) = record { pixels = v; is = refl }
stays-told g v at (softHyphen ∷ ts) = record { pixels = _; is = refl }
stays-told g v at (word cs e ∷ ts) = stays-told g (record { 0 = v.0 + length cs * g }) _ ts

word-told : (g at : ℕ) (cs : List ℕ) (e : ℕ) (ts : List Tok) → Told (next_width g None at (word cs e ∷ ts)).width
unfolding next_width added
word-told g at cs e ts = stays-told g _ _ ts

module _ {s : Settings} {p : Place} {t : List ℕ} {at : ℕ} {x : Lexeme} {m : Measure} (r : PassReady s p t at nothing_resumed m) (l : Lone s p t at x) where
  abbrev pub lone_place : Place
  lone_place = moved_on p s.glyph.0

  abbrev pub lone_measure : Measure
  lone_measure = noted Printed (m.pen.0 + s.glyph.0) (m.spaces.0 + 0) m

  abbrev Seen : Ahead
  Seen = next_width s.glyph.0 None (at + 2) (tokens (chars_from t (at + 2)))

  word-is : WordAt t (at + 2) x
  word-is = word-at t (at + 2) x (read-pending t (at + 2) x l.word).stands l.kind

  behind : tokens (chars_from t (at + 2)) ≡ word (word_at t (at + 2) x) (x.reach.0 - x.end.0) ∷ tokens (chars_from t x.end.0)
  unfolding held_tokens
  behind = (read-pending t (at + 2) x l.word).first ∙ ap (λ (u : Tok). u ∷ tokens (chars_from t x.end.0)) word-is.tok

  told : Told Seen.width
  told = rw behind (word-told s.glyph.0 (at + 2) _ _ _)

  -- ---- the "-"

  prints : (k : ℕ) → Go lone_place lone_measure (record { 0 = k }) ≡ stepped_at m at softHyphen (hyphenated s p at k)
  unfolding hyphenated stepped_at measured fits_in pick
  prints k = rw (le-leb s.glyph.0 (room_of p.cursor) l.shown, l.empty)

  shows : (w : ℕ) → p.empty || not (fits_in p.cursor w) ≡ true
  shows w = rw l.empty

  pub lone-goes : Go lone_place lone_measure (record { 0 = Seen.reach }) ≡ step_from s p t at (alone_at Break (at + 2)) m
  unfolding alone_at
  lone-goes =
      prints Seen.reach
      ∙ break_shows s p t at (alone_at Break (at + 2)) m (read-pending t at _ (hyphen-read t at l.hyphen)).stands refl (ahead_of Seen) refl told.pixels
      told.is (shows told.pixels.0)

  pub lone-ready : PassReady s lone_place t (at + 2) nothing_resumed lone_measure
  unfolding alone_at
  lone-ready =
      let y = read-pending t at _ (hyphen-read t at l.hyphen) in
      let fine = step_keeps s p t at 0 0 (alone_at Break (at + 2)) m r.settings r.place r.small y lone_place lone_measure _ (sym lone-goes) in
      record {
        settings = r.settings;
        place = fine.0;
        short = r.short;
        inside = y.stands.within;
        rest = none-fits t (at + 2) nothing_resumed refl;
        small = fine.1;
      }

  -- ---- the word

  some : s.glyph.0 ≤ x.chars.0 * s.glyph.0
  some =
      let sound = rw word-is.tok at (read-pending t (at + 2) x l.word).stands.sound in
      omega (arith, times_bound {n = x.chars.0} {m = s.glyph.0} 1 s.glyph.0 (omega (arith, sound.0, word-is.chars)) (omega arith))

  pub lone-over : fits_in lone_place.cursor (x.chars.0 * s.glyph.0) ≡ false
  unfolding fits_in room_of advance
  lone-over =
      lt-leb (x.chars.0 * s.glyph.0) (p.cursor.width.0 - (p.cursor.position.0 + s.glyph.0)) (omega (arith, some, l.over, l.shown, r.settings.0))

  pub lone-none : room_of lone_place.cursor / s.glyph.0 ≡ 0
  unfolding room_of advance
  lone-none =
      let room = p.cursor.width.0 - (p.cursor.position.0 + s.glyph.0) in
      let less : room < 1 * s.glyph.0 = omega (arith, l.over, l.shown, r.settings.0) in
      let low : room / s.glyph.0 < 1 = (div-lt_iff_lt-mul r.settings.0).1 less in
      omega arith

  pub lone-waits : wrap_on s && has_moved lone_place.cursor ≡ true
      → Stop (ends_before LineBreak lone_measure (at + 2) 0 0) ≡ step_from s lone_place t (at + 2) x lone_measure
  lone-waits h = moved-waits s lone_place t (at + 2) x lone_measure word-is lone-over l.empty lone-none h

  pub lone_drops : wrap_on s && has_moved lone_place.cursor ≡ false
      → Stop (ends_before LineBreak lone_measure x.end.0 x.chars.0 0) ≡ step_from s lone_place t (at + 2) x lone_measure
  lone_drops h = word_drops s lone_place t (at + 2) x lone_measure word-is lone-over l.empty lone-none h

  -- ---- how far is looked, where a soft hyphen ends the word too

  module _ (b : Mark t x.end.0 2) where
    abbrev Far : ℕ
    Far = max x.reach.0 (x.end.0 + 2)

    seen-far : Seen.reach ≡ Far
    unfolding alone_at
    seen-far =
        let cs = word_at t (at + 2) x in
        let e = x.reach.0 - x.end.0 in
        let pw = read-pending t (at + 2) x l.word in
        let pz = read-pending t x.end.0 _ (hyphen-read t x.end.0 b) in
        let need : x.reach.0 ≡ at + 2 + need_of (word cs e) = pw.reach ∙ ap (λ (u : Tok). at + 2 + need_of u) word-is.tok in
        let size : x.end.0 ≡ at + 2 + size_of (word cs e) = pw.end ∙ ap (λ (u : Tok). at + 2 + size_of u) word-is.tok in
        let last : x.end.0 + 2 ≡ x.end.0 + need_of softHyphen = pz.reach ∙ ap (λ (u : Tok). x.end.0 + need_of u) (tok_break t x.end.0 _ refl) in
        let all = behind ∙ ap (λ (ts : List Tok). word cs e ∷ ts) (hyphen-first t x.end.0 b) in
        ap (λ (a : Ahead). a.reach) (ap (next_width s.glyph.0 None (at + 2)) all ∙ look_join s.glyph.0 (at + 2) cs e _)
        ∙ omega (arith, need, size, last)

    looked : (next dropped k j reach : ℕ) → reach ≡ max k j
        → ends_before LineBreak lone_measure next dropped reach ≡ farther k (farther j (ends_before LineBreak lone_measure next dropped 0))
    unfolding farther ends_before
    looked next dropped k j reach e = let f : reach ≡ max k (max j 0) = omega arith in rw f

    pub lone_ran : (next dropped reach : ℕ) → Stop (ends_before LineBreak lone_measure next dropped 0) ≡ step_from s lone_place t (at + 2) x lone_measure
        → reach ≡ Far → ends_before LineBreak lone_measure next dropped reach ≡ ran_from s p t at 0 0 m
    unfolding alone_at
    lone_ran next dropped reach g e =
        let y = read-pending t at _ (hyphen-read t at l.hyphen) in
        let far = max 0 (max (at + 2) Seen.reach) in
        let low = (read-pending t (at + 2) x l.word).stands.longer in
        looked next dropped far x.reach.0 reach (omega (arith, seen-far))
        ∙ ap (farther far) (stops-onward lone-ready x l.word _ g)
        ∙ pass-goes s p t at 0 0 m 0 (alone_at Break (at + 2)) y lone_place lone_measure _ (sym lone-goes) far refl nothing_resumed refl
        ∙ farther-near 0 (ran_from s p t at 0 0 m) (omega arith)
