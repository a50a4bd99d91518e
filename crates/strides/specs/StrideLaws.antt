-- A word that a pass takes, and a space and a word that it takes at once.
-- Assumes nothing.
use Rattle.std.specs.Prelude.{◌≡◌, Bool, true, false, List, ℕ, ◌+◌, ◌-◌, ◌*◌, ◌/◌, ◌≤◌, max, Some}
use Rattle.std.proofs.Math.Path.{refl}
use Rattle.std.proofs.Common.{sym, ◌∙◌, arith}
use Rattle.std.proofs.Math.Nat.{mul-le-mul_right, div-mul-le_self, div-le_self}
use borrow.Author.Tests.{le-leb}
use Rattle.meaning.specs.Tokens.{tokens}
use Rattle.meaning.specs.Cursor.{room_of, fits_in, advance}
use Rattle.meaning.specs.SpaceConfig.{spaces_width}
use Rattle.meaning.specs.LineIter.{skips, draws_space, moved_on, used_up}
use Rattle.meaning.specs.Line.{noted}
use Rattle.meaning.specs.declared.settings.Settings.{Settings}
use Rattle.meaning.specs.declared.tokens.TokenKind.TheVariants.{Word}
use Rattle.meaning.specs.declared.cursor.LineCursor.{LineCursor}
use Rattle.meaning.specs.declared.cursor.Place.{Place}
use Rattle.meaning.specs.declared.line.EventKind.TheVariants.{Space}
use Rattle.meaning.specs.declared.line.Measure.{Measure}
use Rattle.parser.specs.Lexing.{chars_from, lexed_at}
use Rattle.pairs.specs.Pairs.{one_space, PairAt}
use Rattle.parser.specs.declared.lexeme.Lexeme.{Lexeme}
use Rattle.steps.specs.Ahead.{look_at}
use Rattle.moves.specs.Fine.{FineCursor}
use Rattle.steps.specs.Lexed.{lexes}
use Rattle.steps.specs.Stepping.{look_of}
use Rattle.steps.specs.Unrolled.{nothing_resumed}
use Rattle.steps.specs.Runs.{whole_answer}
use Rattle.steps.specs.Running.{PassReady}
use Rattle.steps.specs.Stopping.{word_measure, word_place}
use Rattle.pairs.specs.PlainWords.{PlainWord}
use Rattle.strides.specs.Strides.{Onward}
use Rattle.steps.specs.declared.foreseen.Look.{Look}
use Rattle.steps.specs.declared.step.Stepped.TheVariants.{Go}
use Rattle.steps.specs.DrawLaws.{draws-some, whole-drawn}
use Rattle.steps.specs.FitsLaws.{look_zero, look_word}
use Rattle.steps.specs.RunLaws.{space-whole}
use Rattle.steps.specs.WordLaws.{word-at, word-goes}
use Rattle.pairs.specs.PlainLaws.{plain_word, plain-read}
use Rattle.strides.specs.OnwardLaws.{looks_on, looks-over, read-pending, read-ready, goes-onward, onward-on}

-- ---- a word

module _ (c : LineCursor) (room glyph : ℕ) (is : room ≡ room_of c) where
  -- So many characters fit, and no more.
  pub most-small : FineCursor c → room / glyph ≤ 4096
  unfolding room_of
  most-small f = omega (arith, div-le_self room glyph)

  pub most-fits : (n : ℕ) → n ≤ room / glyph → fits_in c (n * glyph) ≡ true
  unfolding fits_in
  most-fits n h = le-leb (n * glyph) (room_of c) (omega (arith, mul-le-mul_right glyph h, div-mul-le_self room glyph))

pub word-onward : {s : Settings} {p : Place} {t : List ℕ} {at : ℕ} {m : Measure} → PassReady s p t at nothing_resumed m → (x : Lexeme)
    → lexed_at at (tokens (chars_from t at)) ≡ Some x → x.kind ≡ Word → fits_in p.cursor (x.chars.0 * s.glyph.0) ≡ true → (q : Place) (n : Measure)
    → q ≡ word_place s.glyph.0 p x.chars.0 x.glues.0 → n ≡ word_measure s.glyph.0 p.spaces m x.chars.0 x.glues.0
    → Onward s p t at nothing_resumed m q x.end.0 n
word-onward {s} {p} {t} {at} {m} r x d k f q n e g =
    let y = word-at t at x (read-pending t at x d).stands k in
    goes-onward r x d q n 0 (word-goes s p t at x m y f q n e g) (omega (arith, looks_on s q t x.end.0 n, y.ends))

pub plain-goes : {s : Settings} {p : Place} {t : List ℕ} {at : ℕ} {m : Measure} → PassReady s p t at nothing_resumed m → (end : ℕ) → PlainWord t at end
    → fits_in p.cursor ((end - at) * s.glyph.0) ≡ true → (q : Place) (n : Measure) → q ≡ word_place s.glyph.0 p (end - at) 0
    → n ≡ word_measure s.glyph.0 p.spaces m (end - at) 0 → Onward s p t at nothing_resumed m q end n
plain-goes {t = t} {at} r end w = word-onward r (plain_word at end) (plain-read t at end w) refl

-- ---- a space before a word

module _ {s : Settings} {p : Place} {t : List ℕ} {at : ℕ} {m : Measure} (r : PassReady s p t at nothing_resumed m) (e : p.empty ≡ false)
    {next looked : ℕ} {x : Lexeme} (w : PairAt t at next looked x)
  where
    pub stays : skips s p ≡ false
    unfolding skips
    stays = rw e

    module _ (wide : ℕ) (is : wide ≡ spaces_width p.spaces 1) (f : fits_in p.cursor wide ≡ true) where
      abbrev pub behind : Place
      behind = moved_on (used_up p 1) wide

      -- What the space learns of the word behind it.
      pub looks-word : (b : Bool) → b ≡ fits_in behind.cursor (x.chars.0 * s.glyph.0)
          → look_at b x.reach.0 ≡ look_of (draws_space s behind next (tokens (chars_from t next)))
      looks-word b g =
          let l = lexes t next x w.word in
          let k : x.reach.0 ≡ max 0 x.reach.0 = omega arith in
          draws-some s behind next _ (look_at b x.reach.0) e
          (look_word t next x l s.glyph.0 behind.cursor behind.spaces 0 x.reach.0 k w.kind b g ∙ look_zero _)

      -- It is taken whatever it learns.
      pub space-goes : (l : Look) (n : Measure) → l.reach.0 ≤ x.reach.0 → Go behind n l.reach ≡ whole_answer s behind t (one_space next looked) wide m
          → Onward s p t at nothing_resumed m behind next n
      space-goes l n far a =
          let y = one_space next looked in
          let b = looks-over s behind t next n x (read-pending t next x w.word) in
          goes-onward r y w.space behind n l.reach.0
          (a ∙ space-whole (read-ready r y w.space) refl wide is stays f (used_up p 1) behind refl refl) (omega (arith, w.farther))

      space-drawn : fits_in behind.cursor (x.chars.0 * s.glyph.0) ≡ true
          → Onward s p t at nothing_resumed m behind next (noted Space (m.pen.0 + wide) (m.spaces.0 + 1) m)
      space-drawn g =
          let n = noted Space (m.pen.0 + wide) (m.spaces.0 + 1) m in
          let y = one_space next looked in
          let far = look_at true x.reach.0 in
          space-goes far n (omega arith) (whole-drawn s behind t y wide m far (looks-word true (sym g)) n refl refl)

-- ---- both

pub fits_in_lem : (c : LineCursor) (w : ℕ) → w ≤ c.width.0 - c.position.0 → fits_in c w ≡ true
unfolding fits_in room_of
fits_in_lem c w h = le-leb w _ h

module _ {s : Settings} {p : Place} {t : List ℕ} {at : ℕ} {m : Measure} (r : PassReady s p t at nothing_resumed m) (e : p.empty ≡ false) where
  -- One space and a word take so much, and no more than there is room.
  pub pair_goes : {next looked : ℕ} {x : Lexeme} → PairAt t at next looked x
      → let single = spaces_width p.spaces 1 in
      let after = moved_on (used_up p 1) single in
      single + x.chars.0 * s.glyph.0 ≤ p.cursor.width.0 - p.cursor.position.0 → (q : Place) (n : Measure)
      → q ≡ word_place s.glyph.0 after x.chars.0 x.glues.0
      → n ≡ word_measure s.glyph.0 after.spaces (noted Space (m.pen.0 + single) (m.spaces.0 + 1) m) x.chars.0 x.glues.0
      → Onward s p t at nothing_resumed m q x.end.0 n
  unfolding advance
  pair_goes {x = x} w h q n a b =
      let single = spaces_width p.spaces 1 in
      let c = r.place.0.0 in
      let fits = fits_in_lem (moved_on (used_up p 1) single).cursor (x.chars.0 * s.glyph.0) (omega arith) in
      let there = space-drawn r e w single refl (fits_in_lem p.cursor single (omega arith)) fits in
      onward-on there (word-onward there.ready x w.word w.kind fits q n a b)
