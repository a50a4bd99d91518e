-- One space and the word behind it, drawn one after the other as they were taken.
-- Assumes nothing.
use Prim.Native.Nat.{ℕ, ◌+◌, ◌*◌, ◌≤◌, ◌<◌}
use Rattle.std.specs.Prelude.{Some}
use mathlib.Core.Path.{◌≡◌, refl, sym, subst}
use mathlib.Core.Bool.{false}
use mathlib.Core.List.{List, [], ◌∷◌}
use native.Mathlib.Omega.{arith}
use lib.ListN.{length, take}
use Rattle.meaning.specs.Tokens.{tokens}
use Rattle.meaning.specs.Cursor.{placed_at, advance}
use Rattle.meaning.specs.SpaceConfig.{spaces_width, spaces_after}
use Rattle.meaning.specs.Words.{drawn, drawn_word}
use Rattle.meaning.specs.LineIter.{moved_on, used_up}
use Rattle.meaning.specs.declared.settings.Settings.{Settings}
use Rattle.meaning.specs.declared.cursor.Spaces.{Spaces}
use Rattle.meaning.specs.declared.cursor.Place.{Place}
use Rattle.meaning.specs.declared.line.EventKind.TheVariants.{Space, Printed}
use Rattle.parser.specs.Lexing.{chars_from, lexed_at}
use Rattle.parser.specs.Scanning.{word_of}
use Rattle.parser.specs.declared.scan.Scanned.{Scanned}
use Rattle.steps.specs.Ready.{Standing}
use Rattle.steps.specs.Unrolled.{nothing_resumed}
use Rattle.steps.specs.Stopping.{word_place}
use Rattle.steps.specs.WordLaws.{word-at}
use Rattle.strides.specs.Next.{both_wide, taken_of, Taking}
use Rattle.strides.specs.declared.next.Taken.{Taken}
use Rattle.strides.specs.OnwardLaws.{read-pending}
use Rattle.strides.specs.StrideLaws.{fits_in_lem}
use Rattle.strides.specs.NextLaws.{pair-numbers}
use Rattle.ink.specs.Sheet.{sheet, drawn_on}
use Rattle.ink.specs.Stretching.{WordRoom}
use Rattle.drawing.specs.DrawingOn.{PenReady, Drew}
use Rattle.ink.specs.declared.pen.Pen.{Pen}
use Rattle.drawing.proofs.StrideEvents.{one_word}
use Rattle.drawing.proofs.OnwardEvents.{drew-on, drew-letters, drew-space}

-- ---- the word

module _ (t : List ℕ) (from : ℕ) (w : Scanned) (d : lexed_at from (tokens (chars_from t from)) ≡ Some (word_of w)) where
  abbrev stands : Standing t from (word_of w)
  stands = (read-pending t from (word_of w) d).stands

  pub scanned_inside : w.end.0 ≤ length t
  unfolding word_of
  scanned_inside = stands.within

  -- Nothing in it glues.
  pub scanned_print : (g : ℕ) (sp : Spaces) → w.weight.0 ≡ 0
      → drawn Printed from w.end.0 0 (w.chars.0 * g) ∷ [] ≡ drawn_word g sp from (take w.chars.0 (chars_from t from))
  unfolding word_of
  scanned_print g sp e = sym (one_word t from (word_of w) (word-at t from (word_of w) stands refl) g sp e)

-- ---- both

module _ {s : Settings} {p : Place} {t : List ℕ} {at : ℕ} {o : Pen} (h : PenReady s p t at nothing_resumed o) {x : Taken} (k : Taking s p t at x) where
  -- The space can be put.
  pub taken-put : (o.next ≤ 1000000000) × (o.x.0 + x.space.0 < 4294967296) × (at ≤ 65535) × (x.from.0 ≤ 65535)
  unfolding spaces_width
  taken-put =
      let r = h.pass in
      let n = pair-numbers r k.pair k.read in
      subst (λ (z : Taken). (o.next ≤ 1000000000) × (o.x.0 + z.space.0 < 4294967296) × (at ≤ 65535) × (z.from.0 ≤ 65535)) (sym k.is)
      (omega (arith, h.few, h.narrow, r.inside, r.short, r.place.1, n))

  pub taken_word : lexed_at x.from.0 (tokens (chars_from t x.from.0)) ≡ Some (word_of x.word)
  taken_word = subst (λ (z : Taken). lexed_at z.from.0 (tokens (chars_from t z.from.0)) ≡ Some (word_of z.word)) (sym k.is) k.read.word

  module _ (ev u : List ℕ) (v : Pen) where
    abbrev Spaced : Taken → Type 0
    Spaced z = sheet u v ≡ drawn_on (sheet ev o) (drawn Space at z.from.0 1 z.space.0 ∷ [])

    abbrev after : Place
    after = moved_on (used_up p 1) (spaces_width p.spaces 1)

    spaced : Spaced (taken_of s p k.pair) → Drew s t nothing_resumed ev p at o u after k.pair.from.0 v
    unfolding word_of
    spaced g = drew-space h ev u v k.empty k.read (spaces_width p.spaces 1) refl k.fits g

    -- The word can be drawn.
    pub taken-room : Spaced x → WordRoom t x.from.0 x.word.chars.0 s.glyph.0 x.left v
    taken-room =
        subst (λ (z : Taken). Spaced z → WordRoom t z.from.0 z.word.chars.0 s.glyph.0 z.left v) (sym k.is)
        (λ g.
        let l = (spaced g).ready in
        let r = l.pass in
        record {
          short = r.short;
          inside = r.inside;
          many = (pair-numbers h.pass k.pair k.read).4;
          glyph = r.settings.1;
          spaces = r.place.1;
          few = omega (arith, l.few, r.inside, r.short);
          narrow = omega (arith, l.narrow, r.inside, r.short);
        })

    -- When it is drawn too, both are.
    pub taken-drew : Spaced x → (z : List ℕ) (y : Pen)
        → sheet z y ≡ drawn_on (sheet u v) (drawn_word s.glyph.0 x.left x.from.0 (take x.word.chars.0 (chars_from t x.from.0)))
        → Drew s t nothing_resumed ev p at o z x.place x.word.end.0 y
    unfolding word_of spaces_after advance word_place
    taken-drew =
        let w = k.pair.word in
        let n = w.chars.0 * s.glyph.0 in
        let single = spaces_width p.spaces 1 in
        subst (λ (a : Taken). Spaced a → (z : List ℕ) (y : Pen)
        → sheet z y ≡ drawn_on (sheet u v) (drawn_word s.glyph.0 a.left a.from.0 (take a.word.chars.0 (chars_from t a.from.0)))
        → Drew s t nothing_resumed ev p at o z a.place a.word.end.0 y) (sym k.is)
        (λ g z y e.
        let fits = fits_in_lem after.cursor n (omega (arith, k.fits, h.pass.place)) in
        let word = drew-letters (spaced g).ready u z y (word_of w) k.read.word k.read.kind fits e in
        let c : p.cursor.position.0 + single + n ≡ p.cursor.position.0 + both_wide s p k.pair = omega arith in
        subst (λ (l : Place). Drew s t nothing_resumed ev p at o z l w.end.0 y)
        (λ i. record {
          cursor = placed_at p.cursor (c i);
          spaces = spaces_after (spaces_after p.spaces 1) w.weight.0;
          empty = false;
        })
        (drew-on (spaced g) word))
