-- The drawing of a line of plain words: its first word, a space and a word behind it, and its end before a word that waits.
-- Assumes nothing.
use Prim.Native.Nat.{ℕ, ◌+◌, ◌-◌, ◌*◌, ◌≤◌, ◌<◌}
use mathlib.Core.Path.{◌≡◌, refl, ap, subst}
use mathlib.Core.Bool.{true, false}
use mathlib.Core.List.{List, [], ◌∷◌}
use native.Mathlib.Nat.{add-mul, one-mul, mul-le-mul_right}
use native.Mathlib.Omega.{arith}
use Rattle.meaning.specs.Alignment.{plain_spaces}
use Rattle.meaning.specs.Cursor.{advance}
use Rattle.meaning.specs.Line.{start_place}
use Rattle.meaning.specs.LineIter.{moved_on, used_up}
use Rattle.meaning.specs.SpaceConfig.{spaces_width, spaces_after}
use Rattle.meaning.specs.Words.{drawn}
use Rattle.meaning.specs.declared.settings.Settings.{Settings}
use Rattle.meaning.specs.declared.cursor.Place.{Place}
use Rattle.meaning.specs.declared.line.EventKind.TheVariants.{Space, Printed}
use Rattle.parser.specs.Ascii.{space_at}
use Rattle.pairs.specs.PlainWords.{PlainWord}
use Rattle.pairs.specs.Stretches.{Stretched}
use Rattle.pairs.specs.NextPlain.{NextPlain}
use Rattle.pairs.specs.NextPlainLaws.{stretched_on}
use Rattle.pairs.specs.PlainLaws.{plain-pair}
use Rattle.steps.specs.Unrolled.{nothing_resumed}
use Rattle.steps.specs.Stopping.{word_place}
use Rattle.strides.specs.First.{Beginning}
use Rattle.strides.specs.StrideLaws.{fits_in_lem}
use Rattle.strides.specs.declared.first.Begun.{Begun}
use Rattle.ink.specs.Sheet.{sheet, drawn_on, pen-one}
use Rattle.ink.specs.declared.pen.Pen.{Pen}
use Rattle.drawing.specs.PassDrawn.{DrawRoom, pen_at}
use Rattle.drawing.specs.DrawingOn.{PenReady, Drew}
use Rattle.drawing.specs.PlainDrawn.{plain_start, plain_place, PlainToDraw, DrewPlain}
use Rattle.drawing.proofs.OnwardEvents.{drew-none, drew-on, drew-first, drew-space}
use Rattle.drawing.proofs.PassLoop.{pass-ready}

-- ---- columns

-- One plain space is a column.
pub one_plain : (s : Settings) → s.glyph.0 ≡ spaces_width (plain_spaces s) 1
unfolding spaces_width plain_spaces
one_plain s = omega arith

-- Columns up to a space, the space, and those of the word behind it.
pub columns : (at to next g : ℕ) → at ≤ to → to + 1 ≤ next → (next - at) * g ≡ (to - at) * g + g + (next - (to + 1)) * g
columns at to next g h l =
    let m = next - (to + 1) in
    let e : next - at ≡ to - at + (1 + m) = omega arith in
    omega (arith, ap (λ (n : ℕ). n * g) e, add-mul (to - at) (1 + m) g, add-mul 1 m g, one-mul g)

-- ---- a word

-- A plain word that fits is one print.
print_plain : {s : Settings} {p : Place} {t : List ℕ} {at : ℕ} {o : Pen} → PenReady s p t at nothing_resumed o → (ev u : List ℕ) (v : Pen) (end : ℕ)
    → PlainWord t at end → (end - at) * s.glyph.0 ≤ p.cursor.width.0 - p.cursor.position.0
    → sheet u v ≡ drawn_on (sheet ev o) (drawn Printed at end 0 ((end - at) * s.glyph.0) ∷ [])
    → Drew s t nothing_resumed ev p at o u (word_place s.glyph.0 p (end - at) 0) end v
print_plain {s} {p} {t} {at} h ev u v end w room e =
    let x : Begun = record { end = record { 0 = end }; chars = record { 0 = end - at }; place = word_place s.glyph.0 p (end - at) 0 } in
    let b : Beginning s p t at x = record { word = w; chars = refl; fits = fits_in_lem p.cursor _ room; place = refl } in
    drew-first h ev u v b e

-- Between two turns: all up to a space within the line is drawn, and words go on behind it unless it is the last.
pub record Turn (s : Settings) (t : List ℕ) (at end left : ℕ) (ev : List ℕ) (p : Place) (from : ℕ) (o : Pen) (u : List ℕ) (to : ℕ) (v : Pen) : Type 0 where
  pub drew : DrewPlain s t left at ev p from o u to v
  pub behind : at ≤ to
  pub near : to ≤ end
  pub space : space_at t to ≡ true
  pub rest : to < end → Stretched t (to + 1) end

module _ {s : Settings} {t : List ℕ} {at end left : ℕ} (d : PlainToDraw s t at end left) where
  -- So many columns fit.
  columns_fit : (to : ℕ) → to ≤ end → left + (to - at) * s.glyph.0 ≤ s.width.0
  columns_fit to h = let l : to - at ≤ end - at = omega arith in omega (arith, d.fits, mul-le-mul_right s.glyph.0 l)

  module _ {k : ℕ} (r : DrawRoom s (plain_start s left) t at nothing_resumed left k) {first : ℕ} (x : NextPlain t at first) where
    first-near : first ≤ end
    first-near = x.nearest end d.line.words

    pub first-wide : (first - at) * s.glyph.0 ≤ 4096
    first-wide = omega (arith, columns_fit first first-near, r.pass.settings.2)

    pub first-put : (k ≤ 1000000000) × (left + (first - at) * s.glyph.0 < 4294967296) × (at ≤ 65535) × (first ≤ 65535)
    first-put =
        omega (arith, first-wide, r.few, r.narrow, r.pass.inside, r.pass.short, x.word.letters.inside)

    pub first-drawn : (ev u : List ℕ) (v : Pen)
        → sheet u v ≡ drawn_on (sheet ev (pen_at k left)) (drawn Printed at first 0 ((first - at) * s.glyph.0) ∷ [])
        → DrewPlain s t left at ev (plain_start s left) at (pen_at k left) u first v
    unfolding start_place plain_spaces plain_place word_place advance spaces_after
    first-drawn ev u v e =
        record {
          onward = print_plain (pass-ready t s (plain_start s left) at nothing_resumed left k r) ev u v first x.word
              (omega (arith, columns_fit first first-near)) e;
          pen = (pen-one ev u (pen_at k left) v _ e).1;
        }

  -- ---- a space and a word behind it

  pub turn-first : {ev : List ℕ} {p : Place} {from : ℕ} {o : Pen} {u : List ℕ} {to : ℕ} {v : Pen} → DrewPlain s t left at ev p from o u to v
      → NextPlain t at to → Turn s t at end left u (plain_place s left (to - at)) to v u to v
  turn-first f x =
      record {
        drew = record { onward = drew-none f.onward.ready; pen = f.pen };
        behind = omega (arith, x.word.letters.forward);
        near = x.nearest end d.line.words;
        space = x.space;
        rest = stretched_on d.line.words x;
      }

  -- At the last space.
  pub turn_last : {ev : List ℕ} {p : Place} {from : ℕ} {o : Pen} {u : List ℕ} {to : ℕ} {v : Pen} {w : List ℕ} {last : ℕ} {z : Pen}
      → DrewPlain s t left at ev p from o u to v → Turn s t at end left u (plain_place s left (to - at)) to v w last z → end ≤ last
      → DrewPlain s t left at ev p from o w end z
  turn_last {ev} {p} {from} {o} {w = w} {last} {z} f g h =
      let e : last ≡ end = omega (arith, g.near) in
      subst (λ (n : ℕ). DrewPlain s t left at ev p from o w n z) e
      (record { onward = drew-on f.onward g.drew.onward; pen = g.drew.pen })

  module _ {ev : List ℕ} {p : Place} {from : ℕ} {o : Pen} {u : List ℕ} {to : ℕ} {v : Pen} (f : Turn s t at end left ev p from o u to v) (more : to < end)
      {next : ℕ} (x : NextPlain t (to + 1) next)
    where
      next-near : next ≤ end
      next-near = x.nearest end (f.rest more)

      abbrev ready : PenReady s (plain_place s left (to - at)) t to nothing_resumed v
      ready = f.drew.onward.ready

      -- Both go into the box.
      both_fit : left + (to - at) * s.glyph.0 + s.glyph.0 + (next - (to + 1)) * s.glyph.0 ≤ s.width.0
      both_fit =
          omega (arith, columns at to next s.glyph.0 f.behind (omega (arith, x.word.letters.forward)), columns_fit next next-near)

      pub next-wide : (next - (to + 1)) * s.glyph.0 ≤ 4096
      next-wide = omega (arith, both_fit, ready.pass.settings.2)

      pub space-put : (v.next ≤ 1000000000) × (v.x.0 + s.glyph.0 < 4294967296) × (to ≤ 65535) × (to + 1 ≤ 65535)
      space-put =
          omega (arith, ready.few, ready.narrow, ready.pass.settings.1, ready.pass.short, x.word.letters.forward, x.word.letters.inside)

      module _ (u' : List ℕ) (v' : Pen) (e : sheet u' v' ≡ drawn_on (sheet u v) (drawn Space to (to + 1) 1 s.glyph.0 ∷ [])) where
        abbrev here : Place
        here = plain_place s left (to - at)

        spaced : Drew s t nothing_resumed u here to v u' (moved_on (used_up here 1) s.glyph.0) (to + 1) v'
        unfolding plain_place
        spaced =
            drew-space ready u u' v' refl (plain-pair t to next (record { space = f.space; word = x.word })) s.glyph.0 (one_plain s)
            (omega (arith, both_fit)) e

        pub next-put : (v'.next ≤ 1000000000) × (v'.x.0 + (next - (to + 1)) * s.glyph.0 < 4294967296) × (to + 1 ≤ 65535) × (next ≤ 65535)
        next-put =
            let r = spaced.ready in
            omega (arith, r.few, r.narrow, r.pass.inside, r.pass.short, next-wide, x.word.letters.inside)

        stride_drawn : (z : List ℕ) (y : Pen)
            → sheet z y ≡ drawn_on (sheet u' v') (drawn Printed (to + 1) next 0 ((next - (to + 1)) * s.glyph.0) ∷ [])
            → DrewPlain s t left at ev p from o z next y
        unfolding plain_place advance word_place plain_spaces spaces_after
        stride_drawn z y g =
            let w = (next - (to + 1)) * s.glyph.0 in
            let n = columns at to next s.glyph.0 f.behind (omega (arith, x.word.letters.forward)) in
            let word = print_plain spaced.ready u' z y next x.word (omega (arith, both_fit)) g in
            let c : left + (to - at) * s.glyph.0 + s.glyph.0 + w ≡ left + (next - at) * s.glyph.0 = omega arith in
            record {
              onward = drew-on f.drew.onward
                  (subst (λ (q : Place). Drew s t nothing_resumed u here to v z q next y)
                  (λ i. record {
                    cursor = record { width = s.width; position = record { 0 = c i }; tab = s.tab; start = record { 0 = left } };
                    spaces = plain_spaces s;
                    empty = false;
                  })
                  (drew-on spaced word));
              pen = omega (arith, (pen-one u' z v' y _ g).1, (pen-one u u' v v' _ e).1, f.drew.pen);
            }

        pub turn-next : (z : List ℕ) (y : Pen)
            → sheet z y ≡ drawn_on (sheet u' v') (drawn Printed (to + 1) next 0 ((next - (to + 1)) * s.glyph.0) ∷ [])
            → Turn s t at end left ev p from o z next y
        turn-next z y g =
            record {
              drew = stride_drawn z y g;
              behind = omega (arith, f.behind, x.word.letters.forward);
              near = next-near;
              space = x.space;
              rest = stretched_on (f.rest more) x;
            }
