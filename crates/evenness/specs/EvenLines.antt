-- The spaces of a line, as its events have them: each is as wide as the line's space width and extra pixels say, two single ones
-- differ by at most a pixel, and wider ones come first (rule 5, rule 6, rule 13).
-- Assumes nothing.
use Rattle.std.specs.Prelude.{ℕ, ◌+◌, ◌≤◌, ◌≡◌, List, [], ◌∷◌}
use Rattle.std.proofs.Common.{sym, ap, subst, ◌∙◌, arith}
use Rattle.meaning.specs.SpaceConfig.{spaces_width, spaces_after}
use Rattle.meaning.specs.Alignment.{spaces_of}
use Rattle.meaning.specs.Words.{Drawn}
use Rattle.meaning.specs.LineIter.{Held}
use Rattle.meaning.specs.Line.{line_tokens, line_of, lay_line, entry_at, events_at}
use Rattle.meaning.specs.Layout.{Row, row_at, rows}
use Rattle.meaning.specs.declared.settings.Settings.{Settings}
use Rattle.meaning.specs.declared.cursor.Spaces.{Spaces}
use Rattle.meaning.specs.declared.line.EventKind.{EventKind}
use Rattle.meaning.specs.declared.line.EventKind.TheVariants.{Space}
use Rattle.meaning.specs.declared.line.Event.{Event}
use Rattle.laws.specs.Measuring.{spaces-after}
use Rattle.laws.specs.RowInduction.{EachRow, each_laid}
use Rattle.laws.specs.EvenSpaces.{after_none, single_after, single-even, single_falls}
use Rattle.evenness.specs.SpacesDrawn.{AsWide, Along}
use Rattle.evenness.specs.SpacesAtEdge.{draw-along}

-- ---- events

-- An event that counts n spaces after k others and moves the pen is as wide as n spaces after k.
abbrev pub EventsAlong : Spaces → List Event → Type 0
EventsAlong sp [] = Unit {0}
EventsAlong sp (e ∷ es) = AsWide sp e.kind e.count.0 e.width.0 × EventsAlong (spaces_after sp e.count.0) es

events-along : (sp : Spaces) (start pen : ℕ) (ds : List Drawn) → Along sp ds → EventsAlong sp (events_at start pen ds)
unfolding events_at
events-along sp start pen [] h = tt
events-along sp start pen (d ∷ ds) h = (h.0, events-along (spaces_after sp d.count) start (pen + d.width) ds h.1)

-- An event of one space that moves the pen.
pub record Single (e : Event) : Type 0 where
  pub kind : e.kind ≡ Space
  pub one : e.count.0 ≡ 1
  pub moves : 1 ≤ e.width.0

-- Of two single spaces the later one is no wider, and narrower by at most a pixel.
abbrev pub EvenTo : Event → List Event → Type 0
EvenTo d [] = Unit {0}
EvenTo d (e ∷ es) = (Single d → Single e → (e.width.0 ≤ d.width.0) × (d.width.0 ≤ e.width.0 + 1)) × EvenTo d es

abbrev pub EvenSingles : List Event → Type 0
EvenSingles [] = Unit {0}
EvenSingles (e ∷ es) = EvenTo e es × EvenSingles es

-- ---- single spaces along others

-- A single space after k others is as wide as one space after k.
single-width : (sp : Spaces) (k : ℕ) (kind : EventKind) (n w : ℕ) → kind ≡ Space → n ≡ 1 → 1 ≤ w → AsWide (spaces_after sp k) kind n w
    → w ≡ single_after sp k
unfolding single_after
single-width sp k kind n w e f m a =
    let g : AsWide (spaces_after sp k) Space n w = subst (λ (x : EventKind). AsWide (spaces_after sp k) x n w) e a in
    g (omega arith) m ∙ ap (λ (x : ℕ). spaces_width (spaces_after sp k) x) f

module _ (sp : Spaces) where
  even-to : (i j : ℕ) (d : Event) (es : List Event) → i ≤ j → AsWide (spaces_after sp i) d.kind d.count.0 d.width.0
      → EventsAlong (spaces_after sp j) es → EvenTo d es
  even-to i j d [] h a f = tt
  even-to i j d (e ∷ es) h a f = (
    λ x y.
        let v = single-width sp i d.kind d.count.0 d.width.0 x.kind x.one x.moves a in
        let w = single-width sp j e.kind e.count.0 e.width.0 y.kind y.one y.moves f.0 in
        (omega (arith, v, w, single_falls sp i j h), omega (arith, v, w, single-even sp i j)),
    even-to i (j + e.count.0) d es (omega arith) a
        (subst (λ (x : Spaces). EventsAlong x es) (spaces-after sp j e.count.0) f.1),
  )

  even-from : (k : ℕ) (es : List Event) → EventsAlong (spaces_after sp k) es → EvenSingles es
  even-from k [] f = tt
  even-from k (e ∷ es) f =
      let more : EventsAlong (spaces_after sp (k + e.count.0)) es = subst (λ (x : Spaces). EventsAlong x es) (spaces-after sp k e.count.0) f.1 in
      (even-to k (k + e.count.0) e es (omega arith) f.0 more, even-from (k + e.count.0) es more)

  pub along-even : (es : List Event) → EventsAlong sp es → EvenSingles es
  along-even es f = even-from 0 es (subst (λ (x : Spaces). EventsAlong x es) (sym (after_none sp)) f)

-- ---- the lines of a text

module _ (s : Settings) where
  pub line-along : (start : ℕ) (h : Held) (cs : List ℕ)
      → EventsAlong (lay_line s h cs).placed.spaces (events_at start (lay_line s h cs).placed.left.0 (lay_line s h cs).drawn)
  unfolding lay_line line_of
  line-along start h cs = events-along _ start _ _ (draw-along s (line_tokens h cs))

  -- What a line's entry says of its spaces.
  abbrev spaces_in : Row → Spaces
  spaces_in r = spaces_of r.entry.space.0 r.entry.extra.0

  -- The spaces of a line are those that its entry's space width and extra pixels give.
  pub rows-along : (cs : List ℕ) → EachRow (λ (r : Row). EventsAlong (spaces_in r) r.events) (rows s cs)
  unfolding row_at entry_at
  rows-along = each_laid s (λ (r : Row). EventsAlong (spaces_in r) r.events) (λ start before h cs. line-along start h cs)

  -- Two single spaces of a line differ by at most a pixel, and wider ones come first.
  pub rows-even : (cs : List ℕ) → EachRow (λ (r : Row). EvenSingles r.events) (rows s cs)
  unfolding row_at
  rows-even =
      each_laid s (λ (r : Row). EvenSingles r.events)
      (λ start before h cs. let l = lay_line s h cs in along-even l.placed.spaces (events_at start l.placed.left.0 l.drawn) (line-along start h cs))
