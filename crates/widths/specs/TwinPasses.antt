-- Two passes over the same tokens, with plain spaces and in boxes of two widths, end alike if their cursors are told apart by no test of
-- theirs: token by token. What they draw may differ by the widths of tabs (rule 8, rule 9).
-- Assumes nothing.
use Prim.Native.Nat.{ℕ, ◌+◌, ◌*◌, ◌/◌, ◌≤◌, max, min}
use Rattle.meaning.specs.declared.counts.Pixels.{Pixels}
use Rattle.std.specs.Prelude.{◌≡◌, Bool, ◌&&◌, ◌||◌, length, take, None, Option, Some}
use Rattle.std.proofs.Math.Path.{refl, sym, ap, subst}
use Rattle.std.proofs.Common.{◌∙◌, one-mul, arith}
use Rattle.std.proofs.Math.Bool.{true, false, not}
use Rattle.std.proofs.lemmas.Bool.{false≢true}
use mathlib.Core.List.{List, [], ◌∷◌, ◌++◌}
use Rattle.std.proofs.Math.Nat.{mul-div_cancel_left}
use Rattle.std.proofs.Math.Dec.{eqb}
use Rattle.basis.specs.Choice.{pick}
use Rattle.utf8.specs.Encoding.{size}
use Rattle.meaning.specs.Tokens.{Tok, newLine, carriageReturn, tab, softHyphen, space, word, chars_of, size_of, need_of}
use Rattle.meaning.specs.Cursor.{room_of, fits_in, advance, has_moved, tab_width}
use Rattle.meaning.specs.SpaceConfig.{spaces_width, spaces_after}
use Rattle.meaning.specs.Lookahead.{Looked, goes_on, next_fits, next_width}
use Rattle.meaning.specs.Words.{Drawn, drawn, glues, drawn_word}
use Rattle.meaning.specs.Columns.{with_width}
use Rattle.meaning.specs.LineIter.{nothing_held, held_after, Step, go, stop, when, skips, draws_space, moved_on, used_up, cut_run, on_space, on_tab, hyphenated, on_break, wrap_on, unfit_word, cut_word, on_word, step, Ran, pass_on, process}
use Rattle.meaning.specs.declared.settings.Settings.{Settings}
use Rattle.meaning.specs.declared.cursor.LineCursor.{LineCursor}
use Rattle.meaning.specs.declared.cursor.Place.{Place}
use Rattle.meaning.specs.declared.cursor.Spaces.{Spaces}
use Rattle.meaning.specs.declared.line.LineEnd.TheVariants.{LineBreak}
use Rattle.meaning.specs.declared.line.EventKind.{EventKind}
use Rattle.meaning.specs.declared.line.EventKind.TheVariants.{Space, Printed, Move}
use Rattle.laws.specs.Pens.{Plain, plain-after, plain-width}
use Rattle.laws.specs.Steps.{too_wide, some-spaces}
use Rattle.widths.specs.GlyphLooks.{most_glyphs, InGlyphs, ahead-glyphs}

-- Two choices by tests that go alike.
pub both_picked {ℓ} : {X : Type ℓ} (R : X → X → Type 0) (t u : Bool) {x x' y y' : X} → t ≡ u → (t ≡ true → R x x') → (t ≡ false → R y y')
    → R (pick t x y) (pick u x' y')
unfolding pick
both_picked R true true e f g = f refl
both_picked R false false e f g = g refl
both_picked R true false e f g = absurd (false≢true (sym e))
both_picked R false true e f g = absurd (false≢true e)

-- ---- what two cursors have to have in common

-- They are of a kind, N, with the tokens that are to come. Up to the glyphs that those may take no test tells them apart; and they are of that
-- kind again after what each token may do to them.
pub record Twins (g : ℕ) (N : List Tok → LineCursor → LineCursor → Type 0) : Type 0 where
  pub fits : (ts : List Tok) (x y : LineCursor) (n : ℕ) → N ts x y → n ≤ most_glyphs ts → fits_in x (n * g) ≡ fits_in y (n * g)
  pub room : (ts : List Tok) (x y : LineCursor) (n : ℕ) → N ts x y → n ≤ most_glyphs ts → fits_in x (n * g) ≡ false → room_of x / g ≡ room_of y / g
  pub moved : (ts : List Tok) (x y : LineCursor) → N ts x y → has_moved x ≡ has_moved y
  pub at-space : (cs : List ℕ) (n e : ℕ) (ts : List Tok) (x y : LineCursor) → N (space cs n e ∷ ts) x y
      → N ts (advance x (n * g)) (advance y (n * g)) × N ts x y
  pub at-word : (cs : List ℕ) (e : ℕ) (ts : List Tok) (x y : LineCursor) → N (word cs e ∷ ts) x y
      → N ts (advance x (length cs * g)) (advance y (length cs * g))
  pub at-hyphen : (ts : List Tok) (x y : LineCursor) → N (softHyphen ∷ ts) x y → N ts (advance x g) (advance y g) × N ts x y
  pub at-tab : (ts : List Tok) (x y : LineCursor) → N (tab ∷ ts) x y → (fits_in x (tab_width x) ≡ fits_in y (tab_width y)) × N ts x y
  pub past-tab : (ts : List Tok) (x y : LineCursor) → N (tab ∷ ts) x y → fits_in x (tab_width x) ≡ true → N ts (advance x (tab_width x)) (advance y (tab_width y))
  pub at_edge_lem : (ts : List Tok) (x y : LineCursor) → N (tab ∷ ts) x y → fits_in x (tab_width x) ≡ false → N ts (advance x (room_of x)) (advance y (room_of y))

-- A place with another cursor.
abbrev pub at_cursor : Place → LineCursor → Place
at_cursor p y = record { cursor = y; spaces = p.spaces; empty = p.empty }

-- What is drawn has something in common, M: the same has it, and what has it has it behind the same, and behind a tab of the one and of the
-- other, where it fits and where it goes to the edge.
pub record Draws (a b : Settings) (N : List Tok → LineCursor → LineCursor → Type 0) (M : List Drawn → List Drawn → Type 0) : Type 0 where
  pub same : (ds : List Drawn) → M ds ds
  pub on : (ds es fs : List Drawn) → M es fs → M (ds ++ es) (ds ++ fs)
  pub tabbed : (ts : List Tok) (x y : LineCursor) → N (tab ∷ ts) x y → fits_in x (tab_width x) ≡ true → (k : EventKind) (from to : ℕ) (es fs : List Drawn) → M es fs
      → M (drawn k from to 0 (tab_width x) ∷ es) (drawn k from to 0 (tab_width y) ∷ fs)
  pub edged : (ts : List Tok) (p : Place) (y : LineCursor) → N (tab ∷ ts) p.cursor y → fits_in p.cursor (tab_width p.cursor) ≡ false → (from to at : ℕ) →
      let es = (process a (moved_on p (room_of p.cursor)) at ts).drawn in
      let fs = (process b (moved_on (at_cursor p y) (room_of y)) at ts).drawn in
      M es fs → M (drawn Move from to 0 (room_of p.cursor) ∷ es) (drawn Move from to 0 (room_of y) ∷ fs)

-- Two passes that end alike, and what they draw has that in common.
pub record EndAlike (M : List Drawn → List Drawn → Type 0) (r q : Ran) : Type 0 where
  pub ended : r.ended ≡ q.ended
  pub drawn : M r.drawn q.drawn
  pub chars : r.chars ≡ q.chars
  pub held : r.held ≡ q.held
  pub dropped : r.dropped ≡ q.dropped
  pub reach : r.reach ≡ q.reach

pub same_end : (M : List Drawn → List Drawn → Type 0) → ((ds : List Drawn) → M ds ds) → (r q : Ran) → r ≡ q → EndAlike M r q
same_end M same r q e =
    subst (EndAlike M r) e (record { ended = refl; drawn = same r.drawn; chars = refl; held = refl; dropped = refl; reach = refl })

module _ (s : Settings) (w v : ℕ) (some : 1 ≤ s.glyph.0) (N : List Tok → LineCursor → LineCursor → Type 0) (twins : Twins s.glyph.0 N)
    (M : List Drawn → List Drawn → Type 0) (draws : Draws (with_width s w) (with_width s v) N M) where
  abbrev g : ℕ
  g = s.glyph.0

  abbrev a : Settings
  a = with_width s w

  abbrev b : Settings
  b = with_width s v

  -- The second place is the first with a cursor that these tokens do not tell apart.
  record Beside (ts : List Tok) (p q : Place) : Type 0 where
    same : q ≡ at_cursor p q.cursor
    near : N ts p.cursor q.cursor
    plain : Plain g p.spaces

  -- Both steps go on, from places side by side, and what is drawn from there on has M behind them too; or both end the line, and alike.
  abbrev Alike : (at : ℕ) → List Tok → Step → Step → Type 0
  Alike at ts (go p ds r) (go q es r') =
      Beside ts p q × (M (process a p at ts).drawn (process b q at ts).drawn → M (ds ++ (process a p at ts).drawn) (es ++ (process b q at ts).drawn)) × (r ≡ r')
  Alike at ts (go p ds r) (stop e es k h d r') = ⊥
  Alike at ts (stop e ds k h d r) (go q es r') = ⊥
  Alike at ts (stop e ds k h d r) (stop e' es k' h' d' r') = stop e ds k h d r ≡ stop e' es k' h' d' r'

  onward : (ds us vs : List Drawn) → M us vs → M (ds ++ us) (ds ++ vs)
  onward ds us vs m = draws.on ds us vs m

  behind : (ds es : List Drawn) → ds ≡ es → (us vs : List Drawn) → M us vs → M (ds ++ us) (es ++ vs)
  behind ds es e us vs m = subst (λ (z : List Drawn). M (ds ++ us) (z ++ vs)) e (draws.on ds us vs m)

  -- ---- spaces and single glyphs

  fits_one : (ts : List Tok) (x y : LineCursor) → N ts x y → 1 ≤ most_glyphs ts → fits_in x g ≡ fits_in y g
  fits_one ts x y m h = subst (λ (k : ℕ). fits_in x k ≡ fits_in y k) (one-mul g) (twins.fits ts x y 1 m h)

  module _ (sp : Spaces) (plain : Plain g sp) (cs : List ℕ) (n e : ℕ) (ts : List Tok) (x y : LineCursor) (m : N (space cs n e ∷ ts) x y) where
    fits-spaces : fits_in x (spaces_width sp n) ≡ fits_in y (spaces_width sp n)
    unfolding most_glyphs
    fits-spaces =
        let wide = plain-width g sp n plain in
        ap (fits_in x) wide ∙ twins.fits (space cs n e ∷ ts) x y n m (omega arith) ∙ sym (ap (fits_in y) wide)

    past-spaces : N ts (advance x (spaces_width sp n)) (advance y (spaces_width sp n))
    past-spaces = subst (λ (k : ℕ). N ts (advance x k) (advance y k)) (sym (plain-width g sp n plain)) (twins.at-space cs n e ts x y m).0

  -- ---- looking ahead

  goes-alike : (t u : Bool) (here : ℕ) (r q : Looked) → t ≡ u → (t ≡ true → r ≡ q) → goes_on t here r ≡ goes_on u here q
  unfolding goes_on
  goes-alike true true here r q e f = λ i. record { fits = (f refl i).fits; reach = max here (f refl i).reach }
  goes-alike false false here r q e f = refl
  goes-alike true false here r q e f = absurd (false≢true (sym e))
  goes-alike false true here r q e f = absurd (false≢true e)

  next-alike : (ts : List Tok) (x y : LineCursor) (sp : Spaces) (at : ℕ) → Plain g sp → N ts x y → next_fits g x sp at ts ≡ next_fits g y sp at ts
  unfolding next_fits most_glyphs
  next-alike [] x y sp at plain m = refl
  next-alike (newLine ∷ ts) x y sp at plain m = refl
  next-alike (carriageReturn ∷ ts) x y sp at plain m = refl
  next-alike (tab ∷ ts) x y sp at plain m =
      goes-alike (fits_in x (tab_width x)) (fits_in y (tab_width y)) (at + need_of tab) _ _ (twins.at-tab ts x y m).0
      (λ e. next-alike ts (advance x (tab_width x)) (advance y (tab_width y)) sp (at + size_of tab) plain (twins.past-tab ts x y m e))
  next-alike (softHyphen ∷ ts) x y sp at plain m =
      let fits = fits_one (softHyphen ∷ ts) x y m (omega arith) in
      λ i. record { fits = fits i; reach = at + need_of softHyphen }
  next-alike (word cs e ∷ ts) x y sp at plain m =
      let fits = twins.fits (word cs e ∷ ts) x y (length cs) m (omega arith) in
      λ i. record { fits = fits i; reach = at + need_of (word cs e) }
  next-alike (space cs n e ∷ ts) x y sp at plain m =
      let t = space cs n e in
      let fits = fits-spaces sp plain cs n e ts x y m in
      let more =
      next-alike ts (advance x (spaces_width sp n)) (advance y (spaces_width sp n)) (spaces_after sp n) (at + size_of t) (plain-after g sp n plain)
      (past-spaces sp plain cs n e ts x y m) in
      λ i. goes_on (fits i) (at + need_of t) (more i)

  draws-alike : (p : Place) (y : LineCursor) (at : ℕ) (ts : List Tok) → Plain g p.spaces → N ts p.cursor y
      → draws_space a p at ts ≡ draws_space b (at_cursor p y) at ts
  unfolding draws_space with_width
  draws-alike p y at ts plain m =
      ap (λ (l : Looked). pick p.empty (record { fits = true; reach = 0 }) l) (next-alike ts p.cursor y p.spaces at plain m)

  -- ---- one token

  module _ (p : Place) (y : LineCursor) (at next : ℕ) (ts : List Tok) (plain : Plain g p.spaces) where
    abbrev x : LineCursor
    x = p.cursor

    abbrev q : Place
    q = at_cursor p y

    abbrev P : Step → Step → Type 0
    P = Alike next ts

    stands : N ts x y → Beside ts p q
    stands m = record { same = refl; near = m; plain = plain }

    -- A space run.
    cut-run-alike : (cs : List ℕ) (n e : ℕ) → N (space cs n e ∷ ts) x y → fits_in x (spaces_width p.spaces n) ≡ false
        → P (cut_run p at cs n (spaces_width p.spaces n)) (cut_run q at cs n (spaces_width p.spaces n))
    unfolding cut_run most_glyphs
    cut-run-alike cs n e m d =
        let width = spaces_width p.spaces n in
        let wide = plain-width g p.spaces n plain in
        let single : width / n ≡ g = ap (λ (k : ℕ). k / n) wide ∙ mul-div_cancel_left g (some-spaces p.spaces n _ (too_wide x width d)) in
        let room = twins.room (space cs n e ∷ ts) x y n m (omega arith) (sym (ap (fits_in x) wide) ∙ d) in
        let same : room_of x / (width / n) ≡ room_of y / (width / n) = rw single room in
        ap
        (λ (fitting : ℕ).
        stop LineBreak (pick (eqb fitting 0) [] (drawn Space at (at + size (take fitting cs)) fitting 0 ∷ [])) (min (fitting + 1) n)
        (held_after (length cs) n (min (fitting + 1) n)) 0 0)
        same

    space-alike : (cs : List ℕ) (n e : ℕ) (look look' : Looked) → N (space cs n e ∷ ts) x y → look ≡ look' → P (on_space a p at cs n look) (on_space b q at cs n look')
    unfolding on_space skips with_width
    space-alike cs n e look look' m l =
        let width = spaces_width p.spaces n in
        let used = plain-after g p.spaces n plain in
        both_picked P (skips a p) (skips b q) refl
        (λ _. (record { same = refl; near = (twins.at-space cs n e ts x y m).1; plain = used }, onward (drawn Space at (at + size cs) n 0 ∷ []) _ _, refl))
        (λ _.
        both_picked P (fits_in x width) (fits_in y width) (fits-spaces p.spaces plain cs n e ts x y m)
        (λ _. (
          record { same = refl; near = past-spaces p.spaces plain cs n e ts x y m; plain = used },
          behind (drawn Space at (at + size cs) n (when look.fits width) ∷ []) (drawn Space at (at + size cs) n (when look'.fits width) ∷ [])
              (λ i. drawn Space at (at + size cs) n (when (l i).fits width) ∷ []) _ _,
          λ i. (l i).reach,
        ))
        (cut-run-alike cs n e m))

    -- A tab.
    tab-alike : (look look' : Looked) → N (tab ∷ ts) x y → (fits_in x (tab_width x) ≡ true → look ≡ look') → P (on_tab a p at look) (on_tab b q at look')
    unfolding on_tab skips with_width
    tab-alike look look' m l =
        let f = twins.at-tab ts x y m in
        both_picked P (skips a p) (skips b q) refl (λ _. (stands f.1, onward [] _ _, refl))
        (λ _.
        both_picked P (fits_in x (tab_width x)) (fits_in y (tab_width y)) f.0
        (λ e. (
          record { same = refl; near = twins.past-tab ts x y m e; plain = plain },
          λ d.
              let us = (process a (moved_on p (tab_width x)) next ts).drawn in
              let vs = (process b (moved_on q (tab_width y)) next ts).drawn in
              let kind = pick look.fits Space Move in
              subst (λ (k : EventKind). M (drawn kind at (at + 1) 0 (tab_width x) ∷ us) (drawn k at (at + 1) 0 (tab_width y) ∷ vs)) (λ i. pick (l e i).fits Space Move)
              (draws.tabbed ts x y m e kind at (at + 1) us vs d),
          λ i. (l e i).reach,
        ))
        (λ e. (record { same = refl; near = twins.at_edge_lem ts x y m e; plain = plain }, draws.edged ts p y m e at (at + 1) next, refl)))

    -- A soft hyphen.
    hyphen-alike : (reach : ℕ) → N (softHyphen ∷ ts) x y → P (hyphenated a p at reach) (hyphenated b q at reach)
    unfolding hyphenated with_width most_glyphs
    hyphen-alike reach m =
        let on = twins.at-hyphen ts x y m in
        both_picked P (fits_in x g) (fits_in y g) (fits_one (softHyphen ∷ ts) x y m (omega arith))
        (λ _.
        both_picked P p.empty p.empty refl (λ _. (record { same = refl; near = on.0; plain = plain }, onward (drawn Printed at (at + 2) 0 g ∷ []) _ _, refl)) (λ _. refl))
        (λ _. both_picked P p.empty p.empty refl (λ _. (stands on.1, onward [] _ _, refl)) (λ _. refl))

    break_alike : (u : Option Pixels) (reach : ℕ) → N (softHyphen ∷ ts) x y → InGlyphs g (most_glyphs (softHyphen ∷ ts)) u
        → P (on_break a p at u reach) (on_break b q at u reach)
    unfolding on_break
    break_alike None reach m h = (stands (twins.at-hyphen ts x y m).1, onward [] _ _, refl)
    break_alike (Some u) reach m h =
        let fits : fits_in x u.0 ≡ fits_in y u.0 = rw h.is (twins.fits (softHyphen ∷ ts) x y h.count m h.few) in
        both_picked P (p.empty || not (fits_in x u.0)) (p.empty || not (fits_in y u.0)) (λ i. p.empty || not (fits i))
        (λ _. hyphen-alike reach m) (λ _. (stands (twins.at-hyphen ts x y m).1, onward [] _ _, refl))

    -- A word.
    cut-word-alike : (cs : List ℕ) (e : ℕ) → N (word cs e ∷ ts) x y → fits_in x (length cs * g) ≡ false → P (cut_word a p at cs) (cut_word b q at cs)
    unfolding cut_word unfit_word with_width most_glyphs
    cut-word-alike cs e m d =
        let room = twins.room (word cs e ∷ ts) x y (length cs) m (omega arith) d in
        let moved = twins.moved (word cs e ∷ ts) x y m in
        both_picked P (eqb (room_of x / g) 0) (eqb (room_of y / g) 0) (λ i. eqb (room i) 0)
        (λ _. both_picked P (wrap_on a && has_moved x) (wrap_on b && has_moved y) (λ i. wrap_on a && moved i) (λ _. refl) (λ _. refl))
        (λ _. ap (λ (fitting : ℕ). stop LineBreak (drawn_word g p.spaces at (take fitting cs)) fitting nothing_held 0 0) room)

    word-alike : (cs : List ℕ) (e : ℕ) → N (word cs e ∷ ts) x y → P (on_word a p at cs) (on_word b q at cs)
    unfolding on_word with_width most_glyphs
    word-alike cs e m =
        both_picked P (fits_in x (length cs * g)) (fits_in y (length cs * g)) (twins.fits (word cs e ∷ ts) x y (length cs) m (omega arith))
        (λ _. (record { same = refl; near = twins.at-word cs e ts x y m; plain = plain-after g p.spaces (glues cs) plain }, onward (drawn_word g p.spaces at cs) _ _, refl))
        (λ d. both_picked P p.empty p.empty refl (λ _. cut-word-alike cs e m d) (λ _. refl))

  step-alike : (t : Tok) (ts : List Tok) (p : Place) (y : LineCursor) (at : ℕ) → Plain g p.spaces → N (t ∷ ts) p.cursor y
      → Alike (at + size_of t) ts (step a p at t ts) (step b (at_cursor p y) at t ts)
  unfolding step with_width most_glyphs
  step-alike newLine ts p y at plain m = refl
  step-alike carriageReturn ts p y at plain m = refl
  step-alike tab ts p y at plain m =
      let from = at + size_of tab in
      tab-alike p y at from ts plain _ _ m
      (λ e. draws-alike (moved_on p (tab_width p.cursor)) (advance y (tab_width y)) from ts plain (twins.past-tab ts p.cursor y m e))
  step-alike softHyphen ts p y at plain m =
      let from = at + size_of softHyphen in
      let ahead = next_width g None from ts in
      break_alike p y at from ts plain ahead.width ahead.reach m (ahead-glyphs g ts 1 from None tt)
  step-alike (space cs n e) ts p y at plain m =
      let width = spaces_width p.spaces n in
      let from = at + size_of (space cs n e) in
      space-alike p y at from ts plain cs n e _ _ m
      (draws-alike (moved_on (used_up p n) width) (advance y width) from ts (plain-after g p.spaces n plain)
      (past-spaces p.spaces plain cs n e ts p.cursor y m))
  step-alike (word cs e) ts p y at plain m = word-alike p y at (at + size_of (word cs e)) ts plain cs e m

  on_alike : (ts : List Tok) (at here n : ℕ) (x y : Step) → Alike at ts x y
      → ((p : Place) (z : LineCursor) → Plain g p.spaces → N ts p.cursor z → EndAlike M (process a p at ts) (process b (at_cursor p z) at ts))
      → EndAlike M (pass_on here n x (λ q. process a q at ts)) (pass_on here n y (λ q. process b q at ts))
  on_alike ts at here n (go p ds r) (go q es r') k f =
      let m : EndAlike M (process a p at ts) (process b q at ts) =
      subst (λ (z : Place). EndAlike M (process a p at ts) (process b z at ts)) (sym k.0.same) (f p q.cursor k.0.plain k.0.near) in
      record {
        ended = m.ended;
        drawn = k.1 m.drawn;
        chars = ap (λ (z : ℕ). n + z) m.chars;
        held = m.held;
        dropped = m.dropped;
        reach = λ i. max here (max (k.2 i) (m.reach i));
      }
  on_alike ts at here n (go p ds r) (stop e es l h d r') k f = absurd k
  on_alike ts at here n (stop e ds l h d r) (go q es r') k f = absurd k
  on_alike ts at here n (stop e ds l h d r) (stop e' es l' h' d' r') k f =
      same_end M draws.same _ _ (ap (λ (x : Step). pass_on here n x (λ q. process a q at ts)) k)

  pub pass-alike : (ts : List Tok) (p : Place) (y : LineCursor) (at : ℕ) → Plain g p.spaces → N ts p.cursor y
      → EndAlike M (process a p at ts) (process b (at_cursor p y) at ts)
  unfolding process
  pass-alike [] p y at plain m = same_end M draws.same _ _ refl
  pass-alike (t ∷ ts) p y at plain m =
      on_alike ts (at + size_of t) (at + need_of t) (chars_of t) (step a p at t ts) (step b (at_cursor p y) at t ts) (step-alike t ts p y at plain m)
      (λ q z f n. pass-alike ts q z (at + size_of t) f n)

-- ---- where tabs are as wide

-- Then all that is drawn is the same, and so are the passes.
module _ (s : Settings) (w v : ℕ) (some : 1 ≤ s.glyph.0) (N : List Tok → LineCursor → LineCursor → Type 0) (twins : Twins s.glyph.0 N)
    (wide : (ts : List Tok) (x y : LineCursor) → N (tab ∷ ts) x y → (tab_width x ≡ tab_width y) × (fits_in x (tab_width x) ≡ false → room_of x ≡ room_of y)) where
  same-draws : Draws (with_width s w) (with_width s v) N ◌≡◌
  same-draws =
      record {
        same = λ ds. refl;
        on = λ ds es fs e. ap (λ (us : List Drawn). ds ++ us) e;
        tabbed = λ ts x y m _ k from to es fs e. let same = (wide ts x y m).0 in λ i. drawn k from to 0 (same i) ∷ e i;
        edged = λ ts p y m d from to at e. let same = (wide ts p.cursor y m).1 d in λ i. drawn Move from to 0 (same i) ∷ e i;
      }

  pub pass_same : (ts : List Tok) (p : Place) (y : LineCursor) (at : ℕ) → Plain s.glyph.0 p.spaces → N ts p.cursor y
      → process (with_width s w) p at ts ≡ process (with_width s v) (at_cursor p y) at ts
  pass_same ts p y at plain m =
      let e = pass-alike s w v some N twins ◌≡◌ same-draws ts p y at plain m in
      λ i.
      record { ended = e.ended i; drawn = e.drawn i; chars = e.chars i; held = e.held i; dropped = e.dropped i; reach = e.reach i }
