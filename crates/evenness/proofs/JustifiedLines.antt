-- Every justified line of a text with neither tabs nor soft hyphens ends exactly at the box's right edge, if none of its leading spaces
-- is skipped (rule 6, rule 8, rule 13).
-- Assumes nothing.
use Prim.Native.Nat.{ℕ, zero, suc, ◌+◌, ◌-◌, ◌≤◌, ◌<◌}
use Rattle.std.specs.Prelude.{◌≡◌, refl, Bool, true, ◌||◌, ◌⊎◌, List, [], ◌∷◌, eqb, take}
use Rattle.std.proofs.Math.Path.{sym, ap}
use Rattle.std.proofs.Common.{subst, ◌∙◌, inl, inr, arith}
use Rattle.std.proofs.Math.Bool.{not}
use Rattle.std.proofs.lemmas.Bool.{false≢true, eqb-false}
use Rattle.std.proofs.Math.ListN.{drop}
use Rattle.basis.specs.Choice.{pick_cases}
use Rattle.utf8.specs.Encoding.{size}
use Rattle.meaning.specs.Tokens.{Tok, newLine, carriageReturn, tab, softHyphen, space, word}
use Rattle.meaning.specs.SpaceConfig.{spaces_width}
use Rattle.meaning.specs.Alignment.{spaces_of, plain_spaces, ends_paragraph, place}
use Rattle.meaning.specs.Words.{Drawn}
use Rattle.meaning.specs.LineIter.{Held, nothing_held, leading_on, skips, process}
use Rattle.meaning.specs.Line.{unmeasured, measured, line_tokens, start_place, measuring, placing, line_of, lay_line, entry_at, events_at}
use Rattle.meaning.specs.Layout.{Row, row_at, rows_by, most_lines, rows}
use Rattle.meaning.specs.declared.settings.Settings.{Settings}
use Rattle.meaning.specs.declared.cursor.Spaces.{Spaces}
use Rattle.meaning.specs.declared.line.LineEnd.{LineEnd}
use Rattle.meaning.specs.declared.line.Placed.{Placed}
use Rattle.laws.specs.Spell.{spell}
use Rattle.laws.specs.Runs.{Pass, pass-second}
use Rattle.laws.specs.LineTokens.{line-tokens_cover}
use Rattle.laws.specs.RowInduction.{EachRow, unless_cases}
use Rattle.laws.specs.LineWidths.{plain-spaces, line-width}
use Rattle.laws.specs.EvenSpaces.{after_none, Justifies, shared_out, share_width}
use Rattle.laws.specs.LastPrint.{to_last_print, AllOf, measured-width, measured-count, prints, printed_end}
use Rattle.evenness.specs.SpacesAtEdge.{NoTab, NoneStands, drawing, spaces_counted, Smooth, placed-justified, line-at-edge}
use Rattle.evenness.specs.SimplePasses.{either-false, either-neither, Simple, NoFront, SmoothAt}
use Rattle.evenness.proofs.PassSmooth.{pass-smooth}
use Rattle.evenness.specs.SamePrints.{same-prints}

-- No leading space is skipped: the setting is on, or no counted space stands before the line's first word.
abbrev pub NoneSkipped : Settings → List Tok → Type 0
NoneSkipped s ts = (leading_on s ≡ true) ⊎ NoFront ts

-- ---- the premises of `line-at-edge`

no_tab_of : (ds : List Drawn) → AllOf SmoothAt ds → NoTab ds
no_tab_of [] h = tt
no_tab_of (d ∷ ds) h = (h.0.0, no_tab_of ds h.1)

none-stands_of : (ds : List Drawn) → AllOf SmoothAt ds → NoneStands ds
none-stands_of [] h = tt
none-stands_of (d ∷ ds) h = (h.0.1, none-stands_of ds h.1)

module _ (s : Settings) (ts : List Tok) where
  abbrev room : ℕ
  room = s.width.0 - (measured unmeasured (measuring s ts).drawn).width.0

  front : (left : ℕ) (sp : Spaces) → NoneSkipped s ts → skips s (start_place s left sp) ≡ true → NoFront ts
  unfolding skips start_place
  front left sp (inl e) t = absurd (false≢true (sym (ap not e) ∙ t))
  front left sp (inr f) t = f

  module _ (simple : Simple ts) (some : 1 ≤ s.glyph.0) (f : NoneSkipped s ts) where
    smooth-from : (left : ℕ) (sp : Spaces) → 1 ≤ sp.width.0 → AllOf SmoothAt (to_last_print (process s (start_place s left sp) 0 ts).drawn)
    unfolding start_place
    smooth-from left sp h = pass-smooth s ts 0 simple (start_place s left sp) (front left sp f) h

    measure-smooth : AllOf SmoothAt (to_last_print (measuring s ts).drawn)
    unfolding measuring plain_spaces
    measure-smooth = smooth-from 0 (plain_spaces s) some

  module _ (simple : Simple ts) (some : 1 ≤ s.glyph.0) (j : Justifies s (measuring s ts).ended (spaces_counted s ts)) where
    -- The spaces that rule 6 gives are no narrower than a glyph.
    spaces-wide : s.glyph.0 ≤ (placing s (measuring s ts)).spaces.width.0
    spaces-wide =
        omega (arith, ap (λ (p : Placed). p.spaces.width.0) (placed-justified s ts j), share_width s room (spaces_counted s ts) j.counted)

    draw-prints : (measured unmeasured (measuring s ts).drawn).width.0 ≤ s.width.0
        → prints (measuring s ts).drawn ≡ prints (drawing s ts).drawn
    unfolding measuring start_place
    draw-prints inside =
        let p = placing s (measuring s ts) in
        let n = spaces_counted s ts in
        let width = (measured unmeasured (measuring s ts).drawn).width.0 in
        let left : p.left.0 ≡ 0 = ap (λ (x : Placed). x.left.0) (placed-justified s ts j) in
        let shared =
        ap (λ (x : Placed). spaces_width x.spaces n) (placed-justified s ts j) ∙ shared_out s room n j.counted in
        same-prints s (record { spaces = p.spaces; count = n; width = width; some = some; wide = spaces-wide; room = omega (arith, shared, inside) }) ts 0 simple (start_place s 0 (plain_spaces s))
        (start_place s p.left.0 p.spaces) 0
        (record {
          box = refl;
          box-drawn = refl;
          empty = refl;
          plain = plain-spaces s;
          spaces = sym (after_none p.spaces);
          ahead = omega arith;
          by = omega (arith, left);
        })
        (inr (omega (arith, measured-width (measuring s ts).drawn), omega (arith, measured-count (measuring s ts).drawn)))

    simple-smooth : NoneSkipped s ts → (measured unmeasured (measuring s ts).drawn).width.0 ≤ s.width.0 → Smooth s ts
    simple-smooth f inside =
        let p = placing s (measuring s ts) in
        let ms = to_last_print (measuring s ts).drawn in
        let ds = to_last_print (drawing s ts).drawn in
        let found = measure-smooth simple some f in
        let drew = smooth-from simple some f p.left.0 p.spaces (omega (arith, spaces-wide)) in
        record {
          justifies = j;
          no_tab-measured = no_tab_of ms found;
          no_tab-drawn = no_tab_of ds drew;
          none-stands-measured = none-stands_of ms found;
          none-stands-drawn = none-stands_of ds drew;
          same-prints = draw-prints inside;
        }

-- ---- characters

-- Neither a tab nor a soft hyphen.
abbrev pub simple : ℕ → Bool
simple c = not (eqb c 0x0009 || eqb c 0x00AD)

simple_spelled : (ts : List Tok) → Pass simple (spell ts) → Simple ts
unfolding spell
simple_spelled [] h = tt
simple_spelled (newLine ∷ ts) h = simple_spelled ts h.1
simple_spelled (carriageReturn ∷ ts) h = simple_spelled ts h.1
simple_spelled (tab ∷ ts) h = absurd (false≢true h.0)
simple_spelled (softHyphen ∷ ts) h = absurd (false≢true h.0)
simple_spelled (space cs n e ∷ ts) h = simple_spelled ts (pass-second simple cs (spell ts) h)
simple_spelled (word cs e ∷ ts) h = simple_spelled ts (pass-second simple cs (spell ts) h)

-- ---- a line

measured-inside : (s : Settings) (h : Held) (cs : List ℕ)
    → (measured unmeasured (measuring s (line_tokens h cs)).drawn).width.0 ≤ s.width.0
unfolding lay_line line_of
measured-inside s h cs = line-width s h cs

-- Spaces wider than plain ones.
abbrev pub WiderSpaces : Settings → Spaces → Type 0
WiderSpaces s sp = (s.glyph.0 < sp.width.0) ⊎ (1 ≤ sp.extra.0)

plain_no_wider : (s : Settings) → WiderSpaces s (plain_spaces s) → ⊥
unfolding plain_spaces
plain_no_wider s (inl h) = omega arith
plain_no_wider s (inr h) = omega arith

-- Only rule 6 makes them so.
place-wider : (s : Settings) (ended : LineEnd) (width n : ℕ) → WiderSpaces s (place s ended width n).spaces → Justifies s ended n
unfolding place
place-wider s ended width n =
    let P : Placed → Type 0 = λ (p : Placed). WiderSpaces s p.spaces → Justifies s ended n in
    pick_cases P (eqb s.alignment 0) (λ _ h. absurd (plain_no_wider s h)) λ a.
    pick_cases P (eqb s.alignment 1) (λ _ h. absurd (plain_no_wider s h)) λ b.
    pick_cases P (eqb s.alignment 2) (λ _ h. absurd (plain_no_wider s h)) λ c.
    pick_cases P (ends_paragraph ended || eqb n 0) (λ _ h. absurd (plain_no_wider s h)) λ d _.
    record {
      alignment = omega (arith, eqb-false s.alignment 0 a, eqb-false s.alignment 1 b, eqb-false s.alignment 2 c);
      goes_on_lem = either-false (ends_paragraph ended) (eqb n 0) d;
      counted = omega (arith, eqb-false n 0 (either-neither (ends_paragraph ended) (eqb n 0) d));
    }

wider-justifies : (s : Settings) (h : Held) (cs : List ℕ) → WiderSpaces s (lay_line s h cs).placed.spaces
    → Justifies s (measuring s (line_tokens h cs)).ended (spaces_counted s (line_tokens h cs))
unfolding lay_line line_of placing
wider-justifies s h cs w =
    let r = measuring s (line_tokens h cs) in
    let m = measured unmeasured r.drawn in
    place-wider s r.ended m.width.0 m.count.0 w

pass-rest : (f : ℕ → Bool) (k : ℕ) (cs : List ℕ) → Pass f cs → Pass f (drop k cs)
pass-rest f zero cs h = h
pass-rest f (suc k) [] h = tt
pass-rest f (suc k) (c ∷ cs) h = pass-rest f k cs h.1

module _ (s : Settings) (some : 1 ≤ s.glyph.0) where
  -- A line that rule 6 justifies, in a text with neither tabs nor soft hyphens.
  pub simple-at-edge : (start : ℕ) (h : Held) (cs : List ℕ) → Pass simple cs → NoneSkipped s (line_tokens h cs)
      → Justifies s (measuring s (line_tokens h cs)).ended (spaces_counted s (line_tokens h cs))
      → printed_end 0 (events_at start (lay_line s h cs).placed.left.0 (lay_line s h cs).drawn) ≡ s.width.0
  simple-at-edge start h cs f k j =
      let ts = line_tokens h cs in
      let calm = simple_spelled ts (subst (Pass simple) (sym (line-tokens_cover h cs)) f) in
      line-at-edge s h cs (simple-smooth s ts calm some j k (measured-inside s h cs)) start

  -- ---- a layout

  -- Where spaces are wider than plain ones, the line's last print ends at the edge.
  abbrev pub AtEdge : Row → Type 0
  AtEdge r = WiderSpaces s (spaces_of r.entry.space.0 r.entry.extra.0) → printed_end 0 r.events ≡ s.width.0

  rows-at-edge : leading_on s ≡ true → (n start before : ℕ) (h : Held) (cs : List ℕ) → Pass simple cs → EachRow AtEdge (rows_by n s start before h cs)
  unfolding rows_by row_at entry_at
  rows-at-edge on zero start before h cs f = tt
  rows-at-edge on (suc n) start before h cs f =
      let l = lay_line s h cs in
      let next = start + size (take l.chars cs) in
      let rest = drop l.chars cs in (
        λ w. simple-at-edge start h cs f (inl on) (wider-justifies s h cs w),
        unless_cases (EachRow AtEdge) l.ended (rows_by n s next (before + l.chars) l.held rest) (λ _. tt)
            (λ _. rows-at-edge on n next (before + l.chars) l.held rest (pass-rest simple l.chars cs f)),
      )

  -- Every line of such a text, with leading spaces on, whose entry has a space width above the glyph or extra pixels.
  pub layout-at-edge : leading_on s ≡ true → (cs : List ℕ) → Pass simple cs
      → EachRow AtEdge (rows s cs)
  unfolding rows
  layout-at-edge on cs f = rows-at-edge on (most_lines cs) 0 0 nothing_held cs f
