-- When the pen of a justified line, after its last printed event, stands exactly at the box's right edge (rule 6, rule 8, rule 10,
-- rule 13).
-- Assumes nothing.
use Rattle.std.specs.Prelude.{ℕ, ◌+◌, ◌-◌, ◌≤◌, ◌≡◌, List, [], ◌∷◌, eqb}
use Rattle.std.proofs.Common.{sym, ◌∙◌, arith, eqb-true}
use Rattle.std.proofs.Math.Path.{ap}
use Rattle.std.proofs.lemmas.Bool.{eqb-false}
use Rattle.basis.specs.Choice.{by_test}
use Rattle.meaning.specs.Tokens.{Tok}
use Rattle.meaning.specs.SpaceConfig.{spaces_width, spaces_after}
use Rattle.meaning.specs.Alignment.{plain_spaces, justified, placed_left}
use Rattle.meaning.specs.Words.{Drawn}
use Rattle.meaning.specs.LineIter.{Held, Ran, process}
use Rattle.meaning.specs.Line.{unmeasured, measured, line_tokens, start_place, measuring, placing, line_of, lay_line, events_at}
use Rattle.meaning.specs.declared.settings.Settings.{Settings}
use Rattle.meaning.specs.declared.cursor.Spaces.{Spaces}
use Rattle.meaning.specs.declared.line.EventKind.{EventKind}
use Rattle.meaning.specs.declared.line.EventKind.TheVariants.{Space, Printed, Move}
use Rattle.meaning.specs.declared.line.Placed.{Placed}
use Rattle.laws.specs.Measuring.{spaces-none}
use Rattle.laws.specs.Pens.{plain-width}
use Rattle.laws.specs.LineWidths.{plain-spaces, line-width}
use Rattle.laws.specs.EvenSpaces.{spaces-more, Justifies, shared_out, place-justified}
use Rattle.laws.specs.LastPrint.{to_last_print, AllOf, width_of, counted_in, measured-width, measured-count, printed_end, events-end, print_if, prints, prints-kept}
use Rattle.evenness.specs.SpacesDrawn.{AsWide, Along, along-first, pass-along}
use Rattle.evenness.specs.PrintsTell.{Worded, pass_tells, same-counted, line_worded}

-- ---- the premises of what is drawn

-- No tab: what is neither printed nor a counted space is 0 wide.
abbrev pub NoTabAt : EventKind → (count width : ℕ) → Type 0
NoTabAt Printed n w = Unit {0}
NoTabAt Space n w = n ≡ 0 → w ≡ 0
NoTabAt Move n w = w ≡ 0

abbrev pub NoTab : List Drawn → Type 0
NoTab = AllOf NoTabAt

-- No counted space leaves the pen standing.
abbrev pub MovesAt : EventKind → (count width : ℕ) → Type 0
MovesAt Printed n w = Unit {0}
MovesAt Space n w = 1 ≤ n → 1 ≤ w
MovesAt Move n w = Unit {0}

abbrev pub NoneStands : List Drawn → Type 0
NoneStands = AllOf MovesAt

-- ---- where they hold, prints and spaces are all there is

pub none-taken : (sp : Spaces) (n : ℕ) → n ≡ 0 → spaces_width sp n ≡ 0
none-taken sp n e = ap (λ (k : ℕ). spaces_width sp k) e ∙ spaces-none sp

width_one : (k : EventKind) (sp : Spaces) (d : Drawn) (ps : List Drawn) (n : ℕ) → AsWide sp k d.count d.width
    → NoTabAt k d.count d.width → MovesAt k d.count d.width
    → d.width + (width_of ps + spaces_width (spaces_after sp d.count) n) ≡ width_of (print_if k d ps) + spaces_width sp (d.count + n)
unfolding width_of
width_one Printed sp d ps n f t m = omega (arith, spaces-more sp d.count n, none-taken sp d.count f)
width_one Move sp d ps n f t m = omega (arith, spaces-more sp d.count n, none-taken sp d.count f)
width_one Space sp d ps n f t m =
    by_test (eqb d.count 0)
    (λ e.
    let z = eqb-true d.count 0 e in
    omega (arith, spaces-more sp d.count n, none-taken sp d.count z, t z))
    (λ e.
    let some : 1 ≤ d.count = omega (arith, eqb-false d.count 0 e) in
    omega (arith, spaces-more sp d.count n, f some (m some)))

prints_and_spaces : (sp : Spaces) (ds : List Drawn) → Along sp ds → NoTab ds → NoneStands ds
    → width_of ds ≡ width_of (prints ds) + spaces_width sp (counted_in ds)
unfolding prints counted_in width_of
prints_and_spaces sp [] f t m = omega (arith, spaces-none sp)
prints_and_spaces sp (d ∷ ds) f t m =
    let more = prints_and_spaces (spaces_after sp d.count) ds f.1 t.1 m.1 in
    omega (arith, more, width_one d.kind sp d (prints ds) (counted_in ds) f.0 t.0 m.0)

-- ---- a line

-- The pass that draws a line, and the spaces that its measure counts.
abbrev pub drawing : Settings → List Tok → Ran
drawing s ts =
    let p = placing s (measuring s ts) in
    process s (start_place s p.left.0 p.spaces) 0 ts

abbrev pub spaces_counted : Settings → List Tok → ℕ
spaces_counted s ts = (measured unmeasured (measuring s ts).drawn).count.0

-- What the theorem asks of a line: rule 6 justifies it; up to the last print neither pass has a tab, or a counted space that leaves
-- the pen standing; and the draw makes the same prints as the measure.
pub record Smooth (s : Settings) (ts : List Tok) : Type 0 where
  pub justifies : Justifies s (measuring s ts).ended (spaces_counted s ts)
  pub no_tab-measured : NoTab (to_last_print (measuring s ts).drawn)
  pub no_tab-drawn : NoTab (to_last_print (drawing s ts).drawn)
  pub none-stands-measured : NoneStands (to_last_print (measuring s ts).drawn)
  pub none-stands-drawn : NoneStands (to_last_print (drawing s ts).drawn)
  pub same-prints : prints (measuring s ts).drawn ≡ prints (drawing s ts).drawn

module _ (s : Settings) (ts : List Tok) where
  -- The spaces that each of the passes draws.
  measure-along : Along (plain_spaces s) (measuring s ts).drawn
  unfolding measuring start_place
  measure-along = pass-along s ts (start_place s 0 (plain_spaces s)) 0

  pub draw-along : Along (placing s (measuring s ts)).spaces (drawing s ts).drawn
  unfolding start_place
  draw-along = let p = placing s (measuring s ts) in pass-along s ts (start_place s p.left.0 p.spaces) 0

  -- The same prints, the same count.
  counts-agree : Worded ts → prints (measuring s ts).drawn ≡ prints (drawing s ts).drawn
      → counted_in (to_last_print (measuring s ts).drawn) ≡ counted_in (to_last_print (drawing s ts).drawn)
  unfolding measuring
  counts-agree w e =
      let p = placing s (measuring s ts) in
      same-counted 0 ts (measuring s ts).drawn (drawing s ts).drawn (pass_tells s ts (start_place s 0 (plain_spaces s)) 0 w)
      (pass_tells s ts (start_place s p.left.0 p.spaces) 0 w) e

  -- Where rule 6 has put the line.
  pub placed-justified : Justifies s (measuring s ts).ended (spaces_counted s ts)
      → placing s (measuring s ts)
      ≡ placed_left 0 (justified s (s.width.0 - (measured unmeasured (measuring s ts).drawn).width.0) (spaces_counted s ts))
  unfolding placing
  placed-justified j =
      place-justified s (measuring s ts).ended (measured unmeasured (measuring s ts).drawn).width.0 (spaces_counted s ts) j

  drawn-at-edge : Worded ts → (measured unmeasured (measuring s ts).drawn).width.0 ≤ s.width.0 → Smooth s ts
      → width_of (to_last_print (drawing s ts).drawn) ≡ s.width.0
  drawn-at-edge w inside e =
      let ms = (measuring s ts).drawn in
      let ds = (drawing s ts).drawn in
      let n = spaces_counted s ts in
      let width = (measured unmeasured ms).width.0 in
      let sp = (placing s (measuring s ts)).spaces in
      let found = prints_and_spaces (plain_spaces s) (to_last_print ms) (along-first _ ms measure-along) e.no_tab-measured e.none-stands-measured in
      let drew = prints_and_spaces sp (to_last_print ds) (along-first sp ds draw-along) e.no_tab-drawn e.none-stands-drawn in
      let same = ap width_of (prints-kept ms ∙ e.same-prints ∙ sym (prints-kept ds)) in
      let many = measured-count (measuring s ts).drawn ∙ counts-agree w e.same-prints in
      let shared =
      ap (λ (p : Placed). spaces_width p.spaces n) (placed-justified e.justifies) ∙ shared_out s (s.width.0 - width) n e.justifies.counted in
      omega (
        arith,
        found,
        drew,
        same,
        shared,
        inside,
        measured-width (measuring s ts).drawn,
        ap (λ (k : ℕ). spaces_width sp k) many,
        ap (λ (k : ℕ). spaces_width (plain_spaces s) k) (measured-count (measuring s ts).drawn),
        plain-width s.glyph.0 (plain_spaces s) n (plain-spaces s),
      )

module _ (s : Settings) (h : Held) (cs : List ℕ) (e : Smooth s (line_tokens h cs)) where
  -- After the line's last printed event the pen stands at the box's right edge.
  pub line-at-edge : (start : ℕ) → printed_end 0 (events_at start (lay_line s h cs).placed.left.0 (lay_line s h cs).drawn) ≡ s.width.0
  unfolding lay_line line_of
  line-at-edge start =
      let ts = line_tokens h cs in
      let left : (placing s (measuring s ts)).left.0 ≡ 0 = ap (λ (p : Placed). p.left.0) (placed-justified s ts e.justifies) in
      ap (λ (x : ℕ). printed_end 0 (events_at start x (drawing s ts).drawn)) left
      ∙ events-end start (drawing s ts).drawn
      ∙ drawn-at-edge s ts (line_worded h cs) (line-width s h cs) e
