-- What the checks of settings and text say for the lines: no sum wraps.
-- Assumes nothing.
use Rattle.std.specs.Prelude.{ℕ, ◌≡◌, true, ◌&&◌, List, Err, Ok}
use borrow.Author.Tests.{leb-true}
use Rattle.std.proofs.Math.Dec.{leb}
use Rattle.basis.specs.Choice.{pick, and_true}
use Rattle.basis.specs.Order.{within, within-true}
use Rattle.meaning.specs.Settings.{top_in_range, sizes_in_range, in_range, is_switch, is_retired, known_alignment, known_vertical}
use Rattle.meaning.specs.Checks.{check_settings, check_text}
use Rattle.meaning.specs.declared.settings.Settings.{Settings}
use Rattle.meaning.specs.declared.refusals.Refusal.TheVariants.{SettingOutOfRange, UnknownAlignment}
use Rattle.parser.specs.GoodText.{good_length}
use Rattle.moves.specs.Fine.{FineSettings}
use Rattle.laws.specs.GoodLines.{good-both}
use Rattle.rows.specs.RowsFrom.{TextReady}

module _ (s : Settings) (h : check_settings s ≡ Ok tt) where
  judged : (in_range s ≡ true) × (known_alignment s.alignment ≡ true)
  unfolding check_settings
  judged =
      let vertical = pick (known_vertical s.vertical) (Ok tt) (Err (UnknownAlignment s.vertical)) in
      let a = good-both (in_range s) (pick (known_alignment s.alignment) vertical (Err (UnknownAlignment s.alignment))) SettingOutOfRange h in
      (a.0, (good-both (known_alignment s.alignment) vertical (UnknownAlignment s.alignment) a.1).0)

  pub fine_settings : FineSettings s
  unfolding in_range sizes_in_range
  fine_settings =
      let g = within 1 64 s.glyph.0 in
      let w = leb s.width.0 4096 in
      let a = leb s.tab.0 4096 in
      let b = leb s.spacing.0 4096 in
      let c = leb s.paragraph.0 4096 in
      let d = within 1 64 s.base.0 in
      let e = leb s.height.0 4096 in
      let t = top_in_range s.top in
      let l = is_switch s.leading in
      let k = is_retired s.trailing in
      let all = and_true (g && w && a && b && c && d && e && t && l && k) (is_switch s.wrap) judged.0 in
      let trailing = and_true (g && w && a && b && c && d && e && t && l) k all.0 in
      let leading = and_true (g && w && a && b && c && d && e && t) l trailing.0 in
      let top = and_true (g && w && a && b && c && d && e) t leading.0 in
      let height = and_true (g && w && a && b && c && d) e top.0 in
      let base = and_true (g && w && a && b && c) d height.0 in
      let paragraph = and_true (g && w && a && b) c base.0 in
      let spacing = and_true (g && w && a) b paragraph.0 in
      let tab = and_true (g && w) a spacing.0 in
      let width = and_true g w tab.0 in
      let glyph = within-true 1 64 s.glyph.0 width.0 in (
        glyph.0,
        glyph.1,
        leb-true s.width.0 4096 width.1,
        leb-true s.tab.0 4096 tab.1,
        leb-true s.alignment 3 judged.1,
        leb-true s.leading 1 leading.1,
      )

  pub text-ready : (t : List ℕ) → check_text t ≡ Ok tt → TextReady s t
  text-ready t e = record { settings = fine_settings; short = good_length t e }
