-- How large the settings can be that heights are made of, if the settings are in range.
-- Assumes nothing.
use Rattle.std.specs.Prelude.{◌≤◌, ◌≡◌, true, ◌&&◌, ℤ, pos, negsuc, Err, Ok}
use Rattle.std.proofs.Common.{arith}
use borrow.Author.Tests.{leb-true}
use Rattle.std.proofs.Math.Dec.{leb}
use Rattle.std.specs.Int.Signed.{mag}
use Rattle.basis.specs.Choice.{pick, and_true}
use Rattle.basis.specs.Order.{within, within-true}
use Rattle.meaning.specs.Settings.{top_in_range, sizes_in_range, in_range, is_switch, is_retired, known_alignment, known_vertical}
use Rattle.meaning.specs.Checks.{check_settings}
use Rattle.meaning.specs.declared.settings.Settings.{Settings}
use Rattle.meaning.specs.declared.refusals.Refusal.TheVariants.{SettingOutOfRange, UnknownAlignment}
use Rattle.laws.specs.GoodLines.{good-both}

pub record Measures (s : Settings) : Type 0 where
  pub spacing : s.spacing.0 ≤ 4096
  pub paragraph : s.paragraph.0 ≤ 4096
  pub base : s.base.0 ≤ 64
  pub height : s.height.0 ≤ 4096
  pub top : mag s.top ≤ 4096

top-near : (z : ℤ) → top_in_range z ≡ true → mag z ≤ 4096
unfolding top_in_range
top-near (pos n) e = leb-true n 4096 e
top-near (negsuc n) e = omega (arith, leb-true n 4095 (and_true (leb n 4095) true e).0)

module _ (s : Settings) (h : check_settings s ≡ Ok tt) where
  in_range_lem : in_range s ≡ true
  unfolding check_settings
  in_range_lem =
      (good-both (in_range s)
      (pick (known_alignment s.alignment)
      (pick (known_vertical s.vertical) (Ok tt) (Err (UnknownAlignment s.vertical)))
      (Err (UnknownAlignment s.alignment)))
      SettingOutOfRange h).0

  pub measures : Measures s
  unfolding in_range sizes_in_range
  measures =
      let a = within 1 64 s.glyph.0 && leb s.width.0 4096 && leb s.tab.0 4096 in
      let b = leb s.spacing.0 4096 in
      let c = leb s.paragraph.0 4096 in
      let d = within 1 64 s.base.0 in
      let e = leb s.height.0 4096 in
      let t = top_in_range s.top in
      let l = is_switch s.leading in
      let k = is_retired s.trailing in
      let all = and_true (a && b && c && d && e && t && l && k) (is_switch s.wrap) in_range_lem in
      let leading = and_true (a && b && c && d && e && t && l) k all.0 in
      let top = and_true (a && b && c && d && e) t (and_true (a && b && c && d && e && t) l leading.0).0 in
      let height = and_true (a && b && c && d) e top.0 in
      let base = and_true (a && b && c) d height.0 in
      let paragraph = and_true (a && b) c base.0 in
      record {
        spacing = leb-true s.spacing.0 4096 (and_true a b paragraph.0).1;
        paragraph = leb-true s.paragraph.0 4096 paragraph.1;
        base = (within-true 1 64 s.base.0 base.1).1;
        height = leb-true s.height.0 4096 height.1;
        top = top-near s.top top.1;
      }
