-- What the check of the settings answers in each of its four cases.
-- Assumes nothing.
use Prim.Native.Nat.{◌<◌, ◌≤◌}
use Rattle.std.specs.Prelude.{Err, Ok}
use mathlib.Core.Bool.{true, false}
use mathlib.Core.Path.{◌≡◌}
use borrow.Author.Tests.{le-leb, lt-leb}
use Rattle.basis.specs.Choice.{pick}
use Rattle.meaning.specs.Settings.{in_range}
use Rattle.meaning.specs.Checks.{check_settings}
use Rattle.meaning.specs.declared.settings.Settings.{Settings}
use Rattle.meaning.specs.declared.refusals.Refusal.TheVariants.{SettingOutOfRange, UnknownAlignment}

module _ (s : Settings) where
  pub out_of_range : in_range s ≡ false → Err SettingOutOfRange ≡ check_settings s
  unfolding check_settings pick
  out_of_range e = rw e

  pub unknown_horizontal : in_range s ≡ true → 3 < s.alignment → Err (UnknownAlignment s.alignment) ≡ check_settings s
  unfolding check_settings pick
  unknown_horizontal e h = rw (e, lt-leb _ _ h)

  pub unknown_vertical : in_range s ≡ true → s.alignment ≤ 3 → 2 < s.vertical → Err (UnknownAlignment s.vertical) ≡ check_settings s
  unfolding check_settings pick
  unknown_vertical e a v = rw (e, le-leb _ _ a, lt-leb _ _ v)

  pub all-good : in_range s ≡ true → s.alignment ≤ 3 → s.vertical ≤ 2 → Ok tt ≡ check_settings s
  unfolding check_settings pick
  all-good e a v = rw (e, le-leb _ _ a, le-leb _ _ v)
