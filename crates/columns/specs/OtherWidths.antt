-- Settings that are fine stay fine with another width that the settings allow.
-- Assumes nothing.
use Rattle.std.specs.Prelude.{ℕ, ◌≤◌, ◌≡◌, List}
use Rattle.meaning.specs.Columns.{with_width, widest_box}
use Rattle.meaning.specs.declared.settings.Settings.{Settings}
use Rattle.moves.specs.Fine.{FineSettings}
use Rattle.rows.specs.RowsFrom.{TextReady}

module _ (s : Settings) (w : ℕ) (low : w ≤ widest_box) where
  fine_with : FineSettings s → FineSettings (with_width s w)
  unfolding with_width
  fine_with f = (f.0, f.1, low, f.3, f.4, f.5)

  pub ready_with : (t : List ℕ) → TextReady s t → (x : Settings) → x ≡ with_width s w → TextReady x t
  ready_with t r x is = rw is (record { settings = fine_with r.settings; short = r.short })
