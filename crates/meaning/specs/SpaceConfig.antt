-- Rule 5: how wide spaces are.
-- Assumes nothing.
use Rattle.std.specs.Prelude.{ℕ, ◌+◌, ◌-◌, ◌*◌, min}
use Rattle.meaning.specs.declared.cursor.Spaces.{Spaces}

-- n spaces take n times the width, and a pixel more each as long as extra pixels are left.
unfoldable pub spaces_width : Spaces → ℕ → ℕ
spaces_width sp n = n * sp.width.0 + min n sp.extra.0

-- What is left of the extra pixels after n spaces.
unfoldable pub spaces_after : Spaces → ℕ → Spaces
spaces_after sp n = record { width = sp.width; extra = record { 0 = sp.extra.0 - n } }
