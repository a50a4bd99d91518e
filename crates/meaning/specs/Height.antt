-- Rule 11: the text's height, and where each line stands.
-- Assumes nothing.
use Rattle.std.specs.Prelude.{ℕ, zero, suc, ◌+◌, Bool, ◌&&◌, List, [], ◌∷◌, eqb, ℤ, pos, ◌+ℤ◌, ◌-ℤ◌}
use Rattle.std.specs.Int.Signed.{le_z, quot_z}
use Rattle.basis.specs.Choice.{pick}
use Rattle.meaning.specs.WellFormed.{text_length}
use Rattle.meaning.specs.declared.settings.Settings.{Settings}
use Rattle.meaning.specs.declared.line.Entry.{Entry}

-- What a line's end adds: spacing for LineBreak (3) and NewLine (0), paragraph spacing for NewLine.
unfoldable pub end_adds : Settings → (ending : ℕ) → ℕ
end_adds s ending =
    pick (eqb ending 0) (s.spacing.0 + s.paragraph.0)
    (pick (eqb ending 3) s.spacing.0 0)

-- A LineBreak before a last line that starts at the text's end adds nothing to the height.
unfoldable pub height_adds : Settings → (length : ℕ) → Entry → List Entry → ℕ
height_adds s n e [] = end_adds s e.ending
height_adds s n e (f ∷ []) = pick (eqb e.ending 3 && eqb f.start.0 n) 0 (end_adds s e.ending)
height_adds s n e (f ∷ g ∷ es) = end_adds s e.ending

unfoldable pub height_from : Settings → (length : ℕ) → List Entry → ℕ
height_from s n [] = 0
height_from s n (e ∷ es) = height_adds s n e es + height_from s n es

unfoldable pub height_of : Settings → List Entry → ℕ
height_of s es = s.base.0 + height_from s (text_length es) es

-- The vertical offset: top 0, middle half the difference of box and text toward zero, bottom the difference.
unfoldable pub offset_of : Settings → (height : ℕ) → ℤ
offset_of s h =
    let difference = pos s.height.0 -ℤ pos h in
    pick (eqb s.vertical 0) (pos 0) (pick (eqb s.vertical 1) (quot_z difference (pos 2)) difference)

-- What the ends of the first k lines add: there every LineBreak counts.
unfoldable pub added_before : Settings → (k : ℕ) → List Entry → ℕ
added_before s k [] = 0
added_before s zero (e ∷ es) = 0
added_before s (suc k) (e ∷ es) = end_adds s e.ending + added_before s k es

-- Line k's y.
unfoldable pub y_of : Settings → (k : ℕ) → List Entry → ℤ
y_of s k es = s.top +ℤ offset_of s (height_of s es) +ℤ pos (added_before s k es)

-- A line shows if top <= y <= top + box height - base.
unfoldable pub shows_at : Settings → ℤ → Bool
shows_at s y = le_z s.top y && le_z y (s.top +ℤ pos s.height.0 -ℤ pos s.base.0)
