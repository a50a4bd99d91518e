-- The line under a y, by rule 11: found in the index of its lines, it is the last with y at most the given one, and of lines that are
-- joined by CarriageReturn, which share a y, the last.
-- Assumes nothing.
use Rattle.std.specs.Prelude.{ℕ, zero, suc, ◌+◌, ◌<◌, ◌≡◌, true, false, List, [], ◌∷◌, ℤ, ◌+ℤ◌, length, None, Option, Some}
use Rattle.std.proofs.Common.{sym, ◌∙◌, arith}
use Rattle.std.proofs.Math.Path.{ap}
use Rattle.std.proofs.lemmas.Bool.{false≢true}
use Rattle.std.proofs.Math.IntN.{pos}
use Rattle.std.specs.Int.Signed.{le_z}
use Rattle.basis.specs.Choice.{pick}
use Rattle.meaning.specs.Height.{end_adds, height_of, offset_of, added_before, y_of}
use Rattle.meaning.specs.YIndex.{index_of, find_in}
use Rattle.meaning.specs.declared.settings.Settings.{Settings}
use Rattle.meaning.specs.declared.line.Entry.{Entry}
use Rattle.laws.specs.Indexes.{index-length, index_at}
use Rattle.laws.specs.FoundLines.{Says, find_says}

-- How line k ends.
abbrev pub ending_of : List Entry → (k : ℕ) → ℕ
ending_of [] k = 0
ending_of (e ∷ es) zero = e.ending
ending_of (e ∷ es) (suc k) = ending_of es k

-- A line's end adds to the line behind it.
pub added_next : (s : Settings) (es : List Entry) (k : ℕ) → k < length es
    → added_before s (suc k) es ≡ added_before s k es + end_adds s (ending_of es k)
unfolding added_before
added_next s [] k h = absurd (omega arith)
added_next s (e ∷ []) zero h = omega arith
added_next s (e ∷ f ∷ es) zero h = omega arith
added_next s (e ∷ es) (suc k) h = omega (arith, added_next s es k (omega arith))

module _ (s : Settings) (es : List Entry) where
  -- A line that ends by CarriageReturn (1) and the line behind it share a y.
  pub joined-lines : (k : ℕ) → k < length es → ending_of es k ≡ 1 → y_of s (suc k) es ≡ y_of s k es
  unfolding y_of end_adds pick
  joined-lines k h e =
      let none : end_adds s (ending_of es k) ≡ 0 = ap (end_adds s) e in
      let same : added_before s (suc k) es ≡ added_before s k es = omega (arith, added_next s es k h) in
      ap (λ (n : ℕ). s.top +ℤ offset_of s (height_of s es) +ℤ pos n) same

  module _ (y : ℤ) where
    -- Line k is the last with y at most the given one; so it is not joined to a line behind it.
    pub record UnderFinger (k : ℕ) : Type 0 where
      pub within : k < length es
      pub under : le_z (y_of s k es) y ≡ true
      pub after : (j : ℕ) → k < j → j < length es → le_z (y_of s j es) y ≡ false
      pub last-joined : suc k < length es → ending_of es k ≡ 1 → ⊥

    -- What the line found in the index of these lines says of them.
    abbrev pub SaysOfLines : Option ℕ → Type 0
    SaysOfLines (Some k) = UnderFinger k
    SaysOfLines None = (j : ℕ) → j < length es → le_z (y_of s j es) y ≡ false

    of_lines : (f : Option ℕ) → Says y (index_of s es) f → SaysOfLines f
    of_lines (Some k) l = record { within = inside; under = at; after = after; last-joined = λ h e. false≢true (sym (after (suc k) (omega arith) h) ∙ ap (λ (z : ℤ). le_z z y) (joined-lines k inside e) ∙ at) }
      where
        inside : k < length es
        inside = omega (arith, l.within, index-length s es)

        at : le_z (y_of s k es) y ≡ true
        at = ap (λ (z : ℤ). le_z z y) (sym (index_at s es k inside)) ∙ l.under

        after : (j : ℕ) → k < j → j < length es → le_z (y_of s j es) y ≡ false
        after j p h = ap (λ (z : ℤ). le_z z y) (sym (index_at s es j h)) ∙ l.after j p (omega (arith, index-length s es))
    of_lines None a = λ j h. ap (λ (z : ℤ). le_z z y) (sym (index_at s es j h)) ∙ a j (omega (arith, index-length s es))

    pub found-line : SaysOfLines (find_in y (index_of s es))
    found-line = of_lines (find_in y (index_of s es)) (find_says y (index_of s es))
