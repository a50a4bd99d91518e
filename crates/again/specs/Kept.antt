-- The old lines that laying again stops at are the lines of an end of the old text.
-- Assumes nothing.
use Prim.Native.Nat.{ℕ, zero, suc, ◌+◌, ◌<◌}
use Rattle.std.proofs.Common.{arith}
use Rattle.std.specs.Prelude.{◌≡◌, refl, true, List, [], ◌∷◌, map, length, take, drop}
use Rattle.basis.specs.Choice.{pick_cases}
use Rattle.utf8.specs.Encoding.{size}
use Rattle.meaning.specs.LineIter.{Held}
use Rattle.meaning.specs.Line.{lay_line, entry_at}
use Rattle.meaning.specs.Layout.{row_at, rows_by, entry_of_row}
use Rattle.meaning.specs.Edit.{meets, kept_from}
use Rattle.meaning.specs.declared.settings.Settings.{Settings}
use Rattle.meaning.specs.declared.edit.Edit.{Edit}
use Rattle.meaning.specs.declared.line.Rest.{Rest}
use Rattle.meaning.specs.declared.line.Entry.{Entry}
use Rattle.laws.specs.RowInduction.{unless_cases}
use Rattle.laws.specs.Stands.{Stand, next-stand, next-fewer}

module _ (s : Settings) (ed : Edit) (old : List ℕ) (start : ℕ) (rest : Rest) where
  -- Old lines, from a place in the old text on, the first of which is met.
  pub record Kept (es : List Entry) : Type 0 where
    pub from : ℕ
    pub before : ℕ
    pub held : Held
    pub part : List ℕ
    pub stands : Stand old from held part
    pub fuel : ℕ
    pub enough : length part < fuel
    pub is : es ≡ map entry_of_row (rows_by fuel s from before held part)
    pub met : meets ed start rest (entry_at from before held part (lay_line s held part)) ≡ true

  abbrev pub KeptIf : List Entry → Type 0
  KeptIf [] = Unit {0}
  KeptIf (e ∷ es) = Kept (e ∷ es)

  pub kept_by : (n from before : ℕ) (h : Held) (cs : List ℕ) → Stand old from h cs → length cs < n
      → KeptIf (kept_from ed start rest (map entry_of_row (rows_by n s from before h cs)))
  unfolding rows_by kept_from row_at
  kept_by zero from before h cs p b = absurd (omega arith)
  kept_by (suc n) from before h cs p b =
      let l = lay_line s h cs in
      let next = from + size (take l.chars cs) in
      pick_cases KeptIf (meets ed start rest (entry_at from before h cs l))
      (λ t. record { from = from; before = before; held = h; part = cs; stands = p; fuel = suc n; enough = b; is = refl; met = t })
      (λ f.
      unless_cases (λ rs. KeptIf (kept_from ed start rest (map entry_of_row rs))) l.ended
      (rows_by n s next (before + l.chars) l.held (drop l.chars cs)) (λ _. tt)
      (λ d. kept_by n next (before + l.chars) l.held (drop l.chars cs) (next-stand s old from h cs p) (next-fewer s h cs p.chars p.count d n b)))
