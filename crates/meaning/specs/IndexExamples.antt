-- Computed examples of the index of ys: what it holds, which line stands under a y, which indexes are refused, and what is written after
-- an edit (rule 11, refusal 10).
-- Assumes nothing.
use Prim.Native.String.{String}
use Rattle.meaning.specs.declared.refusals.Refusal.{Refusal}
use Rattle.std.specs.Prelude.{◌≡◌, refl, List, [], ◌∷◌, map, ℤ, pos, negsuc, Err, None, Ok, Option, Result, Some, ℕ}
use Rattle.basis.specs.Choice.{pick}
use Rattle.meaning.specs.Layout.{layout}
use Rattle.meaning.specs.WellFormed.{last_reach, text_length}
use Rattle.meaning.specs.Height.{end_adds, height_adds, height_from, height_of, offset_of, added_before, y_of}
use Rattle.meaning.specs.YIndex.{ys_from, index_of, written_from, kept_before, check_rising, check_ys, check_index, last_under, find_in}
use Rattle.meaning.specs.Examples.{codes, lines_of}
use Rattle.meaning.specs.SmallExamples.{standing}
use Rattle.meaning.specs.declared.settings.Settings.{Settings}
use Rattle.meaning.specs.declared.refusals.Refusal.TheVariants.{BadIndex}

-- ---- the index of a text, and the line under a y: spacing 10, paragraph 3, base 8, a box at -5

pub record IndexExample : Type 0 where
  pub settings : Settings
  pub text : String
  pub index : List ℤ
  pub y : ℤ
  pub under : Option ℕ

abbrev tap : Settings → String → List ℤ → ℤ → Option ℕ → IndexExample
tap s t index y k = record { settings = s; text = t; index = index; y = y; under = k }

abbrev pub index_examples : List IndexExample
index_examples =
    -- above the first line, at it, just above the second, at it, and far below the last
    tap (standing 40 0) "aa\nbb" (negsuc 4 ∷ pos 8 ∷ []) (negsuc 5) None
    ∷ tap (standing 40 0) "aa\nbb" (negsuc 4 ∷ pos 8 ∷ []) (negsuc 4) (Some 0)
    ∷ tap (standing 40 0) "aa\nbb" (negsuc 4 ∷ pos 8 ∷ []) (pos 7) (Some 0)
    ∷ tap (standing 40 0) "aa\nbb" (negsuc 4 ∷ pos 8 ∷ []) (pos 8) (Some 1)
    ∷ tap (standing 40 0) "aa\nbb" (negsuc 4 ∷ pos 8 ∷ []) (pos 4000) (Some 1)
    -- lines joined by a carriage return share a y, and the last of them is found
    ∷ tap (standing 40 0) "aa\rbb\ncc\rdd" (negsuc 4 ∷ negsuc 4 ∷ pos 8 ∷ pos 8 ∷ []) (pos 0) (Some 1)
    ∷ tap (standing 40 0) "aa\rbb\ncc\rdd" (negsuc 4 ∷ negsuc 4 ∷ pos 8 ∷ pos 8 ∷ []) (pos 8) (Some 3)
    -- in the middle and at the bottom every line moves with the height; half of -21 toward zero is -10
    ∷ tap (standing 40 1) "aa\nbb" (pos 4 ∷ pos 17 ∷ []) (pos 16) (Some 0)
    ∷ tap (standing 40 2) "aa\nbb" (pos 14 ∷ pos 27 ∷ []) (pos 13) None
    ∷ tap (standing 0 1) "aa\nbb" (negsuc 14 ∷ negsuc 1 ∷ []) (negsuc 1) (Some 1)
    -- a LineBreak before an empty last line counts in that line's y
    ∷ tap (standing 40 0) "     ab" (negsuc 4 ∷ pos 5 ∷ []) (pos 5) (Some 1)
    ∷ []

unfoldable pub index_found : IndexExample → IndexExample
unfolding lines_of codes last_reach text_length end_adds height_adds height_from height_of offset_of added_before y_of ys_from index_of last_under find_in
index_found x =
    let ys = index_of x.settings (layout x.settings (codes x.text)) in
    tap x.settings x.text ys x.y (find_in x.y ys)

pub indexes_hold : map index_found index_examples ≡ index_examples
unfolding index_found
indexes_hold = refl

-- ---- indexes that are refused (refusal 10)

-- Of two lines: one y too few, one too many, none; a y that is smaller than the one before it; two that are equal. The length is looked
-- at first.
pub index_checks_hold : check_index 2 (pos 0 ∷ []) ∷ check_index 2 (pos 9 ∷ pos 8 ∷ pos 7 ∷ []) ∷ check_index 2 [] ∷ check_index 3 (pos 0 ∷ pos 8 ∷ pos 7 ∷ [])
    ∷ check_index 3 (pos 0 ∷ negsuc 0 ∷ negsuc 1 ∷ []) ∷ check_index 3 (negsuc 8 ∷ negsuc 8 ∷ pos 0 ∷ []) ∷ []
    ≡ Err (BadIndex 1) ∷ Err (BadIndex 3) ∷ Err (BadIndex 0) ∷ Err (BadIndex 2) ∷ Err (BadIndex 1) ∷ (Ok tt) ∷ []
unfolding pick check_rising check_ys check_index
index_checks_hold = refl

-- ---- what is written (1, 2, 3 and 4 stood there)

abbrev held : List ℤ
held = pos 1 ∷ pos 2 ∷ pos 3 ∷ pos 4 ∷ []

abbrev three : List ℤ
three = pos 10 ∷ pos 20 ∷ pos 30 ∷ []

-- A fresh index of three lines; at the top, line 2 first affected, and one past the last line; elsewhere line 2 first affected.
pub written_hold : written_from 0 held three ∷ written_from (kept_before (standing 40 0) 2) held three ∷ written_from (kept_before (standing 40 0) 3) held three
    ∷ written_from (kept_before (standing 40 0) 9) held three ∷ written_from (kept_before (standing 40 1) 2) held three
    ∷ written_from (kept_before (standing 40 2) 2) held three ∷ []
    ≡ (pos 10 ∷ pos 20 ∷ pos 30 ∷ pos 4 ∷ []) ∷ (pos 1 ∷ pos 2 ∷ pos 30 ∷ pos 4 ∷ []) ∷ held ∷ held ∷ (pos 10 ∷ pos 20 ∷ pos 30 ∷ pos 4 ∷ [])
    ∷ (pos 10 ∷ pos 20 ∷ pos 30 ∷ pos 4 ∷ []) ∷ []
unfolding pick written_from kept_before
written_hold = refl
