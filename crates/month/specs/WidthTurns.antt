-- One turn of the loop over the lines of the file of widths (refusal 13).
-- Assumes nothing.
use Rattle.std.specs.Prelude.{ℕ, suc, ◌+◌, ◌-◌, ◌≤◌, ◌<◌, ◌≡◌, refl, length, set, None, Some, Ok, Err}
use Rattle.std.proofs.Math.Path.{sym, ap}
use Rattle.std.proofs.Common.{◌∙◌, add-one, arith, length-drop, drop-drop, take_all}
use mathlib.Core.List.{List, [], ◌∷◌, ◌++◌, append_assoc, append-nil}
use borrow.Author.Tests.{lt-ltb, le-ltb}
use Rattle.std.proofs.Math.ListN.{take, drop, length-set, drop_of_length-le}
use Rattle.std.proofs.Math.Seq.{take-suc-set}
use Rattle.basis.specs.Choice.{pick}
use Rattle.meaning.specs.Month.{stream_lines}
use Rattle.clues.specs.Feeds.{before_feed, line-off}
use Rattle.month.specs.WidthFile.{width_of, widths_from, widths_in, listed, listed_in}
use Rattle.month.specs.declared.width_lines.WidthsError.TheVariants.{Bad}

-- k lines are widths, which stand at the front of u, and the others start at a place.
pub record Reading (file u₀ : List ℕ) (at k : ℕ) (u : List ℕ) : Type 0 where
  pub goes : widths_from (length u₀) k (stream_lines (drop at file)) ≡ widths_in (length u₀) file
  pub front : take k u ++ listed (stream_lines (drop at file)) ≡ listed_in file
  pub few : k ≤ length u
  pub same : length u ≡ length u₀
  pub within : at ≤ length file + 1

pub reading_start : (file u : List ℕ) → Reading file u 0 0 u
unfolding widths_in listed_in
reading_start file u = record { goes = refl; front = refl; few = omega arith; same = refl; within = omega arith }

module _ (file u₀ : List ℕ) (at k : ℕ) (u : List ℕ) (r : Reading file u₀ at k u) where
  pub reading_end : length file ≤ at → (Ok k ≡ widths_in (length u₀) file) × (take k u ≡ listed_in file)
  unfolding widths_from listed stream_lines
  reading_end h =
      let none : drop at file ≡ [] = drop_of_length-le file h in
      let goes = rw none at r.goes in
      let front = rw none at r.front in
      (goes, sym (append-nil (take k u)) ∙ front)

  module _ (h : at < length file) (stop : ℕ) (is : stop ≡ at + before_feed (drop at (take (length file) file))) where
    abbrev line : List ℕ
    line = take (stop - at) (drop at file)

    lines_are : stream_lines (drop at file) ≡ line ∷ stream_lines (drop (stop + 1) file)
    lines_are =
        let xs = drop at file in
        let all : take (length file) file ≡ file = take_all (length file) file (omega arith) in
        let stop_is : stop ≡ at + before_feed xs = is ∙ ap (λ (l : List ℕ). at + before_feed (drop at l)) all in
        let size : before_feed xs ≡ stop - at = omega arith in
        let next : drop (suc (before_feed xs)) xs ≡ drop (stop + 1) file =
        (let z : stop + 1 ≡ at + suc (before_feed xs) = omega arith in rw z (drop-drop (suc (before_feed xs)) at file))
        in
        line-off xs (omega (arith, length-drop at file)) ∙ (λ i. take (size i) xs ∷ stream_lines (next i))

    pub reading_full : length u ≤ k → Err (Bad k) ≡ widths_in (length u₀) file
    unfolding widths_from pick
    reading_full full =
        sym (ap (widths_from (length u₀) k) lines_are ∙ rw (le-ltb k (length u₀) (omega (arith, r.same)))) ∙ r.goes

    module _ (room : k < length u) where
      more : k < length u₀
      more = omega (arith, r.same)

      pub reading_bad : width_of line ≡ None → Err (Bad k) ≡ widths_in (length u₀) file
      unfolding widths_from pick
      reading_bad e = sym (ap (widths_from (length u₀) k) lines_are ∙ rw (lt-ltb k (length u₀) more, e)) ∙ r.goes

      pub reading_next : (w : ℕ) → width_of line ≡ Some w → stop ≤ length file → Reading file u₀ (stop + 1) (k + 1) (set u k w)
      unfolding widths_from listed pick
      reading_next w e b =
          let rest = stream_lines (drop (stop + 1) file) in
          let on : widths_from (length u₀) k (line ∷ rest) ≡ widths_from (length u₀) (k + 1) rest = rw (add-one k, lt-ltb k (length u₀) more, e) in
          let onto : listed (line ∷ rest) ≡ w ∷ listed rest = rw e in
          record {
            goes = sym (ap (widths_from (length u₀) k) lines_are ∙ on) ∙ r.goes;
            front =
                rw (add-one k, take-suc-set u k w room)
                (append_assoc (take k u) (w ∷ []) (listed rest) ∙ ap (λ (l : List ℕ). take k u ++ l) (sym (ap listed lines_are ∙ onto)) ∙ r.front);
            few = omega (arith, length-set u k w);
            same = length-set u k w ∙ r.same;
            within = omega arith;
          }
