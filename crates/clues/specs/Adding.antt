-- One turn of the loop that adds a text's figures to those of each width: the first j widths are done, and the others are to be done yet.
-- Assumes nothing.
use Rattle.std.specs.Prelude.{ℕ, suc, ◌+◌, ◌≤◌, ◌<◌, ◌≡◌, refl, get_or, drop, set, Ok}
use Rattle.meaning.specs.Refusals.{Checked}
use Rattle.std.proofs.Math.Path.{sym, ap, subst}
use Rattle.std.proofs.Common.{◌∙◌, add-zero, add-one, arith, get_or-drop, take-append-drop}
use mathlib.Core.List.{List, [], ◌∷◌, ◌++◌, append_assoc}
use Rattle.std.proofs.Math.ListN.{length, take, length-set, drop_of_length-le}
use Rattle.std.proofs.Math.Seq.{drop-cons, drop-drop, take-suc-set, drop-set-lt}
use Rattle.meaning.specs.Checks.{text_limit}
use Rattle.meaning.specs.Columns.{with_width}
use Rattle.meaning.specs.Month.{most_clues, figures_by, together}
use Rattle.meaning.specs.declared.settings.Settings.{Settings}
use Rattle.meaning.specs.declared.figures.Figures.{Figures}
use Rattle.moves.specs.Fine.{FineSettings}
use Rattle.rows.specs.RowsFrom.{TextReady, entries_of}
use Rattle.columns.specs.OtherWidths.{ready_with}
use Rattle.clues.specs.Summing.{Of, of_room, of_one, Narrow, EachOf, added_to, each-length, each_at, narrow_at, sums-added}
use Rattle.month_figures.specs.Rooms.{Room}
use Rattle.month_figures.specs.Sums.{sums_of, sums_here, sums-all}

-- What adding a text takes for granted.
pub record AllReady (s : Settings) (t : List ℕ) (k : Checked) (ws : List ℕ) (fs : List Figures) : Type 0 where
  pub settings : FineSettings s
  pub widths : Narrow ws
  pub short : k ≡ Ok tt → length t ≤ text_limit
  pub count : ℕ
  pub few : count < most_clues
  pub each : EachOf count ws fs

-- And adding it to an array, which may be longer than the widths are many.
pub record EachReady (s : Settings) (t : List ℕ) (k : Checked) (ws : List ℕ) (u : List Figures) : Type 0 where
  pub all : AllReady s t k ws (sums_of ws u)
  pub room : length ws ≤ length u

-- One that is exactly as long is ready where its figures are.
pub exact-ready : (s : Settings) (t : List ℕ) (k : Checked) (ws : List ℕ) (u : List Figures) → AllReady s t k ws u → EachReady s t k ws u
exact-ready s t k ws u r =
    let same = each-length r.count ws u r.each in
    record { all = subst (AllReady s t k ws) (sym (sums-all ws u same)) r; room = omega (arith, same) }

-- ---- one turn of the loop: the figures of the first j widths are done, and the others are to be done yet

pub record Adding (s : Settings) (t : List ℕ) (k : Checked) (ws : List ℕ) (fs₀ fs : List Figures) (j : ℕ) : Type 0 where
  pub left : take j fs ++ added_to s t k (drop j ws) (drop j fs) ≡ added_to s t k ws fs₀
  pub kept : drop j fs ≡ drop j fs₀
  pub same : length fs ≡ length fs₀
  pub within : j ≤ length ws

pub adding-start : (s : Settings) (t : List ℕ) (k : Checked) (ws : List ℕ) (fs : List Figures) → Adding s t k ws fs fs 0
adding-start s t k ws fs = record { left = refl; kept = refl; same = refl; within = omega arith }

module _ (s : Settings) (t : List ℕ) (k : Checked) (ws : List ℕ) (fs₀ fs : List Figures) (j : ℕ) (r : EachReady s t k ws fs₀) (a : Adding s t k ws fs₀ fs j) (h : j < length ws) where
  pub adding-inside : j < length fs
  adding-inside = omega (arith, a.same, r.room)

  module _ (d : Figures) where
    here : get_or fs j d ≡ get_or fs₀ j d
    here = ap (λ (i : ℕ). get_or fs i d) (sym (add-zero j)) ∙ sym (get_or-drop j fs 0 d) ∙ ap (λ (l : List Figures). get_or l 0 d) a.kept ∙ get_or-drop j fs₀ 0 d ∙ ap (λ (i : ℕ). get_or fs₀ i d) (add-zero j)

    many : Of r.all.count (get_or fs₀ j d)
    many = subst (Of r.all.count) (sums_here ws fs₀ j d h (omega (arith, r.room))) (each_at r.all.count ws (sums_of ws fs₀) j d r.all.each h)

    pub adding-room : (g : Figures) → g ≡ figures_by k (entries_of (with_width s (get_or ws j 0)) t) → Room (get_or fs j d) g
    adding-room g e = rw (e, here) (of_room r.all.count (get_or fs₀ j d) _ r.all.few many (of_one k (with_width s (get_or ws j 0)) t r.all.short))

    pub adding-next : (v : Figures) → v ≡ together (get_or fs j d) (figures_by k (entries_of (with_width s (get_or ws j 0)) t)) → Adding s t k ws fs₀ (set fs j v) (j + 1)
    unfolding added_to
    adding-next v e =
        let more = added_to s t k (drop (suc j) ws) (drop (suc j) fs) in
        let step : added_to s t k (drop j ws) (drop j fs) ≡ v ∷ more =
        rw (drop-cons ws j 0 h, drop-cons fs j d adding-inside, e)
        in
        record {
          left =
              rw (add-one j, take-suc-set fs j v adding-inside, drop-set-lt (suc j) fs j v (omega arith))
              (append_assoc (take j fs) (v ∷ []) more ∙ ap (λ (l : List Figures). take j fs ++ l) (sym step) ∙ a.left);
          kept = drop-set-lt (j + 1) fs j v (omega arith) ∙ (sym (drop-drop 1 j fs) ∙ ap (drop 1) a.kept ∙ drop-drop 1 j fs₀);
          same = length-set fs j v ∙ a.same;
          within = omega arith;
        }

-- ---- one turn, as the code makes it

module _ (s : Settings) (t : List ℕ) (k : Checked) (ws : List ℕ) (fs₀ fs : List Figures) (j : ℕ) (r : EachReady s t k ws fs₀) (a : Adding s t k ws fs₀ fs j) where
  module _ (h : j < length ws) (s' : Settings) (is : s' ≡ with_width s (get_or ws j 0)) where
    pub added-text : k ≡ Ok tt → TextReady s' t
    added-text e =
        let ready : TextReady s t = record { settings = r.all.settings; short = r.all.short e } in
        ready_with s (get_or ws j 0) (narrow_at ws j r.all.widths h) t ready s' is

    pub added_figures : (g : Figures) → g ≡ figures_by k (entries_of s' t) → g ≡ figures_by k (entries_of (with_width s (get_or ws j 0)) t)
    added_figures g e = e ∙ ap (λ (y : Settings). figures_by k (entries_of y t)) is

  -- All of the array: the figures behind those of the widths stay.
  pub added-all : length ws ≤ j → fs ≡ added_to s t k ws fs₀
  unfolding added_to
  added-all h =
      let none : added_to s t k (drop j ws) (drop j fs) ≡ drop j fs = rw (drop_of_length-le ws h) in
      sym (take-append-drop j fs) ∙ ap (λ (l : List Figures). take j fs ++ l) (sym none) ∙ a.left

  -- And those of the widths.
  pub added-sums : length ws ≤ j → sums_of ws fs ≡ added_to s t k ws (sums_of ws fs₀)
  added-sums h = ap (sums_of ws) (added-all h) ∙ sums-added s t k ws fs₀ r.room
