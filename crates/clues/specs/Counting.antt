-- What is still to be counted of a stream: so many clues are counted, and these bytes and all that follow are to be counted yet.
-- Assumes nothing.
use Prim.Native.Nat.{ℕ, zero, suc, ◌+◌, ◌-◌, ◌≤◌, ◌<◌}
use Rattle.meaning.specs.Refusals.{Checked}
use Rattle.std.specs.Prelude.{◌≡◌, refl, List, [], ◌∷◌, ◌++◌, Ok}
use Rattle.std.proofs.Common.{sym, subst, ◌∙◌, drop-drop, take-take}
use Rattle.std.proofs.Math.Path.{ap}
use native.Mathlib.Omega.{arith}
use Rattle.std.proofs.Math.ListN.{length, take, drop, length-drop}
use Rattle.std.proofs.Math.Seq.{take-nil}
use Rattle.meaning.specs.Checks.{text_limit, check_text}
use Rattle.meaning.specs.Month.{most_clues, stream_lines}
use Rattle.meaning.specs.declared.settings.Settings.{Settings}
use Rattle.meaning.specs.declared.figures.Figures.{Figures}
use Rattle.parser.specs.GoodText.{good_length}
use Rattle.moves.specs.Fine.{FineSettings}
use Rattle.clues.specs.Summing.{Narrow, EachOf, added_to, added-length, sums-added, each_more, each-length}
use Rattle.month_figures.specs.Sums.{sums_of, sums-all}
use Rattle.clues.specs.Adding.{EachReady}
use Rattle.clues.specs.Gathering.{with_clue, with_clues, sums-with_clues}
use Rattle.clues.specs.Feeds.{before_feed, ended-line, before-most}

-- The figures at the end, where n clues are counted and the stream goes on with these bytes.
unfoldable pub counting : Settings → (widths : List ℕ) → (n : ℕ) → List Figures → (bytes : List ℕ) → List Figures
counting s ws n fs bytes = with_clues s ws fs (take (most_clues - n) (stream_lines bytes))

-- Where the array has figures for all widths, and maybe more, these go as all of it goes.
pub sums-go : (s : Settings) (ws : List ℕ) (n m : ℕ) (u v : List Figures) (xs ys : List ℕ) → length ws ≤ length u → length ws ≤ length v
    → counting s ws m v ys ≡ counting s ws n u xs → counting s ws m (sums_of ws v) ys ≡ counting s ws n (sums_of ws u) xs
unfolding counting
sums-go s ws n m u v xs ys h g e =
    sym (sums-with_clues s ws v (take (most_clues - m) (stream_lines ys)) g) ∙ ap (sums_of ws) e
    ∙ sums-with_clues s ws u (take (most_clues - n) (stream_lines xs)) h

-- What counting takes for granted: the array holds, for each width, the figures of n clues.
pub record Counts (s : Settings) (ws : List ℕ) (u : List Figures) (n : ℕ) : Type 0 where
  pub settings : FineSettings s
  pub widths : Narrow ws
  pub room : length ws ≤ length u
  pub each : EachOf n ws (sums_of ws u)

-- So it is where it holds them, and no others.
pub exact-counts : (s : Settings) (ws : List ℕ) (u : List Figures) (n : ℕ) → FineSettings s → Narrow ws → EachOf n ws u → Counts s ws u n
exact-counts s ws u n fine narrow e =
    let same = each-length n ws u e in
    record { settings = fine; widths = narrow; room = omega (arith, same); each = subst (EachOf n ws) (sym (sums-all ws u same)) e }

module _ (s : Settings) (ws : List ℕ) (u : List Figures) (n : ℕ) (c : Counts s ws u n) where
  -- An array that is no longer holds no others.
  pub counts-exact : length u ≡ length ws → EachOf n ws u
  counts-exact same = subst (EachOf n ws) (sums-all ws u same) c.each

  module _ (t : List ℕ) where
    pub clue_ready : (k : Checked) → k ≡ check_text t → n < most_clues → EachReady s t k ws u
    clue_ready k e h =
        record {
          all = record { settings = c.settings; widths = c.widths; short = λ g. good_length t (sym e ∙ g); count = n; few = h; each = c.each };
          room = c.room;
        }

    module _ (k : Checked) (short : k ≡ Ok tt → length t ≤ text_limit) (u' : List Figures) where
      -- One text more, whatever its check said.
      pub text_counts : length u' ≡ length u → sums_of ws u' ≡ added_to s t k ws (sums_of ws u) → Counts s ws u' (n + 1)
      text_counts long e =
          let one : n + 1 ≡ suc n = omega arith in
          record {
            settings = c.settings;
            widths = c.widths;
            room = omega (arith, c.room, long);
            each = rw (e, one) (each_more s t k n ws (sums_of ws u) short c.each);
          }

      pub whole_counts : u' ≡ added_to s t k ws u → Counts s ws u' (n + 1)
      whole_counts e = text_counts (ap length e ∙ added-length s t k ws u) (ap (sums_of ws) e ∙ sums-added s t k ws u c.room)

    pub clue_counts : (u' : List Figures) → length u' ≡ length u → sums_of ws u' ≡ added_to s t (check_text t) ws (sums_of ws u) → Counts s ws u' (n + 1)
    clue_counts = text_counts (check_text t) (good_length t)

pub clue_added : (s : Settings) (ws : List ℕ) (t : List ℕ) (fs gs : List Figures) (k : Checked) → k ≡ check_text t → gs ≡ added_to s t k ws fs → gs ≡ with_clue s ws fs t
unfolding with_clue
clue_added s ws t fs gs k e f = f ∙ ap (λ (c : Checked). added_to s t c ws fs) e

-- ---- the clues that end in a block

drop-take : (m n : ℕ) (l : List ℕ) → drop m (take n l) ≡ take (n - m) (drop m l)
drop-take zero n l = let e : n ≡ n - 0 = omega arith in ap (λ (k : ℕ). take k l) e
drop-take (suc m) zero l = let e : 0 ≡ 0 - suc m = omega arith in ap (λ (k : ℕ). take k (drop (suc m) l)) e
drop-take (suc m) (suc n) [] = sym (take-nil (suc n - suc m))
drop-take (suc m) (suc n) (x ∷ l) = let e : n - m ≡ suc n - suc m = omega arith in drop-take m n l ∙ ap (λ (k : ℕ). take k (drop m l)) e

-- A part of a buffer is that part of what was read into it.
pub same-part : (b : List ℕ) (at stop end : ℕ) → stop ≤ end → take (stop - at) (drop at b) ≡ take (stop - at) (drop at (take end b))
same-part b at stop end h = rw (drop-take at end b) (sym (take-take (stop - at) (end - at) (drop at b) (omega arith)))

pub record Passing (s : Settings) (ws bytes : List ℕ) (from n : ℕ) (u : List Figures) (at m : ℕ) (v : List Figures) : Type 0 where
  pub same : length v ≡ length u
  pub counts : Counts s ws v m
  pub few : m ≤ most_clues
  pub within : at ≤ length bytes
  pub goes : (rest : List ℕ) → counting s ws m v (drop at bytes ++ rest) ≡ counting s ws n u (drop from bytes ++ rest)
  pub sums_go : (rest : List ℕ) → counting s ws m (sums_of ws v) (drop at bytes ++ rest) ≡ counting s ws n (sums_of ws u) (drop from bytes ++ rest)

-- And no other clue ends in it, unless there are as many as a month may have.
pub record Passed (s : Settings) (ws bytes : List ℕ) (from n : ℕ) (u : List Figures) (at m : ℕ) (v : List Figures) : Type 0 where
  pub passing : Passing s ws bytes from n u at m v
  pub done : m < most_clues → before_feed (drop at bytes) ≡ length (drop at bytes)

pub passing-start : (s : Settings) (ws bytes : List ℕ) (from n : ℕ) (u : List Figures) → Counts s ws u n → n ≤ most_clues → from ≤ length bytes → Passing s ws bytes from n u from n u
passing-start s ws bytes from n u c h f = record { same = refl; counts = c; few = h; within = f; goes = λ rest. refl; sums_go = λ rest. refl }

-- One clue off the front of what is left.
clue_off : (s : Settings) (ws : List ℕ) (n : ℕ) (fs : List Figures) (xs rest : List ℕ) → n < most_clues → before_feed xs < length xs
    → counting s ws n fs (xs ++ rest) ≡ counting s ws (n + 1) (with_clue s ws fs (take (before_feed xs) xs)) (drop (suc (before_feed xs)) xs ++ rest)
unfolding counting with_clues
clue_off s ws n fs xs rest h b =
    let more : most_clues - n ≡ suc (most_clues - (n + 1)) = omega arith in
    rw (more, ended-line xs rest b)

module _ (s : Settings) (ws bytes : List ℕ) (from n : ℕ) (u : List Figures) (at m : ℕ) (v : List Figures) (p : Passing s ws bytes from n u at m v) (stop : ℕ) (is : stop ≡ at + before_feed (drop at bytes)) where
  pub stop-within : stop ≤ length bytes
  stop-within = omega (arith, before-most (drop at bytes), length-drop at bytes, p.within)

  pub passing-next : m < most_clues → stop < length bytes → (t : List ℕ) → t ≡ take (stop - at) (drop at bytes) → (v' : List Figures) → length v' ≡ length v
      → v' ≡ with_clue s ws v t → Passing s ws bytes from n u (stop + 1) (m + 1) v'
  unfolding with_clue
  passing-next h b t t-is v' long e =
      let k = before_feed (drop at bytes) in
      let size : stop - at ≡ k = omega arith in
      let text : t ≡ take k (drop at bytes) = t-is ∙ ap (λ (i : ℕ). take i (drop at bytes)) size in
      let inside : k < length (drop at bytes) = omega (arith, length-drop at bytes, is) in
      let next : drop (stop + 1) bytes ≡ drop (suc k) (drop at bytes) =
      (let z : stop + 1 ≡ at + suc k = omega arith in rw z (sym (drop-drop (suc k) at bytes)))
      in
      let all : (rest : List ℕ) → counting s ws (m + 1) v' (drop (stop + 1) bytes ++ rest) ≡ counting s ws n u (drop from bytes ++ rest) =
      λ rest. rw (next, e, text) (sym (clue_off s ws m v (drop at bytes) rest h inside)) ∙ p.goes rest
      in
      let counted = whole_counts s ws v m p.counts t (check_text t) (good_length t) v' e in
      let room : length ws ≤ length u = omega (arith, p.counts.room, p.same) in
      record {
        same = long ∙ p.same;
        counts = counted;
        few = omega arith;
        within = omega arith;
        goes = all;
        sums_go = λ rest. sums-go s ws n (m + 1) u v' (drop from bytes ++ rest) (drop (stop + 1) bytes ++ rest) room counted.room (all rest);
      }

  pub passing-done : length bytes ≤ stop → Passed s ws bytes from n u at m v
  passing-done b = record { passing = p; done = λ _. omega (arith, before-most (drop at bytes), length-drop at bytes, is) }

pub passing-full : (s : Settings) (ws bytes : List ℕ) (from n : ℕ) (u : List Figures) (at m : ℕ) (v : List Figures) → Passing s ws bytes from n u at m v
    → most_clues ≤ m → Passed s ws bytes from n u at most_clues v
passing-full s ws bytes from n u at m v p h =
    let full : m ≡ most_clues = omega (arith, p.few) in
    subst (λ (k : ℕ). Passed s ws bytes from n u at k v) full (record { passing = p; done = λ l. absurd (omega arith) })
