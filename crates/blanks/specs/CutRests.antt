-- A resumed rest that is too wide for its line, of characters of one byte: how a pass ends that cuts it (rule 9).
-- Assumes nothing.
use Prim.Native.Nat.{ℕ, zero, suc, ◌+◌, ◌*◌, ◌/◌, ◌≤◌, ◌<◌, min, max}
use Rattle.std.proofs.Math.Nat.{mul-div_cancel_left}
use Rattle.std.proofs.Common.{arith, ◌∙◌, length-append, take-append-drop, length-take-le, take-take}
use Rattle.std.specs.Prelude.{◌≡◌, false, List, length, take, drop}
use Rattle.std.proofs.Math.Path.{refl, sym, ap}
use borrow.Author.Tests.{eq-eqb, lt-leb}
use Rattle.basis.specs.Choice.{by_test}
use Rattle.utf8.specs.Encoding.{size}
use Rattle.utf8.specs.Sizes.{size_append}
use Rattle.meaning.specs.Cursor.{room_of, fits_in}
use Rattle.meaning.specs.SpaceConfig.{spaces_width}
use Rattle.meaning.specs.Words.{glues}
use Rattle.meaning.specs.LineIter.{skips, held_after}
use Rattle.meaning.specs.Line.{unmeasured}
use Rattle.meaning.specs.declared.settings.Settings.{Settings}
use Rattle.meaning.specs.declared.cursor.Place.{Place}
use Rattle.meaning.specs.declared.line.LineEnd.TheVariants.{LineBreak}
use Rattle.laws.specs.TokenLaws.{length-size}
use Rattle.parser.specs.Lexing.{chars_from, part_of}
use Rattle.parser.specs.Scanning.{part_at}
use Rattle.parser.specs.declared.lexeme.Lexeme.{Lexeme}
use Rattle.steps.specs.Stepping.{resumed_at, ran_from}
use Rattle.steps.specs.Unrolled.{farther, farther-near}
use Rattle.steps.specs.Ready.{Ready, step_from}
use Rattle.steps.specs.Lexed.{chars-within}
use Rattle.steps.specs.Pending.{RestFits, Pending, rest_lexeme}
use Rattle.steps.specs.Running.{PassReady, pass-stops}
use Rattle.steps.specs.Runs.{CutRun, cut_shown}
use Rattle.steps.specs.RunLaws.{cut-answer, space-cut}
use Rattle.steps.specs.declared.step.Resumed.{Resumed}
use Rattle.steps.specs.declared.step.Ended.{Ended}
use Rattle.steps.specs.declared.step.Stepped.TheVariants.{Stop}

-- It is not skipped, its spaces are of one width, and its bytes are as many as its characters.
pub record CutRest (s : Settings) (p : Place) (at : ℕ) (r : Resumed) : Type 0 where
  pub over : room_of p.cursor < r.count.0 * p.spaces.width.0
  pub leading : s.leading ≡ 1
  pub even : p.spaces.extra.0 ≡ 0
  pub thin : r.end.0 ≡ at + r.chars.0

-- The end of the pass: so many spaces fit, and so many characters are taken.
unfoldable pub cut_end : (at : ℕ) → Resumed → (fitting taken reach : ℕ) → Ended
cut_end at r fitting taken reach =
    record {
      ended = LineBreak;
      measure = cut_shown unmeasured fitting;
      next = record { 0 = at + taken };
      rest = resumed_at r.end.0 (held_after r.chars.0 r.count.0 taken);
      dropped = record { 0 = 0 };
      reach = record { 0 = reach };
    }

-- ---- characters of one byte

-- Of such characters the first k have k bytes.
thin-part : (cs : List ℕ) (n k : ℕ) → n ≤ length cs → size (take n cs) ≡ n → k ≤ n → size (take k cs) ≡ k
thin-part cs n k h e f =
    let xs = take n cs in
    let ys : take k xs ≡ take k cs = take-take k n cs f in
    let l = length-take-le n cs h in
    let a = length-take-le k xs (omega (arith, l)) in
    let p : size (take k xs) + size (drop k xs) ≡ size xs = sym (size_append (take k xs) (drop k xs)) ∙ ap size (take-append-drop k xs) in
    let q : length (take k xs) + length (drop k xs) ≡ length xs = sym (length-append (take k xs) (drop k xs)) ∙ ap length (take-append-drop k xs) in
    ap size (sym ys) ∙ omega (arith, length-size (take k xs), length-size (drop k xs))

some_times : (n g w : ℕ) → w < n * g → 1 ≤ n
some_times zero g w h = omega arith
some_times (suc n) g w h = omega arith

-- A rest has no more characters than its text has bytes.
pub rest-few : {t : List ℕ} {at : ℕ} {r : Resumed} → RestFits t at r → length t ≤ 65535 → (r.count.0 ≤ 65535) × (r.chars.0 ≤ 65535)
rest-few {t} {at} f h = omega (arith, f.within, f.counts, length-size (chars_from t at), chars-within t at)

-- ---- how far was looked

farther-cut : (at : ℕ) (r : Resumed) (fitting taken reach : ℕ) → farther reach (cut_end at r fitting taken 0) ≡ cut_end at r fitting taken reach
unfolding farther cut_end
farther-cut at r fitting taken reach = let m : max reach 0 ≡ reach = omega arith in rw m

reach-is : (r : Resumed) (n : ℕ) → r.end.0 + n ≡ max 0 (rest_lexeme r n).reach.0
unfolding rest_lexeme
reach-is r n = omega arith

-- ---- the pass

module _ {s : Settings} {p : Place} {t : List ℕ} {at : ℕ} {r : Resumed} (h : PassReady s p t at r unmeasured) (c : CutRest s p at r) where
  cut-some : 1 ≤ r.count.0
  cut-some = some_times r.count.0 p.spaces.width.0 (room_of p.cursor) c.over

  pub cut-filled : r.chars.0 ≡ 0 → ⊥
  cut-filled z = omega (arith, cut-some, h.rest.counts)

  pub thin-taken : (k : ℕ) → k ≤ r.chars.0 → size (take k (chars_from t at)) ≡ k
  thin-taken k f =
      thin-part (chars_from t at) r.chars.0 k h.rest.within (omega (arith, h.rest.ends cut-filled, c.thin)) f

  kept : skips s p ≡ false
  unfolding skips
  kept = rw (eq-eqb s.leading 1 c.leading) (by_test p.empty (λ e. rw e) (λ e. rw e))

  abbrev Wide : ℕ
  Wide = spaces_width p.spaces r.count.0

  abbrev Fitting : ℕ
  Fitting = room_of p.cursor / p.spaces.width.0

  wide_is : Wide ≡ r.count.0 * p.spaces.width.0
  unfolding spaces_width
  wide_is = omega (arith, c.even)

  fitting-is : room_of p.cursor / (Wide / r.count.0) ≡ Fitting
  fitting-is =
      ap (λ (k : ℕ). room_of p.cursor / k) (ap (λ (k : ℕ). k / r.count.0) wide_is ∙ mul-div_cancel_left p.spaces.width.0 cut-some)

  over : fits_in p.cursor Wide ≡ false
  unfolding fits_in
  over = lt-leb Wide (room_of p.cursor) (omega (arith, wide_is, c.over))

  -- The rest as a token that ends before a character of n bytes, of which so many characters are taken.
  module _ (n taken : ℕ) (y : Pending t at r.chars.0 r.count.0 (rest_lexeme r n)) (e : taken ≡ min (Fitting + 1) r.count.0) where
    abbrev X : Lexeme
    X = rest_lexeme r n

    cut-ready : Ready s p t at X unmeasured
    cut-ready = record { settings = h.settings; place = h.place; short = h.short; stands = y.stands; small = h.small }

    cut : CutRun s p t at X Wide unmeasured
    unfolding rest_lexeme
    cut = record { ready = cut-ready; kind = refl; wide = refl; over = over }

    pub cut-few : taken ≤ r.chars.0
    cut-few = omega (arith, e, h.rest.counts)

    pub cut-stops : step_from s p t at X unmeasured ≡ Stop (cut_end at r Fitting taken 0)
    unfolding cut_end rest_lexeme part_of part_at
    cut-stops =
        let cs = chars_from t at in
        let part : part_at (at + taken) (glues (take taken cs)) ≡ part_of at taken cs =
        ap (λ (k : ℕ). part_at (at + k) (glues (take taken cs))) (sym (thin-taken taken cut-few)) in
        sym
        (cut-answer cut (room_of p.cursor) taken (cut_shown unmeasured Fitting) (part_at (at + taken) (glues (take taken cs)))
        (resumed_at r.end.0 (held_after r.chars.0 r.count.0 taken)) refl
        (e ∙ ap (λ (k : ℕ). min (k + 1) r.count.0) (sym fitting-is)) (ap (cut_shown unmeasured) (sym fitting-is)) part refl
        ∙ space-cut cut-ready refl Wide refl kept over)

    pub cut_ran : cut_end at r Fitting taken (r.end.0 + n) ≡ ran_from s p t at r.chars.0 r.count.0 unmeasured
    cut_ran =
        let reach = r.end.0 + n in
        sym (farther-cut at r Fitting taken reach)
        ∙ pass-stops s p t at r.chars.0 r.count.0 unmeasured 0 X y (cut_end at r Fitting taken 0) cut-stops reach (reach-is r n)
        ∙ farther-near 0 _ (omega arith)
