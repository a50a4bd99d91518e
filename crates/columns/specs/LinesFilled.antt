-- A layout that drops nothing has more lines than its text fills, in every alignment: so a text fits no box in which it fills too many
-- (rule 8, rule 10).
-- Assumes nothing.
use Rattle.std.specs.Prelude.{ℕ, zero, suc, ◌+◌, ◌-◌, ◌≤◌, ◌<◌, ◌≡◌, refl, false, ◌||◌, List, [], ◌∷◌, map, eqb, length, take, drop, None}
use Rattle.std.proofs.Common.{sym, subst, ◌∙◌, inl, inr}
use Rattle.std.proofs.lemmas.Bool.{false≢true, eqb-false}
use native.Mathlib.Omega.{arith}
use Rattle.std.proofs.lemmas.List.{length-map}
use Rattle.basis.specs.Choice.{pick, pick_cases, by_test, either_second}
use Rattle.meaning.specs.Tokens.{Tok, newLine, carriageReturn, tab, softHyphen, space, word, counted, tokens}
use Rattle.meaning.specs.Characters.{class_of, in_word, in_run}
use Rattle.meaning.specs.Alignment.{plain_spaces, ends_paragraph, place}
use Rattle.meaning.specs.LineIter.{Held, nothing_held}
use Rattle.meaning.specs.Line.{held_tokens, line_tokens, start_place, measuring, placing, line_of, lay_line, entry_at}
use Rattle.meaning.specs.Layout.{Row, row_at, most_lines, rows, entry_of_row, layout}
use Rattle.meaning.specs.Columns.{fits_whole}
use Rattle.meaning.specs.declared.settings.Settings.{Settings}
use Rattle.meaning.specs.declared.line.LineEnd.{LineEnd}
use Rattle.meaning.specs.declared.line.LineEnd.TheVariants.{EndOfText}
use Rattle.meaning.specs.declared.line.Placed.{Placed}
use Rattle.laws.specs.Spell.{spell}
use Rattle.laws.specs.Runs.{Pass}
use Rattle.laws.specs.Longest.{Longest, AllLongest, tokens-longest}
use Rattle.laws.specs.LineTokens.{line-tokens_cover, line-tokens-sound}
use Rattle.laws.specs.EvenSpaces.{share_width}
use Rattle.laws.specs.InsideBox.{left-inside}
use Rattle.laws.specs.RowInduction.{FitsIn, each_row}
use Rattle.laws.specs.NothingDropped.{DropNothing}
use Rattle.widths.specs.NarrowestWidth.{fits-says}
use Rattle.columns.specs.Filling.{empty_line, under-by, fill_under}
use Rattle.columns.specs.StepFilling.{filled_in}
use Rattle.columns.specs.PassFilling.{AllKnown, KnownFrom, known_from, pass_fills}
use Rattle.columns.specs.declared.filling.Fill.{Fill}

-- ---- the tokens of a line

space-known : (cs : List ℕ) (n e : ℕ) (rest : List ℕ) → Longest (space cs n e) rest → Pass in_run cs × (counted cs ≤ n)
unfolding in_run class_of counted pick
space-known cs n e rest (inl a) = subst (λ (ws : List ℕ). Pass in_run ws × (counted ws ≤ n)) (sym a.is) ((refl, tt), omega arith)
space-known cs n e rest (inr b) = (b.all, omega (arith, b.count))

longest-known : (ts : List Tok) → AllLongest ts → AllKnown ts
longest-known [] h = tt
longest-known (newLine ∷ ts) h = (tt, longest-known ts h.1)
longest-known (carriageReturn ∷ ts) h = (tt, longest-known ts h.1)
longest-known (tab ∷ ts) h = (tt, longest-known ts h.1)
longest-known (softHyphen ∷ ts) h = (tt, longest-known ts h.1)
longest-known (space cs n e ∷ ts) h = let k = space-known cs n e (spell ts) h.0 in ((k.0, λ _. k.1), longest-known ts h.1)
longest-known (word cs e ∷ ts) h = ((h.0.all, h.0.longest), longest-known ts h.1)

held-known : (n count : ℕ) (cs : List ℕ) → Pass in_run (take n cs) → KnownFrom false (held_tokens n count cs)
unfolding held_tokens
held-known zero count cs h = known_from false (tokens cs) (longest-known (tokens cs) (tokens-longest cs))
held-known (suc k) count cs h =
    let rest = drop (suc k) cs in
    ((h, λ e. absurd (false≢true e)), longest-known (tokens rest) (tokens-longest rest))

line_known : (h : Held) (cs : List ℕ) → Pass in_run (take h.chars cs) → KnownFrom false (line_tokens h cs)
unfolding line_tokens
line_known h cs = held-known h.chars h.count cs

-- ---- a line

-- No space of a line is narrower than a glyph.
wide-spaces : (s : Settings) (ended : LineEnd) (width n : ℕ) → s.glyph.0 ≤ (place s ended width n).spaces.width.0
unfolding place plain_spaces
wide-spaces s ended width n =
    let P : Placed → Type 0 = λ (p : Placed). s.glyph.0 ≤ p.spaces.width.0 in
    pick_cases P (eqb s.alignment 0) (λ _. omega arith) λ _.
    pick_cases P (eqb s.alignment 1) (λ _. omega arith) λ _.
    pick_cases P (eqb s.alignment 2) (λ _. omega arith) λ _.
    pick_cases P (ends_paragraph ended || eqb n 0) (λ _. omega arith) λ e.
    by_test (eqb n 0) (λ z. absurd (false≢true (sym e ∙ either_second (ends_paragraph ended) (eqb n 0) z)))
    (λ z. omega (arith, share_width s (s.width.0 - width) n (omega (arith, eqb-false n 0 z))))

module _ (s : Settings) (some : 1 ≤ s.glyph.0) where
  abbrev filled : Fill → List ℕ → Fill
  filled = filled_in s

  -- Of a line, as of a pass.
  pub record LineFilled (l : ℕ) (h : Held) (cs : List ℕ) : Type 0 where
    pub room : (lay_line s h cs).dropped ≡ 0 → (filled (empty_line l) cs).lines ≤ (filled (empty_line (l + 1)) (drop (lay_line s h cs).chars cs)).lines
    pub held : Pass in_run (take (lay_line s h cs).held.chars (drop (lay_line s h cs).chars cs))
    pub end : (lay_line s h cs).ended ≡ EndOfText → (filled (empty_line l) cs).lines ≤ l

  -- A line starts at its left side or further on.
  from-left : (l left : ℕ) (cs : List ℕ)
      → (filled (empty_line l) cs).lines ≤ (filled (record { lines = l; at = left; begun = false; part = None }) cs).lines
  from-left l left cs =
      let there : Fill = record { lines = l; at = left; begun = false; part = None } in
      let u = under-by s.width.0 (empty_line l) there refl (omega arith) (λ _ _. omega arith) (λ _ e. e) (λ _ e. e) in
      (fill_under s.glyph.0 s.tab.0 some s.width.0 s.width.0 (omega arith) in_word cs (empty_line l) there u).lines

  line-filled : (l : ℕ) (h : Held) (cs : List ℕ) → FitsIn cs h → Pass in_run (take h.chars cs) → LineFilled l h cs
  unfolding lay_line line_of start_place placing
  line-filled l h cs f known =
      let ts = line_tokens h cs in
      let p = placing s (measuring s ts) in
      let x = pass_fills s some l ts (start_place s p.left.0 p.spaces) 0 (line-tokens-sound h cs f.0 f.1) (line_known h cs known)
      (record { width = refl; tab = refl; low = left-inside s _ _ _; wide = wide-spaces s _ _ _ }) in
      let all = line-tokens_cover h cs in
      let further = from-left l p.left.0 cs in
      record {
        room = λ d. omega (arith, further, rw all at (x.room d));
        held = rw all at x.held;
        end = λ e. omega (arith, further, rw all at (x.end e));
      }

  -- ---- a text

  -- It fills fewer lines than it has, after l others.
  abbrev FewerFilled : (start before : ℕ) → Held → List ℕ → List Row → Type 0
  FewerFilled start before h cs rs =
      (l : ℕ) → Pass in_run (take h.chars cs) → DropNothing (map entry_of_row rs) → (filled (empty_line l) cs).lines < l + length rs

  last-filled : (start before : ℕ) (h : Held) (cs : List ℕ) → FitsIn cs h → (lay_line s h cs).ended ≡ EndOfText
      → FewerFilled start before h cs (row_at start before h cs (lay_line s h cs) ∷ [])
  last-filled start before h cs f e l known kept = omega (arith, (line-filled l h cs f known).end e)

  more-filled : (start before : ℕ) (h : Held) (cs : List ℕ) → FitsIn cs h → ((lay_line s h cs).ended ≡ EndOfText → ⊥) → (r : Row) (rs : List Row)
      → FewerFilled 0 0 (lay_line s h cs).held (drop (lay_line s h cs).chars cs) (r ∷ rs)
      → FewerFilled start before h cs (row_at start before h cs (lay_line s h cs) ∷ r ∷ rs)
  unfolding row_at entry_at
  more-filled start before h cs f _ r rs after l known kept =
      let line = line-filled l h cs f known in
      omega (arith, line.room kept.0, after (l + 1) line.held kept.1)

  pub layout-filled : (cs : List ℕ) → DropNothing (layout s cs) → (filled (empty_line 0) cs).lines < length (layout s cs)
  unfolding layout rows
  layout-filled cs kept =
      let all = each_row s FewerFilled last-filled more-filled (most_lines cs) 0 0 nothing_held cs (omega arith) (omega arith, omega arith) 0 tt kept in
      rw (length-map (rows s cs) entry_of_row) (omega (arith, all))

-- In a box in which it fills as many lines as there may be, or more, a text does not fit.
pub filled_none : (s : Settings) (h : ℕ) (cs : List ℕ) → 1 ≤ s.glyph.0 → h ≤ (filled_in s (empty_line 0) cs).lines → fits_whole s h cs ≡ false
filled_none s h cs some many =
    by_test (fits_whole s h cs)
    (λ e. let both = (fits-says s h cs).0 e in absurd (omega (arith, layout-filled s some cs both.1, both.0))) (λ e. e)
