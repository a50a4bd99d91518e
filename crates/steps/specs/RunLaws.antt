-- A space run: one that is too wide for its line, its numbers and the answer that they make; and what becomes of any run.
-- Assumes nothing.
use Prim.Native.Nat.{ℕ, ◌+◌, ◌-◌, ◌*◌, ◌/◌, ◌≤◌, ◌<◌, min}
use Rattle.steps.specs.declared.foreseen.Look.{Look}
use Rattle.std.specs.Prelude.{◌≡◌, refl, true, false, eqb, length, take, None, Option, Some}
use Rattle.std.proofs.Math.Path.{ap}
use mathlib.Core.List.{List, [], ◌∷◌}
use Rattle.std.proofs.Math.Nat.{mul-le-mul_left, div-mul-le_self, div-le_self}
use Rattle.std.proofs.Common.{le-div_iff_mul-le, eqb-true, eq-eqb, ne_eqb, take-take}
use native.Mathlib.Omega.{arith}
use Rattle.basis.specs.Choice.{pick, pick_cases}
use Rattle.utf8.specs.Encoding.{size}
use Rattle.meaning.specs.Tokens.{space, chars_of, size_of, tokens}
use Rattle.meaning.specs.Cursor.{room_of, fits_in, advance}
use Rattle.meaning.specs.SpaceConfig.{spaces_width, spaces_after}
use Rattle.meaning.specs.Words.{Drawn, drawn}
use Rattle.meaning.specs.LineIter.{held_after, skips, draws_space, moved_on, used_up, cut_run, on_space, step}
use Rattle.meaning.specs.Line.{noted, measured}
use Rattle.meaning.specs.declared.tokens.TokenKind.TheVariants.{Whitespace}
use Rattle.meaning.specs.declared.settings.Settings.{Settings}
use Rattle.meaning.specs.declared.counts.Offset.{Offset}
use Rattle.meaning.specs.declared.cursor.Place.{Place}
use Rattle.meaning.specs.declared.line.EventKind.TheVariants.{Space}
use Rattle.meaning.specs.declared.line.LineEnd.TheVariants.{LineBreak}
use Rattle.meaning.specs.declared.line.Measure.{Measure}
use Rattle.laws.specs.Steps.{too_wide, some-spaces}
use Rattle.laws.specs.TokenLaws.{length-size}
use Rattle.parser.specs.Lexing.{chars_from, lexeme_at, part_of}
use Rattle.parser.specs.declared.lexeme.Lexeme.{Lexeme}
use Rattle.parser.specs.declared.part.Part.{Part}
use Rattle.moves.specs.FineLaws.{fits-room, advance_fine, spaces_fine}
use Rattle.steps.specs.Stepping.{resumed_at, stepped_at, tok_of}
use Rattle.steps.specs.Ready.{Standing, Ready, step_from}
use Rattle.steps.specs.Ahead.{white_width}
use Rattle.steps.specs.Foreseeing.{Foresees, ForeseesAfter}
use Rattle.steps.specs.Runs.{chars_in, WholeRun, whole_answer, cut_shown, CutRun, cut_answer}
use Rattle.steps.specs.declared.step.Resumed.{Resumed}
use Rattle.steps.specs.declared.step.Stepped.TheVariants.{Go, Stop}

-- ---- what is held

abbrev resumed : (end chars count : ℕ) → Resumed
resumed end chars count = record { end = record { 0 = end }; chars = record { 0 = chars }; count = record { 0 = count } }

module _ (end chars count taken : ℕ) where
  pub none_left_lem : chars ≤ taken → resumed 0 0 0 ≡ resumed_at end (held_after chars count taken)
  unfolding resumed_at pick
  none_left_lem h = rw (eq-eqb (chars - taken) 0 (omega arith))

  pub some_left : taken < chars → resumed end (chars - taken) (count - taken) ≡ resumed_at end (held_after chars count taken)
  unfolding resumed_at pick
  some_left h = let d : chars - taken ≡ 0 → ⊥ = λ e. omega arith in simp (ne_eqb (chars - taken) 0 d)

-- ---- a run in the text

module _ (t : List ℕ) (at : ℕ) (x : Lexeme) (k : x.kind ≡ Whitespace) (st : Standing t at x) where
  pub run-tok : tok_of t at x ≡ space (chars_in t at x) x.count.0 (x.reach.0 - x.end.0)
  unfolding tok_of
  run-tok = rw k

  run_is : x ≡ lexeme_at at (space (chars_in t at x) x.count.0 (x.reach.0 - x.end.0))
  run_is = rw run-tok at st.is

  pub run_end : x.end.0 ≡ at + size (chars_in t at x)
  unfolding lexeme_at size_of
  run_end = ap (λ (y : Lexeme). y.end.0) run_is

  pub run-chars : x.chars.0 ≡ length (chars_in t at x)
  unfolding lexeme_at chars_of
  run-chars = ap (λ (y : Lexeme). y.chars.0) run_is

  pub run-fewer : (1 ≤ x.chars.0) × (x.count.0 ≤ x.chars.0)
  run-fewer = let s = rw run-tok at st.sound in omega (arith, run-chars)

-- ---- what is measured

module _ (m : Measure) (fitting : ℕ) where
  -- No space measures nothing.
  pub shown-none : fitting ≡ 0 → cut_shown m fitting ≡ m
  shown-none e =
      let pen : m.pen.0 + 0 ≡ m.pen.0 = omega arith in
      let spaces : m.spaces.0 + fitting ≡ m.spaces.0 = omega arith in
      λ i. record { pen = record { 0 = pen i }; spaces = record { 0 = spaces i }; width = m.width; count = m.count }

  -- It is what is drawn, wherever that stands.
  shown-is : (from to : ℕ) → cut_shown m fitting ≡ measured m (pick (eqb fitting 0) [] (drawn Space from to fitting 0 ∷ []))
  unfolding measured
  shown-is from to =
      pick_cases (λ (ds : List Drawn). cut_shown m fitting ≡ measured m ds) (eqb fitting 0) (λ e. shown-none (eqb-true fitting 0 e)) (λ _. refl)

-- ---- the numbers of the cut

module _ {s : Settings} {p : Place} {t : List ℕ} {at : ℕ} {x : Lexeme} {width : ℕ} {m : Measure} (h : CutRun s p t at x width m) where
  pub cut-some : 1 ≤ x.count.0
  cut-some = some-spaces p.spaces x.count.0 (room_of p.cursor) (rw h.wide at (too_wide p.cursor width h.over))

  cut-wide : x.count.0 ≤ width
  unfolding spaces_width
  cut-wide = omega (arith, h.wide, mul-le-mul_left x.count.0 h.ready.place.1.0)

  pub cut-single : 1 ≤ width / x.count.0
  cut-single = (le-div_iff_mul-le cut-some).1 (omega (arith, cut-wide))

  pub cut-numbers : (room : ℕ) → room ≡ room_of p.cursor
      → (room / (width / x.count.0) ≤ 4096) × (room / (width / x.count.0) * (width / x.count.0) ≤ 4096)
  unfolding room_of
  cut-numbers room e =
      let single = width / x.count.0 in
      omega (arith, div-le_self room single, div-mul-le_self room single, h.ready.place.0)

  pub cut-fewer : x.count.0 ≤ x.chars.0
  cut-fewer = (run-fewer t at x h.kind h.ready.stands).1

  -- ---- the answer

  module _ (room taken : ℕ) (shown : Measure) (part : Part) (rest : Resumed) where
    pub cut-answer : room ≡ room_of p.cursor → taken ≡ min (room / (width / x.count.0) + 1) x.count.0
        → shown ≡ cut_shown m (room / (width / x.count.0))
        → part ≡ part_of at taken (chars_from t at) → rest ≡ resumed_at x.end.0 (held_after x.chars.0 x.count.0 taken)
        → Stop (record { ended = LineBreak; measure = shown; next = part.end; rest = rest; dropped = record { 0 = 0 }; reach = record { 0 = 0 } })
        ≡ cut_answer s p t at x width m
    unfolding cut_answer cut_run stepped_at part_of size_of
    cut-answer a b e f g =
        let cs = chars_in t at x in
        let single = width / x.count.0 in
        let fitting = room_of p.cursor / single in
        let few : min (fitting + 1) x.count.0 ≤ x.chars.0 = omega (arith, cut-fewer) in
        let st = h.ready.stands in
        rw (e, f, g, b, a, shown-is m fitting at (at + size (take fitting cs)), run-tok t at x h.kind st)
        (rw (take-take (min (fitting + 1) x.count.0) x.chars.0 (chars_from t at) few, ← (run-chars t at x h.kind st), ← (run_end t at x h.kind st)))

-- ---- any run

module _ {s : Settings} {p : Place} {t : List ℕ} {at : ℕ} {x : Lexeme} {m : Measure} (h : Ready s p t at x m) (k : x.kind ≡ Whitespace) where
  pub space-few : x.count.0 ≤ 65535
  space-few =
      let cs = chars_in t at x in
      let st = h.stands in
      omega (arith, run-fewer t at x k st, run-chars t at x k st, run_end t at x k st, length-size cs, st.within, h.short)

  -- What is known of the look from after a run is what is known from where the line stands then.
  pub run_foresees : (f : Option Look) → ForeseesAfter s p t x f → (width : ℕ) → width ≡ spaces_width p.spaces x.count.0
      → Foresees s.glyph.0 (advance p.cursor width) (spaces_after p.spaces x.count.0) x.end.0 (tokens (chars_from t x.end.0)) f
  unfolding white_width
  run_foresees None b width w = tt
  run_foresees (Some l) b width w = rw w (rw k at b.sees)

  -- The line stands in its box after a run that fits.
  pub whole_ready : (used q : Place) (width : ℕ) → used ≡ used_up p x.count.0 → q ≡ moved_on used width → fits_in p.cursor width ≡ true
      → width ≡ spaces_width p.spaces x.count.0 → (seen : Option Look) → ForeseesAfter s p t x seen → WholeRun s q t x width m seen
  whole_ready used q width u e f w seen b =
      let st = h.stands in
      let r = fits-room p.cursor width f in
      record {
        settings = h.settings;
        place = rw (e, u) (advance_fine p.cursor width h.place.0 f, spaces_fine p.spaces x.count.0 h.place.1);
        short = h.short;
        within = st.within;
        pen = omega (arith, h.small, h.place, st.longer, st.within, h.short);
        spaces = omega (arith, space-few, h.small, st.longer, st.within, h.short);
        sees = rw (e, u) (run_foresees seen b width w);
      }

  space-step : step_from s p t at x m
      ≡ stepped_at m at (tok_of t at x)
      (on_space s p at (chars_in t at x) x.count.0
      (draws_space s (moved_on (used_up p x.count.0) (spaces_width p.spaces x.count.0)) x.end.0 (tokens (chars_from t x.end.0))))
  unfolding step_from step size_of
  space-step = rw (run-tok t at x k h.stands, ← (run_end t at x k h.stands))

  pub space-skipped : (used : Place) (n : Measure) → used ≡ used_up p x.count.0 → n ≡ noted Space (m.pen.0 + 0) (m.spaces.0 + x.count.0) m
      → skips s p ≡ true → Go used n (record { 0 = 0 }) ≡ step_from s p t at x m
  unfolding on_space pick stepped_at measured
  space-skipped used n u g e = rw (space-step, e, u, g)

  pub space-whole : (width : ℕ) → width ≡ spaces_width p.spaces x.count.0 → skips s p ≡ false → fits_in p.cursor width ≡ true
      → (used q : Place) → used ≡ used_up p x.count.0 → q ≡ moved_on used width → whole_answer s q t x width m ≡ step_from s p t at x m
  unfolding on_space pick stepped_at measured whole_answer
  space-whole width w e f used q u g = rw (space-step, e, g, u, ← w, f)

  -- Where a run that fits leads.
  pub run-went : skips s p ≡ false → fits_in p.cursor (spaces_width p.spaces x.count.0) ≡ true → (q : Place) (n : Measure) (o : Offset)
      → step_from s p t at x m ≡ Go q n o → q ≡ moved_on (used_up p x.count.0) (spaces_width p.spaces x.count.0)
  unfolding on_space pick stepped_at
  run-went e f q n o g = let r = rw (space-step, e, f) at g in cc

  pub space-cut : (width : ℕ) → width ≡ spaces_width p.spaces x.count.0 → skips s p ≡ false → fits_in p.cursor width ≡ false
      → cut_answer s p t at x width m ≡ step_from s p t at x m
  unfolding on_space pick cut_answer
  space-cut width w e f = rw (space-step, e, ← w, f)
