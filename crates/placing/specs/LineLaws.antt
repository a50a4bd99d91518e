-- What holds of a laid line: where the next one starts and what that resumes, and that no number of its entry is large.
-- Assumes nothing.
use Rattle.std.specs.Prelude.{ℕ, ◌+◌, ◌*◌, ◌≤◌, ◌<◌, ◌≡◌, List, take, drop, eqb}
use native.Mathlib.Omega.{arith}
use Rattle.std.proofs.Math.Path.{refl}
use Rattle.std.proofs.Common.{sym, subst, take-append-drop, take-add, ne_eqb}
use Rattle.std.proofs.Math.ListN.{length}
use Rattle.std.proofs.Math.Seq.{length-take-le}
use Rattle.basis.specs.Choice.{pick, pick_cases}
use Rattle.utf8.specs.Encoding.{size}
use Rattle.utf8.specs.Sizes.{size_append}
use Rattle.meaning.specs.Tokens.{Tok}
use Rattle.meaning.specs.Alignment.{plain_spaces}
use Rattle.meaning.specs.LineIter.{Held, process}
use Rattle.meaning.specs.Line.{unmeasured, measured, line_tokens, start_place, measuring, placing, line_of, lay_line, end_number, rest_of, entry_at}
use Rattle.meaning.specs.declared.settings.Settings.{Settings}
use Rattle.meaning.specs.declared.line.LineEnd.{LineEnd}
use Rattle.meaning.specs.declared.line.LineEnd.TheVariants.{NewLine, CarriageReturn, EndOfText, LineBreak}
use Rattle.meaning.specs.declared.line.Measure.{Measure}
use Rattle.meaning.specs.declared.line.Rest.{Rest}
use Rattle.meaning.specs.declared.line.Entry.{Entry}
use Rattle.laws.specs.Spell.{spell, Sound}
use Rattle.laws.specs.TokenLaws.{length-size}
use Rattle.laws.specs.LineTokens.{line-tokens_cover, line-tokens-sound}
use Rattle.laws.specs.PassBounds.{size-take}
use Rattle.laws.specs.LineBounds.{line-chars, line-held, line-rest, line-takes, line-reach-high}
use Rattle.laws.specs.Measuring.{measured-behind}
use Rattle.parser.specs.Shorter.{Between}
use Rattle.parser.specs.Lexing.{chars_from}
use Rattle.parser.specs.NextLaws.{chars_after}
use Rattle.moves.specs.Fine.{FineSettings, FineSpaces}
use Rattle.moves.specs.FineSteps.{plain_fine, start_fine}
use Rattle.placing.specs.FinePass.{pass-grows, pass_drops}
use Rattle.placing.specs.PlaceLaws.{place_fine}
use Rattle.steps.specs.Lexed.{chars-within}
use Rattle.steps.specs.Stepping.{resumed_at}
use Rattle.placing.specs.LineFrom.{held_in, line_at_of, line_from}
use Rattle.placing.specs.Laying.{passed_from, plainly, measured-is}
use Rattle.steps.specs.Pending.{RestFits}
use Rattle.steps.specs.declared.step.Resumed.{Resumed}

-- What is held after k characters stands there.
held_fits : (t : List ℕ) (at k : ℕ) (h : Held) → chars_from t (at + size (take k (chars_from t at))) ≡ drop k (chars_from t at)
    → h.chars ≤ length (drop k (chars_from t at)) → h.count ≤ h.chars
    → RestFits t (at + size (take k (chars_from t at))) (resumed_at (at + size (take (k + h.chars) (chars_from t at))) h)
unfolding resumed_at pick
held_fits t at k h e f g =
    let cs = chars_from t at in
    record {
      within = rw e f;
      counts = g;
      ends = λ d. rw (ne_eqb h.chars 0 d, e, take-add k h.chars cs, size_append (take k cs) (take h.chars (drop k cs))) (omega arith);
    }

-- ---- where the next line starts

module _ (s : Settings) (t : List ℕ) (at before : ℕ) (r : Resumed) where
  -- It starts after the characters taken, and resumes what is held.
  pub next_start : (line_from s t at before r).next.0 ≡ at + size (take (lay_line s (held_in r) (chars_from t at)).chars (chars_from t at))
  unfolding line_from line_at_of
  next_start = refl

  pub next-count : (line_from s t at before r).chars.0 ≡ (lay_line s (held_in r) (chars_from t at)).chars
  unfolding line_from line_at_of
  next-count = refl

  pub next-held : held_in (line_from s t at before r).rest ≡ (lay_line s (held_in r) (chars_from t at)).held
  unfolding line_from line_at_of resumed_at
  next-held = refl

  pub next-chars : chars_from t (line_from s t at before r).next.0 ≡ drop (lay_line s (held_in r) (chars_from t at)).chars (chars_from t at)
  unfolding line_from line_at_of
  next-chars =
      let cs = chars_from t at in
      let k = (lay_line s (held_in r) cs).chars in
      chars_after t (take k cs) (drop k cs) at (sym (take-append-drop k cs))

  -- Within the text.
  pub next-within : at ≤ length t → (line_from s t at before r).next.0 ≤ length t
  unfolding line_from line_at_of
  next-within h =
      let cs = chars_from t at in
      omega (arith, size-take (lay_line s (held_in r) cs).chars cs, chars-within t at)

  module _ (f : RestFits t at r) where
    -- Which takes no more characters than bytes.
    pub next-fewer : at + (line_from s t at before r).chars.0 ≤ (line_from s t at before r).next.0
    unfolding line_from line_at_of
    next-fewer =
        let cs = chars_from t at in
        let k = (lay_line s (held_in r) cs).chars in
        let all = line-chars s (held_in r) cs f.within f.counts in
        omega (arith, length-take-le k cs (omega arith), length-size (take k cs))

    -- So many of them lie between.
    pub next-between : Between t at (line_from s t at before r).next.0 (line_from s t at before r).chars.0
    unfolding line_from line_at_of
    next-between = record { all = omega (arith, line-chars s (held_in r) (chars_from t at) f.within f.counts); ends = refl }

    -- Further on, unless the line ends the text.
    pub next-further : ((line_from s t at before r).ended ≡ EndOfText → ⊥) → at < (line_from s t at before r).next.0
    unfolding line_from line_at_of
    next-further d =
        let cs = chars_from t at in
        let k = (lay_line s (held_in r) cs).chars in
        let some = line-takes s (held_in r) cs f.within f.counts d in
        let all = line-chars s (held_in r) cs f.within f.counts in
        omega (arith, length-take-le k cs (omega arith), length-size (take k cs))

    -- What is held stands there.
    pub next-rest : RestFits t (line_from s t at before r).next.0 (line_from s t at before r).rest
    unfolding line_from line_at_of
    next-rest =
        let cs = chars_from t at in
        let l = lay_line s (held_in r) cs in
        held_fits t at l.chars l.held next-chars (line-rest s (held_in r) cs f.within f.counts) (line-held s (held_in r) cs f.within f.counts)

-- ---- what a line measures

-- The pass that measures a line counts no more spaces than there are characters, and moves its pen by so much at most.
abbrev pub Bounded : List ℕ → Measure → Type 0
Bounded cs m = (m.spaces.0 ≤ length cs) × (m.pen.0 ≤ 8192 * size cs) × (m.width.0 ≤ m.pen.0) × (m.count.0 ≤ m.spaces.0)

measuring-small : (s : Settings) (ts : List Tok) → FineSettings s → Sound ts → Bounded (spell ts) (measured unmeasured (measuring s ts).drawn)
unfolding measuring plain_spaces start_place
measuring-small s ts fs h =
    let p = start_place s 0 (plain_spaces s) in
    let ds = (process s p 0 ts).drawn in
    let g = pass-grows s p 0 unmeasured ts fs (start_fine s 0 (plain_spaces s) fs (omega arith) (plain_fine s fs)) h in
    let b = measured-behind unmeasured ds (omega arith, omega arith) in
    (omega (arith, g.spaces), omega (arith, g.pen), b.0, b.1)

-- What counts of it at the line's end.
counts-small : (s : Settings) (cs : List ℕ) (m : Measure) → Bounded cs m → (m.width.0 ≤ 8192 * size cs) × (m.count.0 ≤ length cs)
counts-small s cs m b = (omega arith, omega arith)

module _ (s : Settings) (t : List ℕ) (at : ℕ) (r : Resumed) (f : RestFits t at r) (fs : FineSettings s) where
  line_small : Bounded (chars_from t at) (measured unmeasured (measuring s (line_tokens (held_in r) (chars_from t at))).drawn)
  line_small =
      let cs = chars_from t at in
      let ts = line_tokens (held_in r) cs in
      subst (λ (c : List ℕ). Bounded c (measured unmeasured (measuring s ts).drawn)) (line-tokens_cover (held_in r) cs)
      (measuring-small s ts fs (line-tokens-sound (held_in r) cs f.within f.counts))

  -- The same as the running pass has it.
  pub measured-small : Bounded (chars_from t at) (passed_from s t at r (plainly s)).measure
  measured-small = rw (measured-is s t at r) line_small

  -- Spaces enough to be shared out.
  pub few-chars : length t ≤ 65535 → length (chars_from t at) ≤ 65535
  few-chars h = omega (arith, length-size (chars_from t at), chars-within t at)

  pub placed-count : length t ≤ 65535 → (passed_from s t at r (plainly s)).measure.count.0 ≤ 65535
  placed-count h = omega (arith, counts-small s (chars_from t at) (passed_from s t at r (plainly s)).measure measured-small, few-chars h)

-- ---- the entry

-- No number of a line's entry is large.
pub record SmallEntry (t : List ℕ) (e : Entry) : Type 0 where
  pub start : e.start.0 ≤ length t
  pub end : e.rest.end.0 ≤ length t
  pub count : e.rest.count.0 ≤ length t
  pub ending : e.ending ≤ 3
  pub left : e.left.0 ≤ 4096
  pub space : (1 ≤ e.space.0) × (e.space.0 ≤ 4160)
  pub extra : e.extra.0 ≤ 65535
  pub width : e.width.0 ≤ 8192 * length t
  pub dropped : e.dropped.0 ≤ length t
  pub reach : e.reach.0 ≤ length t + 1

end-small : (e : LineEnd) → end_number e ≤ 3
end-small NewLine = omega arith
end-small CarriageReturn = omega arith
end-small EndOfText = omega arith
end-small LineBreak = omega arith

line_drops : (s : Settings) (h : Held) (cs : List ℕ) → (lay_line s h cs).dropped ≤ (lay_line s h cs).chars
unfolding lay_line line_of
line_drops s h cs = pass_drops s _ 0 (line_tokens h cs)

module _ (s : Settings) (t : List ℕ) (at : ℕ) (r : Resumed) (f : RestFits t at r) (fs : FineSettings s) (short : length t ≤ 65535) (h : at ≤ length t) where
  -- What the rest says is within the text.
  rest-small : ((rest_of at (held_in r) (chars_from t at)).end.0 ≤ length t) × ((rest_of at (held_in r) (chars_from t at)).count.0 ≤ length t)
  unfolding rest_of
  rest-small =
      let cs = chars_from t at in
      pick_cases (λ (e : Rest). (e.end.0 ≤ length t) × (e.count.0 ≤ length t)) (eqb r.chars.0 0) (λ _. (omega arith, omega arith))
      (λ _. (omega (arith, size-take r.chars.0 cs, chars-within t at), omega (arith, f.counts, f.within, length-size cs, chars-within t at)))

  pub placed_fine : FineSpaces (lay_line s (held_in r) (chars_from t at)).placed.spaces × ((lay_line s (held_in r) (chars_from t at)).placed.left.0 ≤ s.width.0)
  unfolding lay_line line_of placing
  placed_fine =
      let cs = chars_from t at in
      let ran = measuring s (line_tokens (held_in r) cs) in
      let m = measured unmeasured ran.drawn in
      place_fine s ran.ended m.width.0 m.count.0 fs
      (omega (arith, counts-small s cs m (line_small s t at r f fs), few-chars s t at r f fs short))

  line-width : (lay_line s (held_in r) (chars_from t at)).width ≤ 8192 * size (chars_from t at)
  unfolding lay_line line_of
  line-width =
      let cs = chars_from t at in
      let m = measured unmeasured (measuring s (line_tokens (held_in r) cs)).drawn in
      (counts-small s cs m (line_small s t at r f fs)).0

  pub entry-small : (before : ℕ) → SmallEntry t (line_from s t at before r).entry
  unfolding line_from line_at_of entry_at
  entry-small before =
      let cs = chars_from t at in
      let l = lay_line s (held_in r) cs in
      let p = placed_fine in
      let size-cs = chars-within t at in
      record {
        start = h;
        end = rest-small.0;
        count = rest-small.1;
        ending = end-small l.ended;
        left = omega arith;
        space = (p.0.0, p.0.1);
        extra = p.0.2;
        width = omega (arith, line-width);
        dropped = omega (arith, line_drops s (held_in r) cs, line-chars s (held_in r) cs f.within f.counts, length-size cs);
        reach = omega (arith, line-reach-high s (held_in r) cs f.within f.counts);
      }
