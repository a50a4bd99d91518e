-- A line from its two passes, which run at their offset in the text.
-- Assumes nothing.
use Rattle.std.specs.Prelude.{ℕ, ◌+◌, ◌≤◌, max, ◌≡◌, Bool, true, ◌&&◌, List, eqb, length, take}
use Rattle.std.proofs.Common.{arith, sym, ap, eq-eqb, ne_eqb, eqb-true}
use Rattle.basis.specs.Choice.{pick, and_true}
use Rattle.basis.specs.Order.{by_eq}
use Rattle.utf8.specs.Encoding.{size}
use Rattle.meaning.specs.Alignment.{spaces_of, plain_spaces, placed_left, place}
use Rattle.meaning.specs.LineIter.{Ran, process}
use Rattle.meaning.specs.Line.{unmeasured, measured, held_tokens, line_tokens, start_place, measuring, placing, line_of, lay_line, end_number, rest_of, entry_at}
use Rattle.meaning.specs.declared.settings.Settings.{Settings}
use Rattle.meaning.specs.declared.cursor.Place.{Place}
use Rattle.meaning.specs.declared.line.Placed.{Placed}
use Rattle.meaning.specs.declared.line.Rest.{Rest}
use Rattle.laws.specs.Shift.{process-from, shifted-measured}
use Rattle.parser.specs.Lexing.{chars_from}
use Rattle.moves.specs.Fine.{FineSettings}
use Rattle.steps.specs.Stepping.{resumed_at, ended_at, ran_from}
use Rattle.placing.specs.LineFrom.{LineAt, held_in, line_at_of, line_from}
use Rattle.steps.specs.Pending.{RestFits}
use Rattle.placing.specs.Taken.{Stretch, front-stretch}
use Rattle.steps.specs.declared.step.Resumed.{Resumed}
use Rattle.steps.specs.declared.step.Ended.{Ended}

-- What laying a line takes for granted: the settings are in range, and the rest stands in the text.
pub record LineReady (s : Settings) (t : List ℕ) (at : ℕ) (r : Resumed) : Type 0 where
  pub settings : FineSettings s
  pub short : length t ≤ 65535
  pub inside : at ≤ length t
  pub rest : RestFits t at r

-- What an entry says of a rest that its line resumes.
unfoldable pub rest_in : Resumed → Rest
rest_in r = pick (eqb r.chars.0 0) (record { end = record { 0 = 0 }; count = record { 0 = 0 } }) (record { end = r.end; count = r.count })

-- The pass over a line that is so placed.
unfoldable pub passed_from : Settings → List ℕ → (at : ℕ) → Resumed → Placed → Ended
passed_from s t at r p = ran_from s (start_place s p.left.0 p.spaces) t at r.chars.0 r.count.0 unmeasured

-- A line is measured with plain spaces from the box's left.
abbrev pub plainly : Settings → Placed
plainly s = placed_left 0 (plain_spaces s)

-- Is it placed as it was measured.
unfoldable pub as_measured : Settings → Placed → Bool
as_measured s p = eqb p.left.0 0 && eqb p.spaces.extra.0 0 && eqb p.spaces.width.0 s.glyph.0

-- Where the measuring pass places it.
unfoldable pub placed_by : Settings → Ended → Placed
placed_by s e = place s e.ended e.measure.width.0 e.measure.count.0

-- The line behind so many characters that is so placed and so wide, where the measuring pass looked up to an offset and the drawing
-- pass ended so and took so many characters.
unfoldable pub laid_at : (at before : ℕ) → Resumed → Placed → (width looked : ℕ) → Ended → (chars : ℕ) → LineAt
laid_at at before r p width looked e chars =
    record {
      entry =
          record {
            start = record { 0 = at };
            rest = rest_in r;
            ending = end_number e.ended;
            left = p.left;
            space = p.spaces.width;
            extra = p.spaces.extra;
            width = record { 0 = width };
            dropped = e.dropped;
            reach = record { 0 = max looked e.reach.0 };
            before = record { 0 = before };
          };
      ended = e.ended;
      next = e.next;
      chars = record { 0 = chars };
      rest = e.rest;
    }

-- ---- a pass at its offset is the pass from the front

abbrev ran_at : (at : ℕ) → List ℕ → Ran → Ended
ran_at at cs r =
    record {
      ended = r.ended;
      measure = measured unmeasured r.drawn;
      next = record { 0 = at + size (take r.chars cs) };
      rest = resumed_at (at + size (take (r.chars + r.held.chars) cs)) r.held;
      dropped = record { 0 = r.dropped };
      reach = record { 0 = at + r.reach };
    }

ran_at_lem : (s : Settings) (p : Place) (t : List ℕ) (at chars count : ℕ)
    → ran_from s p t at chars count unmeasured ≡ ran_at at (chars_from t at) (process s p 0 (held_tokens chars count (chars_from t at)))
unfolding ran_from ended_at
ran_at_lem s p t at chars count =
    let ts = held_tokens chars count (chars_from t at) in
    rw (process-from s p at ts, shifted-measured at unmeasured (process s p 0 ts).drawn)

pub measured-is : (s : Settings) (t : List ℕ) (at : ℕ) (r : Resumed)
    → (passed_from s t at r (plainly s)).measure ≡ measured unmeasured (measuring s (line_tokens (held_in r) (chars_from t at))).drawn
unfolding passed_from measuring line_tokens
measured-is s t at r = ap (λ (e : Ended). e.measure) (ran_at_lem s (start_place s 0 (plain_spaces s)) t at r.chars.0 r.count.0)

-- A pass goes up to where characters end.
pub passed-stretch : (s : Settings) (t : List ℕ) (at : ℕ) (r : Resumed) (p : Placed) → Stretch t at (passed_from s t at r p).next.0
unfolding passed_from
passed-stretch s t at r p =
    let start = start_place s p.left.0 p.spaces in
    rw (ran_at_lem s start t at r.chars.0 r.count.0)
    (front-stretch t at (process s start 0 (held_tokens r.chars.0 r.count.0 (chars_from t at))).chars)

-- ---- the line

pub rest_in_lem : (t : List ℕ) (at : ℕ) (r : Resumed) → RestFits t at r → rest_of at (held_in r) (chars_from t at) ≡ rest_in r
unfolding rest_of rest_in pick
rest_in_lem t at r f =
    by_eq r.chars.0 0 (λ e. rw (eq-eqb r.chars.0 0 e)) (λ d. rw (ne_eqb r.chars.0 0 d, ← (f.ends d)))

pub line-passes : (s : Settings) (t : List ℕ) (at before : ℕ) (r : Resumed) → RestFits t at r →
    let e = passed_from s t at r (plainly s) in
    let p = placed_by s e in
    line_from s t at before r ≡ laid_at at before r p e.measure.width.0 e.reach.0 (passed_from s t at r p) (lay_line s (held_in r) (chars_from t at)).chars
unfolding line_from line_at_of lay_line line_tokens line_of measuring placing entry_at passed_from placed_by laid_at
line-passes s t at before r f =
    let cs = chars_from t at in
    let ts = held_tokens r.chars.0 r.count.0 cs in
    let m = process s (start_place s 0 (plain_spaces s)) 0 ts in
    let p = placing s m in
    let d = process s (start_place s p.left.0 p.spaces) 0 ts in
    let far : max (at + m.reach) (at + d.reach) ≡ at + max m.reach d.reach = omega arith in
    rw (ran_at_lem s (start_place s 0 (plain_spaces s)) t at r.chars.0 r.count.0, rest_in_lem t at r f)
    (rw (ran_at_lem s (start_place s p.left.0 p.spaces) t at r.chars.0 r.count.0, far))

-- The next line starts where the drawing pass ended.
pub passes-next : (s : Settings) (t : List ℕ) (at before : ℕ) (r : Resumed) → RestFits t at r →
    let e = passed_from s t at r (plainly s) in
    (passed_from s t at r (placed_by s e)).next.0 ≡ at + size (take (lay_line s (held_in r) (chars_from t at)).chars (chars_from t at))
unfolding line_from line_at_of laid_at
passes-next s t at before r f = sym (ap (λ (l : LineAt). l.next.0) (line-passes s t at before r f))

-- A line that is placed as it was measured.
pub measured-plainly : (s : Settings) (p : Placed) → as_measured s p ≡ true → p ≡ plainly s
unfolding as_measured plain_spaces
measured-plainly s p e =
    let f = and_true (eqb p.left.0 0 && eqb p.spaces.extra.0 0) (eqb p.spaces.width.0 s.glyph.0) e in
    let g = and_true (eqb p.left.0 0) (eqb p.spaces.extra.0 0) f.0 in
    let left = eqb-true p.left.0 0 g.0 in
    let extra = eqb-true p.spaces.extra.0 0 g.1 in
    let width = eqb-true p.spaces.width.0 s.glyph.0 f.1 in
    λ i. placed_left (left i) (spaces_of (width i) (extra i))
