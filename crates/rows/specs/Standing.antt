-- Where a line is to be laid, and the step from there: the line, and where the next one is to be laid.
-- Assumes nothing.
use Rattle.std.specs.Prelude.{ℕ, ◌+◌, ◌≤◌, ◌<◌, ◌≡◌, refl, Bool, true, false, List, length}
use Rattle.std.proofs.Common.{arith, sym, ◌∙◌}
use Rattle.std.proofs.Math.Path.{ap}
use Rattle.std.proofs.lemmas.Bool.{false≢true}
use Rattle.meaning.specs.Checks.{text_limit}
use Rattle.meaning.specs.declared.settings.Settings.{Settings}
use Rattle.meaning.specs.declared.counts.Offset.{Offset}
use Rattle.meaning.specs.declared.line.LineEnd.{LineEnd}
use Rattle.meaning.specs.declared.line.LineEnd.TheVariants.{NewLine, CarriageReturn, EndOfText, LineBreak}
use Rattle.steps.specs.Knowing.{KnownFits}
use Rattle.placing.specs.Laying.{LineReady}
use Rattle.placing.specs.LineFrom.{LineAt, line_from}
use Rattle.placing.specs.LineLaws.{next-within, next-fewer, next-between, next-further, next-rest}
use Rattle.steps.specs.declared.step.Resumed.{Resumed}
use Rattle.stands.specs.Stands.{StandsAt, NextReady}
use Rattle.stands.specs.declared.stand.Stand.{Stand}
use Rattle.stands.specs.declared.row.LaidRow.{LaidRow}

abbrev pub is_last : LineEnd → Bool
is_last EndOfText = true
is_last NewLine = false
is_last CarriageReturn = false
is_last LineBreak = false

last-is : (e : LineEnd) → is_last e ≡ true → e ≡ EndOfText
last-is EndOfText h = refl
last-is NewLine h = absurd (false≢true h)
last-is CarriageReturn h = absurd (false≢true h)
last-is LineBreak h = absurd (false≢true h)

not_last : (e : LineEnd) → is_last e ≡ false → e ≡ EndOfText → ⊥
not_last e h q = false≢true (sym h ∙ ap is_last q)

-- ---- stands

-- A line can be laid there, and no count of the characters before it wraps: a text's front has few before it, and no more characters
-- than bytes are counted from there on.
pub record StandReady (s : Settings) (t : List ℕ) (p : Stand) : Type 0 where
  pub line : LineReady s t p.at.0 p.rest
  pub few : p.before.0 ≤ p.at.0 + text_limit
  pub known : KnownFits t p.known

pub stand-ready : (s : Settings) (t : List ℕ) (at : Offset) (before : ℕ) (r : Resumed) (p : Stand) → LineReady s t at.0 r
    → before ≤ at.0 + text_limit → StandsAt t at before r p → StandReady s t p
stand-ready s t at before r p c f q = record { line = rw (q.at-is, q.rest-is) c; few = rw (q.at-is, q.before-is) f; known = q.known }

-- ---- the step

-- The line that is laid at a stand.
abbrev pub line_at : Settings → List ℕ → Stand → LineAt
line_at s t p = line_from s t p.at.0 p.before.0 p.rest

-- What the loops over lines take of a line: its entry, whether it ends the text, and where the next one starts.
abbrev pub row_of : LineAt → LaidRow
row_of l = record { entry = l.entry; last = is_last l.ended; next = l.next; chars = l.chars; rest = l.rest }

-- The step: that of the line at a stand.
unfoldable pub laid_row : Settings → List ℕ → Stand → LaidRow
laid_row s t p = row_of (line_at s t p)

module _ (s : Settings) (t : List ℕ) (p : Stand) (c : StandReady s t p) (x : LaidRow) (is : x ≡ laid_row s t p) where
  pub ends : x.last ≡ true → (line_at s t p).ended ≡ EndOfText
  unfolding laid_row
  ends h = last-is (line_at s t p).ended (sym (ap (λ (y : LaidRow). y.last) is) ∙ h)

  pub goes_on_lem : x.last ≡ false → (line_at s t p).ended ≡ EndOfText → ⊥
  unfolding laid_row
  goes_on_lem h = not_last (line_at s t p).ended (sym (ap (λ (y : LaidRow). y.last) is) ∙ h)

  pub entry-is : x.entry ≡ (line_at s t p).entry
  unfolding laid_row
  entry-is = ap (λ (y : LaidRow). y.entry) is

  next-is : x.next ≡ (line_at s t p).next
  unfolding laid_row
  next-is = ap (λ (y : LaidRow). y.next) is

  chars-is : x.chars.0 ≡ (line_at s t p).chars.0
  unfolding laid_row
  chars-is = ap (λ (y : LaidRow). y.chars.0) is

  rest-is : x.rest ≡ (line_at s t p).rest
  unfolding laid_row
  rest-is = ap (λ (y : LaidRow). y.rest) is

  ready-after : LineReady s t (line_at s t p).next.0 (line_at s t p).rest
  ready-after =
      let l = c.line in
      record {
        settings = l.settings;
        short = l.short;
        inside = next-within s t p.at.0 p.before.0 p.rest l.inside;
        rest = next-rest s t p.at.0 p.before.0 p.rest l.rest;
      }

  few-after : p.before.0 + x.chars.0 ≤ x.next.0 + text_limit
  few-after =
      let next = ap (λ (o : Offset). o.0) next-is in
      omega (arith, c.few, chars-is, next, next-fewer s t p.at.0 p.before.0 p.rest c.line.rest)

  pub next-ready : NextReady t p x
  next-ready =
      record {
        short = c.line.short;
        inside = rw next-is ready-after.inside;
        few = few-after;
        known = c.known;
        between = rw (next-is, chars-is) (next-between s t p.at.0 p.before.0 p.rest c.line.rest);
      }

  -- A stand on the next line.
  module _ (q : Stand) (n : StandsAt t x.next (p.before.0 + x.chars.0) x.rest q) where
    pub next-at : q.at.0 ≡ (line_at s t p).next.0
    next-at = ap (λ (o : Offset). o.0) (n.at-is ∙ next-is)

    pub next-before : q.before.0 ≡ p.before.0 + (line_at s t p).chars.0
    next-before = omega (arith, n.before-is, chars-is)

    pub next-rest-is : q.rest ≡ (line_at s t p).rest
    next-rest-is = n.rest-is ∙ rest-is

    pub ready-next : StandReady s t q
    ready-next =
        record {
          line = rw (next-at, next-rest-is) ready-after;
          few = omega (arith, n.before-is, next-at, ap (λ (o : Offset). o.0) next-is, few-after);
          known = n.known;
        }

    -- It is further on, and within the text.
    pub further : x.last ≡ false → p.at.0 < q.at.0
    further h = omega (arith, next-at, next-further s t p.at.0 p.before.0 p.rest c.line.rest (goes_on_lem h))

    pub stays : q.at.0 ≤ length t
    stays = ready-next.line.inside
