-- Events that are put as lines are written, one line after the other: what is put when those that are left are put stays the same.
-- Assumes nothing.
use Rattle.std.specs.Prelude.{ℕ, ◌+◌, ◌*◌, ◌≤◌, ◌≡◌, refl, true, false, List, [], length, Option, Some, None}
use Rattle.std.proofs.Common.{arith, subst, ◌∙◌}
use Rattle.meaning.specs.Checks.{text_limit}
use Rattle.meaning.specs.Table.{entry_numbers}
use Rattle.meaning.specs.declared.settings.Settings.{Settings}
use Rattle.meaning.specs.declared.line.Entry.{Entry}
use Rattle.meaning.specs.declared.line.Event.{Event}
use Rattle.table.specs.Numbers.{put_events}
use Rattle.rows.specs.Standing.{StandReady, line_at, laid_row}
use Rattle.rows.specs.Going.{Went, Reaches, RoomFrom, went_nowhere, went_then, went-room, went-few, room-on, reaches_then}
use Rattle.rows.specs.Found.{plain_stand}
use Rattle.rows.specs.RowsFrom.{TextReady}
use Rattle.stands.specs.Stands.{StandsAt}
use Rattle.stands.specs.declared.stand.Stand.{Stand}
use Rattle.stands.specs.declared.row.LaidRow.{LaidRow}

-- ---- events

-- From n events in the buffer u, with the events es left to put, to m events in the buffer v, with those of `more` left.
pub record Puts (u : List ℕ) (n : ℕ) (es : List Event) (v : List ℕ) (m : ℕ) (more : List Event) : Type 0 where
  pub left : m + length more ≡ n + length es
  pub same : length v ≡ length u
  pub puts : put_events v m more ≡ put_events u n es

-- No count of events wraps.
abbrev pub Few : (n : ℕ) → List Event → Type 0
Few n es = n + length es ≤ text_limit

pub puts_nothing : (u : List ℕ) (n : ℕ) (es : List Event) → Puts u n es u n es
puts_nothing u n es = record { left = refl; same = refl; puts = refl }

pub puts_then : {u v w : List ℕ} {n m k : ℕ} {es more rest : List Event} → Puts u n es v m more → Puts v m more w k rest → Puts u n es w k rest
puts_then g h = record { left = h.left ∙ g.left; same = h.same ∙ g.same; puts = h.puts ∙ g.puts }

pub few_left : {u v : List ℕ} {n m : ℕ} {es more : List Event} → Puts u n es v m more → Few n es → Few m more
few_left g few = omega (arith, g.left)

-- Where none is left all are put.
pub puts_all : {u v : List ℕ} {n m : ℕ} {es : List Event} → Puts u n es v m [] → (m ≡ n + length es) × (v ≡ put_events u n es)
unfolding put_events
puts_all g = (omega (arith, g.left), g.puts)

-- ---- lines, of which those from a stand on have so many events that are put

-- It does not matter what word is known at a stand that resumes nothing.
abbrev pub AlikeHere : Settings → List ℕ → (Stand → List Event) → Type 0
AlikeHere s t d = (p : Stand) → StandReady s t p → p.rest.chars.0 ≡ 0 → d (plain_stand p.at.0 p.before.0) ≡ d p

-- No count of those of a text wraps.
abbrev pub FewOfText : Settings → List ℕ → (Stand → List Event) → Type 0
FewOfText s t d = TextReady s t → Few 0 (d (plain_stand 0 0))

-- What is left where the next line is to be laid, if any line is left.
abbrev pub left_from : (Stand → List Event) → Option Stand → List Event
left_from d None = []
left_from d (Some p) = d p

-- The line at a stand can be drawn by its entry.
pub record ToDraw (d : Stand → List Event) (s : Settings) (t : List ℕ) (p : Stand) (e : Entry) (k : ℕ) : Type 0 where
  pub ready : StandReady s t p
  pub few : Few k (d p)
  pub entry : e ≡ (line_at s t p).entry

-- It is drawn: the events of the lines behind it are left, if it is not the last.
pub record LineDrawn (d : Stand → List Event) (s : Settings) (t : List ℕ) (p : Stand) (u : List ℕ) (n : ℕ) (v : List ℕ) (m : ℕ) : Type 0 where
  pub same : length v ≡ length u
  pub last : (x : LaidRow) → x ≡ laid_row s t p → x.last ≡ true → Puts u n (d p) v m []
  pub on : (x : LaidRow) → x ≡ laid_row s t p → x.last ≡ false → (q : Stand) → StandsAt t x.next (p.before.0 + x.chars.0) x.rest q
      → Puts u n (d p) v m (d q)

pub drawn-at : {d : Stand → List Event} {s : Settings} {t : List ℕ} {p q : Stand} {u v : List ℕ} {n m : ℕ} → q ≡ p → LineDrawn d s t q u n v m
    → LineDrawn d s t p u n v m
drawn-at {d = d} {s = s} {t = t} {u = u} {v = v} {n = n} {m = m} e g = subst (λ (x : Stand). LineDrawn d s t x u n v m) e g

-- Where no line has an event nothing is put.
pub none-drawn : (s : Settings) (t : List ℕ) (p : Stand) (u : List ℕ) (n : ℕ) → LineDrawn (λ _. []) s t p u n u n
none-drawn s t p u n = record { same = refl; last = λ x is ends. puts_nothing u n []; on = λ x is goes q at. puts_nothing u n [] }

pub none-few : (s : Settings) (t : List ℕ) → FewOfText s t (λ _. [])
none-few s t ready = omega arith

-- ---- from one stand to another

-- From a stand on there is room for all lines in a table, behind n others, and no count wraps, of lines or of events behind k others.
pub record CanGo (d : Stand → List Event) (s : Settings) (t u : List ℕ) (n k : ℕ) (p : Stand) : Type 0 where
  pub ready : StandReady s t p
  pub room : RoomFrom s t u n p
  pub few : Few k (d p)

-- From the stand p, with n lines in the table u and k events in the buffer ev, to the stand q.
pub record Gone (d : Stand → List Event) (s : Settings) (t u ev : List ℕ) (n k : ℕ) (p : Stand) (v by : List ℕ) (m j : ℕ) (q : Stand) : Type 0 where
  pub went : Went s t u n p v m q
  pub puts : Puts ev k (d p) by j (d q)

-- The same, or all lines are written, and their events put.
pub record GoneOn (d : Stand → List Event) (s : Settings) (t u ev : List ℕ) (n k : ℕ) (p : Stand) (v by : List ℕ) (m j : ℕ) (q : Option Stand) : Type 0 where
  pub reaches : Reaches s t u n p v m q
  pub puts : Puts ev k (d p) by j (left_from d q)

module _ {d : Stand → List Event} {s : Settings} {t u : List ℕ} {n k : ℕ} {p : Stand} (c : CanGo d s t u n k p) where
  pub can-room : entry_numbers * n + entry_numbers ≤ length u
  can-room = went-room s t u n p u n p (went_nowhere s t u n p c.ready) c.room

  pub can-few : n ≤ text_limit
  can-few = went-few s t u n p u n p (went_nowhere s t u n p c.ready) c.room

  pub gone_nowhere : (ev : List ℕ) → Gone d s t u ev n k p u ev n k p
  gone_nowhere ev = record { went = went_nowhere s t u n p c.ready; puts = puts_nothing ev k (d p) }

  pub can_on : {ev v by : List ℕ} {m j : ℕ} {q : Stand} → Gone d s t u ev n k p v by m j q → CanGo d s t v m j q
  can_on {v = v} {m = m} {q = q} g = record { ready = g.went.ready; room = room-on s t u n p v m q g.went c.room; few = few_left g.puts c.few }

pub gone_then : {d : Stand → List Event} {s : Settings} {t u ev : List ℕ} {n k : ℕ} {p : Stand} {v by : List ℕ} {m j : ℕ} {q : Stand} {w to : List ℕ} {i l : ℕ} {r : Stand}
    → Gone d s t u ev n k p v by m j q → Gone d s t v by m j q w to i l r → Gone d s t u ev n k p w to i l r
gone_then {s = s} {t = t} {u = u} {n = n} {p = p} {v = v} {m = m} {q = q} {w = w} {i = i} {r = r} g h =
    record { went = went_then s t u n p v m q g.went w i r h.went; puts = puts_then g.puts h.puts }

pub gone_on_then : {d : Stand → List Event} {s : Settings} {t u ev : List ℕ} {n k : ℕ} {p : Stand} {v by : List ℕ} {m j : ℕ} {q : Stand} {w to : List ℕ} {i l : ℕ}
    {r : Option Stand} → Gone d s t u ev n k p v by m j q → GoneOn d s t v by m j q w to i l r → GoneOn d s t u ev n k p w to i l r
gone_on_then {s = s} {t = t} {u = u} {n = n} {p = p} {v = v} {m = m} {q = q} {w = w} {i = i} g h =
    record { reaches = reaches_then s t u n p v m q g.went w i h.reaches; puts = puts_then g.puts h.puts }
