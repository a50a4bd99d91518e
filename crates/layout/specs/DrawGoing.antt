-- Lines drawn one after the other from a stand on: what is put when those that are left are put stays the same.
-- Assumes nothing.
use Rattle.std.specs.Prelude.{ℕ, ◌≤◌, ◌≡◌, List}
use Rattle.std.proofs.Common.{arith, ◌∙◌}
use Rattle.meaning.specs.Checks.{text_limit}
use Rattle.meaning.specs.declared.settings.Settings.{Settings}
use Rattle.rows.specs.Standing.{StandReady}
use Rattle.rows.specs.Drawers.{Puts, Few, puts_nothing, puts_then, few_left}
use Rattle.stands.specs.declared.stand.Stand.{Stand}
use Rattle.layout.specs.EventsFrom.{events_after, few-events}
use Rattle.layout.specs.DrawTurns.{Drew}

-- From the stand p, with n events before it in the buffer u, to the stand q, with m events in the buffer v.
abbrev pub DrewTo : Settings → (t u : List ℕ) → (n : ℕ) → Stand → (v : List ℕ) → (m : ℕ) → Stand → Type 0
DrewTo s t u n p v m q = Puts u n (events_after s t p) v m (events_after s t q)

-- No count of events wraps.
abbrev pub FewFrom : Settings → List ℕ → (n : ℕ) → Stand → Type 0
FewFrom s t n p = Few n (events_after s t p)

pub drew_nowhere : (s : Settings) (t u : List ℕ) (n : ℕ) (p : Stand) → DrewTo s t u n p u n p
drew_nowhere s t u n p = puts_nothing u n (events_after s t p)

-- What the loop over all lines keeps is kept so.
pub drew-on : (s : Settings) (t ev₀ u : List ℕ) (n : ℕ) (p : Stand) (v : List ℕ) (m : ℕ) (q : Stand) → StandReady s t q → Drew s t ev₀ u n p
    → DrewTo s t u n p v m q → Drew s t ev₀ v m q
drew-on s t ev₀ u n p v m q c d g = record { ready = c; left = g.left ∙ d.left; same = g.same ∙ d.same; puts = g.puts ∙ d.puts }

pub drew-few : (s : Settings) (t ev₀ u : List ℕ) (n : ℕ) (p : Stand) → Drew s t ev₀ u n p → FewFrom s t n p
drew-few s t ev₀ u n p d = omega (arith, d.left, few-events s t, d.ready.line.short)

-- Few events are before it.
pub few-before : (s : Settings) (t u : List ℕ) (n : ℕ) (p : Stand) (v : List ℕ) (m : ℕ) (q : Stand) → DrewTo s t u n p v m q → FewFrom s t n p → m ≤ text_limit
few-before s t u n p v m q g few = omega (arith, g.left)

-- Few are, then, with those that are left.
pub few_on : (s : Settings) (t u : List ℕ) (n : ℕ) (p : Stand) (v : List ℕ) (m : ℕ) (q : Stand) → DrewTo s t u n p v m q → FewFrom s t n p → FewFrom s t m q
few_on s t u n p v m q g few = few_left g few

-- From there on to another stand.
pub drew-then : (s : Settings) (t u : List ℕ) (n : ℕ) (p : Stand) (v : List ℕ) (m : ℕ) (q : Stand) → DrewTo s t u n p v m q → (w : List ℕ) (k : ℕ) (next : Stand)
    → DrewTo s t v m q w k next → DrewTo s t u n p w k next
drew-then s t u n p v m q g w k next h = puts_then g h

-- What is kept of one buffer, count and stand is kept of the same.
pub drew-same : (s : Settings) (t ev₀ u v : List ℕ) (n m : ℕ) (p q : Stand) → u ≡ v → n ≡ m → p ≡ q → Drew s t ev₀ v m q → Drew s t ev₀ u n p
drew-same s t ev₀ u v n m p q buffer events stand d = rw (buffer, events, stand) d
