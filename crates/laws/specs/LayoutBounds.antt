-- The lines of a layout: how many there are, that each but the last takes a character, and that the last alone ends the text (rule 10).
-- Assumes nothing.
use Rattle.std.specs.Prelude.{ℕ, zero, suc, ◌+◌, ◌≤◌, ◌<◌, ◌≡◌, refl, List, [], ◌∷◌, length, take, drop}
use Rattle.std.proofs.Common.{arith, length-drop}
use Rattle.std.proofs.lemmas.List.{length-map}
use Rattle.utf8.specs.Encoding.{size}
use Rattle.meaning.specs.LineIter.{Held, nothing_held}
use Rattle.meaning.specs.Line.{lay_line, end_number, entry_at}
use Rattle.meaning.specs.Layout.{Row, row_at, unless_ended, rows_by, most_lines, rows, entry_of_row, layout}
use Rattle.meaning.specs.declared.settings.Settings.{Settings}
use Rattle.meaning.specs.declared.line.LineEnd.{LineEnd}
use Rattle.meaning.specs.declared.line.LineEnd.TheVariants.{NewLine, CarriageReturn, EndOfText, LineBreak}
use Rattle.laws.specs.LineBounds.{line-chars, line-held, line-rest, line-takes}

-- ---- how many

unless_length : (e : LineEnd) (rs : List Row) → length (unless_ended e rs) ≤ length rs
unfolding unless_ended
unless_length EndOfText rs = omega arith
unless_length NewLine rs = omega arith
unless_length CarriageReturn rs = omega arith
unless_length LineBreak rs = omega arith

pub rows-length : (n : ℕ) (s : Settings) (start before : ℕ) (h : Held) (cs : List ℕ) → length (rows_by n s start before h cs) ≤ n
unfolding rows_by
rows-length zero s start before h cs = omega arith
rows-length (suc n) s start before h cs =
    let l = lay_line s h cs in
    let next = start + size (take l.chars cs) in
    let more = rows_by n s next (before + l.chars) l.held (drop l.chars cs) in
    omega
    (arith, unless_length l.ended more, rows-length n s next (before + l.chars) l.held (drop l.chars cs))

-- At most one line more than there are characters.
pub few-lines : (s : Settings) (cs : List ℕ) → length (rows s cs) ≤ most_lines cs
unfolding rows
few-lines s cs = rows-length (most_lines cs) s 0 0 nothing_held cs

pub few_entries : (s : Settings) (cs : List ℕ) → length (layout s cs) ≤ most_lines cs
unfolding layout
few_entries s cs = omega (arith, few-lines s cs, length-map (rows s cs) entry_of_row)

-- ---- how they end

-- The last row, and it alone, ends the text (2); each before it takes a character.
abbrev pub Ends : List Row → Type 0
Ends [] = ⊥
Ends (r ∷ []) = r.entry.ending ≡ 2
Ends (r ∷ q ∷ rs) = (r.entry.ending ≡ 2 → ⊥) × (1 ≤ r.chars) × Ends (q ∷ rs)

ends_more : (r : Row) (rs : List Row) → (r.entry.ending ≡ 2 → ⊥) → (1 ≤ r.chars) × Ends rs → Ends (r ∷ rs)
ends_more r [] d h = absurd h.1
ends_more r (q ∷ rs) d h = (d, h.0, h.1)

ends_by : (e : LineEnd) (r : Row) (rs : List Row) → r.entry.ending ≡ end_number e
    → ((e ≡ EndOfText → ⊥) → (1 ≤ r.chars) × Ends rs) → Ends (r ∷ unless_ended e rs)
unfolding unless_ended
ends_by EndOfText r rs q f = q
ends_by NewLine r rs q f = ends_more r rs (λ p. omega arith) (f (λ e. let z : ◌≡◌ {A = ℕ} 0 1 = cc in omega arith))
ends_by CarriageReturn r rs q f = ends_more r rs (λ p. omega arith) (f (λ e. let z : ◌≡◌ {A = ℕ} 0 1 = cc in omega arith))
ends_by LineBreak r rs q f = ends_more r rs (λ p. omega arith) (f (λ e. let z : ◌≡◌ {A = ℕ} 0 1 = cc in omega arith))

-- No row ends by LineBreak (3) and takes nothing.
abbrev pub Takes : List Row → Type 0
Takes [] = Unit {0}
Takes (r ∷ rs) = (r.entry.ending ≡ 3 → 1 ≤ r.chars) × Takes rs

pub ends-take : (rs : List Row) → Ends rs → Takes rs
ends-take [] h = tt
ends-take (r ∷ []) h = (λ e. omega arith, tt)
ends-take (r ∷ q ∷ rs) h = (λ e. h.1, ends-take (q ∷ rs) h.2)

-- As many lines as there may be are enough, from anywhere in a text.
pub rows_end : (n : ℕ) (s : Settings) (start before : ℕ) (h : Held) (cs : List ℕ) → length cs < n → h.chars ≤ length cs
    → h.count ≤ h.chars → Ends (rows_by n s start before h cs)
unfolding rows_by row_at entry_at
rows_end zero s start before h cs b f g = absurd (omega arith)
rows_end (suc n) s start before h cs b f g =
    let l = lay_line s h cs in
    let next = start + size (take l.chars cs) in
    let rest = drop l.chars cs in
    ends_by l.ended (row_at start before h cs l) (rows_by n s next (before + l.chars) l.held rest) refl λ d.
    let t = line-takes s h cs f g d in
    let k : length rest < n = rw length-drop (omega (arith, line-chars s h cs f g)) in
    (t, rows_end n s next (before + l.chars) l.held rest k (line-rest s h cs f g) (line-held s h cs f g))

pub layout-ends : (s : Settings) (cs : List ℕ) → Ends (rows s cs)
unfolding rows
layout-ends s cs = rows_end (suc (length cs)) s 0 0 nothing_held cs (omega arith) (omega arith) (omega arith)
