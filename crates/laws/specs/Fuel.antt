-- A count of lines above the number of characters allows for every line: any two such counts give the same lines (rule 10).
-- Assumes nothing.
use Rattle.std.specs.Prelude.{ℕ, zero, suc, ◌+◌, ◌≤◌, ◌<◌, ◌≡◌, refl, List, ◌∷◌, length, take, drop}
use Rattle.std.proofs.Common.{not-suc-le-zero, ap}
use Rattle.utf8.specs.Encoding.{size}
use Rattle.meaning.specs.LineIter.{Held}
use Rattle.meaning.specs.Line.{lay_line}
use Rattle.meaning.specs.Layout.{Row, row_at, rows_by}
use Rattle.meaning.specs.declared.settings.Settings.{Settings}
use Rattle.laws.specs.LineBounds.{line-held, line-rest}
use Rattle.laws.specs.Stands.{next-fewer, unless_both}

pub rows-fuel : (m n : ℕ) (s : Settings) (start before : ℕ) (h : Held) (cs : List ℕ) → h.chars ≤ length cs → h.count ≤ h.chars
    → length cs < m → length cs < n → rows_by m s start before h cs ≡ rows_by n s start before h cs
unfolding rows_by
rows-fuel zero n s start before h cs k c a b = absurd (not-suc-le-zero a)
rows-fuel (suc m) zero s start before h cs k c a b = absurd (not-suc-le-zero b)
rows-fuel (suc m) (suc n) s start before h cs k c a b =
    let l = lay_line s h cs in
    let next = start + size (take l.chars cs) in
    let from : ℕ → List Row = λ f. rows_by f s next (before + l.chars) l.held (drop l.chars cs) in
    ap (◌∷◌ (row_at start before h cs l))
    (unless_both (λ xs ys. xs ≡ ys) l.ended (from m) (from n) (λ _. refl)
    (λ d. rows-fuel m n s next (before + l.chars) l.held (drop l.chars cs) (line-rest s h cs k c) (line-held s h cs k c)
    (next-fewer s h cs k c d m a) (next-fewer s h cs k c d n b)))
