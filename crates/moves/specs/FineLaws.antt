-- What is in range stays in range, from token to token and from line to line.
-- Assumes nothing.
use Rattle.std.specs.Prelude.{ℕ, ◌+◌, ◌-◌, ◌*◌, ◌/◌, ◌≤◌, ◌≡◌, true}
use Rattle.std.proofs.Common.{add-mul, mul-le-mul, div-mul-le_self, div-le_self, arith, leb-true}
use Rattle.std.proofs.Math.Nat.{lt-div-mul-add}
use Rattle.meaning.specs.Cursor.{room_of, fits_in, advance}
use Rattle.meaning.specs.SpaceConfig.{spaces_width, spaces_after}
use Rattle.meaning.specs.declared.cursor.LineCursor.{LineCursor}
use Rattle.meaning.specs.declared.cursor.Spaces.{Spaces}
use Rattle.moves.specs.Fine.{FineCursor, FineSpaces}

-- ---- the cursor

-- The next tab stop is above the position, by no more than a tab's width.
pub next-stop : (p t : ℕ) → 1 ≤ t → (p ≤ (p / t + 1) * t) × ((p / t + 1) * t ≤ p + t) × (p / t ≤ p)
next-stop p t h = omega (arith, add-mul (p / t) 1 t, div-mul-le_self p t, lt-div-mul-add {a = p} {b = t} h, div-le_self p t)

pub fits-room : (c : LineCursor) (w : ℕ) → fits_in c w ≡ true → w ≤ c.width.0 - c.position.0
unfolding fits_in room_of
fits-room c w e = leb-true w _ e

pub advance_fine : (c : LineCursor) (w : ℕ) → FineCursor c → fits_in c w ≡ true → FineCursor (advance c w)
unfolding advance
advance_fine c w f e = let h = fits-room c w e in (omega arith, f.1, f.2)

-- ---- spaces

pub times_bound : {n m : ℕ} (x y : ℕ) → x ≤ n → y ≤ m → x * y ≤ n * m
times_bound x y p q = mul-le-mul p q

pub width-bound : (sp : Spaces) (n : ℕ) → FineSpaces sp → n ≤ 65535 → spaces_width sp n ≤ 272691135
unfolding spaces_width
width-bound sp n f h = omega (arith, times_bound {n = 65535} {m = 4160} n sp.width.0 h f.1)

pub spaces_fine : (sp : Spaces) (n : ℕ) → FineSpaces sp → FineSpaces (spaces_after sp n)
unfolding spaces_after
spaces_fine sp n f = (f.0, f.1, omega arith)
