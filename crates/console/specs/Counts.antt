-- Bytes at a buffer's front, and those that came behind them.
-- Assumes nothing.
use Rattle.std.specs.Prelude.{ℕ, ◌<◌, ◌≤◌, ◌≡◌, List, length, take, Option, None, Some, Result, Ok, Err}
use Rattle.console.specs.declared.input.ReadFailed.{ReadFailed}

-- A buffer has so many bytes, and so many stand at its front.
abbrev pub IsPrefixLen : ℕ → List ℕ → Type 0
IsPrefixLen n xs = (n ≤ length xs) × (n ≡ length (take n xs))

-- Bytes that came after those up to a place stand within so many.
abbrev pub Came : {E : Type 0} → (end n : ℕ) → Result (Option ℕ) E → Type 0
Came end n (Ok (Some k)) = (end < k) × (k ≤ n)
Came end n (Ok None) = Unit {0}
Came end n (Err e) = Unit {0}

-- How many bytes were read, also where a read failed after them.
abbrev pub bytes_read : Result ℕ ReadFailed → ℕ
bytes_read (Ok n) = n
bytes_read (Err failed) = failed.bytes
