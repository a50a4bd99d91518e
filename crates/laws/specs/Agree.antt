-- Two token lists that are the same as far as n bytes decide (rule 12).
-- Assumes nothing.
use Rattle.std.specs.Prelude.{ℕ, ◌-◌, ◌≤◌, ◌<◌, ◌≡◌, ◌⊎◌, List, [], ◌∷◌}
use Rattle.meaning.specs.Tokens.{Tok, size_of, need_of}

-- Either the first token of the first list is not decided within n bytes (the text's end takes one to be met), or both lists
-- start with the same token and agree after it.
abbrev pub Agree : ℕ → List Tok → List Tok → Type 0
Agree n [] ys = n < 1
Agree n (t ∷ xs) [] = n < need_of t
Agree n (t ∷ xs) (u ∷ ys) = (n < need_of t) ⊎ ((t ≡ u) × (size_of t ≤ n) × Agree (n - size_of t) xs ys)
