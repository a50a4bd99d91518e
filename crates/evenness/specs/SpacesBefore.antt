-- How many spaces are counted before an offset, as the tokens have them (rule 2, rule 8).
-- Assumes nothing.
use Rattle.std.specs.Prelude.{ℕ, ◌+◌, ◌-◌, ◌≤◌, ◌<◌, ◌≡◌, refl, List, [], ◌∷◌, ◌++◌, eqb, ltb}
use Rattle.std.proofs.Common.{sym, ap, ◌∙◌, arith, lt-ltb, le-ltb, ne_eqb}
use Rattle.basis.specs.Choice.{pick, pick_true, pick-false}
use Rattle.utf8.specs.Encoding.{bytes, size}
use Rattle.utf8.specs.Sizes.{bytes_range}
use Rattle.meaning.specs.Tokens.{Tok, newLine, carriageReturn, tab, softHyphen, space, word, size_of}
use Rattle.meaning.specs.Words.{glues}
use Rattle.laws.specs.Measuring.{glues_append}

-- ---- how many spaces are counted before an offset

-- What glues among a word's characters that start before n bytes.
unfoldable pub glues_before : ℕ → List ℕ → ℕ
glues_before n [] = 0
glues_before n (c ∷ cs) =
    let more = glues (c ∷ []) + glues_before (n - bytes c) cs in
    pick (eqb n 0) 0 more

-- The same of a token.
abbrev pub counted_before : ℕ → Tok → ℕ
counted_before n newLine = 0
counted_before n carriageReturn = 0
counted_before n tab = 0
counted_before n softHyphen = 0
counted_before n (space cs k e) = k
counted_before n (word cs e) = glues_before n cs

-- And of tokens from an offset on, before the offset x.
unfoldable pub spaces_before : (x at : ℕ) → List Tok → ℕ
spaces_before x at [] = 0
spaces_before x at (t ∷ ts) =
    let more = counted_before (x - at) t + spaces_before x (at + size_of t) ts in
    pick (ltb at x) more 0

no_glues : 0 ≡ glues []
unfolding glues
no_glues = refl

glues-first : (c : ℕ) (cs : List ℕ) → glues (c ∷ cs) ≡ glues (c ∷ []) + glues cs
glues-first c cs = glues_append (c ∷ []) cs

-- Of characters that take so many bytes, whatever follows them.
pub glues-by : (xs ys : List ℕ) → glues_before (size xs) (xs ++ ys) ≡ glues xs
unfolding glues_before size
glues-by [] [] = no_glues
glues-by [] (y ∷ ys) = pick_true (eqb 0 0) _ _ refl ∙ no_glues
glues-by (x ∷ xs) ys =
    let some = (bytes_range x).0 in
    let e : bytes x + size xs - bytes x ≡ size xs = omega arith in
    pick-false (eqb (bytes x + size xs) 0) _ _ (ne_eqb (bytes x + size xs) 0 (λ z. omega (arith, z, some)))
    ∙ ap (λ (n : ℕ). glues (x ∷ []) + glues_before n (xs ++ ys)) e
    ∙ ap (λ (n : ℕ). glues (x ∷ []) + n) (glues-by xs ys)
    ∙ sym (glues-first x xs)

pub glues-all : (n : ℕ) (cs : List ℕ) → size cs ≤ n → glues_before n cs ≡ glues cs
unfolding glues_before size
glues-all n [] h = no_glues
glues-all n (c ∷ cs) h =
    pick-false (eqb n 0) _ _ (ne_eqb n 0 (λ z. omega (arith, z, (bytes_range c).0)))
    ∙ ap (λ (k : ℕ). glues (c ∷ []) + k) (glues-all (n - bytes c) cs (omega arith))
    ∙ sym (glues-first c cs)

-- Nothing is counted before an offset from there on.
pub none_before : (x at : ℕ) (ts : List Tok) → x ≤ at → spaces_before x at ts ≡ 0
unfolding spaces_before
none_before x at [] h = refl
none_before x at (t ∷ ts) h = pick-false (ltb at x) _ _ (le-ltb at x h)

pub before_more : (x at : ℕ) (t : Tok) (ts : List Tok) → at < x
    → spaces_before x at (t ∷ ts) ≡ counted_before (x - at) t + spaces_before x (at + size_of t) ts
unfolding spaces_before
before_more x at t ts h = pick_true (ltb at x) _ _ (lt-ltb at x h)
