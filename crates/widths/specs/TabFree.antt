-- A text without tabs, by a test, and its tokens, among which there is none (rule 2).
-- Assumes nothing.
use Rattle.std.specs.Prelude.{ℕ, zero, suc, ◌≡◌, Bool, true, false, not, List, [], ◌∷◌, eqb, drop}
use Rattle.std.proofs.Common.{sym, subst}
use Rattle.std.proofs.lemmas.Bool.{false≢true}
use Rattle.basis.specs.Choice.{pick, pick_cases}
use Rattle.meaning.specs.Tokens.{Tok, newLine, carriageReturn, tab, softHyphen, space, word}
use Rattle.meaning.specs.LineIter.{Held}
use Rattle.meaning.specs.Line.{line_tokens}
use Rattle.laws.specs.Spell.{spell}
use Rattle.laws.specs.LineTokens.{line-tokens_cover}
use Rattle.laws.specs.Runs.{Pass, pass-second}

abbrev pub is_tab : ℕ → Bool
is_tab c = eqb c 0x0009

-- A tab is among these characters.
unfoldable pub has_tab : List ℕ → Bool
has_tab [] = false
has_tab (c ∷ cs) =
    let more = has_tab cs in
    pick (is_tab c) true more

-- No tab is among these tokens.
abbrev pub TabFree : List Tok → Type 0
TabFree [] = Unit {0}
TabFree (newLine ∷ ts) = TabFree ts
TabFree (carriageReturn ∷ ts) = TabFree ts
TabFree (tab ∷ ts) = ⊥
TabFree (softHyphen ∷ ts) = TabFree ts
TabFree (space cs n e ∷ ts) = TabFree ts
TabFree (word cs e ∷ ts) = TabFree ts

pub free-next : (t : Tok) (ts : List Tok) → TabFree (t ∷ ts) → TabFree ts
free-next newLine ts h = h
free-next carriageReturn ts h = h
free-next tab ts h = absurd h
free-next softHyphen ts h = h
free-next (space cs n e) ts h = h
free-next (word cs e) ts h = h

abbrev no_tab : ℕ → Bool
no_tab c = not (is_tab c)

-- The first character is none, nor is one of the others.
first-free : (c : ℕ) (cs : List ℕ) → has_tab (c ∷ cs) ≡ false → (no_tab c ≡ true) × (has_tab cs ≡ false)
unfolding has_tab
first-free c cs =
    pick_cases (λ b. b ≡ false → (no_tab c ≡ true) × (has_tab cs ≡ false)) (is_tab c) (λ _ e. absurd (false≢true (sym e)))
    (λ d e. (rw d, e))

passes : (cs : List ℕ) → has_tab cs ≡ false → Pass no_tab cs
passes [] e = tt
passes (c ∷ cs) e = let f = first-free c cs e in (f.0, passes cs f.1)

-- What is left of such a text is such a text.
pub free-rest : (k : ℕ) (cs : List ℕ) → has_tab cs ≡ false → has_tab (drop k cs) ≡ false
free-rest zero cs e = e
free-rest (suc k) [] e = e
free-rest (suc k) (c ∷ cs) e = free-rest k cs (first-free c cs e).1

free_spelled : (ts : List Tok) → Pass no_tab (spell ts) → TabFree ts
unfolding spell
free_spelled [] h = tt
free_spelled (newLine ∷ ts) h = free_spelled ts h.1
free_spelled (carriageReturn ∷ ts) h = free_spelled ts h.1
free_spelled (tab ∷ ts) h = absurd (false≢true h.0)
free_spelled (softHyphen ∷ ts) h = free_spelled ts h.1
free_spelled (space cs n e ∷ ts) h = free_spelled ts (pass-second no_tab cs (spell ts) h)
free_spelled (word cs e ∷ ts) h = free_spelled ts (pass-second no_tab cs (spell ts) h)

-- Nor is one among the tokens of a line of such a text, whatever is held before it.
pub free-line : (h : Held) (cs : List ℕ) → has_tab cs ≡ false → TabFree (line_tokens h cs)
free-line h cs e = free_spelled (line_tokens h cs) (subst (Pass no_tab) (sym (line-tokens_cover h cs)) (passes cs e))
