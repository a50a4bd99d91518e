-- Rule 2 as it reads: the tokens of a text are the longest of their kinds.
-- Assumes nothing.
use Rattle.std.specs.Prelude.{ℕ, ◌≡◌, refl, ◌⊎◌, List, [], ◌∷◌, ◌++◌}
use Rattle.std.proofs.Common.{ap, ◌∙◌, inl, inr}
use Rattle.basis.specs.Choice.{pick}
use Rattle.meaning.specs.Characters.{Class, lf, cr, ht, shy, zwsp, blank, letter, class_of, in_word, in_run}
use Rattle.meaning.specs.Tokens.{Tok, newLine, carriageReturn, tab, softHyphen, space, word, ender, counted, first, others, tokens}
use Rattle.laws.specs.Spell.{text_of, spell}
use Rattle.laws.specs.Classes.{Classed, classed, word_class_lem, run_class_lem}
use Rattle.laws.specs.Runs.{Pass, Stops, run-pass, after-stops, run_only}
use Rattle.laws.specs.TokenLaws.{tokens_none, tokens-step, by-tokens, tokens_cover}

-- The first character is of a class.
abbrev pub Starts : Class → List ℕ → Type 0
Starts k [] = ⊥
Starts k (c ∷ cs) = class_of c ≡ k

-- U+200B by itself, which counts no space and which nothing has to end.
pub record Alone (ws : List ℕ) (n e : ℕ) : Type 0 where
  pub is : ws ≡ 0x200B ∷ []
  pub count : n ≡ 0
  pub end : e ≡ 0

-- White space that does not glue, with all that follows of it and of U+200B. The latter is not counted.
pub record Spaces (ws : List ℕ) (n e : ℕ) (rest : List ℕ) : Type 0 where
  pub starts : Starts blank ws
  pub all : Pass in_run ws
  pub longest : Stops in_run rest
  pub count : n ≡ counted ws
  pub end : e ≡ ender rest

-- A word, with all that follows of its characters.
pub record Letters (ws : List ℕ) (e : ℕ) (rest : List ℕ) : Type 0 where
  pub starts : Starts letter ws
  pub all : Pass in_word ws
  pub longest : Stops in_word rest
  pub end : e ≡ ender rest

-- A token with the text after it. The other kinds are one character each.
abbrev pub Longest : Tok → List ℕ → Type 0
Longest newLine rest = Unit {0}
Longest carriageReturn rest = Unit {0}
Longest tab rest = Unit {0}
Longest softHyphen rest = Unit {0}
Longest (space ws n e) rest = Alone ws n e ⊎ Spaces ws n e rest
Longest (word ws e) rest = Letters ws e rest

abbrev pub AllLongest : List Tok → Type 0
AllLongest [] = Unit {0}
AllLongest (t ∷ ts) = Longest t (spell ts) × AllLongest ts

first-longest : (k : Class) (c : ℕ) (cs : List ℕ) → class_of c ≡ k → Classed k c → Longest (first k c cs) (others k cs)
unfolding first others
first-longest lf c cs e d = tt
first-longest cr c cs e d = tt
first-longest ht c cs e d = tt
first-longest shy c cs e d = tt
first-longest zwsp c cs e d = inl (record { is = ap (λ (b : ℕ). b ∷ []) d; count = refl; end = refl })
first-longest blank c cs e d =
    inr (record { starts = e; all = (run_class_lem c e, run-pass in_run cs); longest = after-stops in_run cs; count = refl; end = refl })
first-longest letter c cs e d =
    record { starts = e; all = (word_class_lem c e, run-pass in_word cs); longest = after-stops in_word cs; end = refl }

pub tokens-longest : (cs : List ℕ) → AllLongest (tokens cs)
tokens-longest =
    by-tokens (λ cs. AllLongest (tokens cs)) (rw tokens_none tt)
    (λ c cs h. rw (tokens-step c cs)
    (rw (tokens_cover (others (class_of c) cs)) (first-longest (class_of c) c cs refl (classed c)), h))

-- ---- nothing else is so

spaces-only : (ws : List ℕ) (n e : ℕ) (rest : List ℕ) → Spaces ws n e rest → tokens (ws ++ rest) ≡ space ws n e ∷ tokens rest
unfolding first others
spaces-only [] n e rest s = absurd s.starts
spaces-only (c ∷ ws) n e rest s =
    let r = run_only in_run ws rest s.all.1 s.longest in
    tokens-step c (ws ++ rest) ∙ rw (s.starts, r.0, r.1, s.count, s.end)

letters-only : (ws : List ℕ) (e : ℕ) (rest : List ℕ) → Letters ws e rest → tokens (ws ++ rest) ≡ word ws e ∷ tokens rest
unfolding first others
letters-only [] e rest s = absurd s.starts
letters-only (c ∷ ws) e rest s =
    let r = run_only in_word ws rest s.all.1 s.longest in
    tokens-step c (ws ++ rest) ∙ rw (s.starts, r.0, r.1, s.end)

first-only : (t : Tok) (rest : List ℕ) → Longest t rest → tokens (text_of t ++ rest) ≡ t ∷ tokens rest
unfolding class_of first others pick
first-only newLine rest l = tokens-step 0x000A rest
first-only carriageReturn rest l = tokens-step 0x000D rest
first-only tab rest l = tokens-step 0x0009 rest
first-only softHyphen rest l = tokens-step 0x00AD rest
first-only (space ws n e) rest (inl a) = rw (a.is, a.count, a.end) (tokens-step 0x200B rest)
first-only (space ws n e) rest (inr s) = spaces-only ws n e rest s
first-only (word ws e) rest l = letters-only ws e rest l

-- The longest tokens that spell a text are its tokens, and no others are.
pub longest-only : (ts : List Tok) → AllLongest ts → tokens (spell ts) ≡ ts
unfolding spell
longest-only [] l = tokens_none
longest-only (t ∷ ts) l = first-only t (spell ts) l.0 ∙ ap (λ (us : List Tok). t ∷ us) (longest-only ts l.1)
