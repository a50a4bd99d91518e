-- The tokens of a text, one after the other (rule 2, rule 3).
-- Assumes nothing.
use Rattle.std.specs.Prelude.{ℕ, zero, suc, ◌+◌, ◌≤◌, ◌≡◌, refl, List, [], ◌∷◌, ◌++◌, eqb, length}
use Rattle.std.proofs.Common.{sym, ap, ◌∙◌, arith}
use Rattle.basis.specs.Choice.{pick, pick_cases}
use Rattle.utf8.specs.Encoding.{bytes, size}
use Rattle.utf8.specs.Sizes.{bytes_range, size_append}
use Rattle.meaning.specs.Characters.{Class, lf, cr, ht, shy, zwsp, blank, letter, class_of, in_word, in_run}
use Rattle.meaning.specs.Tokens.{Tok, newLine, carriageReturn, tab, softHyphen, space, word, run, first, others, counted, tokens_by, tokens, chars_of, size_of}
use Rattle.laws.specs.Spell.{text_of, spell, SoundTok, Sound}
use Rattle.laws.specs.Classes.{Classed, classed}
use Rattle.laws.specs.Runs.{run-after, after-length, ender_least}

-- ---- one token after the other

others-length : (k : Class) (cs : List ℕ) → length (others k cs) ≤ length cs
unfolding others
others-length lf cs = omega arith
others-length cr cs = omega arith
others-length ht cs = omega arith
others-length shy cs = omega arith
others-length zwsp cs = omega arith
others-length blank cs = after-length in_run cs
others-length letter cs = after-length in_word cs

-- Any bound that is large enough gives the same tokens.
enough : (m n : ℕ) (cs : List ℕ) → length cs ≤ m → length cs ≤ n → tokens_by m cs ≡ tokens_by n cs
unfolding tokens_by
enough zero zero cs g h = refl
enough zero (suc n) [] g h = refl
enough zero (suc n) (c ∷ cs) g h = absurd (omega arith)
enough (suc m) zero [] g h = refl
enough (suc m) zero (c ∷ cs) g h = absurd (omega arith)
enough (suc m) (suc n) [] g h = refl
enough (suc m) (suc n) (c ∷ cs) g h =
    let l = others-length (class_of c) cs in
    ap (λ (ts : List Tok). first (class_of c) c cs ∷ ts) (enough m n (others (class_of c) cs) (omega arith) (omega arith))

pub tokens_none : tokens [] ≡ []
unfolding tokens tokens_by
tokens_none = refl

pub tokens-step : (c : ℕ) (cs : List ℕ) → tokens (c ∷ cs) ≡ first (class_of c) c cs ∷ tokens (others (class_of c) cs)
unfolding tokens tokens_by
tokens-step c cs =
    let r = others (class_of c) cs in
    ap (λ (ts : List Tok). first (class_of c) c cs ∷ ts) (enough (length cs) (length r) r (others-length (class_of c) cs) (omega arith))

module _ {ℓ} (P : List ℕ → Type ℓ) (none : P []) (more : (c : ℕ) (cs : List ℕ) → P (others (class_of c) cs) → P (c ∷ cs)) where
  below : (n : ℕ) (cs : List ℕ) → length cs ≤ n → P cs
  below zero [] h = none
  below (suc n) [] h = none
  below zero (c ∷ cs) h = absurd (omega arith)
  below (suc n) (c ∷ cs) h = let l = others-length (class_of c) cs in more c cs (below n (others (class_of c) cs) (omega arith))

  -- What holds of no text, and of a text if it holds of what follows its first token, holds of every text.
  pub by-tokens : (cs : List ℕ) → P cs
  by-tokens cs = below (length cs) cs (omega arith)

-- ---- the tokens are the text

text_of_lem : (k : Class) (c : ℕ) (cs : List ℕ) → Classed k c → text_of (first k c cs) ++ others k cs ≡ c ∷ cs
unfolding first others
text_of_lem lf c cs e = ap (λ (b : ℕ). b ∷ cs) (sym e)
text_of_lem cr c cs e = ap (λ (b : ℕ). b ∷ cs) (sym e)
text_of_lem ht c cs e = ap (λ (b : ℕ). b ∷ cs) (sym e)
text_of_lem shy c cs e = ap (λ (b : ℕ). b ∷ cs) (sym e)
text_of_lem zwsp c cs e = refl
text_of_lem blank c cs e = ap (λ (l : List ℕ). c ∷ l) (run-after in_run cs)
text_of_lem letter c cs e = ap (λ (l : List ℕ). c ∷ l) (run-after in_word cs)

-- The first token and what follows it.
pub first-text : (c : ℕ) (cs : List ℕ) → text_of (first (class_of c) c cs) ++ others (class_of c) cs ≡ c ∷ cs
first-text c cs = text_of_lem (class_of c) c cs (classed c)

-- Nothing is lost, and nothing is added: the tokens' characters, one token after the other, are the text.
pub tokens_cover : (cs : List ℕ) → spell (tokens cs) ≡ cs
unfolding spell
tokens_cover =
    by-tokens (λ cs. spell (tokens cs) ≡ cs) (rw tokens_none)
    (λ c cs h. rw (tokens-step c cs, h) (first-text c cs))

-- ---- how long a token is

pub chars-text : (t : Tok) → chars_of t ≡ length (text_of t)
unfolding chars_of
chars-text newLine = refl
chars-text carriageReturn = refl
chars-text tab = refl
chars-text softHyphen = refl
chars-text (space cs n e) = refl
chars-text (word cs e) = refl

pub size-text : (t : Tok) → size_of t ≡ size (text_of t)
unfolding size_of size bytes pick
size-text newLine = refl
size-text carriageReturn = refl
size-text tab = refl
size-text softHyphen = refl
size-text (space cs n e) = refl
size-text (word cs e) = refl

-- What is spelled takes as many bytes as the tokens do.
pub size-spell : (t : Tok) (ts : List Tok) → size (spell (t ∷ ts)) ≡ size_of t + size (spell ts)
unfolding spell
size-spell t ts = size_append (text_of t) (spell ts) ∙ ap (λ (n : ℕ). n + size (spell ts)) (sym (size-text t))

-- The first token of a text and what follows it take the bytes of the text.
pub size-first : (c : ℕ) (cs : List ℕ) → size_of (first (class_of c) c cs) + size (others (class_of c) cs) ≡ size (c ∷ cs)
size-first c cs =
    let t = first (class_of c) c cs in
    let r = others (class_of c) cs in
    omega (arith, size-text t, size_append (text_of t) r, ap size (first-text c cs))

-- A character takes a byte at least.
pub length-size : (cs : List ℕ) → length cs ≤ size cs
unfolding size
length-size [] = omega arith
length-size (c ∷ cs) = omega (arith, bytes_range c, length-size cs)

pub chars-size : (t : Tok) → chars_of t ≤ size_of t
chars-size t = omega (arith, chars-text t, size-text t, length-size (text_of t))

-- ---- what holds of every token

-- No more spaces are counted than there are characters.
pub counted-length : (cs : List ℕ) → counted cs ≤ length cs
unfolding counted
counted-length [] = omega arith
counted-length (c ∷ cs) =
    let h = counted-length cs in
    pick_cases (λ n. n ≤ suc (length cs)) (eqb c 0x200B) (λ _. omega arith) (λ _. omega arith)

first-sound : (k : Class) (c : ℕ) (cs : List ℕ) → SoundTok (first k c cs) (others k cs)
unfolding first others
first-sound lf c cs = tt
first-sound cr c cs = tt
first-sound ht c cs = tt
first-sound shy c cs = tt
first-sound zwsp c cs = (omega arith, omega arith, omega (arith, ender_least cs))
first-sound blank c cs = (omega arith, counted-length (c ∷ run in_run cs), omega arith)
first-sound letter c cs = (omega arith, omega arith)

pub tokens-sound : (cs : List ℕ) → Sound (tokens cs)
tokens-sound =
    by-tokens (λ cs. Sound (tokens cs)) (rw tokens_none tt)
    (λ c cs h. rw (tokens-step c cs) (rw (tokens_cover (others (class_of c) cs)) (first-sound (class_of c) c cs), h))

-- Such a token has a character, and a byte.
pub sound-chars : (t : Tok) (cs : List ℕ) → SoundTok t cs → 1 ≤ chars_of t
unfolding chars_of
sound-chars newLine cs h = omega arith
sound-chars carriageReturn cs h = omega arith
sound-chars tab cs h = omega arith
sound-chars softHyphen cs h = omega arith
sound-chars (space ws n e) cs h = h.0
sound-chars (word ws e) cs h = h.0

pub sound-size : (t : Tok) (cs : List ℕ) → SoundTok t cs → 1 ≤ size_of t
sound-size t cs h = omega (arith, sound-chars t cs h, chars-size t)
