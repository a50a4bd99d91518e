-- What is known of a token's kind in an arm of a `match` that stands for several kinds. An arm's keys are the kinds' places in
-- their declaration: 0 NewLine, 1 CarriageReturn, 2 Tab, 3 Whitespace, 4 Word, 5 Break.
-- Assumes nothing.
use Rattle.std.specs.Prelude.{ℕ, ◌≡◌, refl, Bool, true, false, ◌||◌, List, [], ◌∷◌, eqb}
use Rattle.std.proofs.Common.{sym, ◌∙◌, ⊎_elim, eq-eqb}
use Rattle.std.proofs.lemmas.Bool.{false≢true}
use types.Run.{OneOf}
use denote.Enum.Declared.{tag_of}
use Rattle.meaning.specs.contracts.tokens.TokenKind.{the_type}
use Rattle.basis.specs.Choice.{either_first, either_second}
use Rattle.meaning.specs.SpaceConfig.{spaces_width}
use Rattle.meaning.specs.declared.tokens.TokenKind.{TokenKind}
use Rattle.meaning.specs.declared.tokens.TokenKind.TheVariants.{NewLine, CarriageReturn, Tab, Whitespace, Word, Break}
use Rattle.meaning.specs.declared.cursor.LineCursor.{LineCursor}
use Rattle.meaning.specs.declared.cursor.Spaces.{Spaces}
use Rattle.steps.specs.Ahead.{white_width}
use Rattle.steps.specs.Foreseeing.{White}

-- A token that ends the looking and adds nothing.
abbrev pub Ends : TokenKind → Type 0
Ends NewLine = Unit {0}
Ends CarriageReturn = Unit {0}
Ends Tab = Unit {0}
Ends Whitespace = Unit {0}
Ends Word = ⊥
Ends Break = ⊥

-- A token that ends the looking with no.
abbrev pub Halts : TokenKind → Type 0
Halts NewLine = Unit {0}
Halts CarriageReturn = Unit {0}
Halts Tab = ⊥
Halts Whitespace = ⊥
Halts Word = ⊥
Halts Break = ⊥

-- ---- an arm for several kinds

abbrev among : List ℕ → ℕ → Bool
among [] n = false
among (k ∷ ks) n = eqb n k || among ks n

is_among : (ks : List ℕ) (n : ℕ) → OneOf ks n → among ks n ≡ true
is_among [] n h = absurd h
is_among (k ∷ []) n h = either_first (eqb n k) false (eq-eqb n k h)
is_among (k ∷ j ∷ ks) n h =
    ⊎_elim (λ e. either_first (eqb n k) _ (eq-eqb n k e)) (λ g. either_second (eqb n k) _ (is_among (j ∷ ks) n g)) h

-- A number that is none of an arm's keys: `refl` says so.
pub never : (ks : List ℕ) (n : ℕ) → among ks n ≡ false → OneOf ks n → ⊥
never ks n e h = false≢true (sym e ∙ is_among ks n h)

-- ---- the lookaheads' arms

pub ends_of : (k : TokenKind) → OneOf (0 ∷ 1 ∷ 2 ∷ 3 ∷ []) (tag_of the_type k) → Ends k
ends_of NewLine h = tt
ends_of CarriageReturn h = tt
ends_of Tab h = tt
ends_of Whitespace h = tt
ends_of Word h = never (0 ∷ 1 ∷ 2 ∷ 3 ∷ []) 4 refl h
ends_of Break h = never (0 ∷ 1 ∷ 2 ∷ 3 ∷ []) 5 refl h

pub white_of : (k : TokenKind) → OneOf (2 ∷ 3 ∷ []) (tag_of the_type k) → White k
white_of NewLine h = never (2 ∷ 3 ∷ []) 0 refl h
white_of CarriageReturn h = never (2 ∷ 3 ∷ []) 1 refl h
white_of Tab h = tt
white_of Whitespace h = tt
white_of Word h = never (2 ∷ 3 ∷ []) 4 refl h
white_of Break h = never (2 ∷ 3 ∷ []) 5 refl h

pub halts_of : (k : TokenKind) → OneOf (0 ∷ 1 ∷ []) (tag_of the_type k) → Halts k
halts_of NewLine h = tt
halts_of CarriageReturn h = tt
halts_of Tab h = never (0 ∷ 1 ∷ []) 2 refl h
halts_of Whitespace h = never (0 ∷ 1 ∷ []) 3 refl h
halts_of Word h = never (0 ∷ 1 ∷ []) 4 refl h
halts_of Break h = never (0 ∷ 1 ∷ []) 5 refl h

-- All but a tab are as wide as their spaces.
pub no_tab_lem : (k : TokenKind) → OneOf (0 ∷ 1 ∷ 3 ∷ 4 ∷ 5 ∷ []) (tag_of the_type k) → (n : ℕ) (c : LineCursor) (sp : Spaces) → white_width k n c sp ≡ spaces_width sp n
unfolding white_width
no_tab_lem NewLine h n c sp = refl
no_tab_lem CarriageReturn h n c sp = refl
no_tab_lem Tab h n c sp = absurd (never (0 ∷ 1 ∷ 3 ∷ 4 ∷ 5 ∷ []) 2 refl h)
no_tab_lem Whitespace h n c sp = refl
no_tab_lem Word h n c sp = refl
no_tab_lem Break h n c sp = refl
