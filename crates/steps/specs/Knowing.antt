-- A word that is known at an offset of a text, for the lines that go on with it.
-- Assumes nothing.
use Rattle.std.specs.Prelude.{ℕ, ◌≡◌, List, None, Option, Some}
use Rattle.std.proofs.Common.{arith, sym, ap, ◌∙◌}
use Rattle.utf8.specs.Encoding.{size}
use Rattle.meaning.specs.Tokens.{tokens}
use Rattle.meaning.specs.declared.tokens.TokenKind.TheVariants.{Word}
use Rattle.parser.specs.Lexing.{chars_from, lexed_at}
use Rattle.parser.specs.Shorter.{Between}
use Rattle.parser.specs.declared.lexeme.Lexeme.{Lexeme}
use Rattle.steps.specs.declared.first.Known.{Known}

abbrev pub known_at : ℕ → Option Lexeme → Known
known_at at l = record { at = record { 0 = at }; first = l }

abbrev pub nothing_known : Known
nothing_known = known_at 0 None

-- A word that is known stands where it is said to. Other tokens are not asked for again.
abbrev pub KnownFits : List ℕ → Known → Type 0
KnownFits t k = (x : Lexeme) → k.first ≡ Some x → x.kind ≡ Word → lexed_at k.at.0 (tokens (chars_from t k.at.0)) ≡ Some x

pub known-stands : (t : List ℕ) (at : ℕ) (k : Known) (x : Lexeme) → KnownFits t k → k.at.0 ≡ at → k.first ≡ Some x → x.kind ≡ Word
    → lexed_at at (tokens (chars_from t at)) ≡ Some x
known-stands t at k x f a q w = rw a at (f x q w)

pub nothing-fits : (t : List ℕ) (k : Known) → k ≡ nothing_known → KnownFits t k
nothing-fits t k e x q w = let z : None ≡ Some x = sym (ap (λ (j : Known). j.first) e) ∙ q in cc

pub known-fits : (t : List ℕ) (at : ℕ) (l : Option Lexeme) (k : Known) → l ≡ lexed_at at (tokens (chars_from t at)) → k ≡ known_at at l → KnownFits t k
known-fits t at l k e q x f w = rw q (sym e ∙ sym (ap (λ (j : Known). j.first) q) ∙ f)

-- Nothing lies between an offset and itself.
pub between_none : (t : List ℕ) (at : ℕ) → Between t at at 0
unfolding size
between_none t at = record { all = omega arith; ends = omega arith }
