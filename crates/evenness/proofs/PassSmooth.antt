-- A pass over a text with neither tabs nor soft hyphens, of all its tokens: up to the last print no counted space leaves the pen
-- standing but one that is skipped at the line's front (rule 8).
-- Assumes nothing.
use Rattle.std.specs.Prelude.{ℕ, ◌+◌, ◌*◌, ◌/◌, ◌≤◌, ◌≡◌, Bool, true, false, ◌&&◌, ◌||◌, not, List, [], ◌∷◌, ◌++◌, eqb, length, take}
use Rattle.std.proofs.Math.Path.{refl}
use Rattle.std.proofs.Common.{sym, ap, subst, ◌∙◌, mul-le-mul_right, arith}
use Rattle.std.proofs.lemmas.Bool.{false≢true}
use Rattle.basis.specs.Choice.{pick_cases, pick_true, by_test}
use Rattle.utf8.specs.Encoding.{bytes, size}
use Rattle.meaning.specs.Tokens.{Tok, newLine, carriageReturn, tab, softHyphen, space, word, size_of}
use Rattle.meaning.specs.Cursor.{room_of, fits_in}
use Rattle.meaning.specs.SpaceConfig.{spaces_width, spaces_after}
use Rattle.meaning.specs.Lookahead.{Looked, goes_on, next_fits}
use Rattle.meaning.specs.Words.{Drawn, drawn, Stretches, last, glued, stretches, printed_first, drawn_stretches, drawn_word}
use Rattle.meaning.specs.LineIter.{when, leading_on, skips, draws_space, moved_on, used_up, after_word, step, process}
use Rattle.meaning.specs.declared.settings.Settings.{Settings}
use Rattle.meaning.specs.declared.cursor.Spaces.{Spaces}
use Rattle.meaning.specs.declared.cursor.Place.{Place}
use Rattle.meaning.specs.declared.line.EventKind.{EventKind}
use Rattle.meaning.specs.declared.line.EventKind.TheVariants.{Space}
use Rattle.laws.specs.LastPrint.{if_more, to_last_print, AllOf, all_append, all_first}
use Rattle.evenness.specs.SpacesAtEdge.{NoTabAt, MovesAt, none-taken}
use Rattle.evenness.specs.PassSteps.{behind, shows, space-skipped, space-goes, space-cut, word-goes, word-waits, word_cut, word-unfit}
use Rattle.evenness.specs.SimplePasses.{Simple, NoFront, SmoothAt, SmoothFrom, smooth-none, skipped-smooth, fitting-smooth, printed-smooth}

-- ---- from a space on

module _ (s : Settings) (at : ℕ) (cs : List ℕ) (ts : List Tok) (e : ℕ) (simple : Simple ts) (more : SmoothFrom s (at + size cs) ts)
    (p : Place) (w : 1 ≤ p.spaces.width.0) where
  module _ (n : ℕ) where
    abbrev all : List Drawn
    all = (process s p at (space cs n e ∷ ts)).drawn

    abbrev wide : ℕ
    wide = spaces_width p.spaces n

    space-smooth : (skips s p ≡ true → (n ≡ 0) × NoFront ts) → AllOf SmoothAt (to_last_print all)
    space-smooth k =
        by_test (skips s p) (λ t. skipped-smooth s at cs ts e simple more p w n t (k t))
        (λ t. by_test (fits_in p.cursor wide) (fitting-smooth s at cs ts e simple more p w n t) (λ u. smooth-none all (space-cut s p at cs ts e n t u)))

-- Of all tokens of a text with neither tabs nor soft hyphens.
pub pass-smooth : (s : Settings) (ts : List Tok) (at : ℕ) → Simple ts → SmoothFrom s at ts
unfolding process step to_last_print if_more
pass-smooth s [] at h p k w = tt
pass-smooth s (newLine ∷ ts) at h p k w = tt
pass-smooth s (carriageReturn ∷ ts) at h p k w = tt
pass-smooth s (tab ∷ ts) at h p k w = absurd h
pass-smooth s (softHyphen ∷ ts) at h p k w = absurd h
pass-smooth s (space cs n e ∷ ts) at h p k w = space-smooth s at cs ts e h (pass-smooth s ts (at + size cs) h) p w n k
pass-smooth s (word cs e ∷ ts) at h p k w = printed-smooth s at cs ts e h (pass-smooth s ts (at + size cs) h) p w
