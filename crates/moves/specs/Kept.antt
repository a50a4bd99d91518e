-- What a tab that does not fit does to the cursor is rule 4's move forward; spaces, words and "-" that do not fit go on from the
-- cursor that they had, whatever that move answers (rule 8, rule 9).
-- Assumes nothing.
use Rattle.std.specs.Prelude.{ℕ, ◌+◌, ◌-◌, ◌*◌, ◌≤◌, ◌≡◌, false, List, [], pos, length}
use Rattle.std.proofs.Common.{◌∙◌, arith}
use Rattle.basis.specs.Choice.{pick, pick-false, by_test}
use Rattle.meaning.specs.Cursor.{placed_at, room_of, fits_in, advance, at_edge, move_by, tab_width}
use Rattle.meaning.specs.SpaceConfig.{spaces_width}
use Rattle.meaning.specs.Lookahead.{Looked}
use Rattle.meaning.specs.LineIter.{Step, go, stop, nothing_held, skips, cut_run, on_space, on_tab, hyphenated, cut_word, waiting_word, on_word}
use Rattle.meaning.specs.declared.settings.Settings.{Settings}
use Rattle.meaning.specs.declared.cursor.LineCursor.{LineCursor}
use Rattle.meaning.specs.declared.cursor.Place.{Place}
use Rattle.meaning.specs.declared.line.LineEnd.TheVariants.{LineBreak}
use Rattle.moves.specs.Moves.{went, move_fits, move_refused, fits-went}
use Rattle.moves.specs.Lent.{cursor_after}

-- The edge is the box's width.
pub at_edge_lem : (c : LineCursor) → c.position.0 ≤ c.width.0 → at_edge c ≡ placed_at c c.width.0
unfolding advance room_of
at_edge_lem c h = let e : c.position.0 + (c.width.0 - c.position.0) ≡ c.width.0 = omega arith in rw e

-- Where a step goes on, if it does.
abbrev place_after : Place → Step → Place
place_after p (go q ds r) = q
place_after p (stop e ds k h d r) = p

module _ (s : Settings) (p : Place) (at : ℕ) where
  -- A tab that is not skipped leaves the cursor where the move by its width does, fit or not.
  pub tab-moves : (look : Looked) → skips s p ≡ false
      → (place_after p (on_tab s p at look)).cursor ≡ cursor_after (move_by p.cursor (pos (tab_width p.cursor)))
  unfolding on_tab pick
  tab-moves look e =
      let w = tab_width p.cursor in
      by_test (fits_in p.cursor w) (λ f. rw (e, f, move_fits p.cursor w f)) (λ f. rw (e, f, move_refused p.cursor w f))

  -- A move that does not go is by a width that does not fit.
  not-fits : (w : ℕ) → went (move_by p.cursor (pos w)) ≡ false → fits_in p.cursor w ≡ false
  not-fits w e = fits-went p.cursor w ∙ e

  -- A space run is cut by the room of the cursor that it had.
  pub space-kept : (cs : List ℕ) (n : ℕ) (look : Looked) → skips s p ≡ false
      → went (move_by p.cursor (pos (spaces_width p.spaces n))) ≡ false
      → on_space s p at cs n look ≡ cut_run p at cs n (spaces_width p.spaces n)
  unfolding on_space pick
  space-kept cs n look e f = rw (e, not-fits (spaces_width p.spaces n) f)

  -- A word is cut by the room of the cursor that it had, or waits.
  pub word_kept : (cs : List ℕ) → went (move_by p.cursor (pos (length cs * s.glyph.0))) ≡ false
      → on_word s p at cs ≡ pick p.empty (cut_word s p at cs) waiting_word
  unfolding on_word
  word_kept cs f = pick-false (fits_in p.cursor (length cs * s.glyph.0)) _ _ (not-fits (length cs * s.glyph.0) f)

  -- A line that a "-" does not fit goes on from where it was, if it is empty, and else ends before the soft hyphen.
  pub hyphen-kept : (reach : ℕ) → went (move_by p.cursor (pos s.glyph.0)) ≡ false
      → hyphenated s p at reach ≡ pick p.empty (go p [] reach) (stop LineBreak [] 0 nothing_held 0 reach)
  unfolding hyphenated
  hyphen-kept reach f = pick-false (fits_in p.cursor s.glyph.0) _ _ (not-fits s.glyph.0 f)
