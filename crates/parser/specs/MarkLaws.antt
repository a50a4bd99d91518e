-- What is so where a tab, a soft hyphen or a zero width space stands: its token, and that it ends a word.
-- Assumes nothing.
use Rattle.std.specs.Prelude.{◌≡◌, refl, true, false, ◌&&◌, List, ℕ, ◌+◌, ◌≤◌, ◌<◌, length, get_or, Some}
use Rattle.std.proofs.Math.Path.{ap}
use Rattle.std.proofs.Common.{◌∙◌}
use Rattle.std.proofs.Math.Logic.{inl}
use native.Mathlib.Omega.{arith}
use borrow.Author.Tests.{eqb-true}
use Rattle.std.proofs.Math.Dec.{eqb}
use Rattle.basis.specs.Choice.{pick, and_true, by_test}
use Rattle.utf8.specs.Encoding.{bytes}
use Rattle.utf8.specs.Decoding.{value2, value3}
use Rattle.utf8.specs.Ascii.{decode_ascii}
use Rattle.utf8.specs.Long.{decode_two, decode_three}
use Rattle.utf8.specs.Walk.{decode_at-bytes}
use Rattle.utf8.specs.declared.sequence.Decoded.TheVariants.{Char}
use Rattle.meaning.specs.Characters.{class_of, in_word}
use Rattle.meaning.specs.Tokens.{first, tokens}
use Rattle.parser.specs.Lexing.{chars_from, lexeme_at, lexed_at}
use Rattle.parser.specs.Scanning.{alone_at}
use Rattle.parser.specs.Letters.{Ends}
use Rattle.parser.specs.Marks.{zero_width, mark_of, mark_kind, Mark}
use Rattle.parser.specs.CharacterLaws as characters
use Rattle.parser.specs.ScanLaws.{scan_stop, char-room}
use Rattle.parser.specs.LexerLaws.{tabulator, soft_hyphen, zero-width, lexed-char}

-- No word goes on with one.
mark-word : (n : ℕ) → in_word (mark_of n) ≡ false
unfolding pick
mark-word n =
    by_test (eqb n 1) (λ e. rw e (characters.ascii_word_lem 0x0009 (omega arith)))
    (λ e. rw e (by_test (eqb n 2) (λ f. rw f (characters.soft_hyphen).0) (λ f. rw f (characters.zero-width).0)))

module _ (t : List ℕ) (at : ℕ) where
  -- Which bytes stand there.
  pub tab-here : at < length t → get_or t at 0 ≡ 0x09 → Mark t at 1
  unfolding pick
  tab-here h e = decode_ascii t at h (omega arith) ∙ ap (λ (c : ℕ). Char c 1) e

  pub hyphen-here : at + 2 ≤ length t → get_or t at 0 ≡ 0xC2 → get_or t (at + 1) 0 ≡ 0xAD → Mark t at 2
  unfolding pick
  hyphen-here h p q = decode_two t at h (record { lead = omega arith; second = omega arith }) ∙ (λ i. Char (value2 (p i) (q i)) 2)

  pub zero-here : at + 3 ≤ length t → zero_width (get_or t at 0) (get_or t (at + 1) 0) (get_or t (at + 2) 0) ≡ true → Mark t at 3
  unfolding pick
  zero-here h e =
      let f = and_true (eqb (get_or t at 0) 0xE2 && eqb (get_or t (at + 1) 0) 0x80) (eqb (get_or t (at + 2) 0) 0x8B) e in
      let g = and_true (eqb (get_or t at 0) 0xE2) (eqb (get_or t (at + 1) 0) 0x80) f.0 in
      let a = eqb-true (get_or t at 0) 0xE2 g.0 in
      let b = eqb-true (get_or t (at + 1) 0) 0x80 g.1 in
      let c = eqb-true (get_or t (at + 2) 0) 0x8B f.1 in
      decode_three t at h (record { lead = omega arith; second = omega arith; third = omega arith; long = omega arith; scalar = inl (omega arith) })
      ∙ (λ i. Char (value3 (a i) (b i) (c i)) 3)

  module _ (n : ℕ) (m : Mark t at n) where
    pub mark-room : (1 ≤ n) × (n ≤ 4) × (at + n ≤ length t)
    mark-room = char-room t at (mark_of n) n m

    pub mark-ends : Ends t at n
    mark-ends = record { few = mark-room.1; scans = λ k w. scan_stop in_word _ t at k w (mark_of n) n m (mark-word n) }

    -- It is a token by itself.
    alone_here : (cs : List ℕ) → n ≡ bytes (mark_of n) → alone_at (mark_kind n) (at + n) ≡ lexeme_at at (first (class_of (mark_of n)) (mark_of n) cs)
    unfolding mark_kind pick
    alone_here cs b =
        by_test (eqb n 1) (λ e. rw e (tabulator at n 0x0009 cs (rw e at b) refl))
        (λ e.
        by_test (eqb n 2) (λ f. rw (e, f) (soft_hyphen at n 0x00AD cs (rw (e, f) at b) refl))
        (λ f. rw (e, f) (zero-width at n 0x200B cs (rw (e, f) at b) refl)))

    pub mark-lexed : Some (alone_at (mark_kind n) (at + n)) ≡ lexed_at at (tokens (chars_from t at))
    mark-lexed = lexed-char t at (mark_of n) n m _ (alone_here (chars_from t (at + n)) (decode_at-bytes t at (mark_of n) n m))
