-- `strides::marks::next_joined` meets its contract (rule 8).
use Rattle.std.proofs.Common.{ℕ, ◌+◌, ◌*◌, ◌≤◌, ◌≡◌, refl, sym, ap, ◌∙◌, true, List, arith, length, le-leb}
use Rattle.std.specs.Prelude.{Some}
use Rattle.meaning.specs.Tokens.{tokens}
use Rattle.meaning.specs.Cursor.{room_of, fits_in}
use Rattle.moves.specs.FineLaws.{times_bound}
use Rattle.parser.specs.Ascii.{plain_at, plain-inside}
use Rattle.parser.specs.Lexing.{chars_from, lexed_at}
use Rattle.parser.specs.Scanning.{word_of}
use Rattle.parser.specs.Marks.{Mark}
use Rattle.parser.specs.LetterLaws.{letter-plain}
use Rattle.parser.specs.LexerLaws.{letter-lexed}
use Rattle.parser.specs.declared.scan.Scanned.{Scanned}
use Rattle.steps.specs.WordLaws.{word-at}
use Rattle.strides.specs.OnwardLaws.{read-pending}
use Rattle.strides.proofs.marks.next_joined.Goals as goal

-- A word that was read has no more characters than its text has bytes.
few : (t : List ℕ) (from : ℕ) (w : Scanned) → lexed_at from (tokens (chars_from t from)) ≡ Some (word_of w) → length t ≤ 65535 → w.chars.0 ≤ 65535
unfolding word_of
few t from w e h = let y = (read-pending t from (word_of w) e).stands in
    omega (arith, (word-at t from (word_of w) y refl).few, y.within)

pub scan_word-word-requires : goal.scan_word-word-requires
scan_word-word-requires c =
    omega (arith, plain-inside _ _ (sym c.plain_at.ensures ∙ c.if-not-plain_at.false), c.requires.0.short)

pub overflow_mul-word : goal.overflow_mul-word
overflow_mul-word c =
    record { fits = omega (arith, (times_bound {n = 65535} {m = 64} _ _ (few _ _ _ (sym (ap (λ (w : Scanned). Some (word_of w)) c.scan_word-word.ensures ∙ letter-lexed _ _ 1 (letter-plain _ _ (sym c.plain_at.ensures ∙ c.if-not-plain_at.false)))) c.requires.0.short) c.requires.0.settings.1)) }

pub overflow_add-word : goal.overflow_add-word
overflow_add-word c =
    record { fits = omega (arith, (times_bound {n = 65535} {m = 64} _ _ (few _ _ _ (sym (ap (λ (w : Scanned). Some (word_of w)) c.scan_word-word.ensures ∙ letter-lexed _ _ 1 (letter-plain _ _ (sym c.plain_at.ensures ∙ c.if-not-plain_at.false)))) c.requires.0.short) c.requires.0.settings.1), c.requires.0.settings) }

pub word_place-place-requires : goal.word_place-place-requires
unfolding fits_in
word_place-place-requires c =
    (c.requires.0.place, le-leb _ (room_of c.args.p.cursor) (omega (arith, (let fits_here : c.scan_word-word.result.chars.0 * c.args.s.glyph.0 + c.args.s.glyph.0 ≤ room_of c.args.p.cursor = omega (arith, c.if-room-word.false, c.room.ensures) in fits_here))))

pub returns : goal.returns
returns c =
    record {
      hyphen = (c.hyphen_at.ensures c.if-not-hyphen_at.false);
      word = (sym (ap (λ (w : Scanned). Some (word_of w)) c.scan_word-word.ensures ∙ letter-lexed _ _ 1 (letter-plain _ _ (sym c.plain_at.ensures ∙ c.if-not-plain_at.false))));
      behind = (c.hyphen_at-2.ensures c.if-not-hyphen_at-2.false);
      empty = c.requires.1;
      fits = (let fits_here : c.scan_word-word.result.chars.0 * c.args.s.glyph.0 + c.args.s.glyph.0 ≤ room_of c.args.p.cursor = omega (arith, c.if-room-word.false, c.room.ensures) in fits_here);
      place = c.word_place-place.ensures;
    }
