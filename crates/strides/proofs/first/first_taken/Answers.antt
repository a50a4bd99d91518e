-- `strides::first::first_taken` meets its contract (rule 8).
use Rattle.std.proofs.Common.{◌≡◌, refl, sym, ◌∙◌, true, ◌-◌, ◌*◌, ◌/◌, ◌≤◌, arith}
use Rattle.std.proofs.lemmas.Option.{MatchOption-at_some}
use Rattle.meaning.specs.Cursor.{fits_in}
use Rattle.pairs.specs.PlainWords.{PlainWord}
use Rattle.strides.specs.StrideLaws.{most-small, most-fits}
use Rattle.strides.proofs.first.first_taken.Goals as goal

pub word_within-requires : goal.word_within-requires
word_within-requires c =
    (c.requires.short, sym c.plain_at.ensures ∙ c.if-plain_at.true, most-small c.args.p.cursor _ c.args.s.glyph.0 c.room.ensures c.requires.place.0)

pub overflow_sub-n : goal.overflow_sub-n
overflow_sub-n c =
    omega (arith, (MatchOption-at_some _ _ _ c.in-Some.is c.word_within.ensures).0.letters.forward)

pub overflow_cast-n : goal.overflow_cast-n
overflow_cast-n c =
    omega (arith, (MatchOption-at_some _ _ _ c.in-Some.is c.word_within.ensures).0.letters.inside, c.requires.short)

pub overflow_cast-to : goal.overflow_cast-to
overflow_cast-to c =
    omega (arith, (MatchOption-at_some _ _ _ c.in-Some.is c.word_within.ensures).0.letters.inside, c.requires.short)

pub word_place-place-requires : goal.word_place-place-requires
word_place-place-requires c =
    (c.requires.place, (most-fits c.args.p.cursor c.room.result c.args.s.glyph.0 c.room.ensures _ (MatchOption-at_some _ _ _ c.in-Some.is c.word_within.ensures).1))

pub returns-in-Some : goal.returns-in-Some
returns-in-Some c =
    record { word = (MatchOption-at_some _ _ _ c.in-Some.is c.word_within.ensures).0; chars = refl; fits = (most-fits c.args.p.cursor c.room.result c.args.s.glyph.0 c.room.ensures _ (MatchOption-at_some _ _ _ c.in-Some.is c.word_within.ensures).1); place = c.word_place-place.ensures }
