use Rattle.std.proofs.Common.{◌≡◌, sym, ◌∙◌, List, ℕ, ◌+◌, ◌-◌, ◌<◌, arith}
use Rattle.parser.specs.Letters.{Letter}
use Rattle.parser.specs.GlueLaws.{glue-one}
use Rattle.parser.specs.ScanLaws.{no_char, char-room}
use Rattle.parser.specs.LetterLaws.{spells-room}
use Rattle.parser.proofs.PartLaws.{size_to, glues_to, to-more, to_none, to-zero, part-is}
use Rattle.parser.proofs.part.part_of.Goals as goal

-- One letter more of those that are wanted.
letter-more : (t : List ℕ) (i n k done : ℕ) → Letter t i n → done < k
    → (size_to t i (k - done) ≡ n + size_to t (i + n) (k - (done + 1))) × (glues_to t i (k - done) ≡ glues_to t (i + n) (k - (done + 1)))
letter-more t i n k done y h =
    let one : k - done - 1 ≡ k - (done + 1) = omega arith in
    let more = rw one at (to-more t i y.char n (k - done) y.is (omega arith)) in
    (more.0, omega (arith, more.1, y.glue))

pub overflow_add-end : goal.overflow_add-end
overflow_add-end c =
    omega (arith, spells-room _ _ _ _ c.in-Some.ensures)

pub loop-i-preserved-in-Some : goal.loop-i-preserved-in-Some
loop-i-preserved-in-Some c =
    omega (arith, spells-room _ _ _ _ c.in-Some.ensures, letter-more _ _ _ c.args.k c.loop-i._i c.in-Some.ensures c.loop-i-test.true)

pub overflow_add-glues : goal.overflow_add-glues
overflow_add-glues c =
    omega (arith, c.glue_of-glues.ensures, glue-one c.in-Char.cp)

pub loop-i-preserved : goal.loop-i-preserved
loop-i-preserved c =
    let read = sym c.decode.ensures ∙ c.in-Char.is in
    let one : c.args.k - c.loop-i._i - 1 ≡ c.args.k - (c.loop-i._i + 1) = omega arith in
    omega (
      arith,
      glue-one c.in-Char.cp,
      char-room _ _ _ _ read,
      c.glue_of-glues.ensures,
      rw one at (to-more c.args.text.now c.loop-i.end c.in-Char.cp c.in-Char.len (c.args.k - c.loop-i._i) read (omega arith)),
    )

pub returns-in-Bad : goal.returns-in-Bad
returns-in-Bad c =
    let z = to_none c.args.text.now c.loop-i.end (c.args.k - c.loop-i._i) (no_char _ _ _ c.decode.ensures c.in-Bad.is) in
    c.part_at.ensures ∙ part-is c.args.text.now c.args.at c.args.k _ _ (omega arith) (omega arith)

pub returns : goal.returns
returns c =
    let z = to-zero c.args.text.now c.loop-i.end (c.args.k - c.loop-i._i) (omega arith) in
    c.part_at-2.ensures ∙ part-is c.args.text.now c.args.at c.args.k _ _ (omega arith) (omega arith)
