-- `heights::height::height_of` meets its contract (rule 11).
use Rattle.std.proofs.Common.{ℕ, ◌+◌, ◌-◌, ◌≡◌, ap, arith}
use Rattle.meaning.specs.Height.{height_of}
use Rattle.meaning.specs.WellFormed.{text_length}
use Rattle.meaning.specs.Table.{entries_in}
use Rattle.heights.specs.GoodHeight.{few-held, left-within, height-is, height-small}
use Rattle.heights.specs.Heights.{not_counted}
use Rattle.heights.proofs.height.height_of.Goals as goal
use Rattle.heights.proofs.height.height_of.Goals.{After-not_counted-left_out}

-- What is left out, and the height that was found.
left_is : (c : After-not_counted-left_out) → c.not_counted-left_out.result ≡ not_counted c.args.s (text_length (entries_in c.args.lines c.args.table.now)) (entries_in c.args.lines c.args.table.now)
left_is c =
    let es = entries_in c.args.lines c.args.table.now in omega (arith, c.not_counted-left_out.ensures, ap (λ (n : ℕ). not_counted c.args.s n es) c.text_length-bytes.ensures)

found : (c : After-not_counted-left_out) → c.args.s.base.0 + (c.added_before-added.result - c.not_counted-left_out.result) ≡ height_of c.args.s (entries_in c.args.lines c.args.table.now)
found c =
    omega (arith, c.added_before-added.ensures, (left_is c), height-is c.args.s c.args.table.now c.args.lines c.requires)

pub added_before-added-requires : goal.added_before-added-requires
added_before-added-requires c =
    few-held c.args.s c.args.table.now c.args.lines c.requires c.args.lines (omega arith)

pub text_length-bytes-requires : goal.text_length-bytes-requires
text_length-bytes-requires c =
    (few-held c.args.s c.args.table.now c.args.lines c.requires c.args.lines (omega arith)).2

pub not_counted-left_out-requires : goal.not_counted-left_out-requires
not_counted-left_out-requires c =
    (few-held c.args.s c.args.table.now c.args.lines c.requires c.args.lines (omega arith)).2

pub overflow_sub-result : goal.overflow_sub-result
overflow_sub-result c =
    omega (
      arith,
      c.added_before-added.ensures,
      (left_is (goal.at.overflow_sub-result c).After-not_counted-left_out),
      left-within c.args.s c.args.table.now c.args.lines c.requires,
    )

pub overflow_add-result : goal.overflow_add-result
overflow_add-result c =
    record {
      fits = omega (
        arith,
        (found (goal.at.overflow_add-result c).After-not_counted-left_out),
        height-small c.args.s c.args.table.now c.args.lines c.requires,
      );
    }

pub returns : goal.returns
returns c =
    (found (goal.at.returns c).After-not_counted-left_out)
