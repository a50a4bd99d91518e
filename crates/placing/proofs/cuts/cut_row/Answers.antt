-- `placing::cuts::cut_row` meets its contract (rule 8, rule 10).
use Rattle.std.proofs.Common.{arith}
use Rattle.placing.specs.LeftWordLaws.{left-between}
use Rattle.placing.proofs.CutRowLaws.{cut-row, part_left}
use Rattle.placing.proofs.cuts.cut_row.Goals as goal

pub part_end-requires : goal.part_end-requires
part_end-requires c =
    (c.requires.text_len_bound.0, left-between _ _ _ _ _ _ c.requires.left_word, omega (arith, c.requires.text_len_bound.2))

pub returns : goal.returns
returns c =
    record {
      found_row = cut-row _ _ _ _ _ _ _ _ c.requires.left_word c.requires.text_len_bound.1 c.requires.text_len_bound.2 c.part_end.ensures;
      left_word_2 = part_left _ _ _ _ _ _ _ _ c.requires.left_word c.requires.text_len_bound.1 c.requires.text_len_bound.2 c.part_end.ensures;
      between = c.part_end.ensures;
    }
