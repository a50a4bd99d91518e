-- `frames::frame::lay_here` meets its contract (rule 10).
use Rattle.std.proofs.Common.{arith, ◌∙◌}
use Rattle.parser.specs.GoodText.{good_length}
use Rattle.rows.specs.Standing.{stand-ready}
use Rattle.frames.specs.Framing.{starts, few-before, line-ready, answer-laid, entry-put}
use Rattle.frames.proofs.frame.lay_here.Goals as goal

pub chars_before-before-requires : goal.chars_before-before-requires
chars_before-before-requires c =
    (c.requires.0.utf8, starts c.requires.0)

pub resumed_in-held-requires : goal.resumed_in-held-requires
resumed_in-held-requires c =
    (c.requires.0.utf8, good_length _ c.requires.0.text, c.requires.0.stand)

pub overflow_cast-before : goal.overflow_cast-before
overflow_cast-before c =
    record { fits = omega (arith, c.chars_before-before.ensures, few-before c.requires.0, good_length _ c.requires.0.text) }

pub lay_row-row-requires : goal.lay_row-row-requires
lay_row-row-requires c =
    stand-ready _ _ _ _ _ _ (line-ready c.requires.0 _ c.resumed_in-held.ensures)
    (omega (arith, c.chars_before-before.ensures, few-before c.requires.0, good_length _ c.requires.0.text)) c.at_one-stand.ensures

pub returns : goal.returns
returns c =
    record { value = answer-laid c.requires.0 _ c.resumed_in-held.ensures _ c.chars_before-before.ensures _ c.at_one-stand.ensures _ c.lay_row-row.ensures _ c.rest_in-after.ensures; after = c.write_entry.ensures ∙ entry-put c.requires.0 _ c.resumed_in-held.ensures _ c.chars_before-before.ensures _ c.at_one-stand.ensures _ c.lay_row-row.ensures _ }
