-- `ink::words::add_char` meets its contract (rule 8, rule 13).
use Rattle.std.proofs.Common.{sym, ◌∙◌}
use Rattle.ink.proofs.StretchLaws.{pass-glues, pass-grows}
use Rattle.ink.proofs.words.add_char.Goals as goal

pub returns-then-is_glue : goal.returns-then-is_glue
returns-then-is_glue c =
    pass-glues c.args.events.now _ c.args.w c.args.c c.args.len c.args.glyph c.requires.2 c.requires.0 (sym c.is_glue.ensures ∙ c.if-is_glue.true) _ _ c.close_stretch-closed.ensures c.spaces_after-after.ensures

pub returns : goal.returns
returns c =
    pass-grows c.args.events.now c.args.events.now c.args.w c.args.c c.args.len c.args.glyph c.requires.2 c.requires.0 (sym c.is_glue.ensures ∙ c.if-is_glue.false) c.requires.3
