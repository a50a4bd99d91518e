-- `edits::fitting::chars_before` meets its contract (refusal 5).
use Rattle.std.proofs.Common.{length-take-le, sym, ◌∙◌}
use Rattle.laws.specs.PartChars.{cut-within, cut-count}
use Rattle.edits.proofs.fitting.chars_before.Goals as goal

pub slice_bounds-count_chars-end : goal.slice_bounds-count_chars-end
slice_bounds-count_chars-end c =
    sym (length-take-le c.args.n c.args.part.now (cut-within _ c.requires.0 _ c.requires.1))

pub returns : goal.returns
returns c =
    c.count_chars.ensures ∙ cut-count _ c.requires.0 _ c.requires.1
