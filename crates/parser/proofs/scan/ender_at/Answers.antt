-- `parser::scan::ender_at` meets its contract (rule 2).
use Rattle.std.proofs.Common.{sym, ◌∙◌}
use Rattle.parser.specs.ScanLaws.{no_char, ender-char, ender-none}
use Rattle.parser.proofs.scan.ender_at.Goals as goal

pub returns-in-Char : goal.returns-in-Char
returns-in-Char c =
    ender-char _ _ _ _ (sym c.decode.ensures ∙ c.in-Char.is)

pub returns-in-Bad : goal.returns-in-Bad
returns-in-Bad c =
    ender-none _ _ (no_char _ _ _ c.decode.ensures c.in-Bad.is)
