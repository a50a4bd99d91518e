-- `parser::scan::scanned_at` meets its contract (rule 2).
use Rattle.std.proofs.Common.{refl}
use Rattle.parser.specs.Scanning.{scanned_at}
use Rattle.parser.proofs.scan.scanned_at.Goals as goal

pub returns : goal.returns
unfolding scanned_at
returns c =
    refl
