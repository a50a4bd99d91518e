-- `checks::text::check_length` meets its contract (refusal 3, refusal 4).
use Rattle.checks.specs.TextLaws.{length-long, length-fits}
use Rattle.checks.proofs.text.check_length.Goals as goal

pub returns-then-bytes : goal.returns-then-bytes
returns-then-bytes c =
    length-long _ c.if-bytes.true

pub returns : goal.returns
returns c =
    length-fits _ c.if-bytes.false
