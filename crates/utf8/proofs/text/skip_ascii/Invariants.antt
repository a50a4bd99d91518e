-- `utf8::text::skip_ascii` meets its contract (refusal 4, refusal 6).
use Rattle.utf8.specs.Ascii.{Plain}
use Rattle.utf8.proofs.text.skip_ascii.Given as goal

abbrev pub invariant-loop-i : goal.invariant-loop-i
invariant-loop-i l = Plain l.text l.from l.i
