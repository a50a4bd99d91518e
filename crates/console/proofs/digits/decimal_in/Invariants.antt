-- `console::digits::decimal_in` meets its contract. The invariant: what is left of the word gives what the whole gives.
use Rattle.std.proofs.Common.{◌≤◌, ◌≡◌, drop}
use Rattle.console.specs.Digits.{decimal_from, decimal_in}
use Rattle.console.proofs.digits.decimal_in.Given as goal

abbrev pub invariant-loop-byte : goal.invariant-loop-byte
invariant-loop-byte l = (decimal_in l.most l.word ≡ decimal_from l.most l.n (drop l.byte-index l.word)) × (l.n ≤ l.most)
