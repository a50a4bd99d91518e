-- An edit from the three numbers that C passes, and a rest from the two.
-- Assumes nothing.
use Rattle.std.specs.Prelude.{ℕ}
use Rattle.meaning.specs.declared.edit.Edit.{Edit}
use Rattle.meaning.specs.declared.line.Rest.{Rest}

abbrev pub edit_of : (a b inserted : ℕ) → Edit
edit_of a b inserted = record { from = record { 0 = a }; to = record { 0 = b }; inserted = record { 0 = inserted } }

abbrev pub rest_from : (end count : ℕ) → Rest
rest_from end count = record { end = record { 0 = end }; count = record { 0 = count } }
