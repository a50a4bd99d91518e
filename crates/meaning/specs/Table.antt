-- Rule 12 and rule 13: a table is eleven numbers a line, one line after the other; what a lent table, event buffer or token buffer holds.
-- Rule 3, rule 12, rule 13.
-- Assumes nothing.
use Rattle.std.specs.Prelude.{ℕ, zero, suc, ◌+◌, ◌/◌, List, [], ◌∷◌, ◌++◌, length, get_or, drop}
use Rattle.meaning.specs.declared.tokens.Token.{Token}
use Rattle.meaning.specs.declared.tokens.TokenKind.{TokenKind}
use Rattle.meaning.specs.declared.tokens.TokenKind.TheVariants as kinds
use Rattle.meaning.specs.declared.line.EventKind.{EventKind}
use Rattle.meaning.specs.declared.line.EventKind.TheVariants.{Space, Printed, Move}
use Rattle.meaning.specs.declared.line.Entry.{Entry}
use Rattle.meaning.specs.declared.line.Event.{Event}

-- How many numbers a line entry, an event and a token have.
abbrev pub entry_numbers : ℕ
entry_numbers = 11

abbrev pub event_numbers : ℕ
event_numbers = 6

abbrev pub token_numbers : ℕ
token_numbers = 4

unfoldable pub of_entry : Entry → List ℕ
of_entry e =
    e.start.0 ∷ e.rest.end.0 ∷ e.rest.count.0 ∷ e.ending ∷ e.left.0 ∷ e.space.0 ∷ e.extra.0 ∷ e.width.0
    ∷ e.dropped.0 ∷ e.reach.0 ∷ e.before.0 ∷ []

-- Events: 0 space, 1 printed, 2 move.
abbrev pub event_number : EventKind → ℕ
event_number Space = 0
event_number Printed = 1
event_number Move = 2

unfoldable pub of_event : Event → List ℕ
of_event e = event_number e.kind ∷ e.start.0 ∷ e.end.0 ∷ e.count.0 ∷ e.width.0 ∷ e.x.0 ∷ []

-- Tokens: 0 NewLine, 1 CarriageReturn, 2 Tab, 3 Whitespace, 4 Word, 5 Break.
abbrev pub token_number : TokenKind → ℕ
token_number kinds.NewLine = 0
token_number kinds.CarriageReturn = 1
token_number kinds.Tab = 2
token_number kinds.Whitespace = 3
token_number kinds.Word = 4
token_number kinds.Break = 5

unfoldable pub of_token : Token → List ℕ
of_token t = token_number t.kind ∷ t.start.0 ∷ t.end.0 ∷ t.count.0 ∷ []

-- The numbers of all, one after the other.
unfoldable pub of_all {ℓ} : {X : Type ℓ} → (X → List ℕ) → List X → List ℕ
of_all f [] = []
of_all f (x ∷ xs) = f x ++ of_all f xs

-- How many of so many numbers each a lent buffer can hold.
unfoldable pub capacity_of : (numbers : ℕ) → List ℕ → ℕ
capacity_of n t = length t / n

-- A buffer with these written to its front: what lies past them is as it was.
unfoldable pub written : List ℕ → List ℕ → List ℕ
written t xs = xs ++ drop (length xs) t

-- The entry that the eleven numbers at the front are, and the first n entries.
unfoldable pub entry_in : List ℕ → Entry
entry_in t =
    record {
      start = record { 0 = get_or t 0 0 };
      rest = record { end = record { 0 = get_or t 1 0 }; count = record { 0 = get_or t 2 0 } };
      ending = get_or t 3 0;
      left = record { 0 = get_or t 4 0 };
      space = record { 0 = get_or t 5 0 };
      extra = record { 0 = get_or t 6 0 };
      width = record { 0 = get_or t 7 0 };
      dropped = record { 0 = get_or t 8 0 };
      reach = record { 0 = get_or t 9 0 };
      before = record { 0 = get_or t 10 0 };
    }

unfoldable pub entries_in : (lines : ℕ) → List ℕ → List Entry
entries_in zero t = []
entries_in (suc n) t = entry_in t ∷ entries_in n (drop entry_numbers t)
