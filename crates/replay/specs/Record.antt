-- What a case records: the answers for a text in a box, as numbers.
-- Assumes nothing.
use Rattle.std.specs.Prelude.{ℕ, ◌≡◌, List, [], ◌∷◌, ◌++◌, pos, length, get_or, take, Ok}
use Rattle.meaning.specs.Table.{of_entry, of_event, of_token, of_all}
use Rattle.meaning.specs.Checks.{check_settings, check_text}
use Rattle.meaning.specs.Calls.{text_tokens, text_entries, text_events}
use Rattle.meaning.specs.declared.settings.Settings.{Settings}
use Rattle.meaning.specs.declared.line.Entry.{Entry}
use Rattle.replay.specs.Numbers.{line_numbers}
use Rattle.replay.specs.declared.judge.Verdict.{Verdict}
use Rattle.replay.specs.declared.judge.Verdict.TheVariants.{Comment, Agrees, Differs}

-- The settings that a case starts with. What height and y take plays no part.
abbrev pub settings_in : List ℕ → Settings
settings_in ns =
    record {
      glyph = record { 0 = get_or ns 0 0 };
      width = record { 0 = get_or ns 1 0 };
      tab = record { 0 = get_or ns 2 0 };
      spacing = record { 0 = 0 };
      paragraph = record { 0 = 0 };
      base = record { 0 = 1 };
      height = record { 0 = 0 };
      top = pos 0;
      alignment = get_or ns 3 0;
      vertical = 0;
      leading = get_or ns 4 0;
      trailing = get_or ns 5 0;
      wrap = 0;
    }

-- A line's numbers but for the last three, which the crate does not have.
unfoldable pub first_eight : Entry → List ℕ
first_eight e = take 8 (of_entry e)

-- What follows the settings, from the definitions: the text's bytes, its tokens, lines and events, each after its count.
unfoldable pub record_of : Settings → List ℕ → List ℕ
record_of s t =
    (length t ∷ t)
    ++ ((length (text_tokens t) ∷ of_all of_token (text_tokens t))
    ++ ((length (text_entries s t) ∷ of_all first_eight (text_entries s t))
    ++ (length (text_events s t) ∷ of_all of_event (text_events s t))))

-- What the layout of a text has to do with recorded lines and events: it is not refused, and they are its own.
pub record Laid (s : Settings) (t lines events : List ℕ) : Type 0 where
  pub settings-good : check_settings s ≡ Ok tt
  pub text-good : check_text t ≡ Ok tt
  pub lines_are : lines ≡ of_all first_eight (text_entries s t)
  pub events-are : events ≡ of_all of_event (text_events s t)

-- A case holds: its numbers are those that the definitions give for its settings and a text, and for nothing that is refused.
pub record Holds (ns : List ℕ) : Type 0 where
  pub text : List ℕ
  pub settings-good : check_settings (settings_in ns) ≡ Ok tt
  pub text-good : check_text text ≡ Ok tt
  pub whole : ns ≡ take 6 ns ++ record_of (settings_in ns) text

-- Numbers that agree hold, and none are taken for a comment.
abbrev pub Judged : (ns : List ℕ) → Verdict → Type 0
Judged ns Comment = ⊥
Judged ns Agrees = Holds ns
Judged ns Differs = Unit {0}

-- A comment begins with '#'; a line that agrees is a case that holds.
abbrev pub Told : (line : List ℕ) → Verdict → Type 0
Told line Comment = take 1 line ≡ 35 ∷ []
Told line Agrees = Holds (line_numbers 4096 line)
Told line Differs = Unit {0}
