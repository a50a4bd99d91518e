-- Computed examples of pages, of the text that fits so many lines, and of what is written when pages are listed again (rule 10; refusal 1,
-- refusal 3, refusal 4, refusal 8).
-- Assumes nothing.
use Rattle.std.specs.Prelude.{ℕ, ◌≡◌, refl, List, [], ◌∷◌, map, Err, Ok, Result}
use Rattle.meaning.specs.declared.answers.Chosen.TheVariants as chosen
use Rattle.meaning.specs.declared.answers.Chosen.{Chosen}
use Rattle.meaning.specs.declared.answers.Paged.{Paged}
use Rattle.meaning.specs.declared.refusals.Refusal.{Refusal}
use Prim.Native.String.{String}
use Rattle.basis.specs.Choice.{pick}
use Rattle.utf8.specs.Encoding.{encode, encode_all}
use Rattle.meaning.specs.Checks.{check_limit, check_text}
use Rattle.meaning.specs.Layout.{layout}
use Rattle.meaning.specs.Table.{of_all, written}
use Rattle.meaning.specs.WellFormed.{last_reach, text_length}
use Rattle.meaning.specs.Edit.{chars_in}
use Rattle.meaning.specs.Frames.{onward}
use Rattle.meaning.specs.Pages.{end_before, within_lines, taken_bytes, left_out, pages_by, pages_of, of_page, kept_pages, written_past}
use Rattle.meaning.specs.PageCalls.{check_choosing, chosen_of, choosing_answer, text_pages, check_paging, paging_answer}
use Rattle.meaning.specs.Examples.{codes, lines_of, box, waiting_box}
use Rattle.meaning.specs.SmallExamples.{call_found, set, eleven}
use Rattle.meaning.specs.declared.settings.Settings.{Settings}
use Rattle.meaning.specs.declared.refusals.Refusal.TheVariants.{SettingOutOfRange, UnknownAlignment, NotUtf8, TooSmall}

-- ---- the pages of a text: first line, start, end

pub record PageExample : Type 0 where
  pub settings : Settings
  pub text : String
  pub limit : ℕ
  pub pages : List (List ℕ)

abbrev paging : Settings → String → ℕ → List (List ℕ) → PageExample
paging s t h ps = record { settings = s; text = t; limit = h; pages = ps }

abbrev pub page_examples : List PageExample
page_examples =
    -- no character: one line, so one page
    paging (box 30) "" 1 ((0 ∷ 0 ∷ 0 ∷ []) ∷ [])
    -- two lines, starts 0 and 3: a page each, then both on one, with room to spare or not
    ∷ paging (box 30) "ab cde" 1 ((0 ∷ 0 ∷ 3 ∷ []) ∷ (1 ∷ 3 ∷ 6 ∷ []) ∷ [])
    ∷ paging (box 30) "ab cde" 2 ((0 ∷ 0 ∷ 6 ∷ []) ∷ [])
    ∷ paging (box 30) "ab cde" 3 ((0 ∷ 0 ∷ 6 ∷ []) ∷ [])
    -- three lines by two: the last page has one
    ∷ paging (box 30) "aa\nbb\ncc" 2 ((0 ∷ 0 ∷ 6 ∷ []) ∷ (2 ∷ 6 ∷ 8 ∷ []) ∷ [])
    -- four lines by two: no page without a line
    ∷ paging (box 30) "aa\nbb\ncc\rdd" 2 ((0 ∷ 0 ∷ 6 ∷ []) ∷ (2 ∷ 6 ∷ 11 ∷ []) ∷ [])
    -- an empty last line has a page of its own, with no byte on it
    ∷ paging (box 30) "aa\n" 1 ((0 ∷ 0 ∷ 3 ∷ []) ∷ (1 ∷ 3 ∷ 3 ∷ []) ∷ [])
    -- a page that begins in the middle of a cut run of spaces
    ∷ paging (box 18) "abc   d" 1 ((0 ∷ 0 ∷ 4 ∷ []) ∷ (1 ∷ 4 ∷ 7 ∷ []) ∷ [])
    -- what a line drops is on its page; a character of two bytes
    ∷ paging (box 30) "     ab" 1 ((0 ∷ 0 ∷ 7 ∷ []) ∷ (1 ∷ 7 ∷ 7 ∷ []) ∷ [])
    ∷ paging (box 12) "é b" 1 ((0 ∷ 0 ∷ 3 ∷ []) ∷ (1 ∷ 3 ∷ 4 ∷ []) ∷ [])
    ∷ []

unfoldable pub pages_found : PageExample → PageExample
unfolding lines_of codes last_reach text_length end_before pages_by pages_of of_page
pages_found x =
    paging x.settings x.text x.limit (map of_page (pages_of x.limit (layout x.settings (codes x.text))))

pub pages_hold : map pages_found page_examples ≡ page_examples
unfolding pages_found
pages_hold = refl

-- ---- the long text or the short one, and the refusals of both calls

pub record ChoiceExample : Type 0 where
  pub settings : Settings
  pub limit : ℕ
  pub long : String
  pub short : String
  pub chosen : Result Chosen Refusal

abbrev choosing : Settings → ℕ → (long short : String) → Result Chosen Refusal → ChoiceExample
choosing s h long short c = record { settings = s; limit = h; long = long; short = short; chosen = c }

abbrev pub choice_examples : List ChoiceExample
choice_examples =
    -- the long text at exactly its two lines, and with room to spare
    choosing (box 30) 2 "ab cde" "x" (Ok (chosen.Long 6))
    ∷ choosing (box 30) 3 "ab cde" "x" (Ok (chosen.Long 6))
    -- one line too few for it: the short text whole, an empty one too
    ∷ choosing (box 30) 1 "ab cde" "ab" (Ok (chosen.Short 2 0))
    ∷ choosing (box 30) 1 "ab cde" "" (Ok (chosen.Short 0 0))
    -- the short one is too long as well: its first line takes "é ", of three bytes, and three characters of four bytes are left out
    ∷ choosing (box 12) 1 "ab cde" "é bcé" (Ok (chosen.Short 3 3))
    -- a space run that its last line cuts: two of three spaces are taken
    ∷ choosing (box 18) 1 "ab cde" "abc   d" (Ok (chosen.Short 4 3))
    -- the limit, before the settings
    ∷ choosing (set 6 4 0) 0 "" "" (Err SettingOutOfRange)
    ∷ choosing (set 6 4 0) 1 "" "" (Err (UnknownAlignment 4))
    ∷ []

unfoldable pub choice_found : ChoiceExample → ChoiceExample
unfolding call_found codes encode encode_all chars_in onward end_before within_lines taken_bytes left_out check_limit check_text check_choosing chosen_of choosing_answer
choice_found x =
    choosing x.settings x.limit x.long x.short
    (choosing_answer x.settings x.limit (encode_all (codes x.long)) (encode_all (codes x.short)))

pub choices_hold : map choice_found choice_examples ≡ choice_examples
unfolding choice_found
choices_hold = refl

-- A text that is not UTF-8: the long one first, then the short one, which is looked at even if it is not needed.
unfoldable pub bytes_chosen : (long short : List ℕ) → Result Chosen Refusal
unfolding call_found chars_in onward end_before within_lines taken_bytes left_out check_limit check_text check_choosing chosen_of choosing_answer
bytes_chosen long short = choosing_answer (set 6 0 0) 9 long short

pub bad_texts_hold : bytes_chosen (0x61 ∷ 0xFF ∷ []) (0xFF ∷ []) ∷ bytes_chosen (0x61 ∷ []) (0xFF ∷ []) ∷ []
    ≡ Err (NotUtf8 (record { 0 = 1 })) ∷ Err (NotUtf8 (record { 0 = 0 })) ∷ []
unfolding bytes_chosen
bad_texts_hold = refl

-- Pages: the limit before all, the table's room before the list's; a list with room for one page.
unfoldable pub listed : (h : ℕ) → (text table pages : List ℕ) → Result Paged Refusal
unfolding call_found last_reach text_length end_before pages_by pages_of check_limit text_pages check_paging paging_answer
listed h text table pages = paging_answer (set 6 0 0) h text table pages

pub listed_hold : listed 0 (0xFF ∷ []) [] [] ∷ listed 1 (0x61 ∷ 0x0A ∷ []) eleven [] ∷ listed 1 (0x61 ∷ []) eleven (7 ∷ 8 ∷ []) ∷ listed 1 (0x61 ∷ []) eleven (7 ∷ 8 ∷ 9 ∷ []) ∷ []
    ≡ Err SettingOutOfRange ∷ Err (TooSmall 2) ∷ Err (TooSmall 1) ∷ Ok (record { lines = 1; pages = 1 }) ∷ []
unfolding listed
listed_hold = refl

-- ---- pages listed again

-- Of five lines by two: which pages are kept where line 0, 1, 2, 3 or 4 is the first affected one, and where there is no such line.
pub kept_hold : kept_pages 2 0 5 ∷ kept_pages 2 1 5 ∷ kept_pages 2 2 5 ∷ kept_pages 2 3 5 ∷ kept_pages 2 4 5 ∷ kept_pages 2 5 5 ∷ []
    ≡ 0 ∷ 0 ∷ 1 ∷ 1 ∷ 2 ∷ 5 ∷ []
unfolding pick kept_pages
kept_hold = refl

-- A list of two pages written over another, with one page kept, and with all kept.
pub written-past_hold : written_past 3 (1 ∷ 2 ∷ 3 ∷ 4 ∷ 5 ∷ 6 ∷ 7 ∷ []) (10 ∷ 20 ∷ 30 ∷ 40 ∷ 50 ∷ 60 ∷ [])
    ∷ written_past 9 (1 ∷ 2 ∷ 3 ∷ 4 ∷ 5 ∷ 6 ∷ 7 ∷ []) (10 ∷ 20 ∷ 30 ∷ 40 ∷ 50 ∷ 60 ∷ []) ∷ []
    ≡ (1 ∷ 2 ∷ 3 ∷ 40 ∷ 50 ∷ 60 ∷ 7 ∷ []) ∷ (1 ∷ 2 ∷ 3 ∷ 4 ∷ 5 ∷ 6 ∷ 7 ∷ []) ∷ []
unfolding written written_past
written-past_hold = refl
