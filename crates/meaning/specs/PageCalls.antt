-- What the calls that choose a text and list pages answer, and what each buffer that they are lent holds afterwards, from what they were
-- lent alone. A text is a list of bytes here, and a table or list of pages a list of numbers.
-- Refusal 1, refusal 2, refusal 3, refusal 4, refusal 5, refusal 8.
-- Assumes nothing.
use Rattle.std.specs.Prelude.{ℕ, ◌*◌, List, [], ◌∷◌, length, take, Err, Ok, Result}
use Rattle.meaning.specs.declared.answers.Chosen.TheVariants as chosen
use Rattle.meaning.specs.Refusals.{Checked}
use Rattle.meaning.specs.declared.answers.Chosen.{Chosen}
use Rattle.meaning.specs.declared.answers.Paged.{Paged}
use Rattle.meaning.specs.declared.refusals.Refusal.{Refusal}
use Rattle.basis.specs.Choice.{pick}
use Rattle.utf8.specs.Decoding.{decode_all}
use Rattle.meaning.specs.Checks.{first_of, answered, afterwards, check_limit, check_settings, check_text, check_room}
use Rattle.meaning.specs.Table.{of_entry, of_all, capacity_of, written, entries_in}
use Rattle.meaning.specs.WellFormed.{check_table}
use Rattle.meaning.specs.Pages.{within_lines, taken_bytes, left_out, pages_of, page_numbers, of_page, kept_pages, written_past}
use Rattle.meaning.specs.Calls.{text_entries, check_layout}
use Rattle.meaning.specs.declared.settings.Settings.{Settings}
use Rattle.meaning.specs.declared.page.Page.{Page}

-- ---- the long text or the short one: 1 (the limit too), 2, then 3 and 4 of the long text, then of the short one

unfoldable pub check_choosing : Settings → (h : ℕ) → (long short : List ℕ) → Checked
check_choosing s h long short = first_of (check_limit h ∷ check_settings s ∷ check_text long ∷ check_text short ∷ [])

-- The part that is handed back: the long text whole if its layout has at most h lines, else the beginning of the short text that its
-- first h lines take.
unfoldable pub chosen_part : Settings → (h : ℕ) → (long short : List ℕ) → List ℕ
chosen_part s h long short =
    pick (within_lines s h (decode_all long)) long (take (taken_bytes s h (decode_all short)) short)

-- Which of the two it is of, its bytes, and the characters left out.
unfoldable pub chosen_of : Settings → (h : ℕ) → (long short : List ℕ) → Chosen
chosen_of s h long short =
    pick (within_lines s h (decode_all long)) (chosen.Long (length long))
    (chosen.Short (taken_bytes s h (decode_all short)) (left_out s h (decode_all short)))

unfoldable pub choosing_answer : Settings → (h : ℕ) → (long short : List ℕ) → Result Chosen Refusal
choosing_answer s h long short = answered (check_choosing s h long short) (Ok (chosen_of s h long short)) Err

-- ---- a text laid and its pages listed: 1 (the limit too), 2, 3, 4, 8 of the table, then of the list

unfoldable pub text_pages : Settings → (h : ℕ) → List ℕ → List Page
text_pages s h t = pages_of h (text_entries s t)

unfoldable pub check_paging : Settings → (h : ℕ) → List ℕ → (table pages : List ℕ) → Checked
check_paging s h t table pages =
    first_of (check_limit h ∷ check_layout s t table ∷ check_room (capacity_of page_numbers pages) (length (text_pages s h t)) ∷ [])

unfoldable pub paging_answer : Settings → (h : ℕ) → List ℕ → (table pages : List ℕ) → Result Paged Refusal
paging_answer s h t table pages =
    answered (check_paging s h t table pages) (Ok (record { lines = length (text_entries s t); pages = length (text_pages s h t) })) Err

unfoldable pub paging_table : Settings → (h : ℕ) → List ℕ → (table pages : List ℕ) → List ℕ
paging_table s h t table pages =
    afterwards (check_paging s h t table pages) (written table (of_all of_entry (text_entries s t))) table

unfoldable pub paging_list : Settings → (h : ℕ) → List ℕ → (table pages : List ℕ) → List ℕ
paging_list s h t table pages = afterwards (check_paging s h t table pages) (written pages (of_all of_page (text_pages s h t))) pages

-- ---- the pages of a table listed again, from the one that holds a line on: 1 (the limit alone), 5, 8

unfoldable pub table_pages : List ℕ → (lines h : ℕ) → List Page
table_pages table lines h = pages_of h (entries_in lines table)

unfoldable pub check_paging_again : List ℕ → (lines h : ℕ) → (pages : List ℕ) → Checked
check_paging_again table lines h pages =
    first_of
    (check_limit h ∷ check_table lines table ∷ check_room (capacity_of page_numbers pages) (length (table_pages table lines h)) ∷ [])

unfoldable pub paging_again_answer : List ℕ → (lines h : ℕ) → (pages : List ℕ) → Result ℕ Refusal
paging_again_answer table lines h pages =
    answered (check_paging_again table lines h pages) (Ok (length (table_pages table lines h))) Err

unfoldable pub paging_again_list : List ℕ → (lines h first : ℕ) → (pages : List ℕ) → List ℕ
paging_again_list table lines h first pages =
    afterwards (check_paging_again table lines h pages)
    (written_past (page_numbers * kept_pages h first lines) pages (of_all of_page (table_pages table lines h))) pages
