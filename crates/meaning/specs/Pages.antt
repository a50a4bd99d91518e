-- Pages of h lines, and the part of a text that its first h lines take. Pages are cuts of the whole's layout, and are not laid alone.
-- Rule 10.
-- Assumes nothing.
use Rattle.std.specs.Prelude.{ℕ, zero, suc, ◌+◌, ◌/◌, Bool, List, [], ◌∷◌, ◌++◌, leb, ltb, length, take, drop}
use Rattle.basis.specs.Choice.{pick}
use Rattle.utf8.specs.Encoding.{size}
use Rattle.meaning.specs.Layout.{layout}
use Rattle.meaning.specs.Table.{written}
use Rattle.meaning.specs.WellFormed.{text_length}
use Rattle.meaning.specs.Frames.{onward}
use Rattle.meaning.specs.declared.settings.Settings.{Settings}
use Rattle.meaning.specs.declared.line.Entry.{Entry}
use Rattle.meaning.specs.declared.page.Page.{Page}

-- Where the lines before these end: at the first one's start, and if there are none at the end of the text, which has so many bytes.
unfoldable pub end_before : (length : ℕ) → List Entry → ℕ
end_before n [] = n
end_before n (e ∷ es) = e.start.0

-- ---- the text that fits so many lines

-- Does a text's layout have at most h lines.
unfoldable pub within_lines : Settings → (h : ℕ) → List ℕ → Bool
within_lines s h cs = leb (length (layout s cs)) h

-- How many bytes its first h lines take, and how many characters come after those.
unfoldable pub taken_bytes : Settings → (h : ℕ) → List ℕ → ℕ
taken_bytes s h cs = end_before (size cs) (drop h (layout s cs))

unfoldable pub left_out : Settings → (h : ℕ) → List ℕ → ℕ
left_out s h cs = length (onward cs (taken_bytes s h cs))

-- ---- pages

-- At most n pages of h lines each, of a text that has so many bytes; these lines are those from line k on.
unfoldable pub pages_by : (n h k length : ℕ) → List Entry → List Page
pages_by zero h k b es = []
pages_by (suc n) h k b [] = []
pages_by (suc n) h k b (e ∷ es) =
    let after = drop h (e ∷ es) in
    let more = pages_by n h (k + h) b after in
    record { first = k; start = e.start; end = record { 0 = end_before b after } } ∷ more

-- The pages of a table's lines. There are no more of them than lines.
unfoldable pub pages_of : (h : ℕ) → List Entry → List Page
pages_of h es = pages_by (length es) h 0 (text_length es) es

-- A page is three numbers.
abbrev pub page_numbers : ℕ
page_numbers = 3

unfoldable pub of_page : Page → List ℕ
of_page p = p.first ∷ p.start.0 ∷ p.end.0 ∷ []

-- ---- pages listed again after an edit

-- How many pages are kept where this line of so many is the first affected one: those before the page that holds it, and all if no page
-- does.
unfoldable pub kept_pages : (h first lines : ℕ) → ℕ
kept_pages h first lines = pick (ltb first lines) (first / h) lines

-- A buffer with these written to its front, but for the first k, which are kept.
unfoldable pub written_past : (k : ℕ) → (buffer xs : List ℕ) → List ℕ
written_past k buffer xs = written buffer (take k buffer ++ drop k xs)
