-- Computed examples of box widths in which a text fits whole, of the planned width, and of what both calls refuse (rule 10; refusal 1,
-- refusal 2, refusal 4).
-- Assumes nothing.
use Rattle.std.specs.Prelude.{ℕ, ◌≡◌, refl, Bool, true, false, List, [], ◌∷◌, map, length, Err, None, Ok, Option, Result, Some}
use Rattle.meaning.specs.declared.refusals.Refusal.{Refusal}
use Prim.Native.String.{String}
use Rattle.meaning.specs.Checks.{check_limit, check_text}
use Rattle.meaning.specs.Layout.{layout}
use Rattle.meaning.specs.Pages.{within_lines}
use Rattle.meaning.specs.Columns.{all_kept, fits_whole, with_width, narrowest_from}
use Rattle.meaning.specs.ColumnCalls.{check_columns, fitting_answer, planning_answer}
use Rattle.meaning.specs.Examples.{codes, laid_out, lines_of, box, waiting_box}
use Rattle.meaning.specs.SmallExamples.{call_found, set}
use Rattle.meaning.specs.declared.settings.Settings.{Settings}
use Rattle.meaning.specs.declared.refusals.Refusal.TheVariants.{SettingOutOfRange, UnknownAlignment, NotUtf8}

-- ---- a width that is tried: its lines, whether none dropped a character, and whether the text fits so

pub record Tried : Type 0 where
  pub width : ℕ
  pub lines : ℕ
  pub kept : Bool
  pub fits : Bool

abbrev tried : (width lines : ℕ) → (kept fits : Bool) → Tried
tried w n k f = record { width = w; lines = n; kept = k; fits = f }

-- The width in the settings is not looked at.
pub record ColumnExample : Type 0 where
  pub settings : Settings
  pub text : String
  pub limit : ℕ
  pub tries : List Tried

abbrev trying : Settings → String → ℕ → List Tried → ColumnExample
trying s t h ws = record { settings = s; text = t; limit = h; tries = ws }

abbrev pub column_examples : List ColumnExample
column_examples =
    -- one line, two lines, three lines: each from a width on, with exactly h lines
    trying (box 0) "ab cde" 1 (tried 35 2 true false ∷ tried 36 1 true true ∷ tried 37 1 true true ∷ [])
    ∷ trying (box 0) "ab cde" 2 (tried 17 3 true false ∷ tried 18 2 true true ∷ tried 35 2 true true ∷ [])
    ∷ trying (box 0) "ab cde" 3 (tried 11 5 true false ∷ tried 12 3 true true ∷ tried 36 1 true true ∷ [])
    -- no character fits in any box; two paragraphs fit no one line
    ∷ trying (box 0) "" 1 (tried 0 1 true true ∷ [])
    ∷ trying (box 0) "aa\nbb" 1 (tried 12 2 true false ∷ tried 4096 2 true false ∷ [])
    -- a box narrower than a glyph drops the word and has two lines; a wider one cuts it into three
    ∷ trying (box 0) "abc" 2 (tried 5 2 false false ∷ tried 6 3 true false ∷ tried 12 2 true true ∷ [])
    -- spaces that fill the line leave no room for the word, which is dropped, and only there; a word that waits is not dropped
    ∷ trying (box 0) "     ab" 2 (tried 18 2 true true ∷ tried 29 2 true true ∷ tried 30 2 false false ∷ tried 36 2 true true ∷ [])
    ∷ trying (waiting_box 0) "     ab" 2 (tried 18 2 true true ∷ tried 30 2 true true ∷ tried 36 2 true true ∷ [])
    -- a wider box with more lines, and nothing dropped: where "aaa" fills the line no "-" goes after it, and the next line begins with "---"
    ∷ trying (waiting_box 0) "aaa\u{ad}\u{ad}\u{ad}a" 2 (tried 12 2 true true ∷ tried 17 2 true true ∷ tried 18 3 true false ∷ tried 24 1 true true ∷ [])
    ∷ trying (box 0) "aaaa\u{ad}\u{ad}\u{ad}aa" 2 (tried 18 2 true true ∷ tried 24 3 true false ∷ tried 30 2 true true ∷ tried 36 1 true true ∷ [])
    -- to the right and centred the tab's width changes with the line's start, and the word behind it waits
    ∷ trying (laid_out 12 0 2 1 0) "a\ta" 1 (tried 36 1 true true ∷ tried 48 2 true false ∷ tried 60 1 true true ∷ tried 72 2 true false ∷ [])
    ∷ trying (laid_out 12 0 1 1 0) "a\ta" 1 (tried 36 1 true true ∷ tried 59 2 true false ∷ tried 60 1 true true ∷ [])
    -- justified, leading off, a glyph of one pixel: drawn, the wide spaces leave no room for the last one, and the CR has a line of its own
    ∷ trying (laid_out 1 0 3 0 0) " a a \r" 2 (tried 3 3 true false ∷ tried 4 2 true true ∷ tried 5 3 true false ∷ [])
    ∷ []

unfoldable pub tried_at : Settings → (h : ℕ) → List ℕ → Tried → Tried
unfolding lines_of within_lines all_kept fits_whole with_width
tried_at s h cs x =
    let laid = layout (with_width s x.width) cs in
    tried x.width (length laid) (all_kept laid) (fits_whole (with_width s x.width) h cs)

unfoldable pub column_found : ColumnExample → ColumnExample
unfolding codes tried_at
column_found x = trying x.settings x.text x.limit (map (tried_at x.settings x.limit (codes x.text)) x.tries)

pub columns_hold : map column_found column_examples ≡ column_examples
unfolding column_found
columns_hold = refl

-- ---- the smallest of so many widths, from a first one on

pub record PlanExample : Type 0 where
  pub settings : Settings
  pub text : String
  pub limit : ℕ
  pub first : ℕ
  pub count : ℕ
  pub planned : Option ℕ

abbrev planning : Settings → String → (limit first count : ℕ) → Option ℕ → PlanExample
planning s t h w n p = record { settings = s; text = t; limit = h; first = w; count = n; planned = p }

abbrev pub plan_examples : List PlanExample
plan_examples =
    -- the first of all, one in the middle, the last one, and one too few of them
    planning (box 0) "" 1 0 3 (Some 0)
    ∷ planning (box 0) "ab cde" 2 0 24 (Some 18)
    ∷ planning (box 0) "ab cde" 2 0 19 (Some 18)
    ∷ planning (box 0) "ab cde" 2 0 18 None
    -- none at all, and no width to try
    ∷ planning (box 0) "a\nb" 1 0 24 None
    ∷ planning (box 0) "" 1 0 0 None
    -- the smallest of all, although wider ones will not do; and the next one that does
    ∷ planning (box 0) "     ab" 2 0 40 (Some 18)
    ∷ planning (box 0) "     ab" 2 30 10 (Some 36)
    ∷ planning (waiting_box 0) "aaa\u{ad}\u{ad}\u{ad}a" 2 0 26 (Some 12)
    ∷ planning (waiting_box 0) "aaa\u{ad}\u{ad}\u{ad}a" 2 18 8 (Some 24)
    ∷ []

unfoldable pub plan_found : PlanExample → PlanExample
unfolding lines_of codes within_lines all_kept fits_whole with_width narrowest_from
plan_found x =
    planning x.settings x.text x.limit x.first x.count
    (narrowest_from x.settings x.limit (codes x.text) x.first x.count)

pub plans_hold : map plan_found plan_examples ≡ plan_examples
unfolding plan_found
plans_hold = refl

-- ---- the refusals of both calls

pub record FitCall : Type 0 where
  pub settings : Settings
  pub limit : ℕ
  pub text : List ℕ
  pub fitted : Result Bool Refusal

abbrev asking : Settings → ℕ → List ℕ → Result Bool Refusal → FitCall
asking s h t f = record { settings = s; limit = h; text = t; fitted = f }

abbrev pub fit_calls : List FitCall
fit_calls =
    -- no line, or a width outside the limits, before an unknown alignment; settings before text
    asking (set 6 4 0) 0 (0xFF ∷ []) (Err SettingOutOfRange)
    ∷ asking (with_width (set 6 4 0) 4097) 1 (0xFF ∷ []) (Err SettingOutOfRange)
    ∷ asking (with_width (set 6 4 0) 4096) 1 (0xFF ∷ []) (Err (UnknownAlignment 4))
    ∷ asking (set 6 0 0) 1 (0x61 ∷ 0xFF ∷ []) (Err (NotUtf8 (record { 0 = 1 })))
    -- "a", LF, "b": two lines
    ∷ asking (set 6 0 0) 1 (0x61 ∷ 0x0A ∷ 0x62 ∷ []) (Ok false)
    ∷ asking (set 6 0 0) 2 (0x61 ∷ 0x0A ∷ 0x62 ∷ []) (Ok true)
    ∷ []

unfoldable pub fit_found : FitCall → FitCall
unfolding call_found within_lines all_kept fits_whole with_width check_limit check_text check_columns fitting_answer
fit_found x = asking x.settings x.limit x.text (fitting_answer x.settings x.limit x.text)

pub fit_calls_hold : map fit_found fit_calls ≡ fit_calls
unfolding fit_found
fit_calls_hold = refl

-- The planner refuses the same, the width that it does not use too.
unfoldable pub planned_for : Settings → (h : ℕ) → List ℕ → Result (Option ℕ) Refusal
unfolding call_found with_width check_limit check_text check_columns planning_answer
planned_for s h t = planning_answer s h t

pub plan_calls_hold : planned_for (set 6 4 0) 0 (0xFF ∷ [])
    ∷ planned_for (with_width (set 6 4 0) 4097) 1 (0xFF ∷ [])
    ∷ planned_for (set 6 4 0) 1 (0xFF ∷ [])
    ∷ planned_for (set 6 0 0) 1 (0x61 ∷ 0xFF ∷ [])
    ∷ []
    ≡ Err SettingOutOfRange
    ∷ Err SettingOutOfRange
    ∷ Err (UnknownAlignment 4)
    ∷ Err (NotUtf8 (record { 0 = 1 }))
    ∷ []
unfolding planned_for
plan_calls_hold = refl
