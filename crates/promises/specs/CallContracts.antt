-- Contracts with the arguments of the call, its result and what it leaves behind by name. A primed name is what is left of the number
-- that is lent.
-- Assumes nothing.
use Rattle.std.specs.Prelude.{ℕ, List, ℤ, Bool, Option, Result}
use Rattle.meaning.specs.declared.answers.Chosen.{Chosen}
use Rattle.meaning.specs.declared.answers.Drawing.{Drawing}
use Rattle.meaning.specs.declared.answers.FileRead.{FileRead}
use Rattle.meaning.specs.declared.answers.NextLine.{NextLine}
use Rattle.meaning.specs.declared.answers.Paged.{Paged}
use Rattle.meaning.specs.declared.refusals.Refusal.{Refusal}
use Rattle.meaning.specs.declared.answers.Relaid.{Relaid}
use contract.Lifetimes.{Lfts}
use Rattle.meaning.specs.declared.settings.Settings.{Settings}
use Rattle.meaning.specs.declared.edit.Edit.{Edit}
use Rattle.meaning.specs.declared.line.Rest.{Rest}
use Rattle.promises.specs.Call.{Meets}
use Rattle.promises.specs.InsideCalls.{tokenize, layout, layout_with_events, one_line_lem, first-affected, lay_again, make_index, make_index-again, find_line, write_file, read-file, choose, lay_pages, list_again, columns_fit, plan_columns}
use Rattle.promises.specs.ForCCalls.{c-tokens, c-layout, c-layout-events, c-one-line, c-first-affected, c_lay_again, c-line-y, c-index, c-index-again, c_find_line, c_write_file, c-read-file, c-choose, c-pages, c-pages-again, c-columns_fit, c-columns_plan}
use Rattle.promises.specs.Passed.{Lent, LentNumber, LentSigned, passed, passed_edit, none_left, no_edit_left, LentYs, LentMut, LentYsMut}

-- ---- the calls in Rattle

abbrev pub Tokenize : (κs : Lfts 2) (text : Lent) (buffer : LentMut) → Result ℕ Refusal → (after : List ℕ) → Type 0
Tokenize κs text buffer z after = Meets tokenize κs (text, (buffer, tt)) z (tt, (after, tt))

abbrev pub Layout : (κs : Lfts 2) → Settings → (text : Lent) (table : LentMut) → Result ℕ Refusal → (after : List ℕ) → Type 0
Layout κs s text table z after = Meets layout κs (s, (text, (table, tt))) z (tt, (tt, (after, tt)))

abbrev pub LayoutWithEvents : (κs : Lfts 3) → Settings → (text : Lent) (table events : LentMut) → Result Drawing Refusal → (after drawn : List ℕ) → Type 0
LayoutWithEvents κs s text table events z after drawn =
    Meets layout_with_events κs (s, (text, (table, (events, tt)))) z (tt, (tt, (after, (drawn, tt))))

abbrev pub OneLine : (κs : Lfts 2) → Settings → (text : Lent) → (start : ℕ) → Rest → (entry : LentMut) → Result NextLine Refusal → (after : List ℕ) → Type 0
OneLine κs s text start r entry z after = Meets one_line_lem κs (s, (text, (start, (r, (entry, tt))))) z (tt, (tt, (tt, (tt, (after, tt)))))

abbrev pub FirstAffected : (κs : Lfts 1) → (table : Lent) → (lines : ℕ) → Edit → Result ℕ Refusal → Type 0
FirstAffected κs table lines ed z = Meets first-affected κs (table, (lines, (ed, tt))) z (tt, (tt, (tt, tt)))

abbrev pub LayAgain : (κs : Lfts 2) → Settings → (part : Lent) (table : LentMut) → (lines : ℕ) → Edit → Result Relaid Refusal → (after : List ℕ) → Type 0
LayAgain κs s part table lines ed z after =
    Meets lay_again κs (s, (part, (table, (lines, (ed, tt))))) z (tt, (tt, (after, (tt, (tt, tt)))))

abbrev pub MakeIndex : (κs : Lfts 2) → Settings → (table : Lent) (lines : ℕ) (index : LentYsMut) → Result ℕ Refusal → (after : List ℤ) → Type 0
MakeIndex κs s table lines index z after = Meets make_index κs (s, (table, (lines, (index, tt)))) z (tt, (tt, (tt, (after, tt))))

abbrev pub MakeIndexAgain : (κs : Lfts 2) → Settings → (table : Lent) (lines first : ℕ) (index : LentYsMut) → Result ℕ Refusal → (after : List ℤ) → Type 0
MakeIndexAgain κs s table lines first index z after =
    Meets make_index-again κs (s, (table, (lines, (first, (index, tt))))) z (tt, (tt, (tt, (tt, (after, tt)))))

abbrev pub FindLine : (κs : Lfts 2) → (table : Lent) (lines : ℕ) (index : LentYs) (y : ℤ) → Result (Option ℕ) Refusal → Type 0
FindLine κs table lines index y z = Meets find_line κs (table, (lines, (index, (y, tt)))) z (tt, (tt, (tt, (tt, tt))))

abbrev pub WriteFile : (κs : Lfts 2) → Settings → (table : Lent) → (lines : ℕ) → (file : LentMut) → Result ℕ Refusal → (after : List ℕ) → Type 0
WriteFile κs s table lines file z after = Meets write_file κs (s, (table, (lines, (file, tt)))) z (tt, (tt, (tt, (after, tt))))

abbrev pub ReadFile : (κs : Lfts 3) → (file : Lent) (settings table : LentMut) → Result FileRead Refusal → (handed after : List ℕ) → Type 0
ReadFile κs file settings table z handed after =
    Meets read-file κs (file, (settings, (table, tt))) z (tt, (handed, (after, tt)))

abbrev pub Choose : (κs : Lfts 1) → Settings → (long short : Lent) → (h : ℕ) → Result Chosen Refusal → Type 0
Choose κs s long short h z = Meets choose κs (s, (long, (short, (h, tt)))) z (tt, (tt, (tt, (tt, tt))))

abbrev pub LayPages : (κs : Lfts 3) → Settings → (text : Lent) → (h : ℕ) → (table pages : LentMut) → Result Paged Refusal → (after listed : List ℕ) → Type 0
LayPages κs s text h table pages z after listed =
    Meets lay_pages κs (s, (text, (h, (table, (pages, tt))))) z (tt, (tt, (tt, (after, (listed, tt)))))

abbrev pub ListAgain : (κs : Lfts 2) → (table : Lent) → (lines h first : ℕ) → (pages : LentMut) → Result ℕ Refusal → (listed : List ℕ) → Type 0
ListAgain κs table lines h first pages z listed =
    Meets list_again κs (table, (lines, (h, (first, (pages, tt))))) z (tt, (tt, (tt, (tt, (listed, tt)))))

abbrev pub ColumnsFit : (κs : Lfts 1) → Settings → (text : Lent) → (h : ℕ) → Result Bool Refusal → Type 0
ColumnsFit κs s text h z = Meets columns_fit κs (s, (text, (h, tt))) z (tt, (tt, (tt, tt)))

abbrev pub PlanColumns : (κs : Lfts 1) → Settings → (text : Lent) → (h : ℕ) → Result (Option ℕ) Refusal → Type 0
PlanColumns κs s text h z = Meets plan_columns κs (s, (text, (h, tt))) z (tt, (tt, (tt, tt)))

-- ---- the calls for C

abbrev pub CTokens : (κs : Lfts 3) (text : Lent) (tokens : LentMut) (value : LentNumber) (z : ℕ) (after : List ℕ) (value' : ℕ) → Type 0
CTokens κs text tokens value z after value' = Meets c-tokens κs (text, (tokens, (value, tt))) z (tt, (after, (value', tt)))

abbrev pub CLayout : (κs : Lfts 3) → Settings → (text : Lent) (table : LentMut) (value : LentNumber) (z : ℕ) (after : List ℕ) (value' : ℕ) → Type 0
CLayout κs s text table value z after value' =
    Meets c-layout κs (passed s (text, (table, (value, tt)))) z (none_left (tt, (after, (value', tt))))

abbrev pub CLayoutEvents : (κs : Lfts 5) → Settings → (text : Lent) (table events : LentMut) (value count : LentNumber) (z : ℕ) (after drawn : List ℕ)
    (value' count' : ℕ) → Type 0
CLayoutEvents κs s text table events value count z after drawn value' count' =
    Meets c-layout-events κs (passed s (text, (table, (events, (value, (count, tt)))))) z
    (none_left (tt, (after, (drawn, (value', (count', tt))))))

abbrev pub COneLine : (κs : Lfts 5) → Settings → (text : Lent) → (start end count : ℕ) → (entry : LentMut) (value : LentNumber) (stops counts : LentNumber)
    (z : ℕ) (after : List ℕ) (value' stops' counts' : ℕ) → Type 0
COneLine κs s text start end count entry value stops counts z after value' stops' counts' =
    Meets c-one-line κs (passed s (text, (start, (end, (count, (entry, (value, (stops, (counts, tt))))))))) z
    (none_left (tt, (tt, (tt, (tt, (after, (value', (stops', (counts', tt)))))))))

abbrev pub CFirstAffected : (κs : Lfts 2) → (table : Lent) → (lines : ℕ) → Edit → (value : LentNumber) (z value' : ℕ) → Type 0
CFirstAffected κs table lines ed value z value' =
    Meets c-first-affected κs (table, (lines, passed_edit ed (value, tt))) z (tt, (tt, no_edit_left (value', tt)))

abbrev pub CLayAgain : (κs : Lfts 4) → Settings → (part : Lent) (table : LentMut) → (lines : ℕ) → Edit → (value laid : LentNumber) (z : ℕ)
    (after : List ℕ) (value' laid' : ℕ) → Type 0
CLayAgain κs s part table lines ed value laid z after value' laid' =
    Meets c_lay_again κs (passed s (part, (table, (lines, passed_edit ed (value, (laid, tt)))))) z
    (none_left (tt, (after, (tt, no_edit_left (value', (laid', tt))))))

abbrev pub CLineY : (κs : Lfts 3) → Settings → (table : Lent) (lines line : ℕ) (value : LentNumber) (y : LentSigned) (z value' : ℕ)
    (y' : ℤ) → Type 0
CLineY κs s table lines line value y z value' y' =
    Meets c-line-y κs (passed s (table, (lines, (line, (value, (y, tt)))))) z (none_left (tt, (tt, (tt, (value', (y', tt))))))

abbrev pub CIndex : (κs : Lfts 3) → Settings → (table : Lent) (lines : ℕ) (index : LentYsMut) (value : LentNumber) (z : ℕ) (after : List ℤ)
    (value' : ℕ) → Type 0
CIndex κs s table lines index value z after value' =
    Meets c-index κs (passed s (table, (lines, (index, (value, tt))))) z (none_left (tt, (tt, (after, (value', tt)))))

abbrev pub CIndexAgain : (κs : Lfts 3) → Settings → (table : Lent) (lines first : ℕ) (index : LentYsMut) (value : LentNumber) (z : ℕ)
    (after : List ℤ) (value' : ℕ) → Type 0
CIndexAgain κs s table lines first index value z after value' =
    Meets c-index-again κs (passed s (table, (lines, (first, (index, (value, tt)))))) z (none_left (tt, (tt, (tt, (after, (value', tt))))))

abbrev pub CFindLine : (κs : Lfts 3) → (table : Lent) (lines : ℕ) (index : LentYs) (y : ℤ) (value : LentNumber) (z value' : ℕ) → Type 0
CFindLine κs table lines index y value z value' =
    Meets c_find_line κs (table, (lines, (index, (y, (value, tt))))) z (tt, (tt, (tt, (tt, (value', tt)))))

abbrev pub CWriteFile : (κs : Lfts 3) → Settings → (table : Lent) → (lines : ℕ) → (file : LentMut) → (value : LentNumber) (z : ℕ)
    (after : List ℕ) (value' : ℕ) → Type 0
CWriteFile κs s table lines file value z after value' =
    Meets c_write_file κs (passed s (table, (lines, (file, (value, tt))))) z (none_left (tt, (tt, (after, (value', tt)))))

abbrev pub CReadFile : (κs : Lfts 5) → (file : Lent) (settings table : LentMut) (value bytes : LentNumber) (z : ℕ) (handed after : List ℕ)
    (value' bytes' : ℕ) → Type 0
CReadFile κs file settings table value bytes z handed after value' bytes' =
    Meets c-read-file κs (file, (settings, (table, (value, (bytes, tt))))) z (tt, (handed, (after, (value', (bytes', tt)))))

abbrev pub CChoose : (κs : Lfts 4) → Settings → (long short : Lent) → (h : ℕ) → (value which left : LentNumber) (z value' which' left' : ℕ) → Type 0
CChoose κs s long short h value which left z value' which' left' =
    Meets c-choose κs (passed s (long, (short, (h, (value, (which, (left, tt))))))) z
    (none_left (tt, (tt, (tt, (value', (which', (left', tt)))))))

abbrev pub CPages : (κs : Lfts 5) → Settings → (text : Lent) → (h : ℕ) → (table pages : LentMut) (value count : LentNumber) (z : ℕ)
    (after listed : List ℕ) (value' count' : ℕ) → Type 0
CPages κs s text h table pages value count z after listed value' count' =
    Meets c-pages κs (passed s (text, (h, (table, (pages, (value, (count, tt))))))) z
    (none_left (tt, (tt, (after, (listed, (value', (count', tt)))))))

abbrev pub CPagesAgain : (κs : Lfts 3) → (table : Lent) → (lines h first : ℕ) → (pages : LentMut) (value : LentNumber) (z : ℕ) (listed : List ℕ)
    (value' : ℕ) → Type 0
CPagesAgain κs table lines h first pages value z listed value' =
    Meets c-pages-again κs (table, (lines, (h, (first, (pages, (value, tt)))))) z (tt, (tt, (tt, (tt, (listed, (value', tt))))))

abbrev pub CColumnsFit : (κs : Lfts 2) → Settings → (text : Lent) → (h : ℕ) → (value : LentNumber) (z value' : ℕ) → Type 0
CColumnsFit κs s text h value z value' = Meets c-columns_fit κs (passed s (text, (h, (value, tt)))) z (none_left (tt, (tt, (value', tt))))

abbrev pub CColumnsPlan : (κs : Lfts 2) → Settings → (text : Lent) → (h : ℕ) → (value : LentNumber) (z value' : ℕ) → Type 0
CColumnsPlan κs s text h value z value' = Meets c-columns_plan κs (passed s (text, (h, (value, tt)))) z (none_left (tt, (tt, (value', tt))))
