-- A call that refuses leaves every buffer that it is lent as it was, and every number but the one that goes besides the refusal's.
-- Assumes nothing.
use Rattle.std.specs.Prelude.{ℕ, ◌<◌, ◌≡◌, List, ℤ, Err}
use Rattle.std.proofs.Common.{arith, ap, ◌∙◌}
use contract.Lifetimes.{Lfts}
use Rattle.meaning.specs.Settings.{settings_of}
use Rattle.meaning.specs.Calls.{drawing_answer, frame_answer, relay_answer, y_answer, index_after, index_again_after, reading_answer}
use Rattle.meaning.specs.Answers.{answer_number}
use Rattle.meaning.specs.YIndex.{kept_before}
use Rattle.meaning.specs.Refusals.{number_of}
use Rattle.meaning.specs.declared.settings.Settings.{Settings}
use Rattle.meaning.specs.declared.edit.Edit.{Edit}
use Rattle.meaning.specs.declared.refusals.Refusal.{Refusal}
use Rattle.meaning.specs.declared.line.Rest.{Rest}
use Rattle.bisquemop.specs.Edits.{rest_from}
use Rattle.promises.specs.Passed.{Lent, LentNumber, LentSigned, LentMut, LentYsMut}
use Rattle.promises.specs.CallContracts.{Tokenize, Layout, LayoutWithEvents, OneLine, LayAgain, CTokens, CLayout, CLayoutEvents, COneLine, CLayAgain, CLineY, MakeIndex, MakeIndexAgain, CIndex, CIndexAgain, WriteFile, ReadFile, CWriteFile, CReadFile}
use Rattle.promises.specs.Unwritten.{tokens-kept, layout-kept, drawing-kept, frame_kept, relay_kept, drawing-counted, frame_rested, relay_counted, y_kept, index_kept, writing_kept, reading_kept, settings-kept, reading_counted, refusal_some}

-- ---- the calls in Rattle

pub tokenize-refused : (κs : Lfts 2) (text : Lent) (buffer : LentMut) (r : Refusal) (after : List ℕ)
    → Tokenize κs text buffer (Err r) after → after ≡ buffer.now
tokenize-refused κs text buffer r after p =
    p.1 ∙ tokens-kept text.now buffer.now (λ n e. let z : ◌≡◌ {A = ℕ} 0 1 = cc in omega arith)

pub layout-refused : (κs : Lfts 2) (s : Settings) (text : Lent) (table : LentMut) (r : Refusal) (after : List ℕ)
    → Layout κs s text table (Err r) after → after ≡ table.now
layout-refused κs s text table r after p =
    p.1 ∙ layout-kept s text.now table.now (λ n e. let z : ◌≡◌ {A = ℕ} 0 1 = cc in omega arith)

pub layout_with_events-refused : (κs : Lfts 3) (s : Settings) (text : Lent) (table events : LentMut) (r : Refusal) (after drawn : List ℕ)
    → LayoutWithEvents κs s text table events (Err r) after drawn → (after ≡ table.now) × (drawn ≡ events.now)
layout_with_events-refused κs s text table events r after drawn p =
    let k = drawing-kept s text.now table.now events.now (λ n e. let z : ◌≡◌ {A = ℕ} 0 1 = cc in omega arith) in
    (p.1.0 ∙ k.0, p.1.1 ∙ k.1)

pub one-line-refused : (κs : Lfts 2) (s : Settings) (text : Lent) (start : ℕ) (r : Rest) (entry : LentMut) (q : Refusal) (after : List ℕ)
    → OneLine κs s text start r entry (Err q) after → after ≡ entry.now
one-line-refused κs s text start r entry q after p =
    p.1 ∙ frame_kept s text.now start r entry.now (λ n e. let z : ◌≡◌ {A = ℕ} 0 1 = cc in omega arith)

pub lay_again-refused : (κs : Lfts 2) (s : Settings) (part : Lent) (table : LentMut) (lines : ℕ) (ed : Edit) (r : Refusal) (after : List ℕ)
    → LayAgain κs s part table lines ed (Err r) after → after ≡ table.now
lay_again-refused κs s part table lines ed r after p =
    p.1 ∙ relay_kept s part.now table.now lines ed (λ n e. let z : ◌≡◌ {A = ℕ} 0 1 = cc in omega arith)

pub make_index-refused : (κs : Lfts 2) (s : Settings) (table : Lent) (lines : ℕ) (index : LentYsMut) (r : Refusal) (after : List ℤ)
    → MakeIndex κs s table lines index (Err r) after → after ≡ index.now
unfolding index_after
make_index-refused κs s table lines index r after p =
    p.1 ∙ index_kept s table.now lines 0 index.now (λ n e. let z : ◌≡◌ {A = ℕ} 0 1 = cc in omega arith)

pub make_index-again-refused : (κs : Lfts 2) (s : Settings) (table : Lent) (lines first : ℕ) (index : LentYsMut) (r : Refusal) (after : List ℤ)
    → MakeIndexAgain κs s table lines first index (Err r) after → after ≡ index.now
unfolding index_again_after
make_index-again-refused κs s table lines first index r after p =
    p.1 ∙ index_kept s table.now lines (kept_before s first) index.now (λ n e. let z : ◌≡◌ {A = ℕ} 0 1 = cc in omega arith)

pub write_file-refused : (κs : Lfts 2) (s : Settings) (table : Lent) (lines : ℕ) (file : LentMut) (r : Refusal) (after : List ℕ)
    → WriteFile κs s table lines file (Err r) after → after ≡ file.now
write_file-refused κs s table lines file r after p =
    p.1 ∙ writing_kept s table.now lines file.now (λ n e. refusal_some r (ap answer_number (p.0 ∙ e)))

-- No line entry goes with a refusal, 12 among them, and settings go with 12 alone.
pub read-file-refused : (κs : Lfts 3) (file : Lent) (settings table : LentMut) (r : Refusal) (handed after : List ℕ)
    → ReadFile κs file settings table (Err r) handed after
    → (after ≡ table.now) × ((number_of r ≡ 12 → ⊥) → handed ≡ settings.now)
read-file-refused κs file settings table r handed after p = (
  p.1.1 ∙ reading_kept file.now settings.now table.now (λ n e. refusal_some r (ap answer_number (p.0 ∙ e))),
  λ d. p.1.0 ∙ settings-kept file.now settings.now table.now (λ e. refusal_some r (ap answer_number p.0 ∙ e)) (λ e. d (ap answer_number p.0 ∙ e)),
)

-- ---- the calls for C: a refusal returns no 0

pub c-tokens-refused : (κs : Lfts 3) (text : Lent) (tokens : LentMut) (value : LentNumber) (z : ℕ) (after : List ℕ) (value' : ℕ)
    → CTokens κs text tokens value z after value' → 0 < z → after ≡ tokens.now
c-tokens-refused κs text tokens value z after value' p h =
    p.1.0 ∙ tokens-kept text.now tokens.now (λ n e. omega (arith, p.0 ∙ ap answer_number e))

pub c-layout-refused : (κs : Lfts 3) (s : Settings) (text : Lent) (table : LentMut) (value : LentNumber) (z : ℕ) (after : List ℕ) (value' : ℕ)
    → CLayout κs s text table value z after value' → 0 < z → after ≡ table.now
unfolding settings_of
c-layout-refused κs s text table value z after value' p h =
    p.1.0 ∙ layout-kept s text.now table.now (λ n e. omega (arith, p.0 ∙ ap answer_number e))

pub c-layout-events-refused : (κs : Lfts 5) (s : Settings) (text : Lent) (table events : LentMut) (value count : LentNumber) (z : ℕ)
    (after drawn : List ℕ) (value' count' : ℕ) → CLayoutEvents κs s text table events value count z after drawn value' count' → 0 < z
    → (after ≡ table.now) × (drawn ≡ events.now) × (count' ≡ count.now)
unfolding settings_of
c-layout-events-refused κs s text table events value count z after drawn value' count' p h =
    let k = drawing-kept s text.now table.now events.now (λ n e. omega (arith, p.0 ∙ ap answer_number e)) in
    let c = drawing-counted (drawing_answer s text.now table.now events.now) count.now (omega (arith, p.0)) in
    (p.1.0 ∙ k.0, p.1.1.0 ∙ k.1, p.1.1.1.1 ∙ c)

pub c-one-line-refused : (κs : Lfts 5) (s : Settings) (text : Lent) (start end count : ℕ) (entry : LentMut) (value stops counts : LentNumber) (z : ℕ)
    (after : List ℕ) (value' stops' counts' : ℕ) → COneLine κs s text start end count entry value stops counts z after value' stops' counts' → 0 < z
    → (after ≡ entry.now) × (stops' ≡ stops.now) × (counts' ≡ counts.now)
unfolding settings_of
c-one-line-refused κs s text start end count entry value stops counts z after value' stops' counts' p h =
    let r = rest_from end count in
    let k = frame_kept s text.now start r entry.now (λ n e. omega (arith, p.0 ∙ ap answer_number e)) in
    let c = frame_rested (frame_answer s text.now start r entry.now) stops.now counts.now (omega (arith, p.0)) in
    (p.1.0 ∙ k, p.1.1.1.0 ∙ c.0, p.1.1.1.1 ∙ c.1)

pub c_lay_again-refused : (κs : Lfts 4) (s : Settings) (part : Lent) (table : LentMut) (lines : ℕ) (ed : Edit) (value laid : LentNumber) (z : ℕ)
    (after : List ℕ) (value' laid' : ℕ) → CLayAgain κs s part table lines ed value laid z after value' laid' → 0 < z
    → (after ≡ table.now) × (laid' ≡ laid.now)
unfolding settings_of
c_lay_again-refused κs s part table lines ed value laid z after value' laid' p h =
    let k = relay_kept s part.now table.now lines ed (λ n e. omega (arith, p.0 ∙ ap answer_number e)) in
    let c = relay_counted (relay_answer s part.now table.now lines ed) laid.now (omega (arith, p.0)) in
    (p.1.0 ∙ k, p.1.1.1 ∙ c)

pub c-line-y-refused : (κs : Lfts 3) (s : Settings) (table : Lent) (lines line : ℕ) (value : LentNumber) (y : LentSigned) (z value' : ℕ)
    (y' : ℤ) → CLineY κs s table lines line value y z value' y' → 0 < z → y' ≡ y.now
unfolding settings_of
c-line-y-refused κs s table lines line value y z value' y' p h =
    p.1.1 ∙ y_kept (y_answer s table.now lines line) y.now (omega (arith, p.0))

pub c-index-refused : (κs : Lfts 3) (s : Settings) (table : Lent) (lines : ℕ) (index : LentYsMut) (value : LentNumber) (z : ℕ) (after : List ℤ)
    (value' : ℕ) → CIndex κs s table lines index value z after value' → 0 < z → after ≡ index.now
unfolding settings_of index_after
c-index-refused κs s table lines index value z after value' p h =
    p.1.0 ∙ index_kept s table.now lines 0 index.now (λ n e. omega (arith, p.0 ∙ ap answer_number e))

pub c-index-again-refused : (κs : Lfts 3) (s : Settings) (table : Lent) (lines first : ℕ) (index : LentYsMut) (value : LentNumber) (z : ℕ)
    (after : List ℤ) (value' : ℕ) → CIndexAgain κs s table lines first index value z after value' → 0 < z → after ≡ index.now
unfolding settings_of index_again_after
c-index-again-refused κs s table lines first index value z after value' p h =
    p.1.0 ∙ index_kept s table.now lines (kept_before s first) index.now (λ n e. omega (arith, p.0 ∙ ap answer_number e))

pub c_write_file-refused : (κs : Lfts 3) (s : Settings) (table : Lent) (lines : ℕ) (file : LentMut) (value : LentNumber) (z : ℕ)
    (after : List ℕ) (value' : ℕ) → CWriteFile κs s table lines file value z after value' → 0 < z → after ≡ file.now
unfolding settings_of
c_write_file-refused κs s table lines file value z after value' p h =
    p.1.0 ∙ writing_kept s table.now lines file.now (λ n e. omega (arith, p.0 ∙ ap answer_number e))

pub c-read-file-refused : (κs : Lfts 5) (file : Lent) (settings table : LentMut) (value bytes : LentNumber) (z : ℕ) (handed after : List ℕ)
    (value' bytes' : ℕ) → CReadFile κs file settings table value bytes z handed after value' bytes' → 0 < z
    → (after ≡ table.now) × (bytes' ≡ bytes.now) × ((z ≡ 12 → ⊥) → handed ≡ settings.now)
c-read-file-refused κs file settings table value bytes z handed after value' bytes' p h = (
  p.1.1.0 ∙ reading_kept file.now settings.now table.now (λ n e. omega (arith, p.0 ∙ ap answer_number e)),
  p.1.1.1.1 ∙ reading_counted (reading_answer file.now settings.now table.now) bytes.now (omega (arith, p.0)),
  λ d. p.1.0 ∙ settings-kept file.now settings.now table.now (λ e. omega (arith, p.0 ∙ e)) (λ e. d (p.0 ∙ e)),
)
