-- By the definitions, a call that is not done leaves each buffer as it was, and each count that only a call that is done writes.
-- Assumes nothing.
use Rattle.std.specs.Prelude.{ℕ, ◌<◌, ◌≡◌, refl, List, ℤ, length, Err, None, Ok, Option, Result, Some}
use Rattle.meaning.specs.Refusals.{Checked}
use Rattle.meaning.specs.declared.answers.Drawing.{Drawing}
use Rattle.meaning.specs.declared.answers.FileRead.{FileRead}
use Rattle.meaning.specs.declared.answers.LineY.{LineY}
use Rattle.meaning.specs.declared.answers.NextLine.{NextLine}
use Rattle.meaning.specs.declared.answers.Relaid.{Relaid}
use Rattle.std.proofs.Common.{arith, ne_eqb}
use Rattle.meaning.specs.Checks.{answered, afterwards}
use Rattle.meaning.specs.Calls.{check_tokens, tokens_answer, tokens_buffer, check_layout, layout_answer, layout_table, check_drawing, drawing_answer, drawing_table, drawing_events, check_frame, frame_answer, frame_entry, check_relay, relay_answer, relay_table, check_indexing, index_answer, index_from, check_writing, writing_answer, writing_file, check_reading, reading_answer, reading_table, handed_out, reading_settings}
use Rattle.meaning.specs.Refusals.{number_of}
use Rattle.meaning.specs.Answers.{answer_number, count_value, drawingCount, frameRestEnd, frameRestCount, relayCount, yPlace, readingLength}
use Rattle.meaning.specs.declared.settings.Settings.{Settings}
use Rattle.meaning.specs.declared.edit.Edit.{Edit}
use Rattle.meaning.specs.declared.refusals.Refusal.{Refusal}
use Rattle.meaning.specs.declared.refusals.Refusal.TheVariants.{SettingOutOfRange, UnknownAlignment, TextTooLong, NotUtf8, BadLine, BadEdit, TooSmall, BadIndex, BadField, OldEntry, RetiredSetting}
use Rattle.basis.specs.Choice.{pick, pick-false}
use Rattle.meaning.specs.declared.counts.Offset.{Offset}
use Rattle.meaning.specs.declared.line.Rest.{Rest}

-- What is not done is refused.
pub kept : {X Y : Type 0} (c : Checked) (done : X) (f : Refusal → X) (new old : Y) → (answered c done f ≡ done → ⊥) → afterwards c new old ≡ old
kept (Ok tt) done f new old d = absurd (d refl)
kept (Err r) done f new old d = refl

pub tokens-kept : (t b : List ℕ) → ((n : ℕ) → tokens_answer t b ≡ Ok n → ⊥) → tokens_buffer t b ≡ b
unfolding tokens_answer tokens_buffer
tokens-kept t b d = kept (check_tokens t b) _ _ _ b (d _)

pub layout-kept : (s : Settings) (t b : List ℕ) → ((n : ℕ) → layout_answer s t b ≡ Ok n → ⊥) → layout_table s t b ≡ b
unfolding layout_answer layout_table
layout-kept s t b d = kept (check_layout s t b) _ _ _ b (d _)

pub drawing-kept : (s : Settings) (t b v : List ℕ) → ((n : Drawing) → drawing_answer s t b v ≡ Ok n → ⊥)
    → (drawing_table s t b v ≡ b) × (drawing_events s t b v ≡ v)
unfolding drawing_answer drawing_table drawing_events
drawing-kept s t b v d = (kept (check_drawing s t b v) _ _ _ b (d _), kept (check_drawing s t b v) _ _ _ v (d _))

pub frame_kept : (s : Settings) (t : List ℕ) (start : ℕ) (r : Rest) (b : List ℕ)
    → ((n : NextLine) → frame_answer s t start r b ≡ Ok n → ⊥) → frame_entry s t start r b ≡ b
unfolding frame_answer frame_entry
frame_kept s t start r b d = kept (check_frame s t start r b) _ _ _ b (d _)

pub relay_kept : (s : Settings) (t b : List ℕ) (lines : ℕ) (ed : Edit) → ((n : Relaid) → relay_answer s t b lines ed ≡ Ok n → ⊥)
    → relay_table s t b lines ed ≡ b
unfolding relay_answer relay_table
relay_kept s t b lines ed d = kept (check_relay s t b lines ed) _ _ _ b (d _)

pub index_kept : (s : Settings) (t : List ℕ) (lines kept : ℕ) (b : List ℤ) → ((n : ℕ) → index_answer s t lines b ≡ Ok n → ⊥)
    → index_from kept s t lines b ≡ b
unfolding index_answer index_from
index_kept s t lines k b d = kept (check_indexing s t lines (length b)) _ _ _ b (d _)

pub writing_kept : (s : Settings) (t : List ℕ) (lines : ℕ) (f : List ℕ) → ((n : ℕ) → writing_answer s t lines f ≡ Ok n → ⊥)
    → writing_file s t lines f ≡ f
unfolding writing_answer writing_file
writing_kept s t lines f d = kept (check_writing s t lines f) _ _ _ f (d _)

pub reading_kept : (f settings t : List ℕ) → ((n : FileRead) → reading_answer f settings t ≡ Ok n → ⊥) → reading_table f settings t ≡ t
unfolding reading_answer reading_table
reading_kept f settings t d = kept (check_reading f settings t) _ _ _ t (d _)

-- Settings are handed out by a call that is done, and with refusal 12.
not-handed : (c : Checked) (n : FileRead) (new old : List ℕ) → (answer_number (answered c (Ok n) Err) ≡ 0 → ⊥)
    → (answer_number (answered c (Ok n) Err) ≡ 12 → ⊥) → handed_out c new old ≡ old
unfolding handed_out
not-handed (Ok tt) n new old d e = absurd (d refl)
not-handed (Err r) n new old d e = pick-false _ _ _ (ne_eqb _ _ e)

pub settings-kept : (f settings t : List ℕ) → (answer_number (reading_answer f settings t) ≡ 0 → ⊥)
    → (answer_number (reading_answer f settings t) ≡ 12 → ⊥) → reading_settings f settings t ≡ settings
unfolding reading_answer reading_settings
settings-kept f settings t d e = not-handed (check_reading f settings t) _ _ settings d e

-- A refusal has no number 0, so a layout whose number is 0 is done.
pub refusal_some : (r : Refusal) → number_of r ≡ 0 → ⊥
refusal_some SettingOutOfRange e = omega arith
refusal_some (UnknownAlignment a) e = omega arith
refusal_some (TextTooLong n) e = omega arith
refusal_some (NotUtf8 n) e = omega arith
refusal_some (BadLine k) e = omega arith
refusal_some BadEdit e = omega arith
refusal_some (TooSmall n) e = omega arith
refusal_some (BadIndex n) e = omega arith
refusal_some (BadField at) e = omega arith
refusal_some (OldEntry at) e = omega arith
refusal_some RetiredSetting e = omega arith

pub layout-done : (x : Result ℕ Refusal) → answer_number x ≡ 0 → x ≡ Ok (count_value x)
layout-done (Ok n) e = refl
layout-done (Err r) e = absurd (refusal_some r e)

pub index-done : (x : Result ℕ Refusal) → answer_number x ≡ 0 → x ≡ Ok (count_value x)
index-done (Ok n) e = refl
index-done (Err r) e = absurd (refusal_some r e)

pub drawing-counted : (x : Result Drawing Refusal) (old : ℕ) → 0 < answer_number x → drawingCount x old ≡ old
drawing-counted (Ok n) old h = omega arith
drawing-counted (Err r) old h = refl

pub frame_rested : (x : Result NextLine Refusal) (end count : ℕ) → 0 < answer_number x → (frameRestEnd x end ≡ end) × (frameRestCount x count ≡ count)
frame_rested (Ok n) end count h = absurd (omega arith)
frame_rested (Err r) end count h = (refl, refl)

pub relay_counted : (x : Result Relaid Refusal) (old : ℕ) → 0 < answer_number x → relayCount x old ≡ old
relay_counted (Ok n) old h = omega arith
relay_counted (Err r) old h = refl

pub y_kept : (x : Result (Option LineY) Refusal) (old : ℤ) → 0 < answer_number x → yPlace x old ≡ old
y_kept (Ok (Some l)) old h = absurd (omega arith)
y_kept (Ok None) old h = absurd (omega arith)
y_kept (Err r) old h = refl

pub reading_counted : (x : Result FileRead Refusal) (old : ℕ) → 0 < answer_number x → readingLength x old ≡ old
reading_counted (Ok n) old h = absurd (omega arith)
reading_counted (Err r) old h = refl

-- A file whose number is 0 was written.
pub writing_done : (x : Result ℕ Refusal) → answer_number x ≡ 0 → x ≡ Ok (count_value x)
writing_done (Ok n) e = refl
writing_done (Err r) e = absurd (refusal_some r e)
