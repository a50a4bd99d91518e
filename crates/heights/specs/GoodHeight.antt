-- The checks before a height is made, what they give, and what is answered in each case.
-- Assumes nothing.
use Rattle.std.specs.Prelude.{ℕ, ◌+◌, ◌-◌, ◌*◌, ◌≤◌, ◌<◌, ◌≡◌, refl, List, length, Err, None, Ok, Some}
use Rattle.meaning.specs.Refusals.{Checked}
use Rattle.std.proofs.Common.{sym, ap, ◌∙◌, arith}
use borrow.Author.Tests.{lt-ltb, le-ltb}
use Rattle.basis.specs.Choice.{pick}
use Rattle.meaning.specs.Table.{entry_numbers, entries_in}
use Rattle.meaning.specs.Checks.{first_of, check_settings}
use Rattle.meaning.specs.WellFormed.{text_length, check_table}
use Rattle.meaning.specs.Height.{height_from, height_of, added_before, y_of}
use Rattle.meaning.specs.Calls.{check_height, height_answer, y_answer}
use Rattle.meaning.specs.declared.settings.Settings.{Settings}
use Rattle.meaning.specs.declared.line.Entry.{Entry}
use Rattle.meaning.specs.declared.refusals.Refusal.{Refusal}
use Rattle.laws.specs.TableLaws.{entries_length}
use Rattle.laws.specs.TestOrder.{first_alone}
use Rattle.look.specs.GoodTable.{table-room, table-count}
use Rattle.heights.specs.GoodSettings.{Measures, measures}
use Rattle.heights.specs.Heights.{not_counted, shown_at, height-counted, added-small}

module _ (s : Settings) (t : List ℕ) (lines : ℕ) where
  pub height-checked : check_settings s ≡ Ok tt → check_height s t lines ≡ check_table lines t
  unfolding check_height first_of
  height-checked h = rw h (first_alone (check_table lines t))

  pub height_bad : (r : Refusal) → check_settings s ≡ Err r → check_height s t lines ≡ Err r
  unfolding check_height first_of
  height_bad r h = rw h

  pub height-settings : check_height s t lines ≡ Ok tt → check_settings s ≡ Ok tt
  height-settings h = known (check_settings s) refl
    where
      known : (c : Checked) → check_settings s ≡ c → check_settings s ≡ Ok tt
      known (Ok tt) e = e
      known (Err r) e = absurd (let f = height_bad r e in let z : ◌≡◌ {A = ℕ} 0 1 = cc in omega arith)

  -- A refusal is answered as it is.
  pub height-refused : (r : Refusal) → check_height s t lines ≡ Err r → Err r ≡ height_answer s t lines
  unfolding height_answer
  height-refused r h = rw h

  pub y-refused : (r : Refusal) (k : ℕ) → check_height s t lines ≡ Err r → Err r ≡ y_answer s t lines k
  unfolding y_answer
  y-refused r k h = rw h

  module _ (g : check_height s t lines ≡ Ok tt) where
    abbrev es : List Entry
    es = entries_in lines t

    pub height-table : check_table lines t ≡ Ok tt
    height-table = sym (height-checked (height-settings g)) ∙ g

    pub height-measures : Measures s
    height-measures = measures s (height-settings g)

    -- Of k lines: the table holds them, there are few, and their ends add little.
    pub few-held : (k : ℕ) → k ≤ lines → Measures s × (k ≤ 65536) × (entry_numbers * k ≤ length t)
    few-held k h =
        (height-measures, omega (arith, table-count lines t height-table), omega (arith, table-room lines t height-table))

    pub little_added : (k : ℕ) → k ≤ lines → added_before s k (entries_in k t) ≤ 536870912
    little_added k h = omega (arith, added-small s height-measures k (entries_in k t), (few-held k h).1)

    whole : height_from s (text_length es) es + not_counted s (text_length es) es ≡ added_before s lines es
    whole = height-counted s (text_length es) es ∙ ap (λ (k : ℕ). added_before s k es) (entries_length lines t)

    pub left-within : not_counted s (text_length es) es ≤ added_before s lines es
    left-within = omega (arith, whole)

    pub height-is : s.base.0 + (added_before s lines es - not_counted s (text_length es) es) ≡ height_of s es
    unfolding height_of
    height-is = omega (arith, whole)

    pub height-small : height_of s es ≤ 536870976
    height-small = omega (arith, height-is, little_added lines (omega arith), height-measures.base)

    -- The answers.
    pub height-answered : Ok (height_of s es) ≡ height_answer s t lines
    unfolding height_answer
    height-answered = rw g

    module _ (k : ℕ) where
      pub no_line : lines ≤ k → Ok None ≡ y_answer s t lines k
      unfolding y_answer pick
      no_line h = rw (g, le-ltb _ _ h)

      pub y-answered : k < lines → Ok (Some (shown_at s (y_of s k es))) ≡ y_answer s t lines k
      unfolding y_answer shown_at pick
      y-answered h = rw (g, lt-ltb _ _ h)
