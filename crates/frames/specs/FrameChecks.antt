-- The tests of the two calls, in their order, and what each leaves (refusal 1, refusal 2, refusal 3, refusal 4, refusal 5, refusal 8).
-- Assumes nothing.
use Rattle.std.specs.Prelude.{ℕ, ◌≤◌, ◌<◌, ◌≡◌, true, false, List, [], ◌∷◌, length, Err, Ok, Result}
use Rattle.meaning.specs.Refusals.{Checked}
use Rattle.meaning.specs.declared.answers.NextLine.{NextLine}
use Rattle.std.proofs.Common.{arith, ap, ◌∙◌, lt-ltb, le-ltb}
use Rattle.std.proofs.Math.Path.{refl}
use Rattle.basis.specs.Choice.{pick}
use Rattle.utf8.specs.Decoding.{decode_all}
use Rattle.meaning.specs.Checks.{refuse_if, first_of, check_settings, check_length, check_utf8, check_text, check_room}
use Rattle.meaning.specs.Table.{entry_numbers, of_entry, capacity_of, written}
use Rattle.meaning.specs.Frames.{stand_good, one_line}
use Rattle.meaning.specs.Calls.{check_open, open_answer, check_stand, check_frame, frame_answer, frame_entry}
use Rattle.meaning.specs.declared.settings.Settings.{Settings}
use Rattle.meaning.specs.declared.line.Rest.{Rest}
use Rattle.meaning.specs.declared.refusals.Refusal.{Refusal}
use Rattle.meaning.specs.declared.refusals.Refusal.TheVariants.{BadLine, TooSmall}
use Rattle.laws.specs.TestOrder.{before-refused, before-good}
use Rattle.frames.specs.Framing.{Frameable, line_laid}

module _ (s : Settings) (t : List ℕ) where
  -- ---- the opening

  pub settings-refused : (r : Refusal) → check_settings s ≡ Err r → Err r ≡ check_open s t
  unfolding check_open first_of
  settings-refused r e = rw e

  pub text_decides : check_settings s ≡ Ok tt → check_text t ≡ check_open s t
  unfolding check_open check_text first_of
  text_decides e = rw e

  pub open_refused : (r : Refusal) → check_open s t ≡ Err r → Err r ≡ open_answer s t
  unfolding open_answer
  open_refused r e = rw e

  pub open_done : check_open s t ≡ Ok tt → Ok 0 ≡ open_answer s t
  unfolding open_answer
  open_done e = rw e

  -- Where it refuses nothing, settings and text are good.
  module _ (good : check_open s t ≡ Ok tt) where
    refused-not : {X : Type 0} (r : Refusal) → ◌≡◌ {A = Checked} (Err r) (Ok tt) → X
    refused-not r e = absurd (let z : ◌≡◌ {A = ℕ} 0 1 = cc in omega arith)

    pub good-settings : check_settings s ≡ Ok tt
    good-settings = known (check_settings s) refl
      where
        known : (c : Checked) → check_settings s ≡ c → check_settings s ≡ Ok tt
        known (Ok tt) e = e
        known (Err r) e = refused-not r (settings-refused r e ∙ good)

    pub good-text : check_text t ≡ Ok tt
    good-text = text_decides good-settings ∙ good

    pub good-utf8 : check_utf8 t ≡ Ok tt
    unfolding check_text first_of
    good-utf8 = known (check_length (length t)) (check_utf8 t) refl refl
      where
        known : (a b : Checked) → check_length (length t) ≡ a → check_utf8 t ≡ b → check_utf8 t ≡ Ok tt
        known (Ok _) (Ok _) p q = q
        known (Ok tt) (Err r) p q = refused-not r (rw (p, q) at good-text)
        known (Err r) b p q = refused-not r (rw p at good-text)

module _ (s : Settings) (t : List ℕ) (start : ℕ) (r : Rest) (entry : List ℕ) where
  -- What the call answers, and the slice afterwards.
  abbrev pub Framing : Result NextLine Refusal → List ℕ → Type 0
  Framing answer after = (answer ≡ frame_answer s t start r entry) × (after ≡ frame_entry s t start r entry)

  frame_refused : (q : Refusal) → check_frame s t start r entry ≡ Err q → Framing (Err q) entry
  unfolding frame_answer frame_entry
  frame_refused q e = (rw e, rw e)

  abbrev first : List Checked
  first = check_settings s ∷ check_length (length t) ∷ check_utf8 t ∷ []

  abbrev room : Checked
  room = check_room (capacity_of entry_numbers entry) 1

  pub not_opened : (q : Refusal) → check_open s t ≡ Err q → Framing (Err q) entry
  unfolding check_open check_frame
  not_opened q e = frame_refused q (before-refused first (check_stand t start r ∷ room ∷ []) q e)

  module _ (good : check_open s t ≡ Ok tt) where
    then : check_frame s t start r entry ≡ first_of (check_stand t start r ∷ room ∷ [])
    unfolding check_open check_frame
    then = before-good first (check_stand t start r ∷ room ∷ []) good

    pub bad_stand : stand_good (decode_all t) start r ≡ false → Framing (Err (BadLine 0)) entry
    unfolding check_stand refuse_if pick first_of
    bad_stand e = frame_refused (BadLine 0) (then ∙ rw e)

    module _ (stand : stand_good (decode_all t) start r ≡ true) where
      room_decides : check_frame s t start r entry ≡ first_of (room ∷ [])
      unfolding check_stand refuse_if pick first_of
      room_decides = then ∙ rw stand

      pub no_room : capacity_of entry_numbers entry < 1 → Framing (Err (TooSmall 1)) entry
      unfolding check_room refuse_if pick first_of
      no_room h = frame_refused (TooSmall 1) (room_decides ∙ rw (lt-ltb _ _ h))

      pub frameable : Frameable s t start r
      frameable = record { settings = good-settings s t good; text = good-text s t good; utf8 = good-utf8 s t good; stand = stand }

      module _ (fits : 1 ≤ capacity_of entry_numbers entry) where
        all-good : check_frame s t start r entry ≡ Ok tt
        unfolding check_room refuse_if pick first_of
        all-good = room_decides ∙ rw (le-ltb _ _ fits)

        pub frame_done : (answer : NextLine) (after : List ℕ) → answer ≡ line_laid s t start r
            → after ≡ written entry (of_entry (one_line s (decode_all t) start r).entry) → Framing (Ok answer) after
        unfolding frame_answer frame_entry line_laid
        frame_done answer after e f = (ap Ok e ∙ rw all-good, f ∙ rw all-good)
