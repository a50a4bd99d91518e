-- The refusals that need no layout, 1 to 4, and how a call goes through its tests.
-- Refusal 1, refusal 2, refusal 3, refusal 4, refusal 8.
-- Assumes nothing.
use Rattle.std.specs.Prelude.{ℕ, Bool, not, List, [], ◌∷◌, ltb, eqb, length, Err, Ok}
use Rattle.meaning.specs.Refusals.{Checked}
use Rattle.basis.specs.Choice.{pick}
use Rattle.utf8.specs.Decoding.{valid_prefix}
use Rattle.meaning.specs.Settings.{in_range, known_alignment, known_vertical}
use Rattle.meaning.specs.declared.settings.Settings.{Settings}
use Rattle.meaning.specs.declared.refusals.Refusal.{Refusal}
use Rattle.meaning.specs.declared.refusals.Refusal.TheVariants.{SettingOutOfRange, UnknownAlignment, TextTooLong, NotUtf8, TooSmall}

-- Given exactly when the test holds.
unfoldable pub refuse_if : Bool → Refusal → Checked
refuse_if b r = pick b (Err r) (Ok tt)

-- Tested in order, the first that applies.
unfoldable pub first_of : List Checked → Checked
first_of [] = Ok tt
first_of ((Ok tt) ∷ cs) = first_of cs
first_of (Err r ∷ cs) = Err r

-- What a call answers, and what a lent buffer holds afterwards: a refusal writes nothing.
abbrev pub answered {ℓ} : {X : Type ℓ} → Checked → X → (Refusal → X) → X
answered (Ok tt) x f = x
answered (Err r) x f = f r

abbrev pub afterwards {ℓ} : {X : Type ℓ} → Checked → X → X → X
afterwards (Ok tt) new old = new
afterwards (Err r) new old = old

-- 1: a setting is out of range. 2: an alignment is unknown, the horizontal looked at first.
unfoldable pub check_settings : Settings → Checked
check_settings s =
    pick (in_range s)
    (pick (known_alignment s.alignment)
    (pick (known_vertical s.vertical) (Ok tt) (Err (UnknownAlignment s.vertical)))
    (Err (UnknownAlignment s.alignment)))
    (Err SettingOutOfRange)

-- 1: a limit of so many lines lets no line in.
unfoldable pub check_limit : (h : ℕ) → Checked
check_limit h = refuse_if (eqb h 0) SettingOutOfRange

-- The most bytes that a text has.
abbrev pub text_limit : ℕ
text_limit = 65535

-- 3: a text of so many bytes is too long.
unfoldable pub check_length : ℕ → Checked
check_length n = refuse_if (ltb text_limit n) (TextTooLong n)

-- 4: the lent text is not UTF-8.
unfoldable pub check_utf8 : List ℕ → Checked
check_utf8 t = refuse_if (not (eqb (valid_prefix t) (length t))) (NotUtf8 (record { 0 = valid_prefix t }))

-- A lent text, by itself.
unfoldable pub check_text : List ℕ → Checked
check_text t = first_of (check_length (length t) ∷ check_utf8 t ∷ [])

-- 8: a buffer holds fewer than are needed.
unfoldable pub check_room : (capacity needed : ℕ) → Checked
check_room capacity needed = refuse_if (ltb capacity needed) (TooSmall needed)
