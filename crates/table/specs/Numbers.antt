-- Numbers put into a buffer at a place, one by one or as one run, and rows of numbers put one after the other.
-- Assumes nothing.
use Rattle.std.specs.Prelude.{ℕ, suc, ◌+◌, ◌*◌, ◌≤◌, ◌<◌, ◌≡◌, refl, leb, length, take, drop, set}
use Rattle.std.proofs.Common.{ap, ◌∙◌, add-suc, add-one, arith, le-leb, length-append, length-take, length-drop, take_at, drop-drop}
use mathlib.Core.List.{List, [], ◌∷◌, ◌++◌, append_assoc, append-nil}
use Rattle.std.proofs.lemmas.Bool.{lt-leb}
use Rattle.std.proofs.lemmas.List.Edits.{sets, sets-eq}
use Rattle.std.proofs.Math.Seq.{drop-append-add}
use Rattle.basis.specs.Choice.{pick, pick_true, pick-false}
use Rattle.meaning.specs.Table.{event_numbers, of_event, of_all, written}
use Rattle.meaning.specs.declared.line.Event.{Event}
use Rattle.laws.specs.TableLaws.{event_numbers_lem, events-numbers, all-numbers, all_append, written-length}

-- A buffer with these numbers from place i on: what lies before and behind them is as it was.
unfoldable pub put_numbers : List ℕ → ℕ → List ℕ → List ℕ
put_numbers t i xs = take i t ++ xs ++ drop (i + length xs) t

-- Row k of n numbers each, if the buffer holds it.
unfoldable pub put_if_room : (n : ℕ) → List ℕ → (k : ℕ) → List ℕ → List ℕ
put_if_room n t k xs = pick (leb (n * k + n) (length t)) (put_numbers t (n * k) xs) t

-- ---- number by number

-- Stores at i + n, i + n + 1 and so on; and those at i, i + 1 and so on.
abbrev pub stored_from : List ℕ → ℕ → ℕ → List ℕ → List ℕ
stored_from t i n [] = t
stored_from t i n (x ∷ xs) = stored_from (set t (i + n) x) i (suc n) xs

abbrev pub stored : List ℕ → ℕ → List ℕ → List ℕ
stored t i [] = t
stored t i (x ∷ xs) = stored_from (set t i x) i 1 xs

stored-from : (xs t : List ℕ) (i n : ℕ) → stored_from t i n xs ≡ sets t (i + n) xs
stored-from [] t i n = refl
stored-from (x ∷ xs) t i n =
    stored-from xs (set t (i + n) x) i (suc n) ∙ ap (λ (j : ℕ). sets (set t (i + n) x) j xs) (add-suc i n)

pub stored-are : (xs t : List ℕ) (i : ℕ) → i + length xs ≤ length t → stored t i xs ≡ put_numbers t i xs
unfolding put_numbers
stored-are [] t i h = sets-eq [] t i h
stored-are (x ∷ xs) t i h =
    stored-from xs (set t i x) i 1 ∙ ap (λ (j : ℕ). sets (set t i x) j xs) (add-one i) ∙ sets-eq (x ∷ xs) t i h

pub put-length : (t : List ℕ) (i : ℕ) (xs : List ℕ) → i + length xs ≤ length t → length (put_numbers t i xs) ≡ length t
unfolding put_numbers
put-length t i xs h = simp (length-append, length-take, length-drop) (omega arith)

-- ---- row after row

-- Numbers put just behind those that were written are written too.
put-behind : (t xs ys : List ℕ) → put_numbers (written t xs) (length xs) ys ≡ written t (xs ++ ys)
unfolding put_numbers written
put-behind t xs ys =
    rw (
      take_at xs (drop (length xs) t) (length xs) refl,
      drop-append-add xs (drop (length xs) t) (length ys),
      drop-drop (length ys) (length xs) t,
      length-append xs ys,
    )

module _ {ℓ} {X : Type ℓ} (f : X → List ℕ) (n : ℕ) (width : (x : X) → length (f x) ≡ n) where
  -- The row behind the last.
  pub put_next : (t : List ℕ) (xs : List X) (x : X)
      → put_numbers (written t (of_all f xs)) (n * length xs) (f x) ≡ written t (of_all f (xs ++ (x ∷ [])))
  unfolding of_all
  put_next t xs x =
      rw (← all-numbers f n width xs, all_append f xs (x ∷ []), append-nil (f x)) (put-behind t (of_all f xs) (f x))

-- The numbers of an event.
pub put-next_event : (t : List ℕ) (es : List Event) (e : Event)
    → put_numbers (written t (of_all of_event es)) (event_numbers * length es) (of_event e) ≡ written t (of_all of_event (es ++ (e ∷ [])))
put-next_event = put_next of_event event_numbers event_numbers_lem

-- ---- as long as there is room

module _ (n : ℕ) (t : List ℕ) (k : ℕ) (xs : List ℕ) where
  pub room : n * k + n ≤ length t → put_if_room n t k xs ≡ put_numbers t (n * k) xs
  unfolding put_if_room
  room h = pick_true _ _ _ (le-leb _ _ h)

  pub no_room : length t < n * k + n → put_if_room n t k xs ≡ t
  unfolding put_if_room
  no_room h = pick-false _ _ _ (lt-leb _ _ h)

-- All events, from number k on.
unfoldable pub put_events : List ℕ → (k : ℕ) → List Event → List ℕ
put_events t k [] = t
put_events t k (e ∷ es) = put_events (put_if_room event_numbers t k (of_event e)) (k + 1) es

-- One more event behind those that were written.
pub put_event_next : (t : List ℕ) (es : List Event) (e : Event) → event_numbers * length es + event_numbers ≤ length t
    → put_if_room event_numbers (written t (of_all of_event es)) (length es) (of_event e) ≡ written t (of_all of_event (es ++ (e ∷ [])))
put_event_next t es e h =
    room event_numbers (written t (of_all of_event es)) (length es) (of_event e)
    (omega (arith, written-length t (of_all of_event es) (omega (arith, events-numbers es)), events-numbers es))
    ∙ put-next_event t es e

put-events-from : (t : List ℕ) (ds es : List Event) → event_numbers * (length ds + length es) ≤ length t
    → put_events (written t (of_all of_event ds)) (length ds) es ≡ written t (of_all of_event (ds ++ es))
unfolding put_events
put-events-from t ds [] h = rw (append-nil ds)
put-events-from t ds (e ∷ es) h =
    let longer : length (ds ++ (e ∷ [])) ≡ length ds + 1 = length-append ds (e ∷ []) in
    rw (put_event_next t ds e (omega arith), ← longer)
    (put-events-from t (ds ++ (e ∷ [])) es (omega arith) ∙ rw append_assoc)

-- Put one after the other, they are written.
pub put-events : (t : List ℕ) (es : List Event) → event_numbers * length es ≤ length t → put_events t 0 es ≡ written t (of_all of_event es)
unfolding of_all written
put-events t es h = put-events-from t [] es (omega arith)
