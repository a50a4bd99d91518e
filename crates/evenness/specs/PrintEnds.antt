-- Where the last print of what is drawn ends, in bytes, and what stands up to it; a word ends with a print, where the word ends (rule 8,
-- rule 13).
-- Assumes nothing.
use Rattle.std.specs.Prelude.{ℕ, ◌+◌, ◌*◌, ◌≡◌, refl, length}
use Rattle.std.proofs.Common.{ap, subst, ◌∙◌, arith}
use mathlib.Core.List.{List, [], ◌∷◌, ◌++◌, cons≢nil}
use Rattle.basis.specs.Choice.{pick, by_test}
use Rattle.utf8.specs.Encoding.{bytes, size}
use Rattle.meaning.specs.Characters.{glue}
use Rattle.meaning.specs.SpaceConfig.{spaces_width, spaces_after}
use Rattle.meaning.specs.Words.{Drawn, drawn, Stretches, last, glued, grow, stretches, printed_first, drawn_stretches, drawn_word}
use Rattle.meaning.specs.declared.cursor.Spaces.{Spaces}
use Rattle.meaning.specs.declared.line.EventKind.{EventKind}
use Rattle.meaning.specs.declared.line.EventKind.TheVariants.{Space, Printed, Move}
use Rattle.laws.specs.LastPrint.{if_more, kept_if, to_last_print, print_if, prints}

-- ---- where the last print ends, in bytes

abbrev end_if : EventKind → (to before : ℕ) → ℕ
end_if Printed to before = to
end_if Space to before = before
end_if Move to before = before

unfoldable pub last_end : ℕ → List Drawn → ℕ
last_end x [] = x
last_end x (d ∷ ds) = last_end (end_if d.kind d.to x) ds

pub end_append : (x : ℕ) (ds es : List Drawn) → last_end x (ds ++ es) ≡ last_end (last_end x ds) es
unfolding last_end
end_append x [] es = refl
end_append x (d ∷ ds) es = end_append (end_if d.kind d.to x) ds es

end_print : (k : EventKind) (d : Drawn) (x : ℕ) (ps : List Drawn) → d.kind ≡ k
    → last_end x (print_if k d ps) ≡ last_end (end_if k d.to x) ps
unfolding last_end
end_print Printed d x ps e = rw e
end_print Space d x ps e = refl
end_print Move d x ps e = refl

-- The prints alone tell it.
pub end-prints : (x : ℕ) (ds : List Drawn) → last_end x (prints ds) ≡ last_end x ds
unfolding last_end prints
end-prints x [] = refl
end-prints x (d ∷ ds) = end_print d.kind d x (prints ds) refl ∙ end-prints (end_if d.kind d.to x) ds

-- ---- up to the last print, of one list after another

abbrev pub AnyDrawn : List Drawn → Type 0
AnyDrawn [] = ⊥
AnyDrawn (d ∷ ds) = Unit {0}

kept-some : (k : EventKind) (d : Drawn) (xs : List Drawn) → AnyDrawn xs → kept_if k d xs ≡ d ∷ xs
unfolding if_more
kept-some Printed d xs h = refl
kept-some Space d [] h = absurd h
kept-some Space d (x ∷ xs) h = refl
kept-some Move d [] h = absurd h
kept-some Move d (x ∷ xs) h = refl

pub some_append : (ds xs : List Drawn) → AnyDrawn xs → AnyDrawn (ds ++ xs)
some_append [] xs h = h
some_append (d ∷ ds) xs h = tt

pub print_more : (ds es : List Drawn) → AnyDrawn (to_last_print es) → to_last_print (ds ++ es) ≡ ds ++ to_last_print es
unfolding to_last_print
print_more [] es h = refl
print_more (d ∷ ds) es h =
    rw (print_more ds es h) (kept-some d.kind d (ds ++ to_last_print es) (some_append ds (to_last_print es) h))

pub print_none : (ds es : List Drawn) → to_last_print es ≡ [] → to_last_print (ds ++ es) ≡ to_last_print ds
unfolding to_last_print
print_none [] es h = h
print_none (d ∷ ds) es h = ap (λ (xs : List Drawn). kept_if d.kind d xs) (print_none ds es h)

end_kept : (k : EventKind) (d : Drawn) (x : ℕ) (xs : List Drawn) → d.kind ≡ k → kept_if k d xs ≡ [] → (end_if k d.to x ≡ x) × (xs ≡ [])
unfolding if_more
end_kept Printed d x xs e h = absurd (cons≢nil h)
end_kept Space d x [] e h = (refl, refl)
end_kept Space d x (y ∷ xs) e h = absurd (cons≢nil h)
end_kept Move d x [] e h = (refl, refl)
end_kept Move d x (y ∷ xs) e h = absurd (cons≢nil h)

pub end_none : (x : ℕ) (ds : List Drawn) → to_last_print ds ≡ [] → last_end x ds ≡ x
unfolding last_end to_last_print
end_none x [] h = refl
end_none x (d ∷ ds) h =
    let r = end_kept d.kind d x (to_last_print ds) refl h in
    ap (λ (y : ℕ). last_end y ds) r.0 ∙ end_none x ds r.1

-- ---- words end with a print, where they end

size_in : Stretches → ℕ
size_in (last w) = size w
size_in (glued w c more) = size w + bytes c + size_in more

size-grown : (c : ℕ) (w : Stretches) → size_in (grow c w) ≡ bytes c + size_in w
unfolding grow size_in size
size-grown c (last w) = refl
size-grown c (glued w g more) = omega arith

size-stretches : (cs : List ℕ) → size_in (stretches cs) ≡ size cs
unfolding stretches size_in size pick
size-stretches [] = refl
size-stretches (c ∷ cs) =
    by_test (glue c) (λ t. simp t (omega (arith, size-stretches cs))) (λ t. simp t (omega (arith, size-grown c (stretches cs), size-stretches cs)))

-- It ends there, and all of it stands up to its last print.
pub record EndsAt (end : ℕ) (ds : List Drawn) : Type 0 where
  pub ends : (x : ℕ) → last_end x ds ≡ end
  pub whole : to_last_print ds ≡ ds
  pub some : AnyDrawn ds

printed-ends : (g at end : ℕ) (w : List ℕ) (more : List Drawn) → EndsAt end more → EndsAt end (printed_first g at w more)
unfolding printed_first last_end to_last_print
printed-ends g at end [] more h = h
printed-ends g at end (c ∷ w) more h =
    record { ends = λ x. h.ends (at + size (c ∷ w)); whole = ap (λ (xs : List Drawn). drawn Printed at (at + size (c ∷ w)) 0 (length (c ∷ w) * g) ∷ xs) h.whole; some = tt }

space-ends : (from to n w end : ℕ) (more : List Drawn) → EndsAt end more → EndsAt end (drawn Space from to n w ∷ more)
unfolding last_end to_last_print
space-ends from to n w end more h =
    let d = drawn Space from to n w in
    record { ends = λ x. h.ends x; whole = ap (λ (xs : List Drawn). kept_if Space d xs) h.whole ∙ kept-some Space d more h.some; some = tt }

stretches-end : (g : ℕ) (sp : Spaces) (at : ℕ) (w : Stretches) → EndsAt (at + size_in w) (drawn_stretches g sp at w)
unfolding drawn_stretches size_in last_end to_last_print
stretches-end g sp at (last w) = record { ends = λ x. refl; whole = refl; some = tt }
stretches-end g sp at (glued w c more) =
    let to = at + size w + bytes c in
    let e : to + size_in more ≡ at + (size w + bytes c + size_in more) = omega arith in
    printed-ends g at _ w _
    (subst (λ (n : ℕ). EndsAt n (drawn Space (at + size w) to 1 (spaces_width sp 1) ∷ drawn_stretches g (spaces_after sp 1) to more)) e
    (space-ends (at + size w) to 1 (spaces_width sp 1) _ _ (stretches-end g (spaces_after sp 1) to more)))

pub word_end : (g : ℕ) (sp : Spaces) (at : ℕ) (cs : List ℕ) → EndsAt (at + size cs) (drawn_word g sp at cs)
unfolding drawn_word
word_end g sp at cs =
    subst (λ (n : ℕ). EndsAt (at + n) (drawn_stretches g sp at (stretches cs))) (size-stretches cs) (stretches-end g sp at (stretches cs))
