-- What drawn things measure: one after the other, and a printed word by its counts alone (rule 10).
-- Assumes nothing.
use Rattle.std.specs.Prelude.{ℕ, suc, ◌+◌, ◌-◌, ◌*◌, ◌≤◌, ◌≡◌, refl, List, [], ◌∷◌, ◌++◌, length}
use Rattle.std.proofs.Common.{ap, ◌∙◌, arith}
use Rattle.basis.specs.Choice.{pick, pick_cases, by_test}
use Rattle.utf8.specs.Encoding.{bytes, size}
use Rattle.meaning.specs.Characters.{glue}
use Rattle.meaning.specs.SpaceConfig.{spaces_width, spaces_after}
use Rattle.meaning.specs.Words.{Drawn, Stretches, last, glued, grow, stretches, glues, printed_first, drawn_stretches, drawn_word}
use Rattle.meaning.specs.Line.{noted, measured}
use Rattle.meaning.specs.declared.cursor.Spaces.{Spaces}
use Rattle.meaning.specs.declared.line.EventKind.{EventKind}
use Rattle.meaning.specs.declared.line.EventKind.TheVariants.{Space, Printed, Move}
use Rattle.meaning.specs.declared.line.Measure.{Measure}

-- ---- spaces, some after others

pub spaces-after : (sp : Spaces) (a b : ℕ) → spaces_after (spaces_after sp a) b ≡ spaces_after sp (a + b)
unfolding spaces_after
spaces-after sp a b = let e : sp.extra.0 - a - b ≡ sp.extra.0 - (a + b) = omega arith in rw e

spaces-first : (sp : Spaces) (n : ℕ) → spaces_width sp (suc n) ≡ spaces_width sp 1 + spaces_width (spaces_after sp 1) n
unfolding spaces_width spaces_after
spaces-first sp n = omega arith

pub spaces-none : (sp : Spaces) → spaces_width sp 0 ≡ 0
unfolding spaces_width
spaces-none sp = omega arith

-- ---- gluing characters

pub glues-length : (cs : List ℕ) → glues cs ≤ length cs
unfolding glues
glues-length [] = omega arith
glues-length (c ∷ cs) = pick_cases (λ n. n ≤ suc (length cs)) (glue c) (λ _. omega (arith, glues-length cs)) (λ _. omega (arith, glues-length cs))

pub glues_append : (xs ys : List ℕ) → glues (xs ++ ys) ≡ glues xs + glues ys
unfolding glues pick
glues_append [] ys = omega arith
glues_append (c ∷ xs) ys =
    by_test (glue c) (λ e. simp e (omega (arith, glues_append xs ys))) (λ e. simp e (omega (arith, glues_append xs ys)))

-- ---- what is drawn, measured

-- One thing after another.
pub measured_append : (m : Measure) (ds es : List Drawn) → measured m (ds ++ es) ≡ measured (measured m ds) es
unfolding measured
measured_append m [] es = refl
measured_append m (d ∷ ds) es = measured_append (noted d.kind (m.pen.0 + d.width) (m.spaces.0 + d.count) m) ds es

-- Width and count are the pen and the spaces as they once were: they never pass them.
abbrev pub Behind : Measure → Type 0
Behind m = (m.width.0 ≤ m.pen.0) × (m.count.0 ≤ m.spaces.0)

noted-behind : (k : EventKind) (w n : ℕ) (m : Measure) → Behind m → Behind (noted k (m.pen.0 + w) (m.spaces.0 + n) m)
noted-behind Space w n m h = omega arith
noted-behind Printed w n m h = omega arith
noted-behind Move w n m h = omega arith

pub measured-behind : (m : Measure) (ds : List Drawn) → Behind m → Behind (measured m ds)
unfolding measured
measured-behind m [] h = h
measured-behind m (d ∷ ds) h =
    measured-behind (noted d.kind (m.pen.0 + d.width) (m.spaces.0 + d.count) m) ds (noted-behind d.kind d.width d.count m h)

-- Just after a print, with the pen and the spaces counted so.
abbrev pub printed_at : (pen spaces : ℕ) → Measure
printed_at pen spaces =
    record { pen = record { 0 = pen }; spaces = record { 0 = spaces }; width = record { 0 = pen }; count = record { 0 = spaces } }

same_print : {a b c d : ℕ} → a ≡ b → c ≡ d → printed_at a c ≡ printed_at b d
same_print p q = λ i. printed_at (p i) (q i)

-- The characters of a word that do not glue, and those that do.
letters_in : Stretches → ℕ
letters_in (last w) = length w
letters_in (glued w c more) = length w + letters_in more

glues_in : Stretches → ℕ
glues_in (last w) = 0
glues_in (glued w c more) = suc (glues_in more)

stretches-measured : (g : ℕ) (sp : Spaces) (at : ℕ) (w : Stretches) (m : Measure)
    → measured m (drawn_stretches g sp at w)
    ≡ printed_at (m.pen.0 + letters_in w * g + spaces_width sp (glues_in w)) (m.spaces.0 + glues_in w)
unfolding drawn_stretches printed_first measured letters_in glues_in
stretches-measured g sp at (last w) m = same_print (omega (arith, spaces-none sp)) (omega arith)
stretches-measured g sp at (glued [] c more) m =
    stretches-measured g (spaces_after sp 1) (at + size [] + bytes c) more (noted Space (m.pen.0 + spaces_width sp 1) (m.spaces.0 + 1) m)
    ∙ same_print (omega (arith, spaces-first sp (glues_in more))) (omega arith)
stretches-measured g sp at (glued (a ∷ w) c more) m =
    let pen = m.pen.0 + suc (length w) * g in
    let first = noted Printed pen (m.spaces.0 + 0) m in
    stretches-measured g (spaces_after sp 1) (at + size (a ∷ w) + bytes c) more (noted Space (pen + spaces_width sp 1) (m.spaces.0 + 0 + 1) first)
    ∙ same_print (omega (arith, spaces-first sp (glues_in more))) (omega arith)

grown : (c : ℕ) (w : Stretches) → (letters_in (grow c w) ≡ suc (letters_in w)) × (glues_in (grow c w) ≡ glues_in w)
unfolding grow letters_in glues_in
grown c (last w) = (refl, refl)
grown c (glued w g more) = (omega arith, refl)

-- They are those of the word.
stretches-count : (cs : List ℕ) → (glues_in (stretches cs) ≡ glues cs) × (letters_in (stretches cs) + glues cs ≡ length cs)
unfolding stretches glues letters_in glues_in pick
stretches-count [] = (refl, omega arith)
stretches-count (c ∷ cs) =
    let r = stretches-count cs in
    let e = grown c (stretches cs) in
    by_test (glue c) (λ t. simp t (ap suc r.0, omega arith)) (λ t. simp t (e.1 ∙ r.0, omega arith))

-- A word: each character that does not glue takes a glyph, each that does a space. It ends with a print.
pub word-measured : (m : Measure) (g : ℕ) (sp : Spaces) (at : ℕ) (cs : List ℕ)
    → measured m (drawn_word g sp at cs)
    ≡ printed_at (m.pen.0 + (length cs - glues cs) * g + spaces_width sp (glues cs)) (m.spaces.0 + glues cs)
unfolding drawn_word
word-measured m g sp at cs =
    let e = stretches-count cs in
    let l : length cs - glues cs ≡ letters_in (stretches cs) = omega arith in
    rw (l, ← e.0) (stretches-measured g sp at (stretches cs) m)
