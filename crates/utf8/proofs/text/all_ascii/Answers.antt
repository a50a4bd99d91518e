-- `utf8::text::all_ascii` meets its contract (refusal 4, refusal 6).
use Rattle.std.proofs.Common.{rules, arith, ◌≤◌, length, length-take, length-drop, ℕ, ◌≡◌, ◌+◌, ◌-◌, ◌<◌, ◌&&◌, ◌∙◌, sym, ap, List, [], ◌∷◌, ◌++◌, Bool, take, drop, get_or, true}
use Rattle.std.specs.List.{All}
use Rattle.std.proofs.lemmas.List.{get_or-drop, get_or-take}
use Rattle.std.proofs.lemmas.List.Elements.{All-append}
use Rattle.std.proofs.lemmas.Fn.{fronts, fold_over, slice_gives}
use lib.Dec.{ltb}
use borrow.Author.Tests.{ltb-true}
use Rattle.basis.specs.Choice.{and_true}
use Rattle.utf8.specs.Ascii.{Below}
use Rattle.utf8.proofs.text.all_ascii.Goals as goal

below-all : (t : List ℕ) (from to : ℕ) → from ≤ to → to ≤ length t → All (λ b. b < 0x80) (take (to - from) (drop from t)) → Below t from to
below-all t from to h l all i low high =
    let at : from + (i - from) ≡ i = omega arith in
    let is : get_or (take (to - from) (drop from t)) (i - from) 0 ≡ get_or t i 0
    = get_or-take (to - from) (drop from t) (i - from) 0 (omega arith) ∙ get_or-drop from t (i - from) 0 ∙ ap (λ (k : ℕ). get_or t k 0) at in
    omega (arith, all (i - from) 0 (omega (arith, length-take {A = ℕ}, length-drop {A = ℕ})))

all-more : (ys : List ℕ) (a b : Bool) (x : ℕ) → (a ≡ true → All (λ y. y < 0x80) ys) → b ≡ (a && ltb x 0x80) → b ≡ true → All (λ y. y < 0x80) (ys ++ (x ∷ []))
all-more ys a b x h q e =
    let both = and_true a (ltb x 0x80) (sym q ∙ e) in
    All-append (λ y. y < 0x80) ys (x ∷ []) (h both.0) (λ k d l. let z : k ≡ 0 = omega arith in rw z (ltb-true x 0x80 both.1))

pub returns : goal.returns
returns c =
    λ e. below-all c.args.text.now c.args.from c.args.to c.requires.0 c.requires.1
    (rw (← c.iter.ensures.rest) (fold_over fronts _ _ (λ (ys : List ℕ) (a : Bool). a ≡ true → All (λ b. b < 0x80) ys) _ (λ ys a x b f' h k. (all-more ys a b x.now h (search rules), search rules)) c.iter.result _ _ _ (slice_gives c.iter.result) (λ _ k d l. absurd (omega arith)) c.fold.ensures.ran e))
