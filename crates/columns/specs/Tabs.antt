-- A text whose bytes have no tab has none among its characters: a tab is a byte by itself (Table 3-6).
-- Assumes nothing.
use Rattle.std.specs.Prelude.{ℕ, ◌≡◌, refl, Bool, true, false, ◌||◌, ◌==◌, List, [], ◌∷◌, drop}
use Rattle.std.specs.List.{list_any}
use Rattle.std.proofs.Common.{sym, ap, subst, ◌∙◌}
use Rattle.std.proofs.lemmas.Bool.{false≢true}
use borrow.Author.Tests.{ne_eqb}
use Rattle.basis.specs.Choice.{pick}
use Rattle.basis.specs.Order.{by_eq}
use Rattle.utf8.specs.Encoding.{encode}
use Rattle.utf8.specs.Decoding.{decode_head, decode_all}
use Rattle.utf8.specs.RoundTrip.{encode_decode}
use Rattle.utf8.specs.Walk.{all_more, all_none, along}
use Rattle.utf8.specs.declared.sequence.Decoded.TheVariants.{Char}
use Rattle.widths.specs.TabFree.{has_tab, free-rest}

tab-here : (s : List ℕ) → has_tab (9 ∷ s) ≡ true
unfolding has_tab pick
tab-here s = refl

-- A tab that is read stands there.
tab-read : (s : List ℕ) (n : ℕ) → decode_head s ≡ Char 9 n → has_tab s ≡ true
unfolding encode pick
tab-read s n e =
    let is : s ≡ 9 ∷ drop n s = (encode_decode s 9 n e).2 in
    ap has_tab is ∙ tab-here (drop n s)

no_tab-after : (c : ℕ) (cs : List ℕ) → (c ≡ 9 → ⊥) → has_tab (c ∷ cs) ≡ has_tab cs
unfolding has_tab pick
no_tab-after c cs d = rw (ne_eqb c 9 d)

none_read : has_tab [] ≡ false
unfolding has_tab
none_read = refl

pub no_tab-read : (t : List ℕ) → has_tab t ≡ false → has_tab (decode_all t) ≡ false
no_tab-read =
    along (λ s. has_tab s ≡ false → has_tab (decode_all s) ≡ false) (λ s e _. rw (all_none s e) none_read)
    (λ s c n e rest h.
    rw (all_more s c n e)
    (by_eq c 9 (λ is. absurd (false≢true (sym h ∙ tab-read s n (subst (λ (x : ℕ). decode_head s ≡ Char x n) is e))))
    (λ d. no_tab-after c (decode_all (drop n s)) d ∙ rest (free-rest n s h))))

-- ---- one look over the bytes

pub either : (b more : Bool) → b || more ≡ pick b true more
unfolding pick
either true more = refl
either false more = refl

pub any-tab : (t : List ℕ) → list_any (λ c. c == 9) t ≡ has_tab t
unfolding has_tab
any-tab [] = refl
any-tab (c ∷ cs) = ap (λ (b : Bool). c == 9 || b) (any-tab cs) ∙ either (c == 9) (has_tab cs)
