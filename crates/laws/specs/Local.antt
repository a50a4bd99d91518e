-- What a pass answers depends only on the bytes that it examined (rule 8, rule 12).
-- Assumes nothing.
use Rattle.std.specs.Prelude.{ℕ, ◌+◌, ◌-◌, ◌≤◌, ◌≡◌, refl, Bool, true, false, List, [], ◌∷◌, None, Option, Some}
use Rattle.meaning.specs.declared.counts.Pixels.{Pixels}
use Rattle.std.proofs.Common.{arith, ap, subst, inl, inr}
use Rattle.basis.specs.Choice.{pick, pick_cases}
use Rattle.utf8.specs.Encoding.{size}
use Rattle.meaning.specs.Tokens.{Tok, newLine, carriageReturn, tab, softHyphen, space, word, chars_of, size_of, need_of}
use Rattle.meaning.specs.Cursor.{tab_width}
use Rattle.meaning.specs.SpaceConfig.{spaces_width}
use Rattle.meaning.specs.Lookahead.{Looked, goes_on, next_fits, further, next_width}
use Rattle.meaning.specs.LineIter.{draws_space, when, moved_on, used_up, Step, go, stop, on_space, on_tab, hyphenated, on_break, step, Ran, pass_on, process}
use Rattle.meaning.specs.Words.{drawn}
use Rattle.meaning.specs.Alignment.{plain_spaces}
use Rattle.meaning.specs.Line.{start_place, drawn_line, measuring, line_of}
use Rattle.meaning.specs.declared.settings.Settings.{Settings}
use Rattle.meaning.specs.declared.cursor.LineCursor.{LineCursor}
use Rattle.meaning.specs.declared.cursor.Place.{Place}
use Rattle.meaning.specs.declared.cursor.Spaces.{Spaces}
use Rattle.meaning.specs.declared.line.EventKind.TheVariants.{Space, Move}
use Rattle.laws.specs.Agree.{Agree}

-- A first token that is decided is that of both lists.
pub agree_decided : (P : List Tok → Type 0) (n : ℕ) (t : Tok) (xs ys : List Tok) → Agree n (t ∷ xs) ys → need_of t ≤ n
    → ((zs : List Tok) → size_of t ≤ n → Agree (n - size_of t) xs zs → P (t ∷ zs)) → P ys
agree_decided P n t xs [] a h f = absurd (omega arith)
agree_decided P n t xs (u ∷ ys) (inl l) h f = absurd (omega arith)
agree_decided P n t xs (u ∷ ys) (inr (e, l, a)) h f = subst (λ (v : Tok). P (v ∷ ys)) e (f ys l a)

-- ---- whether the next word fits

goes-far : (b : Bool) (here : ℕ) (r : Looked) → here ≤ (goes_on b here r).reach
unfolding goes_on
goes-far true here r = omega arith
goes-far false here r = omega arith

goes_local : (b : Bool) (here m : ℕ) (q r : Looked) → (r.reach ≤ m → q ≡ r)
    → (goes_on b here r).reach ≤ m → goes_on b here q ≡ goes_on b here r
unfolding goes_on
goes_local true here m q r f h = ap (goes_on true here) (f (omega arith))
goes_local false here m q r f h = refl

-- The first token is examined.
pub fits-far : (g : ℕ) (c : LineCursor) (sp : Spaces) (at : ℕ) (t : Tok) (ts : List Tok) → at + need_of t ≤ (next_fits g c sp at (t ∷ ts)).reach
unfolding next_fits
fits-far g c sp at newLine ts = omega arith
fits-far g c sp at carriageReturn ts = omega arith
fits-far g c sp at tab ts = goes-far _ _ _
fits-far g c sp at softHyphen ts = omega arith
fits-far g c sp at (space cs n e) ts = goes-far _ _ _
fits-far g c sp at (word cs e) ts = omega arith

-- After the first token it is as local as what looks on.
fits_on : (g : ℕ) (c : LineCursor) (sp : Spaces) (at m : ℕ) (t : Tok) (xs ys : List Tok)
    → ((d : LineCursor) (sq : Spaces) → (next_fits g d sq (at + size_of t) xs).reach ≤ m
    → next_fits g d sq (at + size_of t) ys ≡ next_fits g d sq (at + size_of t) xs)
    → (next_fits g c sp at (t ∷ xs)).reach ≤ m → next_fits g c sp at (t ∷ ys) ≡ next_fits g c sp at (t ∷ xs)
unfolding next_fits
fits_on g c sp at m newLine xs ys f h = refl
fits_on g c sp at m carriageReturn xs ys f h = refl
fits_on g c sp at m tab xs ys f h = goes_local _ _ m _ _ (f _ _) h
fits_on g c sp at m softHyphen xs ys f h = refl
fits_on g c sp at m (space cs n e) xs ys f h = goes_local _ _ m _ _ (f _ _) h
fits_on g c sp at m (word cs e) xs ys f h = refl

pub fits_local : (g : ℕ) (c : LineCursor) (sp : Spaces) (at n : ℕ) (xs ys : List Tok) → Agree n xs ys
    → (next_fits g c sp at xs).reach ≤ at + n → next_fits g c sp at ys ≡ next_fits g c sp at xs
unfolding next_fits
fits_local g c sp at n [] ys a h = absurd (omega arith)
fits_local g c sp at n (t ∷ xs) ys a h =
    agree_decided (λ zs. next_fits g c sp at zs ≡ next_fits g c sp at (t ∷ xs)) n t xs ys a (omega (arith, fits-far g c sp at t xs)) (λ zs l b.
    fits_on g c sp at (at + n) t xs zs (λ d sq k. fits_local g d sq (at + size_of t) (n - size_of t) xs zs b (omega arith)) h)

-- ---- the next word's width

pub width-far : (g : ℕ) (w : Option Pixels) (at : ℕ) (t : Tok) (ts : List Tok) → at + need_of t ≤ (next_width g w at (t ∷ ts)).reach
unfolding next_width
width-far g w at newLine ts = omega arith
width-far g w at carriageReturn ts = omega arith
width-far g w at tab ts = omega arith
width-far g w at softHyphen ts = omega arith
width-far g w at (space cs n e) ts = omega arith
width-far g w at (word cs e) ts = omega arith

width-on : (g : ℕ) (w : Option Pixels) (at m : ℕ) (t : Tok) (xs ys : List Tok)
    → ((v : Option Pixels) → (next_width g v (at + size_of t) xs).reach ≤ m → next_width g v (at + size_of t) ys ≡ next_width g v (at + size_of t) xs)
    → (next_width g w at (t ∷ xs)).reach ≤ m → next_width g w at (t ∷ ys) ≡ next_width g w at (t ∷ xs)
unfolding next_width
width-on g w at m newLine xs ys f h = refl
width-on g w at m carriageReturn xs ys f h = refl
width-on g w at m tab xs ys f h = refl
width-on g w at m softHyphen xs ys f h = refl
width-on g w at m (space cs n e) xs ys f h = refl
width-on g w at m (word cs e) xs ys f h = ap (further (at + need_of (word cs e))) (f _ (omega arith))

pub width_local : (g : ℕ) (w : Option Pixels) (at n : ℕ) (xs ys : List Tok) → Agree n xs ys
    → (next_width g w at xs).reach ≤ at + n → next_width g w at ys ≡ next_width g w at xs
unfolding next_width
width_local g w at n [] ys a h = absurd (omega arith)
width_local g w at n (t ∷ xs) ys a h =
    agree_decided (λ zs. next_width g w at zs ≡ next_width g w at (t ∷ xs)) n t xs ys a (omega (arith, width-far g w at t xs)) (λ zs l b.
    width-on g w at (at + n) t xs zs (λ v k. width_local g v (at + size_of t) (n - size_of t) xs zs b (omega arith)) h)

-- ---- a step

-- A choice is as local as each of the two.
pick_local : {X : Type 0} (f : X → ℕ) (m : ℕ) (b : Bool) (x y v w : X) → (f x ≤ m → v ≡ x) → (f y ≤ m → w ≡ y)
    → f (pick b x y) ≤ m → pick b v w ≡ pick b x y
unfolding pick
pick_local f m true x y v w k l h = k h
pick_local f m false x y v w k l h = l h

pub draws_local : (s : Settings) (p : Place) (at n : ℕ) (xs ys : List Tok) → Agree n xs ys
    → (draws_space s p at xs).reach ≤ at + n → draws_space s p at ys ≡ draws_space s p at xs
unfolding draws_space
draws_local s p at n xs ys a h = pick_local (λ (l : Looked). l.reach) (at + n) _ _ _ _ _ (λ k. refl) (fits_local _ _ _ at n xs ys a) h

-- How far a step looked.
abbrev pub looked_of : Step → ℕ
looked_of (go p ds r) = r
looked_of (stop e ds k h d r) = r

-- A space run and a tab look only where they go on.
space_local : (s : Settings) (p : Place) (at : ℕ) (cs : List ℕ) (n m : ℕ) (q r : Looked) → (r.reach ≤ m → q ≡ r)
    → looked_of (on_space s p at cs n r) ≤ m → on_space s p at cs n q ≡ on_space s p at cs n r
unfolding on_space
space_local s p at cs n m q r f h =
    let width = spaces_width p.spaces n in
    let on : Looked → Step = λ l. go (moved_on (used_up p n) width) (drawn Space at (at + size cs) n (when l.fits width) ∷ []) l.reach in
    pick_local looked_of m _ _ _ _ _ (λ k. refl) (pick_local looked_of m _ _ _ _ _ (λ k. ap on (f k)) (λ k. refl)) h

tab_local : (s : Settings) (p : Place) (at m : ℕ) (q r : Looked) → (r.reach ≤ m → q ≡ r)
    → looked_of (on_tab s p at r) ≤ m → on_tab s p at q ≡ on_tab s p at r
unfolding on_tab
tab_local s p at m q r f h =
    let width = tab_width p.cursor in
    let on : Looked → Step = λ l. go (moved_on p width) (drawn (pick l.fits Space Move) at (at + 1) 0 width ∷ []) l.reach in
    pick_local looked_of m _ _ _ _ _ (λ k. refl) (pick_local looked_of m _ _ _ _ _ (λ k. ap on (f k)) (λ k. refl)) h

-- A soft hyphen always has looked.
break_looked : (s : Settings) (p : Place) (at : ℕ) (w : Option Pixels) (r : ℕ) → looked_of (on_break s p at w r) ≡ r
unfolding on_break hyphenated
break_looked s p at None r = refl
break_looked s p at (Some w) r =
    let P : Step → Type 0 = λ x. looked_of x ≡ r in
    pick_cases P _ (λ _. pick_cases P _ (λ _. pick_cases P _ (λ _. refl) (λ _. refl)) (λ _. pick_cases P _ (λ _. refl) (λ _. refl))) (λ _. refl)

pub step_local : (s : Settings) (p : Place) (at n : ℕ) (t : Tok) (xs ys : List Tok) → Agree n xs ys
    → looked_of (step s p at t xs) ≤ at + size_of t + n → step s p at t ys ≡ step s p at t xs
unfolding step
step_local s p at n newLine xs ys a h = refl
step_local s p at n carriageReturn xs ys a h = refl
step_local s p at n tab xs ys a h = tab_local s p at _ _ _ (draws_local _ _ _ n xs ys a) h
step_local s p at n softHyphen xs ys a h =
    let ahead = next_width s.glyph.0 None (at + size_of softHyphen) xs in
    rw (width_local s.glyph.0 None (at + size_of softHyphen) n xs ys a (omega (arith, break_looked s p at ahead.width ahead.reach)))
step_local s p at n (space cs k e) xs ys a h = space_local s p at cs k _ _ _ (draws_local _ _ _ n xs ys a) h
step_local s p at n (word cs e) xs ys a h = refl

-- ---- a pass

-- What follows a step, once the step is the same.
pass_on_lem : (here k m : ℕ) (x : Step) (f g : Place → Ran) → ((q : Place) → (f q).reach ≤ m → g q ≡ f q)
    → (pass_on here k x f).reach ≤ m → pass_on here k x g ≡ pass_on here k x f
pass_on_lem here k m (go q ds r) f g l h = ap (λ (v : Ran). pass_on here k (go q ds r) (λ _. v)) (l q (omega arith))
pass_on_lem here k m (stop e ds c w d r) f g l h = refl

-- A pass examines the token at hand, and what its step looked at.
pass-far : (here k : ℕ) (x : Step) (f : Place → Ran) → (here ≤ (pass_on here k x f).reach) × (looked_of x ≤ (pass_on here k x f).reach)
pass-far here k (go q ds r) f = omega arith
pass-far here k (stop e ds c w d r) f = omega arith

pub process_local : (s : Settings) (p : Place) (at n : ℕ) (xs ys : List Tok) → Agree n xs ys
    → (process s p at xs).reach ≤ at + n → process s p at ys ≡ process s p at xs
unfolding process
process_local s p at n [] ys a h = absurd (omega arith)
process_local s p at n (t ∷ xs) ys a h =
    let far = pass-far (at + need_of t) (chars_of t) (step s p at t xs) (λ q. process s q (at + size_of t) xs) in
    agree_decided (λ zs. process s p at zs ≡ process s p at (t ∷ xs)) n t xs ys a (omega arith) (λ zs l b.
    rw (step_local s p at (n - size_of t) t xs zs b (omega arith))
    (pass_on_lem (at + need_of t) (chars_of t) (at + n) (step s p at t xs) _ _ (λ q k. process_local s q (at + size_of t) (n - size_of t) xs zs b (omega arith)) h))

-- ---- a line

pub line_local : (s : Settings) (xs ys : List Tok) (n : ℕ) → Agree n xs ys → (line_of s xs).reach ≤ n → line_of s ys ≡ line_of s xs
unfolding line_of measuring
line_local s xs ys n a h =
    rw (process_local s (start_place s 0 (plain_spaces s)) 0 n xs ys a (omega arith))
    (ap (drawn_line _ _ _) (process_local s _ 0 n xs ys a (omega arith)))
