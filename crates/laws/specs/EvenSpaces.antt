-- What the spaces of a justified line add up to, and how even they are (rule 5, rule 6).
-- Assumes nothing.
use Rattle.std.specs.Prelude.{ℕ, suc, ◌+◌, ◌-◌, ◌*◌, ◌/◌, ◌%◌, ◌≤◌, ◌<◌, ◌≡◌, refl, false, ◌||◌, List, [], ◌∷◌, eqb}
use Rattle.std.proofs.Common.{sym, ap, ◌∙◌, add-mul, arith, eqb-true}
use Rattle.std.proofs.lemmas.Bool.{false≢true}
use Rattle.std.proofs.Math.Nat.{div-add-mod, mod-lt, add-mul-div_left, add-mul-mod_self_left}
use Rattle.basis.specs.Choice.{pick_cases, by-either}
use Rattle.meaning.specs.SpaceConfig.{spaces_width, spaces_after}
use Rattle.meaning.specs.Alignment.{plain_spaces, ends_paragraph, justified, placed_left, place}
use Rattle.meaning.specs.declared.settings.Settings.{Settings}
use Rattle.meaning.specs.declared.cursor.Spaces.{Spaces}
use Rattle.meaning.specs.declared.line.LineEnd.{LineEnd}
use Rattle.meaning.specs.declared.line.Placed.{Placed}
use Rattle.laws.specs.Measuring.{spaces-after, spaces-none}

-- ---- some after others (rule 5)

-- Some spaces and then some more are as wide as all of them at once.
pub spaces-more : (sp : Spaces) (a b : ℕ) → spaces_width sp (a + b) ≡ spaces_width sp a + spaces_width (spaces_after sp a) b
unfolding spaces_width spaces_after
spaces-more sp a b = omega (arith, add-mul a b sp.width.0)

pub after_none : (sp : Spaces) → spaces_after sp 0 ≡ sp
unfolding spaces_after
after_none sp = let e : sp.extra.0 - 0 ≡ sp.extra.0 = omega arith in rw e

-- Groups of spaces that are used up one after the other: how many they are, how wide, and what is left of the extra pixels.
unfoldable pub in_groups : List ℕ → ℕ
in_groups [] = 0
in_groups (n ∷ ns) = n + in_groups ns

unfoldable pub groups_width : Spaces → List ℕ → ℕ
groups_width sp [] = 0
groups_width sp (n ∷ ns) = spaces_width sp n + groups_width (spaces_after sp n) ns

unfoldable pub groups_after : Spaces → List ℕ → Spaces
groups_after sp [] = sp
groups_after sp (n ∷ ns) = groups_after (spaces_after sp n) ns

-- The grouping makes no difference.
pub any_grouping : (sp : Spaces) (ns : List ℕ) → groups_width sp ns ≡ spaces_width sp (in_groups ns)
unfolding groups_width in_groups
any_grouping sp [] = sym (spaces-none sp)
any_grouping sp (n ∷ ns) = omega (arith, any_grouping (spaces_after sp n) ns, spaces-more sp n (in_groups ns))

pub any_grouping_after : (sp : Spaces) (ns : List ℕ) → groups_after sp ns ≡ spaces_after sp (in_groups ns)
unfolding groups_after in_groups
any_grouping_after sp [] = sym (after_none sp)
any_grouping_after sp (n ∷ ns) = any_grouping_after (spaces_after sp n) ns ∙ spaces-after sp n (in_groups ns)

-- ---- single spaces

-- The width of one space after k others.
unfoldable pub single_after : Spaces → (k : ℕ) → ℕ
single_after sp k = spaces_width (spaces_after sp k) 1

-- The first ones, as many as there are extra pixels, are a pixel wider; the others are as wide as the space width says.
pub single-first : (sp : Spaces) (k : ℕ) → k < sp.extra.0 → single_after sp k ≡ suc sp.width.0
unfolding single_after spaces_width spaces_after
single-first sp k h = omega arith

pub single-later : (sp : Spaces) (k : ℕ) → sp.extra.0 ≤ k → single_after sp k ≡ sp.width.0
unfolding single_after spaces_width spaces_after
single-later sp k h = omega arith

-- Any two differ by at most a pixel.
pub single-even : (sp : Spaces) (i j : ℕ) → single_after sp i ≤ single_after sp j + 1
unfolding single_after spaces_width spaces_after
single-even sp i j = omega arith

-- Wider ones come first.
pub single_falls : (sp : Spaces) (i j : ℕ) → i ≤ j → single_after sp j ≤ single_after sp i
unfolding single_after spaces_width spaces_after
single_falls sp i j h = omega arith

-- ---- what rule 6 shares out

-- Rule 6 justifies a line that ended so and counted n spaces.
pub record Justifies (s : Settings) (ended : LineEnd) (n : ℕ) : Type 0 where
  pub alignment : 3 ≤ s.alignment
  pub goes_on_lem : ends_paragraph ended ≡ false
  pub counted : 1 ≤ n

module _ (s : Settings) (room n : ℕ) (some : 1 ≤ n) where
  -- So many plain spaces and the room.
  pub shared_out : spaces_width (justified s room n) n ≡ n * s.glyph.0 + room
  unfolding spaces_width justified
  shared_out =
      let total = room + n * s.glyph.0 in
      omega (arith, div-add-mod total n, mod-lt total some)

  -- Fewer spaces have an extra pixel than there are spaces.
  pub fewer-extra : (justified s room n).extra.0 < n
  unfolding justified
  fewer-extra = mod-lt (room + n * s.glyph.0) some

  -- A glyph and the room's share each, and a pixel more for as many as the room leaves over.
  pub share_width : (justified s room n).width.0 ≡ s.glyph.0 + room / n
  unfolding justified
  share_width = omega (arith, add-mul-div_left room s.glyph.0 some)

  pub share_extra : (justified s room n).extra.0 ≡ room % n
  unfolding justified
  share_extra = add-mul-mod_self_left room n s.glyph.0

  -- What the spaces are wider than plain ones is the room.
  pub room_shared : n * ((justified s room n).width.0 - s.glyph.0) + (justified s room n).extra.0 ≡ room
  room_shared =
      let e : (justified s room n).width.0 - s.glyph.0 ≡ room / n = omega (arith, share_width) in
      rw (e, share_extra) (div-add-mod room n)

  -- In any grouping of exactly so many.
  pub groups_shared_out : (ns : List ℕ) → in_groups ns ≡ n → groups_width (justified s room n) ns ≡ n * s.glyph.0 + room
  groups_shared_out ns e = any_grouping (justified s room n) ns ∙ ap (λ (k : ℕ). spaces_width (justified s room n) k) e ∙ shared_out

-- Where rule 6 justifies, the line starts at the box's left, and its spaces are these.
pub place-justified : (s : Settings) (ended : LineEnd) (width n : ℕ) → Justifies s ended n
    → place s ended width n ≡ placed_left 0 (justified s (s.width.0 - width) n)
unfolding place
place-justified s ended width n h =
    let r = placed_left 0 (justified s (s.width.0 - width) n) in
    let P : Placed → Type 0 = λ (p : Placed). p ≡ r in
    pick_cases P (eqb s.alignment 0) (λ e. absurd (omega (arith, h.alignment, eqb-true s.alignment 0 e))) λ _.
    pick_cases P (eqb s.alignment 1) (λ e. absurd (omega (arith, h.alignment, eqb-true s.alignment 1 e))) λ _.
    pick_cases P (eqb s.alignment 2) (λ e. absurd (omega (arith, h.alignment, eqb-true s.alignment 2 e))) λ _.
    pick_cases P (ends_paragraph ended || eqb n 0)
    (λ e. by-either (ends_paragraph ended) (eqb n 0) e (λ t. absurd (false≢true (sym h.goes_on_lem ∙ t))) (λ t. absurd (omega (arith, h.counted, eqb-true n 0 t))))
    (λ _. refl)

plain-many : (s : Settings) (n : ℕ) → spaces_width (plain_spaces s) n ≡ n * s.glyph.0
unfolding spaces_width plain_spaces
plain-many s n = omega arith

-- The spaces of a justified line, used up in any grouping of exactly the counted ones: so many plain spaces, and the room that was left.
pub justified-spaces : (s : Settings) (ended : LineEnd) (width n : ℕ) → Justifies s ended n → (ns : List ℕ) → in_groups ns ≡ n
    → groups_width (place s ended width n).spaces ns ≡ spaces_width (plain_spaces s) n + (s.width.0 - width)
justified-spaces s ended width n h ns e =
    ap (λ (p : Placed). groups_width p.spaces ns) (place-justified s ended width n h)
    ∙ groups_shared_out s (s.width.0 - width) n h.counted ns e
    ∙ ap (λ (k : ℕ). k + (s.width.0 - width)) (sym (plain-many s n))
