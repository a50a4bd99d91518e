-- What a caller can compute of a line's spaces from its entry in the table: rule 6 read backwards (rule 6, rule 12).
-- Assumes nothing.
use Rattle.std.specs.Prelude.{ℕ, ◌+◌, ◌-◌, ◌*◌, ◌/◌, ◌≤◌, ◌<◌, ◌≡◌, refl, ◌||◌, ◌⊎◌, List, eqb}
use Rattle.std.proofs.Common.{sym, ap, ◌∙◌, inl, inr, arith}
use Rattle.std.proofs.lemmas.Bool.{false≢true, eqb-false}
use Rattle.std.proofs.Math.Nat.{mul-div_left}
use Rattle.basis.specs.Choice.{pick_cases, by_test, either_second}
use Rattle.meaning.specs.Alignment.{plain_spaces, ends_paragraph, justified, place}
use Rattle.meaning.specs.LineIter.{Held}
use Rattle.meaning.specs.Line.{unmeasured, measured, line_tokens, measuring, placing, line_of, lay_line, entry_at}
use Rattle.meaning.specs.Layout.{layout}
use Rattle.meaning.specs.declared.settings.Settings.{Settings}
use Rattle.meaning.specs.declared.line.LineEnd.{LineEnd}
use Rattle.meaning.specs.declared.line.Placed.{Placed}
use Rattle.meaning.specs.declared.line.Entry.{Entry}
use Rattle.laws.specs.RowInduction.{Each, each_line}
use Rattle.laws.specs.EvenSpaces.{fewer-extra, share_width, room_shared}

-- These spaces share out a room among `among` spaces of a glyph each.
pub record SharedOut (s : Settings) (room : ℕ) (space extra : ℕ) : Type 0 where
  pub among : ℕ
  -- fewer spaces have a pixel more than there are
  pub fewer : extra < among
  -- none is narrower than a glyph
  pub wide : s.glyph.0 ≤ space
  -- what they are wider than glyphs is the room
  pub all : among * (space - s.glyph.0) + extra ≡ room

-- Plain spaces, or the line's room shared out.
abbrev pub SpacesSaid : Settings → (room space extra : ℕ) → Type 0
SpacesSaid s room space extra = ((space ≡ s.glyph.0) × (extra ≡ 0)) ⊎ SharedOut s room space extra

-- ---- where a line is placed

said_plain : (s : Settings) (room : ℕ) → SpacesSaid s room (plain_spaces s).width.0 (plain_spaces s).extra.0
unfolding plain_spaces
said_plain s room = inl (refl, refl)

said-justified : (s : Settings) (room n : ℕ) → 1 ≤ n → SpacesSaid s room (justified s room n).width.0 (justified s room n).extra.0
said-justified s room n h =
    inr (record { among = n; fewer = fewer-extra s room n h; wide = omega (arith, share_width s room n h); all = room_shared s room n h })

place-said : (s : Settings) (ended : LineEnd) (width n : ℕ)
    → SpacesSaid s (s.width.0 - width) (place s ended width n).spaces.width.0 (place s ended width n).spaces.extra.0
unfolding place
place-said s ended width n =
    let room = s.width.0 - width in
    let P : Placed → Type 0 = λ (p : Placed). SpacesSaid s room p.spaces.width.0 p.spaces.extra.0 in
    pick_cases P (eqb s.alignment 0) (λ _. said_plain s room) λ _.
    pick_cases P (eqb s.alignment 1) (λ _. said_plain s room) λ _.
    pick_cases P (eqb s.alignment 2) (λ _. said_plain s room) λ _.
    pick_cases P (ends_paragraph ended || eqb n 0) (λ _. said_plain s room) λ e.
    said-justified s room n
    (by_test (eqb n 0) (λ z. absurd (false≢true (sym e ∙ either_second (ends_paragraph ended) (eqb n 0) z))) (λ z. omega (arith, eqb-false n 0 z)))

-- ---- the table

-- What an entry says of its line's spaces, the room being the box less the line's width.
abbrev pub EntrySaid : Settings → Entry → Type 0
EntrySaid s e = SpacesSaid s (s.width.0 - e.width.0) e.space.0 e.extra.0

line-said : (s : Settings) (start before : ℕ) (h : Held) (cs : List ℕ) → EntrySaid s (entry_at start before h cs (lay_line s h cs))
unfolding entry_at lay_line line_of placing
line-said s start before h cs =
    let r = measuring s (line_tokens h cs) in
    let m = measured unmeasured r.drawn in
    place-said s r.ended m.width.0 m.count.0

-- In every line of a layout spaces are plain, or share out the line's room.
pub table-spaces : (s : Settings) (cs : List ℕ) → Each (EntrySaid s) (layout s cs)
table-spaces s = each_line s (EntrySaid s) (line-said s)

module _ (s : Settings) (room space extra : ℕ) where
  -- So no space is narrower than a glyph.
  pub least_space : SpacesSaid s room space extra → s.glyph.0 ≤ space
  least_space (inl h) = omega (arith, h.0)
  least_space (inr h) = h.wide

  -- Where spaces are wider than a glyph, a caller can compute among how many the room was shared out.
  pub count-told : (h : SharedOut s room space extra) → s.glyph.0 < space → (room - extra) / (space - s.glyph.0) ≡ h.among
  count-told h f =
      let more = space - s.glyph.0 in
      let e : room - extra ≡ h.among * more = omega (arith, h.all) in
      ap (λ (x : ℕ). x / more) e ∙ mul-div_left h.among (omega arith)

  -- Where they are as wide as one, each pixel of the room goes to a space of its own.
  pub extra-told : SharedOut s room space extra → space ≡ s.glyph.0 → extra ≡ room
  extra-told h f =
      let none : space - s.glyph.0 ≡ 0 = omega arith in
      omega (arith, h.all, ap (λ (x : ℕ). h.among * x) none)
