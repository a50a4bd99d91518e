-- The long text or the short one: which it is, and what is handed back of it and left out (rule 10).
-- Assumes nothing.
use Rattle.std.specs.Prelude.{ℕ, ◌≤◌, ◌<◌, ◌≡◌, true, List, ◌∷◌, ◌++◌, take, drop, Ok}
use Rattle.meaning.specs.declared.answers.Chosen.TheVariants as chosen
use Rattle.meaning.specs.declared.answers.Chosen.{Chosen}
use Rattle.std.proofs.Math.Path.{sym}
use Rattle.std.proofs.Common.{ap, ◌∙◌, arith, le-leb, take-append-drop, length-take-le}
use Rattle.std.proofs.Math.Nat.{mul-one, zero-mul, zero-add}
use Rattle.std.proofs.lemmas.Bool.{lt-leb}
use Rattle.std.proofs.Math.ListN.{length}
use Rattle.basis.specs.Choice.{pick}
use Rattle.basis.specs.Order.{by_le}
use Rattle.utf8.specs.Decoding.{decode_all}
use Rattle.utf8.specs.Places.{boundary}
use Rattle.meaning.specs.Checks.{check_utf8}
use Rattle.meaning.specs.Layout.{layout}
use Rattle.meaning.specs.Edit.{chars_in}
use Rattle.meaning.specs.Frames.{onward}
use Rattle.meaning.specs.Pages.{end_before, within_lines, taken_bytes, left_out, pages_of}
use Rattle.meaning.specs.PageCalls.{chosen_part, chosen_of}
use Rattle.meaning.specs.declared.settings.Settings.{Settings}
use Rattle.laws.specs.Between.{chars-here}
use Rattle.laws.specs.PageBoundaries.{taken-boundary}
use Rattle.laws.specs.PageLaws.{PageSaid}
use Rattle.laws.specs.PageStretches.{joined, layout-starts, layout-before}
use Rattle.laws.specs.PartChars.{cut-within, chars-before}
use Rattle.laws.specs.WellFormedLayout.{layout-length}

-- ---- which of the two

module _ (s : Settings) (h : ℕ) (long short : List ℕ) where
  abbrev lines : ℕ
  lines = length (layout s (decode_all long))

  -- The long text, and all of it, where its layout has at most h lines.
  pub long-chosen : lines ≤ h → (chosen_of s h long short ≡ chosen.Long (length long)) × (chosen_part s h long short ≡ long)
  unfolding chosen_of chosen_part within_lines pick
  long-chosen p = (rw (le-leb lines h p), rw (le-leb lines h p))

  -- Elsewhere the short one.
  pub short-chosen : h < lines → (chosen_of s h long short ≡ chosen.Short (taken_bytes s h (decode_all short)) (left_out s h (decode_all short)))
      × (chosen_part s h long short ≡ take (taken_bytes s h (decode_all short)) short)
  unfolding chosen_of chosen_part within_lines pick
  short-chosen p = (rw (lt-leb lines h p), rw (lt-leb lines h p))

  -- So where the long one is chosen, its layout has at most h lines, and where the short one is, more.
  pub long-within : (n : ℕ) → chosen_of s h long short ≡ chosen.Long n → lines ≤ h
  long-within n e = by_le lines h (λ p. p) (λ q. let d = (short-chosen q).0 in absurd (let z : ◌≡◌ {A = ℕ} 0 1 = cc in omega arith))

  pub short-beyond : (n k : ℕ) → chosen_of s h long short ≡ chosen.Short n k → h < lines
  short-beyond n k e = by_le lines h (λ p. let d = (long-chosen p).0 in absurd (let z : ◌≡◌ {A = ℕ} 0 1 = cc in omega arith)) (λ q. q)

-- ---- what the first h lines take

module _ (s : Settings) (h : ℕ) (cs : List ℕ) where
  -- Their stretches, a line a page, join to what is taken.
  pub lines_join : (t : List ℕ) → joined t (take h (pages_of 1 (layout s cs))) ≡ take (taken_bytes s h cs) t
  unfolding taken_bytes
  lines_join t = layout-before s 1 (omega arith) cs t h ∙ rw mul-one

  -- It is the first page of h lines.
  pub first-page : (p : PageSaid h 0 (layout s cs)) → (p.page.start.0 ≡ 0) × (p.page.end.0 ≡ taken_bytes s h cs)
  unfolding taken_bytes end_before
  first-page p =
      let all : layout s cs ≡ p.line ∷ p.more = rw zero-mul at p.lines in
      (rw p.start (rw all at (layout-starts s cs)), p.end ∙ rw (zero-mul, zero-add, layout-length s cs))

module _ (s : Settings) (h : ℕ) (short : List ℕ) (good : check_utf8 short ≡ Ok tt) where
  abbrev taken : ℕ
  taken = taken_bytes s h (decode_all short)

  at : boundary (decode_all short) taken ≡ true
  at = taken-boundary s (decode_all short) h

  pub taken-within : taken ≤ length short
  taken-within = cut-within short good taken at

  -- The characters of the text are those of the part and those after it, which are left out.
  pub taken-chars : decode_all short ≡ decode_all (take taken short) ++ decode_all (drop taken short)
  unfolding onward
  taken-chars =
      rw (chars-before short good taken at, chars-here short good taken at) (sym (take-append-drop (chars_in (decode_all short) taken) (decode_all short)))

  pub left_out_lem : left_out s h (decode_all short) ≡ length (decode_all (drop taken short))
  unfolding left_out
  left_out_lem = sym (ap length (chars-here short good taken at))

-- How many bytes an answer says the part has.
abbrev pub bytes_of : Chosen → ℕ
bytes_of (chosen.Long n) = n
bytes_of (chosen.Short n k) = n

-- The part is so long.
pub part_length : (s : Settings) (h : ℕ) (long short : List ℕ) → check_utf8 short ≡ Ok tt
    → length (chosen_part s h long short) ≡ bytes_of (chosen_of s h long short)
part_length s h long short good =
    by_le (length (layout s (decode_all long))) h
    (λ p. let c = long-chosen s h long short p in rw (c.0, c.1))
    (λ q. let c = short-chosen s h long short q in rw (c.0, c.1) (length-take-le _ short (taken-within s h short good)))
