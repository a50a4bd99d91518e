-- The first affected line of an edit: there is one, and the lines before it are those of the new text (laying again).
-- Assumes nothing.
use Rattle.std.specs.Prelude.{ℕ, zero, suc, ◌+◌, ◌≤◌, ◌<◌, ◌≡◌, refl, true, leb, take, drop}
use Rattle.std.proofs.Common.{not-suc-le-zero, arith, sym, ◌∙◌, length-append, length-drop, take-append-drop, le-leb}
use Rattle.std.proofs.Math.Path.{ap}
use mathlib.Core.List.{List, [], ◌∷◌, ◌++◌, map, append_assoc}
use Rattle.std.proofs.Math.ListN.{length}
use Rattle.std.proofs.Math.Seq.{take-append_seam, drop-append-le}
use Rattle.std.proofs.lemmas.List.{take-append-le}
use Rattle.std.proofs.lemmas.Bool.{lt-leb}
use Rattle.basis.specs.Choice.{pick, by_test}
use Rattle.basis.specs.Order.{by_le}
use Rattle.utf8.specs.Encoding.{size}
use Rattle.utf8.specs.Sizes.{size_append}
use Rattle.meaning.specs.LineIter.{Held, nothing_held}
use Rattle.meaning.specs.Line.{lay_line, entry_at}
use Rattle.meaning.specs.Layout.{Row, row_at, unless_ended, rows_by, rows, layout, entry_of_row}
use Rattle.meaning.specs.Edit.{unaffected, affected, rest_fits, held_of}
use Rattle.meaning.specs.declared.settings.Settings.{Settings}
use Rattle.meaning.specs.declared.line.LineEnd.TheVariants.{EndOfText}
use Rattle.meaning.specs.declared.line.Entry.{Entry}
use Rattle.laws.specs.LineLocal.{take_local, size-within, lay_local, row_local}
use Rattle.laws.specs.LineBounds.{line-chars, line-held, line-takes, line-reach-low, line-end}
use Rattle.laws.specs.Rests.{held_of_lem, rest-fits}
use Rattle.laws.specs.Stands.{Stand, first-stand, stand-on, stand-size, unless_both}

-- The lines before the first affected one, and those from it on, are all.
pub affected_split : (a : ℕ) (es : List Entry) → unaffected a es ++ affected a es ≡ es
unfolding affected unaffected pick
affected_split a [] = refl
affected_split a (e ∷ es) =
    by_test (leb e.reach.0 a) (λ t. rw t (ap (◌∷◌ e) (affected_split a es))) (λ t. rw t)

-- The lines before it are the first ones.
pub begins : (u v l : List Entry) → l ≡ u ++ v → take (length u) l ≡ u
begins u v l e = rw e (take-append_seam u v)

pub unaffected-old : (a : ℕ) (es : List Entry) → take (length (unaffected a es)) es ≡ unaffected a es
unaffected-old a es = begins (unaffected a es) (affected a es) es (sym (affected_split a es))

module _ (s : Settings) (pre x y : List ℕ) where
  -- Of old and new lines, where the texts are pre ++ x and pre ++ y: the old ones have a first affected line, which starts within
  -- pre, and the new ones are the same before it, and from it on those that are laid from what it says.
  pub record First (old new : List Entry) : Type 0 where
    pub entry : Entry
    pub more : List Entry
    pub part : List ℕ
    pub fuel : ℕ
    pub found : affected (size pre) old ≡ entry ∷ more
    pub before : entry.start.0 ≤ size pre
    pub stands : Stand (pre ++ y) entry.start.0 (held_of entry part) part
    pub fits : rest_fits entry part ≡ true
    pub enough : length part < fuel
    pub new_is : new ≡ unaffected (size pre) old ++ map entry_of_row (rows_by fuel s entry.start.0 entry.before.0 (held_of entry part) part)

  -- A line that is not affected, before both.
  skip : (e : Entry) (old new : List Entry) → e.reach.0 ≤ size pre → First old new → First (e ∷ old) (e ∷ new)
  unfolding affected unaffected pick
  skip e old new b f =
      record {
        entry = f.entry;
        more = f.more;
        part = f.part;
        fuel = f.fuel;
        found = rw (le-leb _ _ b) f.found;
        before = f.before;
        stands = f.stands;
        fits = f.fits;
        enough = f.enough;
        new_is = rw (le-leb _ _ b) (ap (◌∷◌ e) f.new_is);
      }

  -- The rows after the first line of p ++ x, where the text behind p is z.
  abbrev following : ℕ → (start before : ℕ) → Held → (p z : List ℕ) → List Row
  following n start before h p z =
      let l = lay_line s h (p ++ x) in
      rows_by n s (start + size (take l.chars (p ++ x))) (before + l.chars) l.held (drop l.chars p ++ z)

  module _ (start before : ℕ) (h : Held) (p : List ℕ) (at : Stand pre start h p) where
    -- An affected line: the first one is here.
    here : size pre < start + (lay_line s h (p ++ x)).reach → (n m : ℕ) → length (p ++ y) < m
        → First (map entry_of_row (rows_by (suc n) s start before h (p ++ x))) (map entry_of_row (rows_by m s start before h (p ++ y)))
    unfolding affected unaffected pick rows_by row_at entry_at
    here b n m c =
        let l = lay_line s h (p ++ x) in
        let e = held_of_lem start before h p x y l at.chars at.count in
        record {
          entry = entry_at start before h (p ++ x) l;
          more =
              map entry_of_row
              (unless_ended l.ended (rows_by n s (start + size (take l.chars (p ++ x))) (before + l.chars) l.held (drop l.chars (p ++ x))));
          part = p ++ y;
          fuel = m;
          found = rw (lt-leb _ _ b);
          before = omega (arith, ap size at.is, size_append at.front p);
          stands = rw e (stand-on pre start h p y at);
          fits = rest-fits start before h p x y l at.chars at.count;
          enough = c;
          new_is = rw (lt-leb _ _ b, e);
        }

    -- A line that is not affected: only characters of pre were examined for it, so that it is the same in both texts. It ends
    -- neither, and the next line starts within pre too.
    module _ (near : start + (lay_line s h (p ++ x)).reach ≤ size pre) where
      within : (lay_line s h (p ++ x)).reach ≤ size p
      within = omega (arith, stand-size pre start h p at)

      inside : (lay_line s h (p ++ x)).chars + (lay_line s h (p ++ x)).held.chars ≤ length p
      inside =
          let l = lay_line s h (p ++ x) in
          let k = (stand-on pre start h p x at).chars in
          size-within (l.chars + l.held.chars) p x (line-chars s h (p ++ x) k at.count)
          (omega (arith, line-reach-low s h (p ++ x) k at.count, within))

      goes_on_lem : (lay_line s h (p ++ x)).ended ≡ EndOfText → ⊥
      goes_on_lem e = omega (arith, (line-end s h (p ++ x) (stand-on pre start h p x at).chars at.count e).2, size_append p x, within)

      next : Stand pre (start + size (take (lay_line s h (p ++ x)).chars (p ++ x))) (lay_line s h (p ++ x)).held
          (drop (lay_line s h (p ++ x)).chars p)
      next =
          let k = (lay_line s h (p ++ x)).chars in
          let b : k ≤ length p = omega (arith, inside) in
          record {
            front = at.front ++ take k p;
            is = at.is ∙ rw (append_assoc, take-append-drop);
            at = rw (take-append-le k p x b) (omega (arith, at.at, size_append at.front (take k p)));
            chars = rw length-drop (omega (arith, inside));
            count = line-held s h (p ++ x) (stand-on pre start h p x at).chars at.count;
          }

      old-more : (n : ℕ) → rows_by (suc n) s start before h (p ++ x) ≡ row_at start before h (p ++ x) (lay_line s h (p ++ x))
          ∷ unless_ended (lay_line s h (p ++ x)).ended (following n start before h p x)
      unfolding rows_by
      old-more n = rw (drop-append-le (lay_line s h (p ++ x)).chars p x (omega (arith, inside)))

      new-more : (n : ℕ) → rows_by (suc n) s start before h (p ++ y) ≡ row_at start before h (p ++ x) (lay_line s h (p ++ x))
          ∷ unless_ended (lay_line s h (p ++ x)).ended (following n start before h p y)
      unfolding rows_by
      new-more n =
          let k = (lay_line s h (p ++ x)).chars in
          let b : k ≤ length p = omega (arith, inside) in
          rw
          (row_local s h p x y within start before at.chars, lay_local s h p x y within, take_local k p x y b, drop-append-le k p y b)

      later : (n m : ℕ)
          → First (map entry_of_row (following n start before h p x)) (map entry_of_row (following m start before h p y))
          → First (map entry_of_row (rows_by (suc n) s start before h (p ++ x))) (map entry_of_row (rows_by (suc m) s start before h (p ++ y)))
      unfolding row_at entry_at
      later n m f =
          let l = lay_line s h (p ++ x) in
          let r = row_at start before h (p ++ x) l in
          rw (old-more n, new-more m)
          (unless_both (λ xs ys. First (map entry_of_row (r ∷ xs)) (map entry_of_row (r ∷ ys))) l.ended (following n start before h p x)
          (following m start before h p y) (λ e. absurd (goes_on_lem e))
          (λ d. skip r.entry (map entry_of_row (following n start before h p x)) (map entry_of_row (following m start before h p y)) near f))

      fewer : (z : List ℕ) (n : ℕ) → length (p ++ z) < suc n → length (drop (lay_line s h (p ++ x)).chars p ++ z) < n
      fewer z n b =
          let t = line-takes s h (p ++ x) (stand-on pre start h p x at).chars at.count goes_on_lem in
          rw (length-append, length-drop) (omega (arith, length-append p z, inside))

  pub first_by : (n m start before : ℕ) (h : Held) (p : List ℕ) → Stand pre start h p → length (p ++ x) < n → length (p ++ y) < m
      → First (map entry_of_row (rows_by n s start before h (p ++ x))) (map entry_of_row (rows_by m s start before h (p ++ y)))
  first_by zero m start before h p at b c = absurd (not-suc-le-zero b)
  first_by (suc n) zero start before h p at b c = absurd (not-suc-le-zero c)
  first_by (suc n) (suc m) start before h p at b c =
      let l = lay_line s h (p ++ x) in
      by_le (start + l.reach) (size pre)
      (λ near.
      later start before h p at near n m
      (first_by n m (start + size (take l.chars (p ++ x))) (before + l.chars) l.held (drop l.chars p) (next start before h p at near)
      (fewer start before h p at near x n b) (fewer start before h p at near y m c)))
      (λ far. here start before h p at far n (suc m) c)

  pub layout-first : First (layout s (pre ++ x)) (layout s (pre ++ y))
  unfolding layout rows
  layout-first =
      first_by (suc (length (pre ++ x))) (suc (length (pre ++ y))) 0 0 nothing_held pre (first-stand pre) (omega arith) (omega arith)
