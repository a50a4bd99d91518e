-- What is left of a word that is wider than the box: its first part is the line at its offset (rule 8, rule 10).
-- Assumes nothing.
use mathlib.Core.Path.{◌≡◌, refl, sym, ap}
use mathlib.Core.List.{List}
use Prim.Native.Nat.{ℕ, ◌-◌, ◌*◌, ◌/◌, ◌≤◌, ◌<◌}
use native.Mathlib.Omega.{arith}
use Rattle.meaning.specs.declared.settings.Settings.{Settings}
use Rattle.meaning.specs.declared.line.LineEnd.TheVariants.{LineBreak}
use Rattle.meaning.specs.declared.line.Measure.{Measure}
use Rattle.laws.specs.Measuring.{printed_at}
use Rattle.parser.specs.Lexing.{chars_from, part_of}
use Rattle.parser.specs.NextLaws.{next}
use Rattle.parser.specs.Shorter.{Between}
use Rattle.parser.specs.declared.lexeme.Lexeme.{Lexeme}
use Rattle.parser.specs.declared.part.Part.{Part}
use Rattle.steps.specs.Stopping.{ends_before}
use Rattle.steps.specs.Unrolled.{nothing_resumed}
use Rattle.steps.specs.declared.step.Ended.{Ended}
use Rattle.placing.specs.LayLaws.{laid-alike}
use Rattle.placing.specs.Laying.{LineReady}
use Rattle.placing.specs.LeftWords.{LeftWord}
use Rattle.placing.specs.LeftWordLaws.{ReadWord, left-read, left-on, left-inside}
use Rattle.placing.specs.LineFrom.{line_from}
use Rattle.placing.specs.Plain.{found_line_at, FoundRow}
use Rattle.placing.proofs.CutLaws.{cut-alike, cut-taken}
use Rattle.placing.proofs.FoundLaws.{ended_formed}

module _ (t : List ℕ) (at most to end left gluing reach : ℕ) (w : LeftWord t at end left gluing reach) (some : 1 ≤ most) (long : most < left)
    (b : Between t at to most)
  where
    abbrev x : Lexeme
    x = (left-read t at end left gluing reach w (omega arith)).lexeme

    abbrev known : ReadWord t at end left gluing reach
    known = left-read t at end left gluing reach w (omega arith)

    abbrev part : Part
    part = part_of at most (chars_from t at)

    pub part_left : LeftWord t to end (left - most) gluing reach
    part_left = left-on t at end left gluing reach w to most (omega arith) b

    module _ {s : Settings} (h : LineReady s t at nothing_resumed) (is : most ≡ s.width.0 / s.glyph.0) where
      abbrev m : Measure
      m = printed_at (most * s.glyph.0) part.glues.0

      abbrev ended : Ended
      ended = ends_before LineBreak m part.end.0 0 x.reach.0

      cut-laid : s.alignment ≤ 2 → (before : ℕ) → found_line_at s at before most to most reach ≡ line_from s t at before nothing_resumed
      unfolding ends_before part_of
      cut-laid plain before =
          let more : most < x.chars.0 = omega (arith, known.chars-is) in
          let read = known.read in
          let kind = known.kind in
          laid-alike h refl ended (cut-alike h x read kind is (λ z. omega arith) more refl m ended refl refl) before most
          (cut-taken h x read kind is (λ z. omega arith) more refl m ended refl) (found_line_at s at before most to most reach)
          (ended_formed s plain LineBreak at before most to most reach ended refl (ap (λ (n : ℕ). record { 0 = n }) (sym b.ends)) refl refl known.reach-is refl)

    pub cut-row : FoundRow t at most most to most reach
    cut-row =
        record {
          some = some;
          few = omega arith;
          forward = omega (arith, left-inside t at end left gluing reach w to most (omega arith) b);
          inside = omega (arith, part_left.ends, (next t at x known.read).within, known.end_is);
          near = omega arith;
          laid = λ s h is plain before. cut-laid h is plain before;
        }
