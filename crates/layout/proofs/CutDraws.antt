-- What is left of a word that is wider than the box is drawn as far as it fits (rule 8, rule 13).
-- Assumes nothing.
use Prim.Native.Nat.{ℕ, ◌+◌, ◌*◌, ◌/◌, ◌≤◌, ◌<◌}
use native.Mathlib.Omega.{arith}
use mathlib.Core.Path.{◌≡◌}
use mathlib.Core.List.{List}
use lib.ListN.{length}
use Rattle.meaning.specs.declared.settings.Settings.{Settings}
use Rattle.parser.specs.Shorter.{Between}
use Rattle.drawing.specs.CutDrawn.{CutToDraw}
use Rattle.placing.specs.LeftWords.{LeftWord}
use Rattle.placing.specs.LeftWordLaws.{left-read}
use Rattle.placing.proofs.CutLaws.{room-same}

pub cut-to-draw : (s : Settings) (t : List ℕ) (at next most end chars gluing reach left : ℕ) → LeftWord t at end chars gluing reach → 1 ≤ most → most < chars
    → Between t at next most → next ≤ length t → 1 ≤ s.glyph.0 → most ≡ s.width.0 / s.glyph.0 → left + most * s.glyph.0 ≤ s.width.0
    → CutToDraw s t at next most gluing left
cut-to-draw s t at next most end chars gluing reach left w some long b inside glyph is fits =
    let r = left-read t at end chars gluing reach w (omega arith) in
    record {
      lexeme = r.lexeme;
      read = r.read;
      word = r.kind;
      long = omega (arith, r.chars-is);
      some = some;
      fitting = room-same s.width.0 s.glyph.0 left most glyph is fits;
      ends = b;
      inside = inside;
      few = r.few-glue;
    }
