-- Computed examples of justified lines: their spaces, and where the pen stands after the last print. In the later ones a premise of
-- `line-at-edge` does not hold, and the line ends elsewhere. Rule 6, rule 8.
-- Assumes nothing.
use Rattle.std.specs.Prelude.{ℕ, ◌≡◌, refl, List, [], ◌∷◌, map}
use Prim.Native.String.{String}
use Rattle.meaning.specs.Words.{Drawn}
use Rattle.meaning.specs.LineIter.{nothing_held}
use Rattle.meaning.specs.Line.{line_tokens, measuring, lay_line, events_at}
use Rattle.meaning.specs.Examples.{codes, laid_out, justified_box, lines_of}
use Rattle.meaning.specs.declared.settings.Settings.{Settings}
use Rattle.meaning.specs.declared.line.EventKind.{EventKind}
use Rattle.meaning.specs.declared.line.EventKind.TheVariants.{Space, Printed, Move}
use Rattle.laws.specs.LastPrint.{if_more, to_last_print, printed_end, prints}

-- Of a text's first line: the widths of its spaces up to the last print, the bytes of each print of the measure and of the draw, and
-- where the pen stands after the last print.
pub record EdgeExample : Type 0 where
  pub settings : Settings
  pub text : String
  pub spaces : List ℕ
  pub measured : List (ℕ × ℕ)
  pub drawn : List (ℕ × ℕ)
  pub end : ℕ

abbrev first_line : Settings → String → List ℕ → List (ℕ × ℕ) → List (ℕ × ℕ) → ℕ → EdgeExample
first_line s t spaces measured drawn end =
    record { settings = s; text = t; spaces = spaces; measured = measured; drawn = drawn; end = end }

abbrev pub edge_examples : List EdgeExample
edge_examples =
    -- three pixels for two spaces: 8 and 7, and the line ends at 51
    first_line (justified_box 51) "aa bb cc dd" (8 ∷ 7 ∷ []) ((0, 2) ∷ (3, 5) ∷ (6, 8) ∷ []) ((0, 2) ∷ (3, 5) ∷ (6, 8) ∷ []) 51
    -- six pixels for four spaces, of which two stand together and one glues: both extra pixels go to the first two
    ∷ first_line (justified_box 54) "a  b\u{a0}c d ee" (16 ∷ 7 ∷ 7 ∷ []) ((0, 1) ∷ (3, 4) ∷ (6, 7) ∷ (8, 9) ∷ []) ((0, 1) ∷ (3, 4) ∷ (6, 7) ∷ (8, 9) ∷ []) 54
    -- the draw makes other prints than the measure: drawn, the word that glues and the "-" behind it no longer fit behind the wider
    -- space, and "-" is printed before them. No shorter text ends elsewhere so; with a word of two letters, none glues
    ∷ first_line (laid_out 2 8 3 1 0) " a\u{ad}\u{a0}\u{ad}\r" (3 ∷ []) ((1, 2) ∷ (6, 6) ∷ []) ((1, 2) ∷ (2, 4) ∷ []) 7
    ∷ first_line (laid_out 1 5 3 1 0) " a\u{ad}bb\u{ad}\r" (2 ∷ []) ((1, 2) ∷ (4, 6) ∷ []) ((1, 2) ∷ (2, 4) ∷ []) 4
    -- a space is skipped at the front: it counts, and its share is not drawn
    ∷ first_line (justified_box 51) " aa bb ccc" (0 ∷ 16 ∷ []) ((1, 3) ∷ (4, 6) ∷ []) ((1, 3) ∷ (4, 6) ∷ []) 40
    ∷ []

kind_width : EventKind → (count width : ℕ) → List ℕ → List ℕ
kind_width Space n w more = w ∷ more
kind_width Printed n w more = more
kind_width Move n w more = more

space_widths : List Drawn → List ℕ
unfolding kind_width
space_widths [] = []
space_widths (d ∷ ds) = kind_width d.kind d.count d.width (space_widths ds)

abbrev bytes_of : Drawn → ℕ × ℕ
bytes_of d = (d.from, d.to)

unfoldable pub edge_found : EdgeExample → EdgeExample
unfolding lines_of codes if_more to_last_print printed_end prints kind_width space_widths
edge_found x =
    let s = x.settings in
    let l = lay_line s nothing_held (codes x.text) in
    first_line s x.text (space_widths (to_last_print l.drawn)) (map bytes_of (prints (measuring s (line_tokens nothing_held (codes x.text))).drawn))
    (map bytes_of (prints l.drawn)) (printed_end 0 (events_at 0 l.placed.left.0 l.drawn))

pub edges_hold : map edge_found edge_examples ≡ edge_examples
unfolding edge_found
edges_hold = refl
