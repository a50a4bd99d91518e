-- `rows::resumed::cut_again` meets its contract (rule 9).
use Rattle.std.proofs.Common.{◌+◌, ◌≡◌, ap, ◌∙◌, arith}
use Rattle.meaning.specs.declared.line.Measure.{Measure}
use Rattle.meaning.specs.declared.line.LineEnd.TheVariants.{LineBreak}
use Rattle.steps.specs.Runs.{cut_shown}
use Rattle.blanks.specs.CutRests.{cut_end}
use Rattle.rows.proofs.resumed.cut_again.Goals as goal

pub noted_space-measure-requires : goal.noted_space-measure-requires
noted_space-measure-requires c =
    omega (arith, ap (λ (m : Measure). m.pen.0) c.nothing_measured.ensures, ap (λ (m : Measure). m.spaces.0) c.nothing_measured.ensures, c.requires)

pub returns : goal.returns
unfolding cut_end
returns c =
    let m : c.noted_space-measure.result ≡ _ = c.noted_space-measure.ensures ∙ ap (λ (x : Measure). cut_shown x c.args.fitting) c.nothing_measured.ensures in
    λ i. record {
      ended = LineBreak;
      measure = m i;
      next = record { 0 = c.args.at + c.args.taken };
      rest = c.held_rest-left.ensures i;
      dropped = record { 0 = 0 };
      reach = record { 0 = c.args.reach };
    }
