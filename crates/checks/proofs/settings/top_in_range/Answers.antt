-- `checks::settings::top_in_range` meets its contract (refusal 1, refusal 2).
use Rattle.std.proofs.Common.{SFits, w32, to_z-of_z, rules}
use Rattle.meaning.specs.Settings.{top_in_range}
use Rattle.checks.proofs.settings.top_in_range.Goals as goal

pub returns : goal.returns
unfolding top_in_range
returns c =
    let fits : SFits w32 c.args.s.top = search rules in
    rw (to_z-of_z fits)
