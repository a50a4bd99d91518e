-- `checks::settings::in_range` meets its contract (refusal 1, refusal 2).
use Rattle.std.proofs.Common.{◌&&◌}
use Rattle.meaning.specs.Settings.{in_range, is_switch, is_retired}
use Rattle.checks.proofs.settings.in_range.Goals as goal

pub returns : goal.returns
unfolding in_range
returns c =
    λ i. c.sizes_in_range-sizes.ensures i && c.top_in_range.ensures i && is_switch c.args.s.leading && is_retired c.args.s.trailing && is_switch c.args.s.wrap
