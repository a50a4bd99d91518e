-- `columns::skipping::has_tab` meets its contract.
use Rattle.std.proofs.Common.{◌∙◌}
use Rattle.columns.specs.Tabs.{any-tab}
use Rattle.columns.proofs.skipping.has_tab.Goals as goal

pub returns : goal.returns
returns c =
    c.contains.ensures.value ∙ any-tab c.args.text.now
