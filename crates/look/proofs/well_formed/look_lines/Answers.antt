-- `table::well_formed::look_lines` meets its contract (refusal 5).
use Rattle.std.proofs.Common.{sym, ap, ◌∙◌}
use Rattle.meaning.specs.Refusals.{Checked}
use Rattle.meaning.specs.Table.{entries_in}
use Rattle.look.specs.Looking.{looked_over, looked_bad}
use Rattle.look.proofs.SkipTurns.{first_on, first_bad}
use Rattle.look.proofs.well_formed.look_lines.Goals as goal

pub returns-then-not-entry_good : goal.returns-then-not-entry_good
returns-then-not-entry_good c =
    looked_bad _ _ _ _ (first_bad c.args.table.now c.args.lines c.args.bytes.0 c.requires.0 c.read_entry-e.result c.read_entry-e.ensures
    (sym c.entry_good.ensures ∙ c.if-not-entry_good.true))

pub returns : goal.returns
returns c =
    let es = entries_in c.args.lines c.args.table.now in
    c.look_behind.ensures
    ∙ ap (λ (k : Checked). looked_over c.args.a.0 k es)
    (sym (first_on c.args.table.now c.args.lines c.args.bytes.0 c.requires.0 c.read_entry-e.result c.read_entry-e.ensures
    (sym c.entry_good.ensures ∙ c.if-not-entry_good.false)))
