-- `table::moving::move_line` meets its contract (laying again).
use Rattle.std.proofs.Common.{◌*◌, sym, subst, ap, ◌∙◌}
use Rattle.meaning.specs.Table.{entry_numbers, of_entry}
use Rattle.meaning.specs.declared.line.Entry.{Entry}
use Rattle.table.specs.Numbers.{put_numbers}
use Rattle.table.specs.Moving.{MovableEntry, moved_by, line-movable}
use Rattle.table.proofs.moving.move_line.Goals as goal

pub moved_entry-after-requires : goal.moved_entry-after-requires
moved_entry-after-requires c =
    (c.requires.shift, subst (MovableEntry c.args.shift) (sym c.read_entry.ensures) (line-movable c.args.table.now c.args.from c.args.to c.args.shift c.requires))

pub returns : goal.returns
returns c =
    c.write_entry.ensures
    ∙ ap (λ (e : Entry). put_numbers c.args.table.now (entry_numbers * c.args.to) (of_entry e)) (c.moved_entry-after.ensures ∙ ap (moved_by c.args.shift) c.read_entry.ensures)
