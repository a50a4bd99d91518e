use Rattle.std.proofs.Common.{sym, ◌∙◌}
use Rattle.std.proofs.lemmas.Option.{MatchOption-at_some}
use Rattle.rows.specs.Found.{found-more}
use Rattle.rows.specs.Drawers.{drawn-at, can-room, can_on, gone_then, gone_on_then}
use Rattle.rows.specs.DrawnLines.{found-gone, found-all}
use Rattle.rows.proofs.found.write_told.Goals as goal

pub write_entry-requires : goal.write_entry-requires
write_entry-requires g c =
    can-room (can_on c.requires (gone_then c.loop-here.invariant (gone_then c.write_plain-far.ensures c.write_long-here.ensures)))

pub returns-then-is_last : goal.returns-then-is_last
returns-then-is_last g c =
    let gone = gone_then c.loop-here.invariant (gone_then c.write_plain-far.ensures c.write_long-here.ensures) in
    gone_on_then gone
    (found-all c.args.r (can_on c.requires gone) (MatchOption-at_some _ _ _ c.in-Some.is c.told_row.ensures) c.ended_entry-entry.ensures c.write_entry.ensures
    c.write_entry.auto.table (drawn-at c.plain_stand-stand.ensures c.line.ensures) (sym c.is_last.ensures ∙ c.if-is_last.true))

pub loop-here-preserved : goal.loop-here-preserved
loop-here-preserved g c =
    let gone = gone_then c.loop-here.invariant (gone_then c.write_plain-far.ensures c.write_long-here.ensures) in
    let goes = sym c.is_last.ensures ∙ c.if-is_last.false in
    gone_then gone
    (found-gone c.args.r (can_on c.requires gone) (found-more _ _ _ _ (MatchOption-at_some _ _ _ c.in-Some.is c.told_row.ensures) goes) c.ended_entry-entry.ensures
    c.write_entry.ensures c.write_entry.auto.table (drawn-at c.plain_stand-stand.ensures c.line.ensures) goes)
