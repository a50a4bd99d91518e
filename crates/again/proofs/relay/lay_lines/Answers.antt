-- `again::relay::lay_lines` meets its contract (refusal 8, laying again).
use Rattle.std.proofs.Common.{arith, ◌∙◌}
use Rattle.again.specs.Relaying.{Sought, kept-within, counts-low, no_room, movable, write_ready, relaid_whole}
use Rattle.look.specs.GoodTable.{table-room}
use Rattle.again.specs.GoodRelay.{all-good, is-affected, short-part, rest-good, find_ready}
use Rattle.again.proofs.relay.lay_lines.Goals as goal
use Rattle.again.proofs.relay.lay_lines.Goals.{After-find_stop-found}

-- What was sought, and from where.
sought : (c : After-find_stop-found) → Sought c.args.s c.args.part.now c.args.table.now c.args.lines c.args.edit c.args.k c.read_entry-e.result c.at_front-front.result c.find_stop-found.result
sought c =
    record {
      good = c.requires.0;
      first = c.requires.1;
      entry = c.read_entry-e.ensures;
      stand = record { at-is = c.at_front-front.ensures.at-is; before-is = c.at_front-front.ensures.before-is; rest-is = c.at_front-front.ensures.rest-is ∙ c.held_of.ensures; known = c.at_front-front.ensures.known };
      finds = c.find_stop-found.ensures.value;
      few = c.find_stop-found.ensures.before_bound;
    }

pub read_entry-e-requires : goal.read_entry-e-requires
read_entry-e-requires c =
    let g = all-good _ _ _ _ _ c.requires.0 in
    omega (arith, table-room _ _ g.table_is_lem, is-affected _ _ _ _ _ g _ c.requires.1)

pub held_of-requires : goal.held_of-requires
held_of-requires c =
    let g = all-good _ _ _ _ _ c.requires.0 in
    (g.utf8, rest-good _ _ _ _ _ g _ c.requires.1 _ c.read_entry-e.ensures, short-part _ _ _ _ _ g _ c.requires.1)

pub at_front-front-requires : goal.at_front-front-requires
at_front-front-requires c =
    short-part _ _ _ _ _ (all-good _ _ _ _ _ c.requires.0) _ c.requires.1

pub find_stop-found-requires : goal.find_stop-found-requires
find_stop-found-requires c =
    find_ready _ _ _ _ _ (all-good _ _ _ _ _ c.requires.0) _ c.requires.1 _ c.read_entry-e.ensures _ (record { at-is = c.at_front-front.ensures.at-is; before-is = c.at_front-front.ensures.before-is; rest-is = c.at_front-front.ensures.rest-is ∙ c.held_of.ensures; known = c.at_front-front.ensures.known })

pub overflow_sub-left : goal.overflow_sub-left
overflow_sub-left c =
    omega (
      arith,
      kept-within _ _ _ _ _ _ _ _ _ (sought (goal.at.overflow_sub-left c).After-find_stop-found),
    )

pub overflow_add-to : goal.overflow_add-to
overflow_add-to c =
    omega (
      arith,
      counts-low _ _ _ _ _ _ _ _ _ (sought (goal.at.overflow_add-to c).After-find_stop-found),
    )

pub overflow_add-after : goal.overflow_add-after
overflow_add-after c =
    omega (
      arith,
      counts-low _ _ _ _ _ _ _ _ _ (sought (goal.at.overflow_add-after c).After-find_stop-found),
    )

pub returns-then-table-after : goal.returns-then-table-after
returns-then-table-after c =
    let refused = no_room _ _ _ _ _ _ _ _ _ (sought (goal.at.returns-then-table-after c).After-find_stop-found) c.if-table-after.true in
    record { value = refused.0; table_after = refused.1 }

pub count_before-requires : goal.count_before-requires
count_before-requires c =
    table-room _ _ (all-good _ _ _ _ _ c.requires.0).table_is_lem

pub move_lines-requires : goal.move_lines-requires
move_lines-requires c =
    movable _ _ _ _ _ _ _ _ _ (sought (goal.at.move_lines-requires c).After-find_stop-found) c.if-table-after.false _ c.count_before.ensures

pub write_again-requires : goal.write_again-requires
write_again-requires c =
    write_ready _ _ _ _ _ _ _ _ _ (sought (goal.at.write_again-requires c).After-find_stop-found) c.if-table-after.false _ c.count_before.ensures _ c.move_lines.ensures
    c.move_lines.auto.table

pub returns : goal.returns
returns c =
    let relaid =
    relaid_whole _ _ _ _ _ _ _ _ _ (sought (goal.at.returns c).After-find_stop-found) c.if-table-after.false _ c.count_before.ensures _ c.move_lines.ensures
    c.move_lines.auto.table _ c.write_again.ensures in
    record { value = relaid.0; table_after = relaid.1 }
