use Rattle.std.proofs.Common.{arith, sym, ap, ◌∙◌}
use Rattle.rows.specs.Standing.{next-ready, further, stays}
use Rattle.again.specs.Seeking.{rest-low, seek-start, seek-low, stops, stop-few, finds-last, seeks_on}
use Rattle.again.specs.declared.stop.Found.{Found}
use Rattle.again.proofs.stop.find_stop.Goals as goal

pub loop-s-init : goal.loop-s-init
loop-s-init c =
    seek-start _ _ _ _ _ _ _ _ c.requires

pub overflow_add-first : goal.overflow_add-first
overflow_add-first c =
    omega (arith, c.loop-s.invariant.ready.line.inside, c.loop-s.invariant.ready.line.short, c.requires.low)

pub skip_before-j-requires : goal.skip_before-j-requires
skip_before-j-requires c =
    (c.requires.room, c.loop-s.invariant.inside)

pub rest_behind-rest-requires : goal.rest_behind-rest-requires
rest_behind-rest-requires c =
    rest-low _ _ _ _ c.loop-s.invariant.ready c.requires.low

pub meets_first-requires : goal.meets_first-requires
meets_first-requires c =
    c.requires.room

pub returns-then-meets_first : goal.returns-then-meets_first
returns-then-meets_first c =
    record {
      value = c.found_at.ensures
          ∙ stops _ _ _ _ _ _ _ _ _ _ _ c.loop-s.invariant c.skip_before-j.ensures _ c.rest_behind-rest.ensures (sym c.meets_first.ensures ∙ c.if-meets_first.true);
      before_bound = omega (arith, ap (λ (f : Found). f.before.0) c.found_at.ensures, stop-few _ _ _ _ _ _ _ _ _ _ _ c.loop-s.invariant c.skip_before-j.ensures);
    }

pub lay_row-row-requires : goal.lay_row-row-requires
lay_row-row-requires c =
    c.loop-s.invariant.ready

pub overflow_add-n : goal.overflow_add-n
overflow_add-n c =
    omega (arith, seek-low _ _ _ _ _ _ _ _ _ _ c.loop-s.invariant)

pub returns-then-row : goal.returns-then-row
returns-then-row c =
    record {
      value = c.found_at-then-row.ensures
          ∙ finds-last _ _ _ _ _ _ _ _ _ _ _ c.loop-s.invariant c.skip_before-j.ensures _ c.rest_behind-rest.ensures
          (sym c.meets_first.ensures ∙ c.if-meets_first.false) c.requires.rising _ c.lay_row-row.ensures c.if-row.true;
      before_bound = omega (arith, ap (λ (f : Found). f.before.0) c.found_at-then-row.ensures);
    }

pub next_stand-stand-requires : goal.next_stand-stand-requires
next_stand-stand-requires c =
    next-ready _ _ _ c.loop-s.invariant.ready _ c.lay_row-row.ensures

pub loop-s-smaller : goal.loop-s-smaller
loop-s-smaller c =
    omega (arith, further _ _ _ c.loop-s.invariant.ready _ c.lay_row-row.ensures _ c.next_stand-stand.ensures c.if-row.false, stays _ _ _ c.loop-s.invariant.ready _ c.lay_row-row.ensures _ c.next_stand-stand.ensures)

pub loop-s-preserved : goal.loop-s-preserved
loop-s-preserved c =
    seeks_on _ _ _ _ _ _ _ _ _ _ _ c.loop-s.invariant c.skip_before-j.ensures _ c.rest_behind-rest.ensures
    (sym c.meets_first.ensures ∙ c.if-meets_first.false) c.requires.rising _ c.lay_row-row.ensures _ c.next_stand-stand.ensures
    c.if-row.false
