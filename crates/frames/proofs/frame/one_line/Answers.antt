-- `frames::frame::one_line` meets its contract (rule 10, refusal 5, refusal 8).
use Rattle.std.proofs.Common.{arith, sym, ◌∙◌}
use Rattle.meaning.specs.Table.{entry_numbers, capacity_of}
use Rattle.laws.specs.TableLaws.{capacity_is}
use Rattle.frames.specs.FrameChecks.{good-utf8, not_opened, bad_stand, no_room, frameable, frame_done}
use Rattle.laws.specs.Asked.{asked}
use Rattle.frames.proofs.frame.one_line.Goals as goal

pub returns-in_err-check_open : goal.returns-in_err-check_open
returns-in_err-check_open c =
    record { value = asked _ c.from_residual.ensures.1 ∙ (not_opened _ _ _ _ _ _ (sym c.check_open.ensures ∙ c.in_err-check_open.was)).0; after = (not_opened _ _ _ _ _ _ (sym c.check_open.ensures ∙ c.in_err-check_open.was)).1 }

pub stand_good-requires : goal.stand_good-requires
stand_good-requires c =
    good-utf8 _ _ (sym c.check_open.ensures ∙ c.in_ok-check_open.was)

pub returns-then-not-stand_good : goal.returns-then-not-stand_good
returns-then-not-stand_good c =
    let both = bad_stand _ _ _ _ _ (sym c.check_open.ensures ∙ c.in_ok-check_open.was) (sym c.stand_good.ensures ∙ c.if-not-stand_good.true) in
    record { value = both.0; after = both.1 }

pub returns-then-entry-lt1 : goal.returns-then-entry-lt1
unfolding capacity_of
returns-then-entry-lt1 c =
    let both = no_room _ _ _ _ _ (sym c.check_open.ensures ∙ c.in_ok-check_open.was) (sym c.stand_good.ensures ∙ c.if-not-stand_good.false) c.if-entry-lt1.true in
    record { value = both.0; after = both.1 }

pub lay_here-requires : goal.lay_here-requires
unfolding capacity_of
lay_here-requires c =
    let fits = (capacity_is entry_numbers 1 c.args.entry.now (omega arith)).0 c.if-entry-lt1.false in
    (frameable _ _ _ _ c.args.entry.now (sym c.check_open.ensures ∙ c.in_ok-check_open.was) (sym c.stand_good.ensures ∙ c.if-not-stand_good.false), omega (arith, fits))

pub returns : goal.returns
unfolding capacity_of
returns c =
    let both = frame_done _ _ _ _ _ (sym c.check_open.ensures ∙ c.in_ok-check_open.was) (sym c.stand_good.ensures ∙ c.if-not-stand_good.false) c.if-entry-lt1.false _ _ c.lay_here.ensures.value c.lay_here.ensures.after in
    record { value = both.0; after = both.1 }
