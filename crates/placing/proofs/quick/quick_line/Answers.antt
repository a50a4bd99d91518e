-- `placing::quick::quick_line` meets its contract (rule 8, rule 10).
use Rattle.std.proofs.Common.{◌≤◌, sym, ◌∙◌, arith}
use Rattle.std.proofs.lemmas.Option.{MatchOption-at_some}
use Rattle.placing.specs.Taken.{taken-short}
use Rattle.placing.proofs.QuickLaws.{quick_inside, quick_ready, quick_waits, quick_ends, quick_feeds, waits-taken, ends-taken, feeds_taken}
use Rattle.placing.proofs.quick.quick_line.Goals as goal

pub measured_to-g-requires : goal.measured_to-g-requires
measured_to-g-requires c =
    (omega (arith, (MatchOption-at_some _ _ _ c.in_ok-c.was c.count_words.ensures).within, c.requires.0.settings.2), omega (arith, (MatchOption-at_some _ _ _ c.in_ok-c.was c.count_words.ensures).counts.plain.ready.inside, c.requires.0.short))

pub overflow_add-taken : goal.overflow_add-taken
overflow_add-taken c =
    record { fits = omega (arith, (let few_here : c.in_ok-c.c.columns.0 ≤ 65535 = omega (arith, taken-short _ _ _ _ (MatchOption-at_some _ _ _ c.in_ok-c.was c.count_words.ensures).counts.taken, c.requires.0.short) in few_here)) }

pub ends_waiting-ended-requires : goal.ends_waiting-ended-requires
ends_waiting-ended-requires c =
    quick_ready c.requires.0 (MatchOption-at_some _ _ _ c.in_ok-c.was c.count_words.ensures) _ c.measured_to-g.ensures c.if-g-ne0.true

pub returns-then-g-ne0 : goal.returns-then-g-ne0
returns-then-g-ne0 c =
    let d = (MatchOption-at_some _ _ _ c.in_ok-c.was c.count_words.ensures) in (
      quick_waits c.requires.0 d _ c.measured_to-g.ensures c.if-g-ne0.true _ c.ends_waiting-ended.ensures,
      waits-taken c.requires.0 d _ c.measured_to-g.ensures c.if-g-ne0.true _ c.ends_waiting-ended.ensures,
    )

pub overflow_add-far : goal.overflow_add-far
overflow_add-far c =
    record { fits = omega (arith, quick_inside c.requires.0 (MatchOption-at_some _ _ _ c.in_ok-c.was c.count_words.ensures) _ c.measured_to-g.ensures, c.requires.0.short) }

pub returns-then-text-end : goal.returns-then-text-end
returns-then-text-end c =
    let d = (MatchOption-at_some _ _ _ c.in_ok-c.was c.count_words.ensures) in (
      quick_ends c.requires.0 d _ c.measured_to-g.ensures c.if-text-end.true _ c.ends_before-e.ensures,
      ends-taken c.requires.0 d _ c.measured_to-g.ensures _ c.ends_before-e.ensures,
    )

pub overflow_add-next : goal.overflow_add-next
overflow_add-next c =
    record { fits = omega (arith, quick_inside c.requires.0 (MatchOption-at_some _ _ _ c.in_ok-c.was c.count_words.ensures) _ c.measured_to-g.ensures, c.requires.0.short) }

pub overflow_add-taken-then-feed_at : goal.overflow_add-taken-then-feed_at
overflow_add-taken-then-feed_at c =
    record { fits = omega (arith, (let few_here : c.in_ok-c.c.columns.0 ≤ 65535 = omega (arith, taken-short _ _ _ _ (MatchOption-at_some _ _ _ c.in_ok-c.was c.count_words.ensures).counts.taken, c.requires.0.short) in few_here)) }

pub returns-then-feed_at : goal.returns-then-feed_at
returns-then-feed_at c =
    let d = (MatchOption-at_some _ _ _ c.in_ok-c.was c.count_words.ensures) in
    let feeds = sym c.feed_at.ensures ∙ c.if-feed_at.true in (
      quick_feeds c.requires.0 d _ c.measured_to-g.ensures feeds _ c.ends_before-e-then-feed_at.ensures,
      feeds_taken c.requires.0 d _ c.measured_to-g.ensures feeds _ c.ends_before-e-then-feed_at.ensures,
    )
