-- `replay::numbers::parse` meets its contract.
use Rattle.std.proofs.Common.{ℕ, ◌+◌, refl, sym, ◌∙◌, ap, rules, eqb}
use borrow.Author.Tests.{tests}
use Rattle.std.proofs.lemmas.Iterator.Consumers.{YieldsList-turn, YieldsList-end, YieldsList-at}
use Rattle.std.proofs.lemmas.Iterator.Splits.{YieldsList-from_slice_split}
use Rattle.std.proofs.lemmas.List.{length_push}
use Rattle.std.proofs.lemmas.Result.{MatchResult-from_err}
use Rattle.replay.proofs.ReadLaws.{next_word, reading_start, reading_stopped, reading_full, reading_next, reading_end}
use Rattle.replay.proofs.numbers.parse.Goals as goal

pub loop-word-init : goal.loop-word-init
loop-word-init c =
    (refl, reading_start _ _)

pub returns-in_err-number-clause-value : goal.returns-in_err-number-clause-value
returns-in_err-number-clause-value c =
    let turn = YieldsList-turn {v = λ x. x.now} (YieldsList-at c.into_iter-word-iterator.ensures.into_iter_gives (YieldsList-from_slice_split _ (λ (b : ℕ). eqb b 32) c.args.line.now c.split-word-items.ensures.rest c.split-word-items.ensures.done c.split-word-items.ensures.closure (λ x b q k. search (rules, tests)))) c.loop-word.yielded _ c.loop-word.yielded_by _ _ c.in-Some.word c.in-Some.is c.next.ensures.steps in
    let next = next_word c.args.line.now c.in-Some.word.now c.loop-word.invariant.0 turn in
    MatchResult-from_err _ _ _ c.from_residual.ensures.0 (λ y. reading_stopped c.loop-word.invariant.1 _ next (sym c.decimal_in.ensures ∙ c.in_err-number.ensures.ok_part))

pub returns-then-numbers-count-clause-value : goal.returns-then-numbers-count-clause-value
returns-then-numbers-count-clause-value c =
    let turn = YieldsList-turn {v = λ x. x.now} (YieldsList-at c.into_iter-word-iterator.ensures.into_iter_gives (YieldsList-from_slice_split _ (λ (b : ℕ). eqb b 32) c.args.line.now c.split-word-items.ensures.rest c.split-word-items.ensures.done c.split-word-items.ensures.closure (λ x b q k. search (rules, tests)))) c.loop-word.yielded _ c.loop-word.yielded_by _ _ c.in-Some.word c.in-Some.is c.next.ensures.steps in
    let next = next_word c.args.line.now c.in-Some.word.now c.loop-word.invariant.0 turn in
    reading_full c.loop-word.invariant.1 _ next _ (sym c.decimal_in.ensures ∙ c.in_ok-number.ensures.ok_part) c.if-numbers-count.true

pub loop-word-preserved : goal.loop-word-preserved
loop-word-preserved c =
    let turn = YieldsList-turn {v = λ x. x.now} (YieldsList-at c.into_iter-word-iterator.ensures.into_iter_gives (YieldsList-from_slice_split _ (λ (b : ℕ). eqb b 32) c.args.line.now c.split-word-items.ensures.rest c.split-word-items.ensures.done c.split-word-items.ensures.closure (λ x b q k. search (rules, tests)))) c.loop-word.yielded _ c.loop-word.yielded_by _ _ c.in-Some.word c.in-Some.is c.next.ensures.steps in
    let next = next_word c.args.line.now c.in-Some.word.now c.loop-word.invariant.0 turn in (
      ap (λ (k : ℕ). k + 1) c.loop-word.invariant.0 ∙ sym (length_push c.loop-word.yielded c.in-Some.word),
      reading_next c.loop-word.invariant.1 _ next _ (sym c.decimal_in.ensures ∙ c.in_ok-number.ensures.ok_part) c.if-numbers-count.false,
    )

pub returns : goal.returns
returns c =
    let end = YieldsList-end {v = λ x. x.now} (YieldsList-at c.into_iter-word-iterator.ensures.into_iter_gives (YieldsList-from_slice_split _ (λ (b : ℕ). eqb b 32) c.args.line.now c.split-word-items.ensures.rest c.split-word-items.ensures.done c.split-word-items.ensures.closure (λ x b q k. search (rules, tests)))) c.loop-word.yielded _ c.loop-word.yielded_by _ _ c.in-None.is c.next.ensures.steps in
    let all = reading_end c.loop-word.invariant.1 (c.loop-word.invariant.0 ∙ end.1) in record { value = all.0; numbers_after = all.1 }
