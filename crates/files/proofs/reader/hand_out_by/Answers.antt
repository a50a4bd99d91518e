-- `files::reader::hand_out_by` meets its contract (refusal 1, refusal 2, refusal 3, refusal 5, refusal 8, refusal 9, refusal 11, refusal 12).
use Rattle.std.proofs.Common.{subst, sym, ◌∙◌}
use Rattle.std.proofs.lemmas.Bool.{false≢true}
use Rattle.meaning.specs.Refusals.{Checked}
use Rattle.files.specs.ReadingCalls.{HandsOut, handed-good, handed_retired, handed-none, retired-number, other-number}
use Rattle.files.proofs.reader.hand_out_by.Goals.{in-RetiredSetting, in_default}
use Rattle.files.proofs.reader.hand_out_by.Goals as goal

pub hand_out-requires : goal.hand_out-requires
hand_out-requires c =
    subst (λ (k : Checked). HandsOut k c.args.file.now c.args.settings.now) c.in-Ok.is c.requires

pub hand_out-requires-then-matches : goal.hand_out-requires-then-matches
hand_out-requires-then-matches c =
    let out = subst (λ (x : Checked). HandsOut x c.args.file.now c.args.settings.now) c.in-Err.is c.requires in
    elim c.match-matches.branch [
      | in-RetiredSetting w ↦ out (retired-number _ w.in-RetiredSetting.is)
      | in_default w ↦ absurd (false≢true (sym w.matches-is ∙ c.if-matches.true))
    ]

pub returns-in-Ok : goal.returns-in-Ok
returns-in-Ok c =
    c.hand_out.ensures ∙ handed-good c.args.checked _ c.args.settings.now c.in-Ok.is

pub returns-then-matches : goal.returns-then-matches
returns-then-matches c =
    elim c.match-matches.branch [
      | in-RetiredSetting w ↦ c.hand_out-then-matches.ensures ∙ handed_retired c.args.checked _ c.args.settings.now _ c.in-Err.is (retired-number _ w.in-RetiredSetting.is)
      | in_default w ↦ absurd (false≢true (sym w.matches-is ∙ c.if-matches.true))
    ]

pub returns-else-matches : goal.returns-else-matches
returns-else-matches c =
    elim c.match-matches.branch [
      | in-RetiredSetting w ↦ absurd (false≢true (sym c.if-matches.false ∙ w.matches-is))
      | in_default w ↦ handed-none c.args.checked _ c.args.settings.now _ c.in-Err.is (other-number _ w.in_default.not-RetiredSetting)
    ]
