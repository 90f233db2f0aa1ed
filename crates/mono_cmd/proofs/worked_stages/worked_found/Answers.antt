use Rattle.std.proofs.Common.{refl}
use Rattle.std.specs.Fmt.{digits}
use Rattle.mono_check.specs.declared.reason.Reason.TheVariants as reason
use Rattle.mono_check.specs.declared.verdict.Verdict.TheVariants as verdict
use Rattle.mono_cmd.proofs.worked_stages.worked_found.Goals as goal

pub returns-clause-solved : goal.returns-clause-solved
returns-clause-solved c = λ p budget a h. h

pub returns-clause-migrated : goal.returns-clause-migrated
returns-clause-migrated c = λ p given other v h. h

pub returns-clause-not_migrated : goal.returns-clause-not_migrated
returns-clause-not_migrated c = λ p given v h. h

pub returns-clause-narrowed : goal.returns-clause-narrowed
returns-clause-narrowed c = λ p lits o room h. (room, h)

pub returns-clause-model_under_all : goal.returns-clause-model_under_all
returns-clause-model_under_all c = refl

pub returns-clause-rejected : goal.returns-clause-rejected
unfolding digits
returns-clause-rejected c = λ p given right. record { judged = verdict.Rejected 2 reason.BadLine; right = right; with_status = refl; is = refl }

pub returns-clause-refuted : goal.returns-clause-refuted
returns-clause-refuted c = λ p budget written h. h

pub returns-clause-board : goal.returns-clause-board
returns-clause-board c = λ p workers rounds steps h. h

pub returns-clause-board_written : goal.returns-clause-board_written
returns-clause-board_written c = λ p workers rounds steps h accepted. (steps, h, refl, accepted)
