use Rattle.std.proofs.Common.{◌≡◌}
use Rattle.mono_steps.specs.Journals.{chain_count}
use Rattle.mono_search.proofs.LearnedClauses.{asks_reasons, journal-added, journal-refuted, refuted, on_err}
use Rattle.mono_search.proofs.MoreSteps.{more_lemmas, more_refuted, count_lemmas, count_refuted}
use Rattle.mono_search.proofs.state.State.refute.Goals as goal

pub refute-requires-clause-reasons : goal.refute-requires-clause-reasons
refute-requires-clause-reasons g c =
    let conflict = rw (← c.self.view_is) at c.requires.conflict in
    asks_reasons c.self.inside.theories c.self.inside.trail c.self.inside.store c.self.inside.journal c.self.inside.order c.problem-problem.result.now c.args.conflict conflict c.problem-problem.ensures.problem

pub returns-in_err-refute-clause-journal : goal.returns-in_err-refute-clause-journal
returns-in_err-refute-clause-journal g c =
    let conflict = rw (← c.self.view_is) at c.requires.conflict in
    let same = c.problem-problem.ensures.problem in
    let keeps = rw same at c.in_err-refute.ensures.keeps in
    rw c.in_err-refute.ensures.by (journal-added c.self.inside.theories.problem c.self.inside.journal c.refute.new.journal c.in_err-refute.ensures.err (keeps conflict.whole.journal.journal.justified) conflict.whole.journal.journal)

pub returns-clause-journal : goal.returns-clause-journal
returns-clause-journal g c =
    let conflict = rw (← c.self.view_is) at c.requires.conflict in
    let same = c.problem-problem.ensures.problem in
    let keeps = rw same at c.in_ok-refute.ensures.keeps in
    let refutes = rw same at c.in_ok-refute.ensures.refutes in
    rw c.in_ok-refute.ensures.by (journal-refuted c.self.inside.theories.problem c.self.inside.journal c.refute.new.journal c.in_ok-refute.field-0 refutes (keeps conflict.whole.journal.journal.justified) conflict.whole.journal.journal)

pub returns-clause-refuted : goal.returns-clause-refuted
returns-clause-refuted g c =
    let conflict = rw (← c.self.view_is) at c.requires.conflict in
    let same = c.problem-problem.ensures.problem in
    let keeps = rw same at c.in_ok-refute.ensures.keeps in
    let refutes = rw same at c.in_ok-refute.ensures.refutes in
    rw c.in_ok-refute.ensures.by (refuted c.self.inside.theories.problem c.self.inside.journal c.refute.new.journal c.in_ok-refute.field-0 refutes (keeps conflict.whole.journal.journal.justified))

pub returns-in_err-refute-clause-keeps : goal.returns-in_err-refute-clause-keeps
returns-in_err-refute-clause-keeps g c = rw (← c.self.view_is) (more_lemmas c.self.inside.journal c.refute.new.journal c.in_err-refute.ensures.err)

pub returns-in_err-refute-clause-err : goal.returns-in_err-refute-clause-err
returns-in_err-refute-clause-err g c =
    let same = count_lemmas c.self.inside.journal c.refute.new.journal c.in_err-refute.ensures.err in
    rw (← c.self.view_is) (on_err c.from_residual.result (chain_count c.refute.new.journal ≡ chain_count c.self.inside.journal) same)

pub returns-clause-keeps : goal.returns-clause-keeps
returns-clause-keeps g c = rw (← c.self.view_is) (more_refuted c.problem-problem.result.now c.self.inside.journal c.refute.new.journal c.in_ok-refute.field-0 c.in_ok-refute.ensures.refutes)

pub returns-clause-chains : goal.returns-clause-chains
returns-clause-chains g c = rw (← c.self.view_is) (count_refuted c.problem-problem.result.now c.self.inside.journal c.refute.new.journal c.in_ok-refute.field-0 c.in_ok-refute.ensures.refutes)
