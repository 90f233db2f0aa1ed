use Rattle.std.proofs.Common.{◌≡◌, ◌∙◌, ◌+◌, ◌∷◌, [], List, length, length-append, ap, subst, sym, arith}
use Rattle.std.specs.Prelude.{IsTrue}
use Rattle.mono_clauses.specs.Store.{Held}
use Rattle.mono_problem.specs.Instance.{Instance}
use Rattle.mono_problem.specs.WellFormed.{IsInstance}
use Rattle.mono_steps.specs.Witnesses.{justifies}
use Rattle.mono_search.proofs.Foreseen.{joined_lemma, lemma_next, lemma_rising, lit_within, unit_within}
use Rattle.mono_search.proofs.MoreSteps.{more_pushed}
use Rattle.mono_search.proofs.Propagating.{pushed_chains, pushed_journal, state}
use Rattle.mono_search.proofs.state.State.join_lemma.Goals as goal

pub push_lemma-requires : goal.push_lemma-requires
push_lemma-requires g c =
    let unit = rw (← c.self.view_is) at c.requires.unit in
    subst (λ (p : Instance). IsTrue (justifies p c.args.unit.lemma)) (sym c.problem-problem.ensures.problem) unit.justified

pub clause-lits-requires-clause-low : goal.clause-lits-requires-clause-low
clause-lits-requires-clause-low g c =
    omega (arith, lemma_next c.self.inside.theories.problem c.self.inside.journal c.args.unit.lemma c.in_ok-number.number (rw (c.problem-problem.ensures.problem, c.in_ok-number.ensures.ok) at c.in_ok-number.ensures.number))

pub add-requires-clause-within : goal.add-requires-clause-within
add-requires-clause-within g c =
    let ready = rw (← c.self.view_is) at c.requires.ready in
    let unit = rw (← c.self.view_is) at c.requires.unit in
    unit_within c.self.inside.theories c.self.inside.trail c.self.inside.store c.self.inside.journal c.self.inside.order c.args.unit c.in_ok-number.number c.clause-lits.result.now ready unit
    (rw (c.problem-problem.ensures.problem, c.in_ok-number.ensures.ok) at c.in_ok-number.ensures.number) (rw (c.problem-problem.ensures.problem, c.in_ok-number.ensures.ok) at c.clause-lits.ensures)

pub add-requires-clause-rising : goal.add-requires-clause-rising
add-requires-clause-rising g c =
    let ready = rw (← c.self.view_is) at c.requires.ready in
    lemma_rising c.self.inside.theories.problem c.self.inside.journal c.args.unit.lemma c.in_ok-number.number (rw (c.problem-problem.ensures.problem, c.in_ok-number.ensures.ok) at c.in_ok-number.ensures.number) c.self.inside.theories.given c.self.inside.store ready.whole.held

pub count_given-requires : goal.count_given-requires
count_given-requires g c =
    let ready = rw (← c.self.view_is) at c.requires.ready in
    let more : length c.add.new.self.clauses ≡ length c.self.inside.store.clauses + 1 = ap (λ (hs : List Held). length hs) c.in_ok-add.ensures.ok.clauses ∙ length-append c.self.inside.store.clauses (record { number = c.in_ok-number.number; lits = c.clause-lits.result.now } ∷ []) in
    omega (arith, more, ready.whole.held.count, c.len-clauses.ensures)

pub imply-requires-clause-in_range : goal.imply-requires-clause-in_range
imply-requires-clause-in_range g c =
    let unit = rw (← c.self.view_is) at c.requires.unit in
    lit_within (state c.self.inside.theories c.self.inside.trail c.self.inside.store c.self.inside.journal c.self.inside.order) c.args.unit unit

pub returns-in_err-number-clause-journal : goal.returns-in_err-number-clause-journal
returns-in_err-number-clause-journal g c =
    let ready = rw (← c.self.view_is) at c.requires.ready in
    pushed_journal c.push_lemma.result c.self.inside.theories.problem c.self.inside.journal c.push_lemma.new.self c.args.unit.lemma c.push_lemma.ensures.ok (rw c.problem-problem.ensures.problem at c.push_lemma.ensures.keeps) c.push_lemma.ensures.err ready.whole.journal.journal

pub returns-in_err-number-clause-keeps : goal.returns-in_err-number-clause-keeps
returns-in_err-number-clause-keeps g c = rw (← c.self.view_is) (more_pushed c.push_lemma.result c.self.inside.journal c.push_lemma.new.self c.args.unit.lemma c.push_lemma.ensures.ok c.push_lemma.ensures.err)

pub returns-in_err-number-clause-chains : goal.returns-in_err-number-clause-chains
returns-in_err-number-clause-chains g c = rw (← c.self.view_is) (pushed_chains c.push_lemma.result c.self.inside.journal c.push_lemma.new.self c.args.unit.lemma c.push_lemma.ensures.ok c.push_lemma.ensures.err)

pub returns-in_err-add-clause-journal : goal.returns-in_err-add-clause-journal
returns-in_err-add-clause-journal g c =
    let ready = rw (← c.self.view_is) at c.requires.ready in
    pushed_journal c.push_lemma.result c.self.inside.theories.problem c.self.inside.journal c.push_lemma.new.self c.args.unit.lemma c.push_lemma.ensures.ok (rw c.problem-problem.ensures.problem at c.push_lemma.ensures.keeps) c.push_lemma.ensures.err ready.whole.journal.journal

pub returns-in_err-add-clause-keeps : goal.returns-in_err-add-clause-keeps
returns-in_err-add-clause-keeps g c = rw (← c.self.view_is) (more_pushed c.push_lemma.result c.self.inside.journal c.push_lemma.new.self c.args.unit.lemma c.push_lemma.ensures.ok c.push_lemma.ensures.err)

pub returns-in_err-add-clause-chains : goal.returns-in_err-add-clause-chains
returns-in_err-add-clause-chains g c = rw (← c.self.view_is) (pushed_chains c.push_lemma.result c.self.inside.journal c.push_lemma.new.self c.args.unit.lemma c.push_lemma.ensures.ok c.push_lemma.ensures.err)

pub returns-clause-journal : goal.returns-clause-journal
returns-clause-journal g c =
    let ready = rw (← c.self.view_is) at c.requires.ready in
    rw c.count_given.ensures (pushed_journal c.push_lemma.result c.self.inside.theories.problem c.self.inside.journal c.push_lemma.new.self c.args.unit.lemma c.push_lemma.ensures.ok (rw c.problem-problem.ensures.problem at c.push_lemma.ensures.keeps) c.push_lemma.ensures.err ready.whole.journal.journal)

pub returns-clause-keeps : goal.returns-clause-keeps
returns-clause-keeps g c = rw (← c.self.view_is) (more_pushed c.push_lemma.result c.self.inside.journal c.push_lemma.new.self c.args.unit.lemma c.push_lemma.ensures.ok c.push_lemma.ensures.err)

pub returns-clause-chains : goal.returns-clause-chains
returns-clause-chains g c = rw (← c.self.view_is) (pushed_chains c.push_lemma.result c.self.inside.journal c.push_lemma.new.self c.args.unit.lemma c.push_lemma.ensures.ok c.push_lemma.ensures.err)

pub returns-clause-implied : goal.returns-clause-implied
returns-clause-implied g c =
    let ready = rw (← c.self.view_is) at c.requires.ready in
    let unit = rw (← c.self.view_is) at c.requires.unit in
    let same = c.problem-problem.ensures.problem in
    rw (← c.self.view_is) (joined_lemma c.self.inside.theories c.count_given.new.self c.self.inside.trail c.imply.new.self c.self.inside.store c.add.new.self c.self.inside.journal c.push_lemma.new.self c.self.inside.order c.args.unit c.in_ok-number.number c.clause-lits.result.now (subst IsInstance same c.known.ensures.problem) ready unit
    (rw same at c.in_ok-number.ensures.keeps) (rw same at c.in_ok-number.ensures.number) (rw same at c.clause-lits.ensures) c.in_ok-number.ensures.ok c.in_ok-add.ensures.ok c.in_ok-add.ensures.follows c.count_given.ensures c.imply.ensures c.known-2.ensures.sound)
