use Rattle.std.proofs.Common.{◌≡◌, ◌≤◌, ◌∙◌, ◌+◌, sym, ap, subst, min, drop, arith}
use Rattle.std.specs.Prelude.{OnOk}
use Rattle.mono_problem.specs.Instance.{Instance}
use Rattle.mono_trail.specs.TrailView.{count_to}
use Rattle.mono_steps.specs.Journals.{chain_count}
use Rattle.mono_search.specs.Theories.{TheoriesView, having_seen}
use Rattle.mono_search.specs.State.{IsJournal, IsReady}
use Rattle.mono_trail.specs.Order.{OrderView}
use Rattle.mono_search.specs.Runs.{Releases, GoesBack}
use Rattle.mono_search.proofs.Propagating.{state}
use Rattle.mono_search.proofs.LearnedClauses.{asks_reasons, journal-added, learned_within, learned_rising, learned_follows, learned_open, learned_chains, analysed, added, on_ok, went_back}
use Rattle.mono_search.proofs.MoreSteps.{more_lemmas, more_learned, count_lemmas}
use Rattle.mono_search.proofs.state.State.learn.Goals as goal

pub analyse-requires-clause-reasons : goal.analyse-requires-clause-reasons
analyse-requires-clause-reasons g c =
    let conflict = rw (← c.self.view_is) at c.requires.conflict in
    asks_reasons c.self.inside.theories c.self.inside.trail c.self.inside.store c.self.inside.journal c.self.inside.order c.problem-problem.result.now c.args.conflict conflict c.problem-problem.ensures.problem

pub returns-in_err-learnt-clause-journal : goal.returns-in_err-learnt-clause-journal
returns-in_err-learnt-clause-journal g c =
    let conflict = rw (← c.self.view_is) at c.requires.conflict in
    let same = c.problem-problem.ensures.problem in
    let keeps = rw same at c.in_err-learnt.ensures.keeps in
    rw c.in_err-learnt.ensures.by (journal-added c.self.inside.theories.problem c.self.inside.journal c.analyse.new.journal c.in_err-learnt.ensures.err (keeps conflict.whole.journal.journal.justified) conflict.whole.journal.journal)

pub add-requires-clause-within : goal.add-requires-clause-within
add-requires-clause-within g c =
    let analysis = analysed c.self.view_is c.requires.conflict c.requires.level c.problem-problem.ensures.problem c.in_ok-learnt.ensures.learns c.in_ok-learnt.ensures.settles c.in_ok-learnt.ensures.keeps c.known.ensures.sound in
    rw c.lits.ensures (learned_within analysis)

pub add-requires-clause-rising : goal.add-requires-clause-rising
add-requires-clause-rising g c =
    let analysis = analysed c.self.view_is c.requires.conflict c.requires.level c.problem-problem.ensures.problem c.in_ok-learnt.ensures.learns c.in_ok-learnt.ensures.settles c.in_ok-learnt.ensures.keeps c.known.ensures.sound in
    learned_rising analysis

pub add-requires-clause-follows : goal.add-requires-clause-follows
add-requires-clause-follows g c =
    let analysis = analysed c.self.view_is c.requires.conflict c.requires.level c.problem-problem.ensures.problem c.in_ok-learnt.ensures.learns c.in_ok-learnt.ensures.settles c.in_ok-learnt.ensures.keeps c.known.ensures.sound in
    rw c.backjump.ensures.trail (learned_follows analysis c.level_after-level.result c.level_after-level.ensures.within)

pub returns-clause-journal : goal.returns-clause-journal
returns-clause-journal g c =
    let analysis = analysed c.self.view_is c.requires.conflict c.requires.level c.problem-problem.ensures.problem c.in_ok-learnt.ensures.learns c.in_ok-learnt.ensures.settles c.in_ok-learnt.ensures.keeps c.known.ensures.sound in
    let open_journal = learned_open analysis in
    let problem : c.backjump.new.theories.problem ≡ c.self.inside.theories.problem = ap (λ (b : TheoriesView). b.problem) c.backjump.ensures.theories ∙ ap (λ (b : TheoriesView). b.problem) c.in_ok-learnt.ensures.by in
    subst (λ (p : Instance). IsJournal p c.analyse.new.journal) (sym problem) open_journal.journal

pub returns-clause-ready : goal.returns-clause-ready
returns-clause-ready g c =
    let analysis = analysed c.self.view_is c.requires.conflict c.requires.level c.problem-problem.ensures.problem c.in_ok-learnt.ensures.learns c.in_ok-learnt.ensures.settles c.in_ok-learnt.ensures.keeps c.known.ensures.sound in
    let u = c.analyse.new.trail in
    let ok = rw c.lits.ensures at c.add.ensures.ok in
    let ready = added analysis
    c.add.result c.level_after-level.result c.backjump.new.order c.backjump.new.trail c.add.new.self c.level_after-level.ensures.within c.backjump.ensures.sound c.backjump.ensures.trail (subst (λ (o : OrderView). Releases o c.backjump.new.order (drop (count_to c.level_after-level.result u.marks) u.lits)) c.bump_resolved.ensures c.backjump.ensures.order) ok c.add.ensures.follows in
    let board : c.backjump.new.theories ≡ having_seen c.self.inside.theories u.lits (min c.self.inside.theories.handed (count_to c.level_after-level.result u.marks)) = c.backjump.ensures.theories ∙ ap (λ (b : TheoriesView). having_seen b u.lits (min b.handed (count_to c.level_after-level.result u.marks))) c.in_ok-learnt.ensures.by in
    subst (λ (b : TheoriesView). OnOk c.add.result (IsReady (state b c.backjump.new.trail c.add.new.self c.analyse.new.journal c.backjump.new.order))) (sym board) ready

pub returns-clause-chains : goal.returns-clause-chains
returns-clause-chains g c =
    let analysis = analysed c.self.view_is c.requires.conflict c.requires.level c.problem-problem.ensures.problem c.in_ok-learnt.ensures.learns c.in_ok-learnt.ensures.settles c.in_ok-learnt.ensures.keeps c.known.ensures.sound in
    let e = learned_chains analysis in
    rw (← c.self.view_is) (on_ok c.add.result (chain_count c.analyse.new.journal ≡ chain_count c.self.inside.journal + 1) e)

pub returns-clause-back : goal.returns-clause-back
returns-clause-back g c =
    let analysis = analysed c.self.view_is c.requires.conflict c.requires.level c.problem-problem.ensures.problem c.in_ok-learnt.ensures.learns c.in_ok-learnt.ensures.settles c.in_ok-learnt.ensures.keeps c.known.ensures.sound in
    let back = went_back analysis c.backjump.new.theories c.backjump.new.trail c.add.new.self c.backjump.new.order c.args.restarts c.level_after-level.result c.level_after-level.ensures.level c.backjump.ensures.trail
    (subst (λ (o : OrderView). Releases o c.backjump.new.order (drop (count_to c.level_after-level.result c.analyse.new.trail.marks) c.analyse.new.trail.lits)) c.bump_resolved.ensures c.backjump.ensures.order) in
    rw (← c.self.view_is) (on_ok c.add.result (GoesBack (state c.self.inside.theories c.self.inside.trail c.self.inside.store c.self.inside.journal c.self.inside.order) (state c.backjump.new.theories c.backjump.new.trail c.add.new.self c.analyse.new.journal c.backjump.new.order) c.args.restarts) back)

pub returns-in_err-learnt-clause-keeps : goal.returns-in_err-learnt-clause-keeps
returns-in_err-learnt-clause-keeps g c = rw (← c.self.view_is) (more_lemmas c.self.inside.journal c.analyse.new.journal c.in_err-learnt.ensures.err)

pub returns-in_err-learnt-clause-within : goal.returns-in_err-learnt-clause-within
returns-in_err-learnt-clause-within g c =
    let same = count_lemmas c.self.inside.journal c.analyse.new.journal c.in_err-learnt.ensures.err in
    let le : chain_count c.analyse.new.journal ≤ chain_count c.self.inside.journal + 1 = omega (arith, same) in
    rw (← c.self.view_is) le

pub returns-clause-keeps : goal.returns-clause-keeps
returns-clause-keeps g c = rw (← c.self.view_is) (more_learned c.problem-problem.result.now c.self.inside.trail c.self.inside.journal c.analyse.new.journal c.in_ok-learnt.learnt c.in_ok-learnt.ensures.learns)

pub returns-clause-within : goal.returns-clause-within
returns-clause-within g c =
    let analysis = analysed c.self.view_is c.requires.conflict c.requires.level c.problem-problem.ensures.problem c.in_ok-learnt.ensures.learns c.in_ok-learnt.ensures.settles c.in_ok-learnt.ensures.keeps c.known.ensures.sound in
    let e = learned_chains analysis in
    let le : chain_count c.analyse.new.journal ≤ chain_count c.self.inside.journal + 1 = omega (arith, e) in
    rw (← c.self.view_is) le
