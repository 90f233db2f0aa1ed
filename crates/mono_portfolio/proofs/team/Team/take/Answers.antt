use Rattle.std.proofs.Common.{◌≡◌, ◌<◌, ◌++◌, ◌∷◌, [], ◌∙◌, true, false, length, set, ap, sym, subst, arith, List, Option}
use Rattle.std.specs.Prelude.{◌==◌}
use Rattle.std.specs.List.{list_any}
use Rattle.std.proofs.lemmas.List.{get_or_read}
use Rattle.mono_steps.specs.declared.step.Step.{Step}
use Rattle.mono_portfolio.specs.declared.event.Event.TheVariants as event
use Rattle.mono_portfolio.specs.declared.event.Reply.TheVariants as reply
use Rattle.mono_portfolio.specs.Extended.{extended as extended_by, has_chain, passes_limits}
use Rattle.mono_portfolio.specs.Plays.{Answers}
use Rattle.mono_portfolio.specs.TeamView.{TeamView}
use Rattle.mono_portfolio.specs.declared.building.Built.{Built}
use Rattle.mono_portfolio.specs.Workers.{WorkerState, IsKeptWorker, shown, shown_team, IsKeptTeam}
use Rattle.mono_portfolio.proofs.Kept.{on_error, team_sets, team_takes, unchanged, take_answers, already_taken, full}
use Rattle.mono_portfolio.proofs.team.Team.take.Goals as goal

pub is_full-requires-clause-kept : goal.is_full-requires-clause-kept
is_full-requires-clause-kept c =
    let p = c.self.inside.problem.now in
    let b = c.self.inside.board.items in
    let x = c.index-taker.result.now in
    let there : c.args.worker < length c.self.inside.workers.items = omega arith in
    let kept : IsKeptWorker p b x = subst (λ (y : WorkerState). IsKeptWorker p b y) (sym c.index-taker.ensures) (c.self.invariant.workers c.args.worker x there) in
    subst (λ (ss : List Step). IsKeptWorker p ss x) (sym c.as_slice-board.ensures.value) kept

pub is_full-requires-clause-held : goal.is_full-requires-clause-held
is_full-requires-clause-held c = sym c.has_chain.ensures ∙ c.if-not-has_chain.false

pub take-requires-clause-kept : goal.take-requires-clause-kept
take-requires-clause-kept c =
    let p = c.self.inside.problem.now in
    let b = c.self.inside.board.items in
    let x = c.index_mut.result.now in
    let there : c.args.worker < length c.self.inside.workers.items = omega arith in
    let kept : IsKeptWorker p b x = subst (λ (y : WorkerState). IsKeptWorker p b y) (sym c.index_mut.ensures.value) (c.self.invariant.workers c.args.worker x there) in
    subst (λ (ss : List Step). IsKeptWorker p ss x) (sym c.as_slice-board.ensures.value) kept

pub take-requires-clause-held : goal.take-requires-clause-held
take-requires-clause-held c = sym c.has_chain.ensures ∙ c.if-not-has_chain.false

pub take-requires-clause-new : goal.take-requires-clause-new
take-requires-clause-new c =
    let there : c.args.worker < length c.self.inside.workers.items = omega arith in
    let same : c.index_mut.result.now ≡ c.index-taker.result.now = c.index_mut.ensures.value ∙ sym (get_or_read c.self.inside.workers.items c.args.worker c.index-taker.result.now there c.index-taker.ensures c.index_mut.result.now) in
    ap (λ (y : WorkerState). list_any (λ n. c.args.step == n) y.taken) same ∙ sym c.has_taken.ensures ∙ c.if-has_taken.false

pub take-requires-clause-fits : goal.take-requires-clause-fits
take-requires-clause-fits c =
    let there : c.args.worker < length c.self.inside.workers.items = omega arith in
    let same : c.index_mut.result.now ≡ c.index-taker.result.now = c.index_mut.ensures.value ∙ sym (get_or_read c.self.inside.workers.items c.args.worker c.index-taker.result.now there c.index-taker.ensures c.index_mut.result.now) in
    ap (λ (y : WorkerState). passes_limits (extended_by c.self.inside.problem.now c.as_slice-board.result.now (y.taken ++ c.args.step ∷ []))) same ∙ sym c.is_full.ensures ∙ c.if-is_full.false

pub returns-then-has_taken-clause-ok : goal.returns-then-has_taken-clause-ok
returns-then-has_taken-clause-ok c =
    let p = c.self.inside.problem.now in
    let b = c.self.inside.board.items in
    let there : c.args.worker < length c.self.inside.workers.items = omega arith in
    let chain : has_chain p b c.args.step ≡ true = ap (λ (ss : List Step). has_chain p ss c.args.step) (sym c.as_slice-board.ensures.value) ∙ sym c.has_chain.ensures ∙ c.if-not-has_chain.false in
    rw (← c.self.view_is) (already_taken p b c.self.inside.workers.items c.args.worker c.args.step c.index-taker.result.now there c.index-taker.ensures chain (sym c.has_taken.ensures ∙ c.if-has_taken.true))

pub returns-then-is_full-clause-ok : goal.returns-then-is_full-clause-ok
returns-then-is_full-clause-ok c =
    let p = c.self.inside.problem.now in
    let b = c.self.inside.board.items in
    let x = c.index-taker.result.now in
    let there : c.args.worker < length c.self.inside.workers.items = omega arith in
    let chain : has_chain p b c.args.step ≡ true = ap (λ (ss : List Step). has_chain p ss c.args.step) (sym c.as_slice-board.ensures.value) ∙ sym c.has_chain.ensures ∙ c.if-not-has_chain.false in
    let over : passes_limits (extended_by p b (x.taken ++ c.args.step ∷ [])) ≡ true = ap (λ (ss : List Step). passes_limits (extended_by p ss (x.taken ++ c.args.step ∷ []))) (sym c.as_slice-board.ensures.value) ∙ sym c.is_full.ensures ∙ c.if-is_full.true in
    rw (← c.self.view_is) (full p b c.self.inside.workers.items c.args.worker c.args.step x there c.index-taker.ensures chain (sym c.has_taken.ensures ∙ c.if-has_taken.false) over)

pub invariant_of-self : goal.invariant_of-self
invariant_of-self c =
    let p = c.self.inside.problem.now in
    let y = c.take.new.self in
    let same : y.taken ≡ c.index_mut.result.now.taken = ap (λ (z : WorkerState). z.taken) c.in_err-take.ensures.err in
    team_sets p c.self.inside.board.items c.self.inside.workers.items c.self.inside.built c.args.worker c.index_mut.result.now y c.self.invariant c.index_mut.ensures.value
    (subst (λ (ss : List Step). IsKeptWorker p ss y) c.as_slice-board.ensures.value c.take.ensures.kept) same

pub invariant_of-self-2 : goal.invariant_of-self-2
invariant_of-self-2 c =
    let p = c.self.inside.problem.now in
    let b = c.self.inside.board.items in
    let xs = c.self.inside.workers.items in
    let y = c.take.new.self in
    subst (λ (r : Option Built). IsKeptTeam p b (set xs c.args.worker y) r) (sym c.drop_built_of.ensures)
    (team_takes p b xs c.self.inside.built c.args.worker y c.self.invariant (subst (λ (ss : List Step). IsKeptWorker p ss y) c.as_slice-board.ensures.value c.take.ensures.kept))

pub returns-in_err-take-clause-err : goal.returns-in_err-take-clause-err
returns-in_err-take-clause-err c =
    let there : c.args.worker < length c.self.inside.workers.items = omega arith in
    on_error c.from_residual.result
    (unchanged c.self.inside.problem.now c.self.inside.board.items c.self.inside.workers.items c.args.worker c.index_mut.result.now c.take.new.self there c.index_mut.ensures.value (ap shown c.in_err-take.ensures.err) ∙ c.self.view_is)

pub returns-clause-ok : goal.returns-clause-ok
returns-clause-ok c =
    let p = c.self.inside.problem.now in
    let b = c.self.inside.board.items in
    let xs = c.self.inside.workers.items in
    let x = c.index_mut.result.now in
    let there : c.args.worker < length xs = omega arith in
    let same : x ≡ c.index-taker.result.now = c.index_mut.ensures.value ∙ sym (get_or_read xs c.args.worker c.index-taker.result.now there c.index-taker.ensures x) in
    let chain : has_chain p b c.args.step ≡ true = ap (λ (ss : List Step). has_chain p ss c.args.step) (sym c.as_slice-board.ensures.value) ∙ sym c.has_chain.ensures ∙ c.if-not-has_chain.false in
    let new : list_any (λ n. c.args.step == n) x.taken ≡ false = ap (λ (y : WorkerState). list_any (λ n. c.args.step == n) y.taken) same ∙ sym c.has_taken.ensures ∙ c.if-has_taken.false in
    let fits : passes_limits (extended_by p b (x.taken ++ c.args.step ∷ [])) ≡ false =
    ap (λ (y : WorkerState). passes_limits (extended_by p b (y.taken ++ c.args.step ∷ []))) same
    ∙ ap (λ (ss : List Step). passes_limits (extended_by p ss (c.index-taker.result.now.taken ++ c.args.step ∷ []))) (sym c.as_slice-board.ensures.value) ∙ sym c.is_full.ensures ∙ c.if-is_full.false in
    subst (λ (s : TeamView). Answers s (event.Take c.args.worker c.args.step) reply.Taken (shown_team p b (set xs c.args.worker c.take.new.self))) c.self.view_is
    (take_answers p b xs c.args.worker c.args.step x c.take.new.self there c.index_mut.ensures.value chain new fits c.in_ok-take.ensures.ok)
