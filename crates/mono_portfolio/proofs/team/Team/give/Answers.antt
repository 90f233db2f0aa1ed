use Rattle.std.proofs.Common.{◌≡◌, ◌<◌, ◌++◌, [], length, map, get_or, set, false, refl, sym, ap, subst, ◌∙◌, arith, ℕ, List}
use Rattle.std.specs.Prelude.{◌==◌}
use Rattle.std.proofs.lemmas.List.{get_or_read, length-map}
use Rattle.mono_steps.specs.declared.step.Step.{Step}
use Rattle.mono_portfolio.specs.declared.event.Event.TheVariants as event
use Rattle.mono_portfolio.specs.declared.event.Reply.TheVariants as reply
use Rattle.mono_portfolio.specs.Moved.{moved_step, moved}
use Rattle.mono_portfolio.specs.TeamView.{TeamView}
use Rattle.mono_portfolio.specs.Plays.{Answers}
use Rattle.mono_portfolio.specs.Workers.{WorkerState, IsKeptWorker, shown_team, IsKeptTeam}
use Rattle.mono_portfolio.proofs.Carried.{moved_justified}
use Rattle.mono_portfolio.proofs.Kept.{kept_makes, team_gives, give_answers, kept_names}
use Rattle.mono_portfolio.proofs.team.Team.give.Goals as goal
use Rattle.mono_portfolio.proofs.team.Team.give.Goals.{After-drop-steps-2}

pub moved_steps-requires-clause-names : goal.moved_steps-requires-clause-names
moved_steps-requires-clause-names c =
    let p = c.self.inside.problem.now in
    let b = c.self.inside.board.items in
    let x = c.index-giver.result.now in
    let lt : c.args.worker < length c.self.inside.workers.items = omega arith in
    let is : x ≡ get_or c.self.inside.workers.items c.args.worker x = get_or_read c.self.inside.workers.items c.args.worker x lt c.index-giver.ensures x in
    let kept : IsKeptWorker p b x = subst (λ (y : WorkerState). IsKeptWorker p b y) (sym is) (c.self.invariant.workers c.args.worker x lt) in
    kept_names p b x c.from-count.result c.taken.result.now c.made-2.result.now kept (c.from-count.ensures ∙ c.clause_count.ensures) c.taken.ensures c.made-2.ensures

there : (c : After-drop-steps-2) → c.args.worker < length c.self.inside.workers.items
there c = omega arith

changed_is : (c : After-drop-steps-2) → c.index_mut.result.now ≡ get_or c.self.inside.workers.items c.args.worker c.index_mut.result.now
changed_is c = c.index_mut.ensures.value

giver_is : (c : After-drop-steps-2) → c.index-giver.result.now ≡ c.index_mut.result.now
giver_is c = get_or_read c.self.inside.workers.items c.args.worker c.index-giver.result.now (there c) c.index-giver.ensures c.index_mut.result.now ∙ sym (changed_is c)

more_is : (c : After-drop-steps-2) → c.in_ok-steps.steps.items ≡ moved c.self.inside.problem.now c.index_mut.result.now.made c.index_mut.result.now.taken c.self.inside.board.items
more_is c =
    let count : c.from-count.result ≡ length c.self.inside.problem.now.clauses = c.from-count.ensures ∙ c.clause_count.ensures in
    let size : c.len-before.result ≡ length c.self.inside.board.items = c.len-before.ensures ∙ c.self.inside.board.ok.0 in
    let taken : c.taken.result.now ≡ c.index_mut.result.now.taken = c.taken.ensures ∙ ap (λ (z : WorkerState). z.taken) (giver_is c) in
    let made : c.made-2.result.now ≡ c.index_mut.result.now.made = c.made-2.ensures ∙ ap (λ (z : WorkerState). z.made) (giver_is c) in
    c.in_ok-steps.ensures ∙ ap (λ (n : ℕ). map (moved_step n c.taken.result.now c.len-before.result) c.made-2.result.now) count
    ∙ ap (λ (n : ℕ). map (moved_step (length c.self.inside.problem.now.clauses) c.taken.result.now n) c.made-2.result.now) size
    ∙ ap (λ (ns : List ℕ). map (moved_step (length c.self.inside.problem.now.clauses) ns (length c.self.inside.board.items)) c.made-2.result.now) taken
    ∙ ap (λ (ss : List Step). map (moved_step (length c.self.inside.problem.now.clauses) c.index_mut.result.now.taken (length c.self.inside.board.items)) ss) made

board_is : (c : After-drop-steps-2) → c.append.new.self.items ≡ c.self.inside.board.items ++ c.in_ok-steps.steps.items
board_is c = c.in_ok-append.ensures.items

given_is : (c : After-drop-steps-2) → c.len-given.result ≡ length c.index_mut.result.now.made
given_is c =
    c.len-given.ensures ∙ c.in_ok-steps.steps.ok.0 ∙ ap (λ (ss : List Step). length ss) (more_is c)
    ∙ length-map c.index_mut.result.now.made (moved_step (length c.self.inside.problem.now.clauses) c.index_mut.result.now.taken (length c.self.inside.board.items))

some : (c : After-drop-steps-2) → (length c.index_mut.result.now.made == 0) ≡ false
some c = ap (λ (z : WorkerState). length z.made == 0) (sym (giver_is c)) ∙ ap (λ (ss : List Step). length ss == 0) (sym c.made.ensures) ∙ sym c.is_empty.ensures ∙ c.if-is_empty.false

pub invariant_of-self-2 : goal.invariant_of-self-2
invariant_of-self-2 c =
    let e = (goal.at.invariant_of-self-2 c).After-drop-steps-2 in
    let p = e.self.inside.problem.now in
    let b = e.self.inside.board.items in
    let xs = e.self.inside.workers.items in
    let x = e.index_mut.result.now in
    let kept : IsKeptWorker p b x = subst (λ (y : WorkerState). IsKeptWorker p b y) (sym (changed_is e)) (e.self.invariant.workers e.args.worker x (there e)) in
    let y : IsKeptWorker p b e.clear_made.new.self = subst (λ (z : WorkerState). IsKeptWorker p b z) (sym e.clear_made.ensures) (kept_makes p b x [] kept refl) in
    let joined = moved_justified p b x.taken x.made e.self.invariant.justified kept.worker.held kept.worker.justified in
    let o = e.self.inside.built in
    let same : e.clear_made.new.self.taken ≡ x.taken = ap (λ (z : WorkerState). z.taken) e.clear_made.ensures in
    subst (λ (ss : List Step). IsKeptTeam p ss (set xs e.args.worker e.clear_made.new.self) o) (ap (λ (ss : List Step). b ++ ss) (sym (more_is e)) ∙ sym (board_is e))
    (team_gives p b (moved p x.made x.taken b) xs o e.args.worker x e.clear_made.new.self e.self.invariant (changed_is e) y same joined)

pub returns-clause-ok : goal.returns-clause-ok
returns-clause-ok c =
    let e = (goal.at.returns-clause-ok c).After-drop-steps-2 in
    let p = e.self.inside.problem.now in
    let b = e.self.inside.board.items in
    let xs = e.self.inside.workers.items in
    let after : Answers (shown_team p b xs) (event.Give c.args.worker) (reply.Given c.len-given.result) (shown_team p (b ++ e.in_ok-steps.steps.items) (set xs c.args.worker e.clear_made.new.self)) =
    give_answers p b e.in_ok-steps.steps.items xs c.args.worker c.len-given.result e.index_mut.result.now e.clear_made.new.self (there e) (changed_is e) (some e) (more_is e) e.clear_made.ensures (given_is e) in
    subst (λ (s : TeamView). Answers s (event.Give c.args.worker) (reply.Given c.len-given.result) (shown_team p c.append.new.self.items (set xs c.args.worker e.clear_made.new.self))) c.self.view_is
    (subst (λ (ss : List Step). Answers (shown_team p b xs) (event.Give c.args.worker) (reply.Given c.len-given.result) (shown_team p ss (set xs c.args.worker e.clear_made.new.self))) (sym (board_is e)) after)
