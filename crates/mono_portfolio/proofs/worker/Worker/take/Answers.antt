use Rattle.std.proofs.Common.{◌≡◌, ◌+◌, ◌++◌, ◌∷◌, [], ◌∙◌, ap, refl, sym, subst, arith, ℕ, ℤ, length, List}
use Rattle.mono_portfolio.specs.Extended.{extended as extended_by, board_clause}
use Rattle.mono_portfolio.specs.Workers.{WorkerState, shown, IsKeptWorker}
use Rattle.mono_portfolio.specs.TeamView.{WorkerView}
use Rattle.mono_portfolio.proofs.ExtendedLaws.{within_limits}
use Rattle.mono_portfolio.proofs.Kept.{taken_is, kept_takes}
use Rattle.mono_portfolio.proofs.worker.Worker.take.Goals as goal

abbrev having : List ℕ → WorkerView
having ns = record { taken = ns; made = [] }

pub add_number-requires : goal.add_number-requires
add_number-requires c = rw (← c.self.view_is) at c.requires.new

pub overflow_add-self : goal.overflow_add-self
overflow_add-self c =
    let l : c.self.inside.literals ≡ c.args.self.now.literals = ap (λ (x : WorkerState). x.literals) c.self.view_is in
    let few = within_limits (extended_by c.args.problem.now c.args.board.now c.args.self.now.taken) c.requires.kept.worker.fits in
    omega (arith, l, c.requires.kept.literals, few.1)

pub returns-clause-kept : goal.returns-clause-kept
returns-clause-kept c =
    let p = c.args.problem.now in
    let b = c.args.board.now in
    let x : WorkerState = c.args.self.now in
    let n = c.args.step in
    let literals : ℕ = c.self.inside.literals + length c.clause_of.result.now in
    let t : c.add_number.new.taken.keys ≡ x.taken ++ n ∷ [] = c.in_ok-add_number.ensures.ok ∙ ap (λ (y : WorkerState). y.taken ++ n ∷ []) c.self.view_is in
    let l : literals ≡ x.literals + length (board_clause p b n) = omega (arith, ap (λ (y : WorkerState). y.literals) c.self.view_is, ap (λ (ls : List ℤ). length ls) c.clause_of.ensures) in
    subst (λ (y : WorkerState). IsKeptWorker p b y) (sym (c.clear_made.ensures ∙ taken_is p b x n literals c.add_number.new.taken.keys [] t refl l)) (kept_takes p b x n c.requires.kept c.requires.held c.requires.fits)

pub returns-clause-ok : goal.returns-clause-ok
returns-clause-ok c =
    let n = c.args.step in
    let t : c.add_number.new.taken.keys ≡ c.args.self.now.taken ++ n ∷ [] = c.in_ok-add_number.ensures.ok ∙ ap (λ (y : WorkerState). y.taken ++ n ∷ []) c.self.view_is in
    ap shown c.clear_made.ensures ∙ ap (λ (ns : List ℕ). having ns) t
