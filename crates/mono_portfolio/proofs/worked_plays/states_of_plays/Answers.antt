use Rattle.std.proofs.Common.{◌≡◌, true, false, [], ◌∷◌, All, pos, sym, ◌∙◌, arith}
use Rattle.std.specs.Prelude.{IsTrue}
use Rattle.std.proofs.lemmas.List.Elements.{All-head}
use Rattle.mono_base.specs.Literal.{IsLitWithin}
use Rattle.mono_portfolio.specs.Extended.{has_chain}
use Rattle.mono_steps.specs.WorkedLemmas.{chain}
use Rattle.mono_portfolio.specs.TeamView.{start, IsWorker}
use Rattle.mono_search.specs.Worked.{two_clauses, first_learned}
use Rattle.mono_portfolio.specs.Worked.{worker, events, replies, at_end}
use Rattle.mono_portfolio.proofs.Changes.{start_ok}
use Rattle.mono_portfolio.proofs.Playing.{play_keeps}
use Rattle.mono_portfolio.proofs.WorkedProblem.{two_clauses_ok}
use Rattle.mono_portfolio.proofs.worked_plays.states_of_plays.Goals as goal

pub returns-clause-reached : goal.returns-clause-reached
returns-clause-reached c = play_keeps (start two_clauses 2) events replies at_end (start_ok two_clauses 2 two_clauses_ok) c.small_play.ensures

pub returns-clause-no_problem : goal.returns-clause-no_problem
returns-clause-no_problem c = λ h.
    let first = All-head (All (IsLitWithin 0)) (pos 1 ∷ []) [] h.problem.clauses in
    let lit = All-head (IsLitWithin 0) (pos 1) [] first in
    omega (arith, lit.1)

pub returns-clause-board : goal.returns-clause-board
returns-clause-board c = λ h. let e = h.justified in cc

pub returns-clause-no_chain : goal.returns-clause-no_chain
returns-clause-no_chain c = λ h.
    let x = All-head (IsWorker two_clauses first_learned) (worker (2 ∷ []) []) [] h.workers in
    let e = All-head (λ n. IsTrue (has_chain two_clauses first_learned n)) 2 [] x.held in
    cc

pub returns-clause-no_room : goal.returns-clause-no_room
returns-clause-no_room c = λ p board x passes h. let e : true ≡ false = sym passes ∙ h.fits in cc

pub returns-clause-made : goal.returns-clause-made
returns-clause-made c = λ h.
    let x = All-head (IsWorker two_clauses []) (worker [] (chain [] (1 ∷ 2 ∷ []) ∷ [])) [] h.workers in
    let e = x.justified in
    cc
