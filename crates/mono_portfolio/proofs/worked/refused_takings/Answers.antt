use Rattle.std.proofs.Common.{not, [], ◌∷◌, List, Bool, Some, ap, ◌∙◌}
use Rattle.std.proofs.lemmas.Bool.{cond-true, cond-false}
use Rattle.mono_portfolio.specs.declared.event.Reply.{Reply}
use Rattle.mono_portfolio.specs.declared.event.Reply.TheVariants as reply
use Rattle.mono_portfolio.specs.Extended.{has_chain}
use Rattle.mono_portfolio.specs.Refusals.{first_reply, lacks_worker, has_taken, is_full}
use Rattle.mono_portfolio.proofs.worked.refused_takings.Goals as goal

pub returns-clause-again_first : goal.returns-clause-again_first
returns-clause-again_first c = λ s w n worker step taken full.
    let third : List (Bool × Reply) = (is_full s w n, reply.Full) ∷ [] in
    let second : List (Bool × Reply) = (has_taken s w n, reply.AlreadyTaken) ∷ third in
    cond-false (lacks_worker s w) (Some reply.NoWorker) (first_reply ((not (has_chain s.problem s.board n), reply.NoStep) ∷ second)) worker
    ∙ cond-false (not (has_chain s.problem s.board n)) (Some reply.NoStep) (first_reply second) (ap not step)
    ∙ cond-true (has_taken s w n) (Some reply.AlreadyTaken) (first_reply third) taken

pub returns-clause-full : goal.returns-clause-full
returns-clause-full c = λ s w n worker step taken full.
    let third : List (Bool × Reply) = (is_full s w n, reply.Full) ∷ [] in
    let second : List (Bool × Reply) = (has_taken s w n, reply.AlreadyTaken) ∷ third in
    cond-false (lacks_worker s w) (Some reply.NoWorker) (first_reply ((not (has_chain s.problem s.board n), reply.NoStep) ∷ second)) worker
    ∙ cond-false (not (has_chain s.problem s.board n)) (Some reply.NoStep) (first_reply second) (ap not step)
    ∙ cond-false (has_taken s w n) (Some reply.AlreadyTaken) (first_reply third) taken
    ∙ cond-true (is_full s w n) (Some reply.Full) (first_reply []) full
