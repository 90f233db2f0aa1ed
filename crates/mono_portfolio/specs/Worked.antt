-- Small problems, boards and plays for the worked rows.
use Rattle.std.specs.Prelude.{ℕ, pos, ℤ, List, [], ◌∷◌}
use Rattle.mono_problem.specs.Instance.{Instance}
use Rattle.mono_steps.specs.declared.lemma.Witness.TheVariants as by
use Rattle.mono_steps.specs.declared.step.Step.{Step}
use Rattle.mono_steps.specs.declared.step.Step.TheVariants as step
use Rattle.mono_steps.specs.Worked.{clauses_over}
use Rattle.mono_steps.specs.WorkedLemmas.{minus, chain, of_1}
use Rattle.mono_search.specs.Worked.{both_signs, two_clauses, first_learned, learned_behind_a_lemma}
use Rattle.mono_portfolio.specs.declared.event.Event.{Event}
use Rattle.mono_portfolio.specs.declared.event.Event.TheVariants as event
use Rattle.mono_portfolio.specs.declared.event.Reply.{Reply}
use Rattle.mono_portfolio.specs.declared.event.Reply.TheVariants as reply
use Rattle.mono_portfolio.specs.TeamView.{WorkerView, TeamView}

-- a lemma
abbrev pub some_lemma : Step
some_lemma = step.Lemma (of_1 (pos 2 ∷ []) (by.Path []))

-- over the problem with {1} behind its own clauses: chains that name it, a clause of the problem, and the step before, and a lemma
abbrev pub made : List Step
made = chain (pos 1 ∷ []) (3 ∷ []) ∷ chain (pos 1 ∷ []) (1 ∷ []) ∷ chain (pos 1 ∷ []) (5 ∷ []) ∷ some_lemma ∷ []

-- the steps of `made` as they join a board of two steps, of which the second was taken
abbrev pub on_the_board : List Step
on_the_board = chain (pos 1 ∷ []) (4 ∷ []) ∷ chain (pos 1 ∷ []) (1 ∷ []) ∷ chain (pos 1 ∷ []) (6 ∷ []) ∷ some_lemma ∷ []

abbrev pub worker : List ℕ → List Step → WorkerView
worker taken steps = record { taken = taken; made = steps }

abbrev pub team : List Step → List WorkerView → TeamView
team board workers = record { problem = two_clauses; board = board; workers = workers }

-- worker 0 took the chain and made nothing, worker 1 took nothing and made a chain
abbrev pub two_workers : TeamView
two_workers = team learned_behind_a_lemma (worker (4 ∷ []) [] ∷ worker [] first_learned ∷ [])

-- the one worker of a team over {1} and {-1} made these steps
abbrev pub refuted_by : List Step → TeamView
refuted_by steps = record { problem = both_signs; board = []; workers = worker [] steps ∷ [] }

-- a slice, given and taken, and refusals
abbrev pub events : List Event
events =
    event.Run 0 1 ∷ event.Give 0 ∷ event.Take 1 3 ∷ event.Take 1 3 ∷ event.Run 5 1 ∷ event.Run 0 0 ∷ event.Give 0
    ∷ event.Take 0 1 ∷ event.Take 0 4 ∷ []

abbrev pub replies : List Reply
replies =
    reply.Slice ∷ reply.Given 1 ∷ reply.Taken ∷ reply.AlreadyTaken ∷ reply.NoWorker ∷ reply.ZeroSlice ∷ reply.NothingMade
    ∷ reply.NoStep ∷ reply.NoStep ∷ []

abbrev pub at_end : TeamView
at_end = team first_learned (worker [] [] ∷ worker (3 ∷ []) [] ∷ [])

-- {1, 2}, {1, -2} and {-1}, of which the first two give {1}
abbrev pub three_clauses : Instance
three_clauses = clauses_over 2 ((pos 1 ∷ pos 2 ∷ []) ∷ (pos 1 ∷ minus 2 ∷ []) ∷ (minus 1 ∷ []) ∷ [])

-- {1} follows from these, by {1, 2} and {1, -2}
abbrev pub four_clauses : Instance
four_clauses = clauses_over 3 (
    (pos 1 ∷ pos 2 ∷ pos 3 ∷ []) ∷ (pos 1 ∷ pos 2 ∷ minus 3 ∷ [])
    ∷ (pos 1 ∷ minus 2 ∷ pos 3 ∷ []) ∷ (pos 1 ∷ minus 2 ∷ minus 3 ∷ []) ∷ [])

-- {1, 2}, which has the number 5 on an empty board; and {1}, which names it
abbrev pub given_first : Step
given_first = chain (pos 1 ∷ pos 2 ∷ []) (1 ∷ 2 ∷ [])

abbrev pub given_next : Step
given_next = chain (pos 1 ∷ []) (3 ∷ 4 ∷ 5 ∷ [])

-- so many literals
abbrev pub eight : List ℤ
eight = pos 1 ∷ pos 2 ∷ pos 3 ∷ pos 4 ∷ pos 5 ∷ pos 6 ∷ pos 7 ∷ pos 8 ∷ []

-- a lemma, and chains of eight, of nine and of no literals
abbrev pub long_and_short : List Step
long_and_short = some_lemma ∷ chain eight (1 ∷ []) ∷ chain (pos 9 ∷ eight) (1 ∷ []) ∷ chain [] (1 ∷ []) ∷ []
