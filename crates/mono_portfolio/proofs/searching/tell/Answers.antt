use Rattle.std.proofs.Common.{◌∙◌, subst}
use Rattle.mono_search.specs.declared.solving.Solved.{Solved}
use Rattle.mono_search.specs.Outcomes.{HasModel}
use Rattle.mono_search.specs.Solving.{IsSolved}
use Rattle.mono_portfolio.proofs.searching.tell.Goals as goal

pub returns-in-Model : goal.returns-in-Model
returns-in-Model c = λ p q slice carries solved.
    let model : HasModel q c.in-Model.model = subst (λ (s : Solved). IsSolved q slice s) c.in-Model.is solved in
    (carries c.in-Model.model model, c.from_vec.ensures ∙ c.new.ensures.items)

pub returns-in-Refutation : goal.returns-in-Refutation
returns-in-Refutation c = λ p q slice carries solved. subst (λ (s : Solved). IsSolved q slice s) c.in-Refutation.is solved

pub returns-in-Progress : goal.returns-in-Progress
returns-in-Progress c = λ p q slice carries solved. subst (λ (s : Solved). IsSolved q slice s) c.in-Progress.is solved
