use Rattle.std.proofs.Common.{◌∷◌, [], true, false, refl}
use Rattle.std.proofs.lemmas.List.Elements.{All-head}
use Rattle.mono_portfolio.specs.declared.event.Reply.TheVariants as reply
use Rattle.mono_portfolio.specs.Soundness.{IsTrueModel}
use Rattle.mono_search.specs.Worked.{two_clauses}
use Rattle.mono_portfolio.proofs.worked_plays.unsound_plays.Goals as goal

pub returns-clause-board : goal.returns-clause-board
returns-clause-board c = λ h. let e = h.justified in cc

pub returns-clause-model : goal.returns-clause-model
returns-clause-model c = λ h. let m = All-head (IsTrueModel two_clauses) (reply.Model (false ∷ true ∷ [])) [] h.models in let e = m.satisfies.0 in cc

pub returns-clause-both : goal.returns-clause-both
returns-clause-both c = λ h. let e = h.one_answer refl in cc

pub returns-clause-refutation : goal.returns-clause-refutation
returns-clause-refutation c = λ h. let e = h.refutes 1 0 refl refl in cc
