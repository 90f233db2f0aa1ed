use Rattle.std.proofs.Common.{◌≡◌, List, ap, subst, ◌∙◌}
use Rattle.std.specs.Prelude.{IsTrue}
use Rattle.mono_problem.specs.declared.uses.Use.{Use}
use Rattle.mono_problem.specs.Instance.{Instance}
use Rattle.mono_problem.specs.Uses.{uses_of, has_edge_use}
use Rattle.mono_problem.proofs.EdgeUses.{switches_its_edges, switches_places}
use Rattle.mono_problem.proofs.problem.Problem.uses.Goals as goal
use Rattle.mono_problem.proofs.problem.Problem.uses.Goals.{After-of}

are_uses : (c : After-of) → c.of.result.now ≡ uses_of c.args.self.now c.args.var
are_uses c = c.of.ensures ∙ c.self.invariant.uses c.args.var ∙ ap (λ (p : Instance). uses_of p c.args.var) c.self.view_is

pub returns-clause-edges : goal.returns-clause-edges
returns-clause-edges c = λ k j held within. ap (λ (us : List Use). has_edge_use k j us) (are_uses c) ∙ switches_its_edges c.args.self.now k j c.args.var held within

pub returns-clause-places : goal.returns-clause-places
returns-clause-places c = λ k j held h. switches_places c.args.self.now k j c.args.var held (subst (λ (us : List Use). IsTrue (has_edge_use k j us)) (are_uses c) h)
