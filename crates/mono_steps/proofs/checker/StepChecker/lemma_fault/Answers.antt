use Rattle.std.proofs.Common.{◌≡◌, ◌∙◌, sym, subst, ap, IfOk, List, ℤ, Option}
use Rattle.std.specs.Prelude.{IsTrue}
use Rattle.mono_graph.specs.Digraph.{Digraph}
use Rattle.mono_problem.specs.Instance.{graph_at}
use Rattle.mono_steps.specs.ChainSteps.{names_vars}
use Rattle.mono_steps.specs.Current.{IsSetOf}
use Rattle.mono_steps.specs.Witnesses.{names_known, serves}
use Rattle.mono_steps.specs.declared.fault.StepFault.{StepFault}
use Rattle.mono_steps.proofs.LemmaFaults.{last_checks}
use Rattle.mono_steps.proofs.checker.StepChecker.lemma_fault.Goals as goal

pub returns-clause-fault : goal.returns-clause-fault
returns-clause-fault c =
    let p = c.args.problem.now in
    let l = c.args.lemma.now in
    let members = c.fill.new.set.members in
    let same = subst (λ (ls : List ℤ). IsSetOf members ls) c.lits-lits.ensures c.fill.ensures.has in
    let g = graph_at p c.in-Some.atom.graph in
    let serve : IsTrue (serves l.witness c.in-Some.atom.predicate) = sym c.serves.ensures ∙ c.if-not-serves.false in
    let vars : IsTrue (names_vars p l.clause) = ap (names_vars p) (sym c.lits-lits.ensures) ∙ sym c.names_vars.ensures ∙ c.if-not-names_vars.false in
    let known : IsTrue (names_known g l.witness) = ap (λ (h : Digraph). names_known h l.witness) (sym c.graph-graph.ensures) ∙ sym c.in_ok-place.ensures.known ∙ c.if-not-branch.false in
    subst (λ (o : Option StepFault). IfOk c.fault_in_graph.result (λ f. f ≡ o))
    (last_checks p l c.in-Some.atom members (sym c.atom_at.ensures.atom ∙ c.in-Some.is) serve vars known same)
    c.fault_in_graph.ensures.fault
