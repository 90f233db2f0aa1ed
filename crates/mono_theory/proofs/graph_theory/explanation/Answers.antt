use Rattle.std.proofs.Common.{◌≡◌, ℤ, List, take, sym, ap, subst, ◌∙◌}
use Rattle.std.specs.Prelude.{Option, Some, MatchOption}
use Rattle.std.proofs.lemmas.Result.{IfOk-weaker}
use Rattle.mono_problem.specs.declared.atom.Atom.{Atom}
use Rattle.mono_problem.specs.Quiet.{Forces}
use Rattle.mono_theory.specs.Evidences.{lemma_by}
use Rattle.mono_theory.specs.Theories.{IsLemmaOf, atom_of}
use Rattle.mono_theory.proofs.EvidenceDecides.{explains}
use Rattle.mono_theory.proofs.ForcedAndExplained.{found_at, own_var}
use Rattle.mono_theory.proofs.graph_theory.explanation.Goals as goal

pub returns-clause-lemma : goal.returns-clause-lemma
returns-clause-lemma g c = λ n is forced.
    let f = c.args.frame.now in
    let l = c.args.question.lit in
    let t : List ℤ = take c.args.question.kept f.seen in
    let x : Atom = c.atom_at-atom.result in
    let its = c.atom_at-atom.ensures in
    let found : atom_of f.atoms n ≡ Some x = is ∙ ap (λ (y : Atom). Some y) (sym its.atom) in
    let forces : Forces f.graph x t l = subst (λ (o : Option Atom). MatchOption o ⊥ (λ y. Forces f.graph y t l)) found forced in
    let e = c.in_ok-evidence.evidence in
    IfOk-weaker c.lemma_of.result (λ m. m ≡ lemma_by f.graph x e) (IsLemmaOf f.graph f.atoms t n l)
    (λ m same. subst (IsLemmaOf f.graph f.atoms t n l) (sym same)
    (explains f.graph f.atoms t n x l e (rw c.answer.ensures.same at c.graph.ensures.known) its.var its.over found (found_at f.atoms n x found).1 (own_var f.atoms n x found) forces (rw (← its.atom) at c.in_ok-evidence.ensures.evidence))) (rw (c.graph.ensures.graph, c.answer.ensures.same) at c.lemma_of.ensures)
