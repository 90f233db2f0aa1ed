use Rattle.std.proofs.Common.{◌≡◌, ◌-◌, refl, length, arith}
use Rattle.mono_base.specs.declared.limits.TheConstants.{MAX_GRAPHS, MAX_EDGES, MAX_ATOMS}
use Rattle.mono_gnf.specs.Declarations.{graphs, edges, atoms}
use Rattle.mono_gnf.proofs.worked.worked_counts.Goals as goal

pub returns-clause-graphs : goal.returns-clause-graphs
returns-clause-graphs c = λ before full new. rw (new, full) refl

pub returns-clause-last_graph : goal.returns-clause-last_graph
returns-clause-last_graph c = λ before left nodes new. let count : length (graphs before) ≡ MAX_GRAPHS - 1 = omega (arith, left) in rw (new, count, nodes) refl

pub returns-clause-edges : goal.returns-clause-edges
returns-clause-edges c = λ before full named. rw (named, full) refl

pub returns-clause-last_edge : goal.returns-clause-last_edge
returns-clause-last_edge c = λ before left named. let count : length (edges before) ≡ MAX_EDGES - 1 = omega (arith, left) in rw (named, count) refl

pub returns-clause-predicates : goal.returns-clause-predicates
returns-clause-predicates c = λ before full named. rw (named, full) refl

pub returns-clause-last_predicate : goal.returns-clause-last_predicate
returns-clause-last_predicate c = λ before left named. let count : length (atoms before) ≡ MAX_ATOMS - 1 = omega (arith, left) in rw (named, count) refl
