use Rattle.std.proofs.Common.{◌≡◌, ◌+◌, ◌≤◌, ℕ, arith}
use Rattle.mono_base.specs.declared.limits.TheConstants.{MAX_ATOMS, MAX_CLAUSES, MAX_EDGES, MAX_GRAPHS, MAX_LITERALS, MAX_NODES, MAX_VARS}
use Rattle.mono_rows.proofs.problem.problems_beyond_the_limits.Goals as goal

-- one more than a limit isn't within it
beyond : (n limit : ℕ) → n ≡ limit + 1 → n ≤ limit → ⊥
beyond n limit more within = omega (arith, more, within)

pub returns-clause-variables : goal.returns-clause-variables
returns-clause-variables c = λ p more h. beyond _ MAX_VARS more h.vars

pub returns-clause-graphs : goal.returns-clause-graphs
returns-clause-graphs c = λ p more h. beyond _ MAX_GRAPHS more h.few_graphs

pub returns-clause-nodes : goal.returns-clause-nodes
returns-clause-nodes c = λ p more h. beyond _ MAX_NODES more h.few_nodes

pub returns-clause-edges : goal.returns-clause-edges
returns-clause-edges c = λ p more h. beyond _ MAX_EDGES more h.few_edges

pub returns-clause-predicates : goal.returns-clause-predicates
returns-clause-predicates c = λ p more h. beyond _ MAX_ATOMS more h.few_atoms

pub returns-clause-clauses : goal.returns-clause-clauses
returns-clause-clauses c = λ p more h. beyond _ MAX_CLAUSES more h.few_clauses

pub returns-clause-literals : goal.returns-clause-literals
returns-clause-literals c = λ p more h. beyond _ MAX_LITERALS more h.few_literals
