use Rattle.std.proofs.Common.{◌≡◌, ◌≤◌, ℕ, arith}
use Rattle.mono_base.specs.declared.limits.TheConstants.{MAX_ATOMS, MAX_CLAUSES, MAX_EDGES, MAX_GRAPHS, MAX_LITERALS, MAX_NODES, MAX_VARS}
use Rattle.mono_rows.proofs.limits.problems_at_the_limits.Goals as goal

-- a limit is within itself
within : (n limit : ℕ) → n ≡ limit → n ≤ limit
within n limit e = omega (arith, e)

pub returns : goal.returns
returns c = record {
  all = λ p vars graphs nodes edges predicates clauses literals named declared numbered owed within_vars. record {
    vars = within _ MAX_VARS vars;
    few_graphs = within _ MAX_GRAPHS graphs;
    few_nodes = within _ MAX_NODES nodes;
    few_edges = within _ MAX_EDGES edges;
    few_atoms = within _ MAX_ATOMS predicates;
    few_clauses = within _ MAX_CLAUSES clauses;
    few_literals = within _ MAX_LITERALS literals;
    identities = named;
    graphs = declared;
    numbers = numbered;
    atoms = owed;
    clauses = within_vars;
  };
}
