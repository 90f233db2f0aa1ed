use Rattle.std.proofs.Common.{◌≡◌, ◌++◌, ◌∷◌, [], ℕ, ◌+◌, ◌≤◌, ◌<◌, length, sym, ap, ◌∙◌, subst, refl, arith, IsNone, None, Option}
use Rattle.std.specs.Prelude.{is_some}
use Rattle.std.proofs.lemmas.List.Sums.{sum_by_push}
use Rattle.mono_base.specs.declared.limits.TheConstants.{MAX_GRAPHS, MAX_NODES}
use Rattle.mono_graph.specs.Digraph.{Digraph}
use Rattle.mono_problem.specs.Instance.{Instance, place_named, nodes_total}
use Rattle.mono_problem.proofs.Entries.{insert_entry-undeclared}
use Rattle.mono_problem.proofs.Declared.{IsInstance-graph, AreHomes-graph}
use Rattle.mono_problem.proofs.draft.Draft.add_graph.Goals as goal

-- what the fields say
abbrev said : goal.After-self-1 → Instance
said c = record { vars = c.self.inside.var_count; graphs = c.self.inside.graphs.entries; atoms = c.self.inside.atoms.items; clauses = c.self.inside.clauses }

new_one : (c : goal.After-self-1) → place_named (said c).graphs c.args.id ≡ None
new_one c = let P : Instance → Type 0 = λ p. place_named p.graphs c.args.id ≡ None in subst P (sym c.self.view_is) c.requires.new

entries_after : (c : goal.After-self-1) → c.insert.new.self.entries ≡ c.self.inside.graphs.entries ++ (c.args.id, record { nodes = c.args.nodes; edges = [] }) ∷ []
entries_after c =
    let undeclared : IsNone (place_named (said c).graphs c.args.id) = ap (λ (o : Option ℕ). is_some o) (new_one c) in
    c.in_ok-insert.ensures.entries ∙ (insert_entry-undeclared c.args.id c.in_ok-graph.graph c.self.inside.graphs.entries undeclared ∙ ap (λ (g : Digraph). c.self.inside.graphs.entries ++ (c.args.id, g) ∷ []) c.in_ok-graph.ensures)

node_room : (c : goal.After-self-1) → nodes_total (said c) + c.args.nodes ≤ MAX_NODES
node_room c = let P : Instance → Type 0 = λ p. nodes_total p + c.args.nodes ≤ MAX_NODES in subst P (sym c.self.view_is) c.requires.node_room

graph_room : (c : goal.After-self-1) → length c.self.inside.graphs.entries < MAX_GRAPHS
graph_room c = let P : Instance → Type 0 = λ p. length p.graphs < MAX_GRAPHS in subst P (sym c.self.view_is) c.requires.graph_room

pub invariant_of-self-2 : goal.invariant_of-self-2
invariant_of-self-2 c =
    let p = said c in
    let h = c.self.invariant.problem in
    rw (entries_after c) (record {
      problem = IsInstance-graph p c.args.id c.args.nodes h (new_one c) c.ranges.id.fits c.requires.some (node_room c) (graph_room c);
      nodes = omega (arith, c.self.invariant.nodes, sum_by_push (λ (g : ℕ × Digraph). g.1.nodes) c.self.inside.graphs.entries (c.args.id, record { nodes = c.args.nodes; edges = [] }));
      homes = AreHomes-graph p c.args.id c.args.nodes h c.self.inside.homes.items c.self.invariant.homes;
    })

pub returns-clause-ok : goal.returns-clause-ok
returns-clause-ok c = rw (entries_after c, ← c.self.view_is) refl
